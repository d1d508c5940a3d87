-- Items in braces, as parts of the object with their destructions.
use Rattle.std.specs.Prelude.{ℕ, List, Result, Ok}
use Rattle.elab_expr.specs.cpp_types.Typ.{Typ}
use Rattle.elab_expr.specs.cpp_types.declared.classes.At.{At}
use Rattle.elab_expr.specs.cpp_lex.Tokens.{Lexeme}
use Rattle.elab_expr.specs.cpp_ast.Trees as syntax
use Rattle.elab_expr.specs.cpp_tree.declared.faults.ElabFault.{ElabFault}
use Rattle.elab_expr.specs.cpp_tree.declared.faults.IllRule.TheVariants.{BadInit}
use Rattle.elab_expr.specs.cpp_tree.Trees.{Tree}
use Rattle.elab_expr.specs.cpp_tree.Typing.{form_in}
use Rattle.elab_expr.specs.elab_ctx.Ctx.{Ctx, Work}
use Rattle.elab_expr.specs.elab_ctx.Steps.{and_then, expect, Made, MadeAll}
use Rattle.elab_expr.specs.elab_rules.Objects.{Part}
use Rattle.elab_expr.specs.elab_rules.Values.{part_at}
use Rattle.elab_expr.specs.elab_rules.Braces.{item_of, items_of, piece, part_in, tree_place, syntax_place, braceable, pieces_made}

-- an item as a part
abbrev pub placed_item : List Lexeme → Ctx → Work → Tree → At → Part → syntax.Tree → Result Made ElabFault
placed_item s c w object at p x = and_then (item_of s c w (part_at p.offset p.typ at object) p.typ x)
    (λ (m : Made). Ok (record { tree = piece c p.offset p.typ (tree_place m.tree) m.tree; work = m.work }))

-- as the part that an index names
abbrev pub item_piece : List Lexeme → Ctx → Work → Tree → Typ → ℕ → At → syntax.Tree → Result Made ElabFault
item_piece s c w object t i at x = and_then (expect (syntax_place x) BadInit (part_in c t (form_in t) i)) (λ (p : Part). placed_item s c w object at p x)

-- braces with these items
abbrev pub braced : List Lexeme → Ctx → Work → Tree → Typ → At → syntax.Trees → Result Made ElabFault
braced s c w object t at items = and_then (braceable c at (form_in t))
    (λ y. and_then (items_of s c w object t 0 at items) (λ (r : MadeAll). Ok (pieces_made t at r)))
