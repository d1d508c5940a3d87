use Rattle.std.proofs.Common.{◌≡◌, true, List, length, refl, sym, subst}
use Rattle.elab_entry.specs.cpp_types.Typ.{typ_of}
use Rattle.elab_entry.specs.cpp_lex.Tokens.{lexemes_of}
use Rattle.elab_entry.specs.cpp_tree.Arena.{trees_of}
use Rattle.elab_entry.specs.elab_ctx.Operands.{are_in}
use Rattle.elab_entry.specs.elab_ctx.declared.operand.Operand.{Operand as OperandRec}
use Rattle.elab_entry.specs.elab_types.Syntax.{syntax_of, trees_at}
use Rattle.elab_members.proofs.PartSteps.{values_done}
use Rattle.elab_members.proofs.parts.part_values.Goals as goal

pub part_made-requires : goal.part_made-requires
part_made-requires c = subst (λ (z : List OperandRec). are_in (length (trees_of c.values.new.work.nodes.items)) z ≡ true)
    (sym c.deref.ensures.value) c.in_ok-os.ensures.within

pub returns : goal.returns
returns c = values_done (lexemes_of c.args.tokens.now) c.args.st.now _ _ _ _ _ _ c.args.class c.args.member (typ_of c.args.ty.now) c.args.at
    (trees_at (syntax_of c.args.nodes.now) c.args.ids.now) c.in_ok-os.ensures refl c.deref.ensures.value c.part_made.ensures
