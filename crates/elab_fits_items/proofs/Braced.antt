-- Objects that braces initialise.
use Rattle.std.proofs.Common.{◌≡◌, refl, ℕ, true, List, Option}
use Rattle.elab_rules.specs.cpp_types.Typ.{Typ, typ, ref}
use Rattle.elab_rules.specs.cpp_types.declared.ranks.Cat.TheVariants.{Lvalue}
use Rattle.elab_rules.specs.cpp_lex.Tokens.{Lexeme}
use Rattle.elab_rules.specs.cpp_ast.declared.arena.At.{At as SyntaxAt}
use Rattle.elab_rules.specs.cpp_ast.declared.kinds.NodeKind.TheVariants as k
use Rattle.elab_rules.specs.cpp_ast.Trees as syntax
use Rattle.elab_rules.specs.cpp_tree.declared.roles.Role.TheVariants.{Value}
use Rattle.elab_rules.specs.cpp_tree.Trees.{Tree, cat_of}
use Rattle.elab_rules.specs.cpp_tree.Typing.{form_in}
use Rattle.elab_rules.specs.cpp_tree.Rows.{Setting}
use Rattle.elab_rules.specs.elab_ctx.Ctx.{Ctx, Work}
use Rattle.elab_rules.specs.elab_ctx.Steps.{at_of}
use Rattle.elab_rules.specs.Braces.{item_of, items_of, braceable}
use Rattle.elab_fits.specs.Standing.{FitsAs, On}
use Rattle.elab_fits.proofs.Steps.{bind}
use Rattle.elab_fits_forms.specs.Types.{is_target}
use Rattle.elab_fits_forms.specs.Context.{Holds}
use Rattle.elab_fits_forms.specs.Expressions.{are_spelled}
use Rattle.elab_fits_forms.proofs.Types.{declared_target}
use Rattle.elab_fits_items.specs.Items.{ItemsHold, IsBraced, Whole, BracesBuild}
use Rattle.elab_fits_items.proofs.Pieces.{Taken, taken_is, object_made}
use Rattle.elab_fits_items.proofs.Rest.{AllBuilt}
use Rattle.elab_fits_items.proofs.Items.{item_is, items_made, first_index}

module _ (lexemes : List Lexeme) (s : Setting) (c : Ctx) (w : Work) (object : Tree) (p : SyntaxAt) (token : Option ℕ) (items : syntax.Trees)
    (h : Holds s c w) (x : ItemsHold s c) (f : FitsAs s Value object) (l : cat_of object ≡ Lvalue) (g : are_spelled lexemes items ≡ true) where
  target_built : (t : Typ) → IsBraced c t → is_target c.classes t ≡ true
      → On (Whole s w t) (item_of lexemes c w object t (syntax.node k.BracedInitList p token items))
  target_built t i a =
      bind (λ b. Taken s c w h x.single t) (Whole s w t) (braceable c (at_of p) (form_in t)) _ (taken_is s c w h x.single t (at_of p) (item_is c t i a))
      (λ b y. bind (AllBuilt s c w t 0) (Whole s w t) (items_of lexemes c w object t 0 (at_of p) items) _
      (items_made lexemes s c w h x w object t 0 (at_of p) items h y (first_index c.classes t) f l g)
      (λ r z. record {
        behind = z.behind;
        builds = λ reached. record { one = object_made s c w h x.single t (at_of p) r.trees y (z.pieces reached); no_throw = refl };
      }))

  -- braces initialise no reference (profile)
  built : (t : Typ) → IsBraced c t → On (Whole s w t) (item_of lexemes c w object t (syntax.node k.BracedInitList p token items))
  built (typ (ref t) q v) i = tt
  built (typ t q v) i = target_built (typ t q v) i (declared_target c.classes (typ t q v) i.declared refl)

pub braces_build : BracesBuild
braces_build lexemes s c w object t p token items h x i f l g = built lexemes s c w object p token items h x f l g t i
