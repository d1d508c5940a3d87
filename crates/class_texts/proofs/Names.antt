-- Names of members in an expression, and types of classes.
use Rattle.std.proofs.Common.{◌≡◌, ◌∙◌, ◌==◌, ℕ, true, false, List, [], ◌∷◌, length, Option, Some, None, refl, sym, ap}
use Rattle.std.proofs.Math.Dec.{eqb-suc-zero}
use Rattle.elab_init.specs.cpp_lex.Tokens.{Lexeme}
use Rattle.elab_init.specs.cpp_ast.declared.kinds.NodeKind.{NodeKind}
use Rattle.elab_init.specs.cpp_ast.declared.arena.At.{At as SyntaxAt}
use Rattle.elab_init.specs.cpp_ast.Trees.{Tree, node, Trees, more}
use Rattle.cpp_types.specs.declared.classes.At.{At}
use Rattle.cpp_types.specs.declared.types.Ty.{Ty}
use Rattle.cpp_types.specs.Typ.{Typ, typ, typ_of, Typs, typs_of, more as and_typ, void, int, enum, null, ptr, ref, array, func, class, closure, tx_ex}
use Rattle.elab_init.specs.elab_ctx.Steps.{at_of, spelling}
use Rattle.elab_init.specs.elab_rules.Functions.{is_none_typs}
use Rattle.elab_init.specs.elab_rules.Classes.{Members, member_named, member_among, is_own_member, place_if, or_place, takes_own_value}

module _ (s : List Lexeme) (n : ℕ) (r : Members) where
  pub own_named : (t : Tree) (kind : NodeKind) (at : SyntaxAt) (token : Option ℕ) (kids : Trees) (found : ℕ) (name : List ℕ) (p : At)
      → t ≡ node kind at token kids →
      member_named s n r (node kind at token kids) ≡ place_if (is_own_member n r (spelling s found)) (at_of at) → name ≡ spelling s found
      → true ≡ is_own_member n r name → p ≡ at_of at → Some p ≡ member_named s n r t
  own_named t kind at token kids found name p e f g h q =
      ap Some q ∙ ap (λ z. place_if z (at_of at)) (h ∙ ap (is_own_member n r) g) ∙ sym f ∙ ap (member_named s n r) (sym e)

  pub other_named : (t : Tree) (kind : NodeKind) (at : SyntaxAt) (token : Option ℕ) (kids : Trees) (found : ℕ) (name : List ℕ) → t ≡ node kind at token kids →
      member_named s n r (node kind at token kids) ≡ place_if (is_own_member n r (spelling s found)) (at_of at) → name ≡ spelling s found
      → false ≡ is_own_member n r name → None ≡ member_named s n r t
  other_named t kind at token kids found name e f g h =
      ap (λ z. place_if z (at_of at)) (h ∙ ap (is_own_member n r) g) ∙ sym f ∙ ap (member_named s n r) (sym e)

  pub among_more : (t : Tree) (ts next : Trees) (all : Option At) → None ≡ member_named s n r t → all ≡ member_among s n r ts → ts ≡ more t next
      → all ≡ member_among s n r next
  among_more t ts next all e f g = f ∙ ap (member_among s n r) g ∙ ap (λ z. or_place z (member_among s n r next)) (sym e)

-- a list of two types is not that of one class
own_two : (n : ℕ) (t u : Typ) (ts : Typs) → false ≡ takes_own_value n (and_typ t (and_typ u ts))
own_two n (typ void c v) u ts = refl
own_two n (typ (int i) c v) u ts = refl
own_two n (typ (enum a b) c v) u ts = refl
own_two n (typ null c v) u ts = refl
own_two n (typ (ptr t) c v) u ts = refl
own_two n (typ (ref t) c v) u ts = refl
own_two n (typ (array t i) c v) u ts = refl
own_two n (typ (func f) c v) u ts = refl
own_two n (typ (class i) c v) u ts = refl
own_two n (typ (closure i) c v) u ts = refl
own_two n (typ (tx_ex t) c v) u ts = refl

pub other_long : (n : ℕ) (xs : List Ty) → (length xs ≡ 1 → ⊥) → false ≡ takes_own_value n (typs_of xs)
other_long n [] h = refl
other_long n (y ∷ []) h = absurd (h refl)
other_long n (y ∷ z ∷ zs) h = own_two n (typ_of y) (typ_of z) (typs_of zs)

pub none_typs : (xs : List Ty) → (length xs == 0) ≡ is_none_typs (typs_of xs)
none_typs [] = refl
none_typs (x ∷ xs) = eqb-suc-zero (length xs)
