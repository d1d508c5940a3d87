-- Full-expressions.
use Rattle.std.proofs.Common.{◌≡◌, refl, sym, ap, ◌∙◌, subst, Bool, true, false, not, ◌&&◌, ◌||◌, [], ◌∷◌}
use Rattle.std.specs.Prelude.{if◌then◌else◌}
use Rattle.std.proofs.lemmas.Bool.{and_parts}
use Rattle.elab_rules.specs.cpp_types.Typ.{Typ, void}
use Rattle.elab_rules.specs.cpp_types.Equal.{typ_eq}
use Rattle.elab_rules.specs.cpp_types.Conversion.{is_lvalue}
use Rattle.elab_rules.specs.cpp_types.declared.classes.At.{At}
use Rattle.elab_rules.specs.cpp_types.declared.ranks.Cat.{Cat}
use Rattle.elab_rules.specs.cpp_types.declared.ranks.Cat.TheVariants.{Lvalue, Prvalue}
use Rattle.elab_rules.specs.cpp_tree.declared.kinds.TKind.{TKind}
use Rattle.elab_rules.specs.cpp_tree.declared.kinds.TKind.TheVariants.{FullExpression, Retype, Throw, Rethrow}
use Rattle.elab_rules.specs.cpp_tree.declared.roles.Position.{Position}
use Rattle.elab_rules.specs.cpp_tree.declared.roles.Role.TheVariants.{Value, Initialiser}
use Rattle.elab_rules.specs.cpp_tree.Trees.{Tree, node, one, kind_of, typ_in, cat_of}
use Rattle.elab_rules.specs.cpp_tree.Notation.{plain}
use Rattle.elab_rules.specs.cpp_tree.Typing.{Head, head_of, is_prvalue, is_class_typ, is_class_prvalue, builds, goes_both_ways, same_shape, without_exception}
use Rattle.elab_rules.specs.cpp_tree.Roles.{only, may_give}
use Rattle.elab_rules.specs.cpp_tree.Rows.{Setting, same_value}
use Rattle.elab_rules.specs.cpp_tree.WellFormed.{fits}
use Rattle.elab_rules.specs.Values.{place_of}
use Rattle.elab_rules.specs.Operators.{is_throw, without_value}
use Rattle.elab_rules.specs.Statements.{holds_temporary, throws_object, whole_of, whole_if, full}
use Rattle.elab_fits.specs.Standing.{FitsAs, BuildsOne}
use Rattle.elab_fits.proofs.Equal.{typ_refl}
use Rattle.elab_fits.proofs.Nodes.{both, head_typ, head_cat, node_fits, one_kid, one_value, initial_kid}
use Rattle.elab_fits.proofs.Values.{retypes}
use Rattle.elab_fits_statements.specs.Anywhere.{FitsAnywhere, BuildsAnywhere}
use Rattle.elab_fits_statements.proofs.Anywhere.{fitting, anywhere, fully}

pub tree_if : (P : Tree → Type 0) (b : Bool) (x y : Tree) → (b ≡ true → P x) → (b ≡ false → P y) → P (if b then x else y)
tree_if P true x y h k = h refl
tree_if P false x y h k = k refl

-- A value

pub value_row : (t : Typ) (cat : Cat) (h : Head) → h.typ ≡ t → h.cat ≡ cat → same_value t cat h ≡ true
value_row t Lvalue h e d = both (ap is_lvalue d) (ap (λ (u : Typ). typ_eq t u) e ∙ typ_refl t)
value_row t Prvalue h e d = both (ap is_prvalue d) (ap (λ (u : Typ). typ_eq t u) e ∙ typ_refl t)

own_row : (e : Tree) → same_value (typ_in e) (cat_of e) (head_of e) ≡ true
own_row e = value_row (typ_in e) (cat_of e) (head_of e) (head_typ e) (head_cat e)

whole_fits : (s : Setting) (at : At) (e : Tree) → FitsAs s Value e → is_class_prvalue (typ_in e) (cat_of e) ≡ false → FitsAnywhere s Value (whole_of at e)
whole_fits s at e h n = λ p. node_fits s p Value FullExpression (typ_in e) (cat_of e) at (one e) (only (Value ∷ [])) refl (ap not n) refl refl (own_row e)
    refl refl refl (one_value s (fully p) e (h (fully p) refl))

pub not_true : (b : Bool) → not b ≡ true → b ≡ false
not_true true h = absurd cc
not_true false h = refl

-- a value that is no `throw` of an object is no prvalue of a class
no_object : (kind : TKind) (t : Typ) (cat : Cat) → may_give kind t cat ≡ true → (is_throw kind && is_class_typ t) ≡ false → is_class_prvalue t cat ≡ false
no_object kind t Lvalue h n = refl
no_object Throw t Prvalue h n = n
no_object Rethrow t Prvalue h n = n
no_object kind t Prvalue h n = not_true (is_class_typ t) h

value_way : (s : Setting) (e : Tree) → FitsAs s Value e → may_give (kind_of e) (typ_in e) (cat_of e) ≡ true
value_way s (node kind t cat at kids) h = (fitting s somewhere Value kind t cat kids (h somewhere refl)).way
  where
    somewhere : Position
    somewhere = record { full = true; breaks = false; continues = false }

no_value_fits : (s : Setting) (at : At) (e : Tree) → FitsAs s Value e → FitsAs s Value (without_value at e)
no_value_fits s at e h = one_kid s Retype (plain void) Prvalue at e retypes refl refl h

pub whole_value : (s : Setting) (at : At) (e : Tree) → FitsAs s Value e → FitsAnywhere s Value (full at e)
whole_value s at e h = by_hold (holds_temporary e) refl
  where
    by_hold : (b : Bool) → holds_temporary e ≡ b → FitsAnywhere s Value (whole_if b at e)
    by_hold true k = tree_if (λ (z : Tree). FitsAnywhere s Value (whole_of at z)) (throws_object e) (without_value (place_of e) e) e
        (λ x. whole_fits s at (without_value (place_of e) e) (no_value_fits s (place_of e) e h) refl)
        (λ x. whole_fits s at e h (no_object (kind_of e) (typ_in e) (cat_of e) (value_way s e h) x))
    by_hold false k = anywhere s Value e h k

-- What builds an object

whole_initial : (s : Setting) (at : At) (e : Tree) → FitsAs s Initialiser e → FitsAnywhere s Initialiser (whole_of at e)
whole_initial s at e h = λ p. node_fits s p Initialiser FullExpression (typ_in e) (cat_of e) at (one e) (only (Initialiser ∷ [])) refl refl refl refl
    (own_row e) refl refl refl (both (both (initial_kid s (fully p) e (h (fully p) refl)) (h (fully p) refl)) refl)

or_map : (a b c : Bool) → (b ≡ true → c ≡ true) → (a || b) ≡ true → (a || c) ≡ true
or_map true b c f h = refl
or_map false b c f h = f h

-- a whole goes both ways, as what calls does
whole_builds : (at : At) (t : Typ) (e : Tree) → builds t (head_of e) ≡ true → builds t (head_of (whole_of at e)) ≡ true
whole_builds at t (node kind u cat place kids) h =
    let a = and_parts (is_prvalue cat) ((typ_eq t u || typ_eq (without_exception t) u) || (goes_both_ways kind && is_class_typ t && same_shape t u)) h in
    both a.0 (or_map (typ_eq t u || typ_eq (without_exception t) u) (goes_both_ways kind && is_class_typ t && same_shape t u)
    (true && is_class_typ t && same_shape t u) shaped a.1)
  where
    shaped : (goes_both_ways kind && is_class_typ t && same_shape t u) ≡ true → (is_class_typ t && same_shape t u) ≡ true
    shaped i =
        let b = and_parts (goes_both_ways kind && is_class_typ t) (same_shape t u) i in
        both (and_parts (goes_both_ways kind) (is_class_typ t) b.0).1 b.1

pub whole_object : (s : Setting) (at : At) (t : Typ) (e : Tree) → BuildsOne s t e → throws_object e ≡ false → BuildsAnywhere s t (full at e)
whole_object s at t e h n = by_hold (holds_temporary e) refl
  where
    by_hold : (b : Bool) → holds_temporary e ≡ b → BuildsAnywhere s t (whole_if b at e)
    by_hold true k = subst (λ (b : Bool). BuildsAnywhere s t (whole_of at (if b then without_value (place_of e) e else e))) (sym n)
        (record { fits = whole_initial s at e h.fits; builds = whole_builds at t e h.builds })
    by_hold false k = record { fits = anywhere s Initialiser e h.fits k; builds = h.builds }
