-- Trees that hold no node that stays where it is can be moved, and made anew with more qualifiers.
use Rattle.std.proofs.Common.{◌≡◌, refl, sym, ap, ◌∙◌, ℕ, zero, suc, ◌+◌, Bool, true, false, not, ◌&&◌, ◌||◌, nat_lt, List, [], ◌∷◌, arith}
use Rattle.std.proofs.lemmas.Bool.{and_parts}
use Rattle.std.specs.Prelude.{if◌then◌else◌}
use Rattle.elab_rules.specs.cpp_types.Typ.{Typ, typ, Form, array, class, closure}
use Rattle.elab_rules.specs.cpp_types.Equal.{typ_eq}
use Rattle.elab_rules.specs.cpp_types.declared.classes.At.{At}
use Rattle.elab_rules.specs.cpp_types.declared.ranks.Cat.{Cat}
use Rattle.elab_rules.specs.cpp_types.declared.ranks.Cat.TheVariants.{Prvalue}
use Rattle.elab_rules.specs.cpp_tree.declared.kinds.TKind.{TKind}
use Rattle.elab_rules.specs.cpp_tree.declared.kinds.TKind.TheVariants.{Local, Load, Materialize, FullExpression, Store, Construct, CopyFrom, Pieces, Elements}
use Rattle.elab_rules.specs.cpp_tree.declared.kinds.TKind.TheVariants.{Init, Defer, Switch, Return, Handler}
use Rattle.elab_rules.specs.cpp_tree.declared.roles.Role.TheVariants.{Initialiser}
use Rattle.elab_rules.specs.cpp_tree.Trees.{Tree, node, Trees, none, more, kind_of, typ_in}
use Rattle.elab_rules.specs.cpp_tree.Typing.{Head, builds, form_in, is_class_typ, same_shape, without_exception, goes_both_ways, is_prvalue}
use Rattle.elab_rules.specs.cpp_tree.Rows.{Setting, row_fits, are_destructions}
use Rattle.elab_rules.specs.cpp_tree.WellFormed.{heads_of}
use Rattle.elab_rules.specs.Braces.{as_part}
use Rattle.elab_fits.specs.Standing.{BuildsOne}
use Rattle.elab_fits.proofs.Equal.{typ_same}
use Rattle.elab_fits.proofs.Nodes.{both}
use Rattle.elab_fits_objects.proofs.Fits.{Fit, fit_as, within}
use Rattle.elab_fits_braces.specs.Moving.{is_free, is_movable, are_movable}
use Rattle.elab_fits_braces.specs.Qualified.{is_made, are_made}
use Rattle.elab_movable.specs.Movable.{one_if, at_place, own_count, is_named_class, held, all_held}

flag_none : (b : Bool) → one_if (not b) ≡ 0 → b ≡ true
flag_none true h = refl
flag_none false h = absurd cc

first_place : (a : Bool) (n : ℕ) → at_place 0 + n ≡ 0 → is_free (Materialize 0 a) ≡ true
unfolding at_place
first_place a n h = absurd (omega arith)

none_left : (a b : ℕ) → a + b ≡ 0 → b ≡ 0
none_left a b h = omega arith

mutual
  pub movable : (g : Typ) (e : Tree) → held g e ≡ 0 → is_movable g e ≡ true
  movable g (node (Load k false) t Prvalue at (more (node (Local zero) u cat p kids) none)) h = flag_none (typ_eq g t) h
  movable g (node (Materialize zero a) t cat at kids) h = both (first_place a (all_held g kids) h) (all_movable g kids (none_left (at_place 0) (all_held g kids) h))
  movable g (node (Materialize (suc n) a) t cat at kids) h = both refl (all_movable g kids (none_left (at_place (suc n)) (all_held g kids) h))
  movable g (node (Local q) t cat at kids) h = absurd (omega arith)
  movable g (node Init t cat at kids) h = absurd (omega arith)
  movable g (node Defer t cat at kids) h = absurd (omega arith)
  movable g (node Switch t cat at kids) h = absurd (omega arith)
  movable g (node Return t cat at kids) h = absurd (omega arith)
  movable g (node (Handler q) t cat at kids) h = absurd (omega arith)
  movable g (node kind t cat at kids) h = both refl (all_movable g kids (none_left (own_count kind t kids) (all_held g kids) h))

  all_movable : (g : Typ) (ts : Trees) → all_held g ts ≡ 0 → are_movable g ts ≡ true
  all_movable g none h = refl
  all_movable g (more t ts) h = both (movable g t (omega arith)) (all_movable g ts (omega arith))

-- no full-expression stands for it
pub part_same : (g : Typ) (e : Tree) → held g e ≡ 0 → as_part e ≡ e
part_same g (node FullExpression t cat at none) h = refl
part_same g (node FullExpression t cat at (more e none)) h = absurd (omega arith)
part_same g (node FullExpression t cat at (more e (more x es))) h = refl
part_same g (node kind t cat at kids) h = refl

-- What builds an object, by its kind

pieces_made : (b m : Bool) (n : ℕ) → one_if (b && not m) + n ≡ 0 → b ≡ true → m ≡ true
pieces_made true true n h e = refl
pieces_made true false n h e = absurd (omega arith)
pieces_made false m n h e = absurd cc

-- a type of objects that are no arrays and no lambdas'
abbrev pub is_plain_object : Form → Bool
is_plain_object (array t n) = false
is_plain_object (closure n) = false
is_plain_object f = true

named_pieces : (s : Setting) (u : Typ) (cat : Cat) (hs : List Head) → row_fits s Pieces u cat hs ≡ true → is_plain_object (form_in u) ≡ true
    → is_named_class u ≡ true
named_pieces s (typ (class n) c v) cat hs r k = refl
named_pieces s (typ (closure n) c v) cat hs r k = absurd cc
named_pieces s (typ (array t n) c v) cat hs r k = absurd cc
named_pieces s (typ f c v) cat hs r k = let x = (and_parts (is_prvalue cat) false r).1 in absurd cc

no_elements : (s : Setting) (n stride : ℕ) (u : Typ) (cat : Cat) (hs : List Head) → row_fits s (Elements n stride) u cat hs ≡ true
    → is_plain_object (form_in u) ≡ true → ⊥
no_elements s n stride u cat [] r k = let x = (and_parts (is_prvalue cat && nat_lt 0 n) false r).1 in absurd cc
no_elements s n stride (typ (array t m) c v) cat (h ∷ hs) r k = absurd cc
no_elements s n stride (typ f c v) cat (h ∷ hs) r k =
    let x = (and_parts (is_prvalue cat && nat_lt 0 n) (false && are_destructions s h.typ hs) r).1 in absurd cc

-- each kind of node that builds an object by itself
made_kind : (s : Setting) (g : Typ) (k : TKind) (u : Typ) (cat : Cat) (at : At) (kids : Trees) → Fit s within Initialiser k u cat kids
    → goes_both_ways k ≡ false → is_plain_object (form_in u) ≡ true → held g (node k u cat at kids) ≡ 0 → is_made (node k u cat at kids) ≡ true
made_kind s g (Store k v) u cat at kids f n p h = refl
made_kind s g (Construct k) u cat at kids f n p h = refl
made_kind s g CopyFrom u cat at kids f n p h = refl
made_kind s g Pieces u cat at kids f n p h = pieces_made (is_named_class u) (are_made kids) (all_held g kids) h (named_pieces s u cat (heads_of kids) f.row p)
made_kind s g (Elements m stride) u cat at kids f n p h = absurd (no_elements s m stride u cat (heads_of kids) f.row p)
made_kind s g k u cat at kids f n p h = let x = f.serves in absurd cc

-- the type of what builds by itself is that of the object, or of the value in it
own_plain : (t u : Typ) (k : TKind) (cat : Cat) → builds t (record { kind = k; typ = u; cat = cat }) ≡ true → goes_both_ways k ≡ false
    → is_plain_object (form_in t) ≡ true → is_plain_object (form_in (without_exception t)) ≡ true → is_plain_object (form_in u) ≡ true
own_plain t u k cat b n p q =
    let a = and_parts (is_prvalue cat) ((typ_eq t u || typ_eq (without_exception t) u) || ((goes_both_ways k && is_class_typ t) && same_shape t u)) b in
    by (typ_eq t u) (typ_eq (without_exception t) u) (goes_both_ways k) refl refl n a.1
  where
    by : (x y z : Bool) → typ_eq t u ≡ x → typ_eq (without_exception t) u ≡ y → z ≡ false → ((x || y) || ((z && is_class_typ t) && same_shape t u)) ≡ true
        → is_plain_object (form_in u) ≡ true
    by true y z e f m h = ap (λ (w : Typ). is_plain_object (form_in w)) (sym (typ_same t u e)) ∙ p
    by false true z e f m h = ap (λ (w : Typ). is_plain_object (form_in w)) (sym (typ_same (without_exception t) u f)) ∙ q
    by false false true e f m h = absurd cc
    by false false false e f m h = absurd cc

-- where what keeps its own type builds a whole object of it
pub own_shape : (t u : Typ) (k : TKind) (cat : Cat) → builds t (record { kind = k; typ = u; cat = cat }) ≡ true → same_shape t t ≡ true
    → (typ_eq (without_exception t) u ≡ true → typ_eq t u ≡ true) → is_class_typ t ≡ true → (is_class_typ t && same_shape t u) ≡ true
own_shape t u k cat b r w l =
    let a = and_parts (is_prvalue cat) ((typ_eq t u || typ_eq (without_exception t) u) || ((goes_both_ways k && is_class_typ t) && same_shape t u)) b in
    by (typ_eq t u) (typ_eq (without_exception t) u) refl refl w a.1
  where
    shaped : typ_eq t u ≡ true → (is_class_typ t && same_shape t u) ≡ true
    shaped e = both l (ap (same_shape t) (sym (typ_same t u e)) ∙ r)

    by : (x y : Bool) → typ_eq t u ≡ x → typ_eq (without_exception t) u ≡ y → (y ≡ true → x ≡ true)
        → ((x || y) || ((goes_both_ways k && is_class_typ t) && same_shape t u)) ≡ true → (is_class_typ t && same_shape t u) ≡ true
    by true y e f g h = shaped e
    by false true e f g h = shaped (e ∙ g refl)
    by false false e f g h = let d = and_parts (goes_both_ways k && is_class_typ t) (same_shape t u) h in both l d.1

module _ (s : Setting) (g : Typ) (t : Typ) (e : Tree) (b : BuildsOne s t e) (h : held g e ≡ 0) (p : is_plain_object (form_in t) ≡ true)
    (q : is_plain_object (form_in (without_exception t)) ≡ true) where
  by_itself : goes_both_ways (kind_of e) ≡ false → is_made e ≡ true
  by_itself n = by e b h n
    where
      by : (x : Tree) → BuildsOne s t x → held g x ≡ 0 → goes_both_ways (kind_of x) ≡ false → is_made x ≡ true
      by (node k u cat at kids) c i m =
          made_kind s g k u cat at kids (fit_as s Initialiser k u cat at kids c.fits) m (own_plain t u k cat c.builds m p q) i

  -- it can be made anew, where what keeps its own type builds a whole object
  pub pliable_by : (x : Bool) → goes_both_ways (kind_of e) ≡ x → (x ≡ true → (is_class_typ t && same_shape t (typ_in e)) ≡ true)
      → (if x then is_class_typ t && same_shape t (typ_in e) else is_made e) ≡ true
  pliable_by true n f = f refl
  pliable_by false n f = by_itself n
