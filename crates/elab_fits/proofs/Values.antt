-- Values of expressions, and their conversions.
use Rattle.std.proofs.Common.{◌≡◌, refl, sym, ap, ◌∙◌, subst, ℕ, Bool, true, false, not, ◌&&◌, ◌||◌, [], ◌∷◌, Option, Some, is_some}
use Rattle.elab_rules.specs.tx_ints.declared.kinds.IntKind.{IntKind}
use Rattle.elab_rules.specs.tx_ints.declared.kinds.IntKind.TheVariants.{Int, ULong}
use Rattle.elab_rules.specs.cpp_types.Typ.{Typ, typ, Form, void, int, enum, null, ptr, ref, array, func, class, closure, tx_ex}
use Rattle.elab_rules.specs.cpp_types.Equal.{kind_eq, typ_eq}
use Rattle.elab_rules.specs.cpp_types.declared.classes.At.{At}
use Rattle.elab_rules.specs.cpp_types.declared.ranks.Cat.{Cat}
use Rattle.elab_rules.specs.cpp_types.declared.ranks.Cat.TheVariants.{Lvalue, Prvalue}
use Rattle.elab_rules.specs.cpp_tree.declared.kinds.TKind.{TKind}
use Rattle.elab_rules.specs.cpp_tree.declared.kinds.TKind.TheVariants.{Literal, Load, Convert, Retype, Store}
use Rattle.elab_rules.specs.cpp_tree.declared.roles.Role.TheVariants.{Value, Initialiser}
use Rattle.elab_rules.specs.cpp_tree.Trees.{Tree, node, Trees, one, kind_of, typ_in, cat_of}
use Rattle.elab_rules.specs.cpp_tree.Notation.{plain}
use Rattle.elab_rules.specs.cpp_tree.Typing.{Head, head_of, form_in, kind_in, is_kind, same_kind, word_kind, is_scalar_value, is_class_typ, is_prvalue}
use Rattle.elab_rules.specs.cpp_tree.Typing.{is_class_prvalue, is_word_of, initialises}
use Rattle.elab_rules.specs.cpp_tree.Roles.{only}
use Rattle.elab_rules.specs.cpp_tree.Rows.{Setting, is_load, is_retyped, is_zero_literal, result_of, row_fits}
use Rattle.elab_rules.specs.Values.{number, retyped, loaded, valued, retyped_if, between, converted, in_kind, stored, stored_as}
use Rattle.elab_fits.specs.Standing.{FitsAs, IsExpressionType, Stands, BuildsOne}
use Rattle.elab_fits.specs.Scalars.{is_scalar, Gives}
use Rattle.elab_fits.proofs.Equal.{flag_refl, kind_refl, form_refl, typ_refl, typ_same, kind_same}
use Rattle.elab_fits.proofs.Nodes.{both, or_left, or_right, head_typ, head_cat, head_kind, node_fits, Simple, no_kids, one_kid, of_value}
use Rattle.elab_fits.proofs.Nodes.{one_value}

-- Forms of scalars

pub with_kind : (A : Type 0) (f : Form) → is_scalar f ≡ true → ((k : IntKind) → kind_in f ≡ Some k → A) → A
with_kind A (int j) h g = g j refl
with_kind A (enum n s) h g = g Int refl
with_kind A null h g = g ULong refl
with_kind A (ptr t) h g = g ULong refl
with_kind A void h g = absurd cc
with_kind A (ref t) h g = absurd cc
with_kind A (array t n) h g = absurd cc
with_kind A (func t) h g = absurd cc
with_kind A (class n) h g = absurd cc
with_kind A (closure n) h g = absurd cc
with_kind A (tx_ex t) h g = absurd cc

pub has_kind : (f : Form) → is_scalar f ≡ true → is_some (kind_in f) ≡ true
has_kind f h = with_kind (is_some (kind_in f) ≡ true) f h (λ k e. ap is_some e)

pub scalar_value : (f : Form) → is_scalar f ≡ true → is_scalar_value (plain f) ≡ true
scalar_value f h = has_kind f h

pub no_class : (f : Form) (c v : Bool) → is_scalar f ≡ true → is_class_typ (typ f c v) ≡ false
no_class (class n) c v h = absurd cc
no_class (closure n) c v h = absurd cc
no_class (tx_ex t) c v h = absurd cc
no_class f c v h = refl

pub scalar_typed : (f : Form) → is_scalar f ≡ true → IsExpressionType (plain f) Prvalue
scalar_typed (int j) h = λ n. refl
scalar_typed (enum n s) h = λ n. refl
scalar_typed null h = λ n. refl
scalar_typed (ptr t) h = λ n. refl
scalar_typed void h = absurd cc
scalar_typed (ref t) h = absurd cc
scalar_typed (array t n) h = absurd cc
scalar_typed (func t) h = absurd cc
scalar_typed (class n) h = absurd cc
scalar_typed (closure n) h = absurd cc
scalar_typed (tx_ex t) h = absurd cc

pub scalar_type : (f : Form) (c v : Bool) → is_scalar f ≡ true → IsExpressionType (typ f c v) Lvalue
scalar_type (int j) c v h = tt
scalar_type (enum n s) c v h = tt
scalar_type null c v h = tt
scalar_type (ptr t) c v h = tt
scalar_type void c v h = absurd cc
scalar_type (ref t) c v h = absurd cc
scalar_type (array t n) c v h = absurd cc
scalar_type (func t) c v h = absurd cc
scalar_type (class n) c v h = absurd cc
scalar_type (closure n) c v h = absurd cc
scalar_type (tx_ex t) c v h = absurd cc

-- Values of scalars

pub given_typ : (s : Setting) (f : Form) (e : Tree) → Gives s f e → (head_of e).typ ≡ plain f
given_typ s f e g = head_typ e ∙ g.typed

pub given_cat : (s : Setting) (f : Form) (e : Tree) → Gives s f e → (head_of e).cat ≡ Prvalue
given_cat s f e g = head_cat e ∙ g.category

pub given_word : (s : Setting) (f : Form) (e : Tree) → Gives s f e → word_kind (head_of e).typ (head_of e).cat ≡ kind_in f
given_word s f e g = ap (λ (t : Typ). word_kind t (head_of e).cat) (given_typ s f e g) ∙ ap (λ (c : Cat). word_kind (plain f) c) (given_cat s f e g)

pub no_object : (s : Setting) (f : Form) (e : Tree) → Gives s f e → is_class_prvalue (typ_in e) (cat_of e) ≡ false
no_object s f e g = ap (λ (t : Typ). is_class_prvalue t (cat_of e)) g.typed ∙ ap (λ (c : Cat). is_class_prvalue (plain f) c) g.category
    ∙ no_class f false false g.scalar

pub expression_type : (s : Setting) (f : Form) (e : Tree) → Gives s f e → IsExpressionType (typ_in e) (cat_of e)
expression_type s f e g = subst (λ (t : Typ). IsExpressionType t (cat_of e)) (sym g.typed)
    (subst (λ (c : Cat). IsExpressionType (plain f) c) (sym g.category) (scalar_typed f g.scalar))

pub given_stands : (s : Setting) (f : Form) (e : Tree) → Gives s f e → Stands s e
given_stands s f e g = of_value s e (expression_type s f e g) (no_object s f e g) g.fits

-- what initialises a scalar
pub value_initialises : (f : Form) (c v : Bool) (x : Head) → is_scalar f ≡ true → x.typ ≡ plain f → x.cat ≡ Prvalue → initialises (typ f c v) x ≡ true
value_initialises (ref t) c v x i e d = absurd cc
value_initialises f c v x i e d = both (ap is_prvalue d) (ap (λ (t : Typ). typ_eq (plain f) t) e ∙ typ_refl (plain f))

-- Kinds of nodes

pub loads : (k : IntKind) (v : Bool) → Simple (Load k v) (only (Value ∷ []))
loads k v = record { is_value = refl; anywhere = λ f p n. refl; unbranched = λ t hs. refl; asks = λ a b. refl; no_switch = refl }

pub retypes : Simple Retype (only (Value ∷ []))
retypes = record { is_value = refl; anywhere = λ f p n. refl; unbranched = λ t hs. refl; asks = λ a b. refl; no_switch = refl }

converts : (k : IntKind) → Simple (Convert k) (only (Value ∷ []))
converts k = record { is_value = refl; anywhere = λ f p n. refl; unbranched = λ t hs. refl; asks = λ a b. refl; no_switch = refl }

pub literals : (w : ℕ) → Simple (Literal w) (only [])
literals w = record { is_value = refl; anywhere = λ f p n. refl; unbranched = λ t hs. refl; asks = λ a b. refl; no_switch = refl }

-- Numbers

pub number_gives : (s : Setting) (k : IntKind) (w : ℕ) (at : At) → is_word_of k w ≡ true → Gives s (int k) (number k w at)
number_gives s k w at h = record {
  scalar = refl;
  fits = no_kids s (Literal w) (plain (int k)) Prvalue at (literals w) refl h;
  typed = refl;
  category = refl;
}

-- Values of lvalues

load_row : (result : Typ) (f : Form) (c v : Bool) (kind : TKind) (k : IntKind) → is_scalar f ≡ true → is_kind k (kind_in f) ≡ true
    → is_load result k v (plain f) Prvalue (record { kind = kind; typ = typ f c v; cat = Lvalue }) ≡ true
load_row result (int j) c v kind k i h = or_left _ (both (kind_refl j) (both h (flag_refl v)))
load_row result (enum n e) c v kind k i h = or_left _ (both (form_refl (enum n e)) (both h (flag_refl v)))
load_row result null c v kind k i h = or_left _ (both h (flag_refl v))
load_row result (ptr t) c v kind k i h = or_left _ (both (typ_refl t) (both h (flag_refl v)))
load_row result void c v kind k i h = absurd cc
load_row result (ref t) c v kind k i h = absurd cc
load_row result (array t n) c v kind k i h = absurd cc
load_row result (func t) c v kind k i h = absurd cc
load_row result (class n) c v kind k i h = absurd cc
load_row result (closure n) c v kind k i h = absurd cc
load_row result (tx_ex t) c v kind k i h = absurd cc

pub load_gives : (s : Setting) (at p : At) (f : Form) (c v : Bool) (kind : TKind) (kids : Trees) (k : IntKind) → is_scalar f ≡ true
    → is_kind k (kind_in f) ≡ true
    → FitsAs s Value (node kind (typ f c v) Lvalue p kids) → Gives s f (loaded at (Some k) (node kind (typ f c v) Lvalue p kids))
load_gives s at p f c v kind kids k i h g = record {
  scalar = i;
  fits = one_kid s (Load k v) (plain f) Prvalue at (node kind (typ f c v) Lvalue p kids) (loads k v) (ap not (no_class f false false i))
      (load_row (result_of s.function) f c v kind k i h) g;
  typed = refl;
  category = refl;
}

-- Other types of one word

lvalue_word : (e : Tree) → cat_of e ≡ Lvalue → word_kind (head_of e).typ (head_of e).cat ≡ Some ULong
lvalue_word e h = ap (λ (c : Cat). word_kind (head_of e).typ c) (head_cat e ∙ h)

-- the address that an lvalue has
pub address_gives : (s : Setting) (at : At) (t : Typ) (e : Tree) → cat_of e ≡ Lvalue → FitsAs s Value e → Gives s (ptr t) (retyped at (plain (ptr t)) Prvalue e)
address_gives s at t e h g = record {
  scalar = refl;
  fits = one_kid s Retype (plain (ptr t)) Prvalue at e retypes refl (or_left _ (ap (λ (w : Option IntKind). same_kind (Some ULong) w) (lvalue_word e h))) g;
  typed = refl;
  category = refl;
}

pub retype_row : (g : Form) (h : Head) → is_scalar g ≡ true
    → is_retyped (plain g) Prvalue h ≡ (same_kind (kind_in g) (word_kind h.typ h.cat) || (is_zero_literal h.kind && is_some (kind_in g)))
retype_row (int j) h i = refl
retype_row (enum n e) h i = refl
retype_row null h i = refl
retype_row (ptr t) h i = refl
retype_row void h i = absurd cc
retype_row (ref t) h i = absurd cc
retype_row (array t n) h i = absurd cc
retype_row (func t) h i = absurd cc
retype_row (class n) h i = absurd cc
retype_row (closure n) h i = absurd cc
retype_row (tx_ex t) h i = absurd cc

pub retype_gives : (s : Setting) (at : At) (f g : Form) (v : Tree) → Gives s f v → is_scalar g ≡ true → is_retyped (plain g) Prvalue (head_of v) ≡ true
    → Gives s g (retyped at (plain g) Prvalue v)
retype_gives s at f g v h i r = record {
  scalar = i;
  fits = one_kid s Retype (plain g) Prvalue at v retypes (ap not (no_class g false false i)) r h.fits;
  typed = refl;
  category = refl;
}

-- the same word
pub word_gives : (s : Setting) (at : At) (f g : Form) (k : IntKind) (v : Tree) → Gives s f v → is_scalar g ≡ true → kind_in f ≡ Some k → kind_in g ≡ Some k
    → Gives s g (retyped at (plain g) Prvalue v)
word_gives s at f g k v h i e j = retype_gives s at f g v h i (retype_row g (head_of v) i ∙ or_left _
    (ap (λ (x : Option IntKind). same_kind x (word_kind (head_of v).typ (head_of v).cat)) j
    ∙ ap (λ (x : Option IntKind). same_kind (Some k) x) (given_word s f v h ∙ e) ∙ kind_refl k))

-- a null constant
pub zero_gives : (s : Setting) (at : At) (f g : Form) (v : Tree) → Gives s f v → is_scalar g ≡ true → is_zero_literal (kind_of v) ≡ true
    → Gives s g (retyped at (plain g) Prvalue v)
zero_gives s at f g v h i z = retype_gives s at f g v h i (retype_row g (head_of v) i ∙ or_right _ (both (ap is_zero_literal (head_kind v) ∙ z) (has_kind g i)))

-- an lvalue of another type at the same address
pub lvalue_stands : (s : Setting) (at : At) (t : Typ) (e : Tree) → word_kind (typ_in e) (cat_of e) ≡ Some ULong → FitsAs s Value e → IsExpressionType t Lvalue
    → Stands s (retyped at t Lvalue e)
lvalue_stands s at t e h g i = of_value s (retyped at t Lvalue e) i refl (one_kid s Retype t Lvalue at e retypes refl (place_row t (head_of e)
    (ap (λ (u : Typ). word_kind u (head_of e).cat) (head_typ e) ∙ ap (λ (c : Cat). word_kind (typ_in e) c) (head_cat e) ∙ h)) g)
  where
    place_row : (u : Typ) (x : Head) → word_kind x.typ x.cat ≡ Some ULong → is_retyped u Lvalue x ≡ true
    place_row (typ void c v) x i = or_left _ (ap (λ (w : Option IntKind). same_kind (Some ULong) w) i)
    place_row (typ f c v) x i = or_left _ (ap (λ (w : Option IntKind). same_kind (Some ULong) w) i)

-- The value of an expression (C++14 4.1 to 4.3)

plain_is : (f : Form) (c v : Bool) → is_scalar_value (typ f c v) ≡ true → typ f c v ≡ plain f
plain_is f false false h = refl
plain_is f true v h = absurd cc
plain_is f false true h = absurd cc

own_gives : (s : Setting) (f : Form) (c v : Bool) (kind : TKind) (p : At) (kids : Trees) → is_scalar f ≡ true → is_scalar_value (typ f c v) ≡ true
    → FitsAs s Value (node kind (typ f c v) Prvalue p kids) → Gives s f (node kind (typ f c v) Prvalue p kids)
own_gives s f c v kind p kids i h g = record { scalar = i; fits = g; typed = plain_is f c v h; category = refl }

value_by : (s : Setting) (at : At) (kind : TKind) (f : Form) (c v : Bool) (cat : Cat) (p : At) (kids : Trees) → Stands s (node kind (typ f c v) cat p kids)
    → is_scalar (form_in (typ_in (valued at (node kind (typ f c v) cat p kids)))) ≡ true
    → Gives s (form_in (typ_in (valued at (node kind (typ f c v) cat p kids)))) (valued at (node kind (typ f c v) cat p kids))
value_by s at kind (func g) c v Lvalue p kids h i = address_gives s at (typ (func g) false false)
    (node kind (typ (func g) c v) Lvalue p kids) refl (h.value refl)
value_by s at kind (func g) c v Prvalue p kids h i = let e : Prvalue ≡ Lvalue = h.typed in absurd cc
value_by s at kind (array (typ g q u) n) c v Lvalue p kids h i =
    address_gives s at (typ g (q || c) (u || v)) (node kind (typ (array (typ g q u) n) c v) Lvalue p kids) refl (h.value refl)
value_by s at kind (array (typ g q u) n) c v Prvalue p kids h i = let e : Prvalue ≡ Lvalue = h.typed in absurd cc
value_by s at kind (int j) c v Lvalue p kids h i = load_gives s at p (int j) c v kind kids j refl (kind_refl j) (h.value refl)
value_by s at kind (enum n e) c v Lvalue p kids h i = load_gives s at p (enum n e) c v kind kids Int refl refl (h.value refl)
value_by s at kind null c v Lvalue p kids h i = load_gives s at p null c v kind kids ULong refl refl (h.value refl)
value_by s at kind (ptr t) c v Lvalue p kids h i = load_gives s at p (ptr t) c v kind kids ULong refl refl (h.value refl)
value_by s at kind void c v Lvalue p kids h i = absurd cc
value_by s at kind (ref t) c v Lvalue p kids h i = absurd cc
value_by s at kind (class n) c v Lvalue p kids h i = absurd cc
value_by s at kind (closure n) c v Lvalue p kids h i = absurd cc
value_by s at kind (tx_ex t) c v Lvalue p kids h i = absurd cc
value_by s at kind (int j) c v Prvalue p kids h i = own_gives s (int j) c v kind p kids refl (h.typed refl) (h.value refl)
value_by s at kind (enum n e) c v Prvalue p kids h i = own_gives s (enum n e) c v kind p kids refl (h.typed refl) (h.value refl)
value_by s at kind null c v Prvalue p kids h i = own_gives s null c v kind p kids refl (h.typed refl) (h.value refl)
value_by s at kind (ptr t) c v Prvalue p kids h i = own_gives s (ptr t) c v kind p kids refl (h.typed refl) (h.value refl)
value_by s at kind void c v Prvalue p kids h i = absurd cc
value_by s at kind (ref t) c v Prvalue p kids h i = absurd cc
value_by s at kind (class n) c v Prvalue p kids h i = absurd cc
value_by s at kind (closure n) c v Prvalue p kids h i = absurd cc
value_by s at kind (tx_ex t) c v Prvalue p kids h i = absurd cc

-- the value of a scalar, an array or a function
pub value_gives : (s : Setting) (at : At) (e : Tree) → Stands s e → is_scalar (form_in (typ_in (valued at e))) ≡ true
    → Gives s (form_in (typ_in (valued at e))) (valued at e)
value_gives s at (node kind (typ f c v) cat p kids) h i = value_by s at kind f c v cat p kids h i

stands_by : (s : Setting) (at : At) (kind : TKind) (f : Form) (c v : Bool) (cat : Cat) (p : At) (kids : Trees) → Stands s (node kind (typ f c v) cat p kids)
    → Stands s (valued at (node kind (typ f c v) cat p kids))
stands_by s at kind (func g) c v cat p kids h = given_stands s _ _ (value_by s at kind (func g) c v cat p kids h refl)
stands_by s at kind (array (typ g q u) n) c v cat p kids h = given_stands s _ _ (value_by s at kind (array (typ g q u) n) c v cat p kids h refl)
stands_by s at kind (int j) c v Lvalue p kids h = given_stands s _ _ (value_by s at kind (int j) c v Lvalue p kids h refl)
stands_by s at kind (enum n e) c v Lvalue p kids h = given_stands s _ _ (value_by s at kind (enum n e) c v Lvalue p kids h refl)
stands_by s at kind null c v Lvalue p kids h = given_stands s _ _ (value_by s at kind null c v Lvalue p kids h refl)
stands_by s at kind (ptr t) c v Lvalue p kids h = given_stands s _ _ (value_by s at kind (ptr t) c v Lvalue p kids h refl)
stands_by s at kind (ref t) c v Lvalue p kids h = absurd h.typed
stands_by s at kind void c v Lvalue p kids h = h
stands_by s at kind (class n) c v Lvalue p kids h = h
stands_by s at kind (closure n) c v Lvalue p kids h = h
stands_by s at kind (tx_ex t) c v Lvalue p kids h = h
stands_by s at kind f c v Prvalue p kids h = h

pub value_stands : (s : Setting) (at : At) (e : Tree) → Stands s e → Stands s (valued at e)
value_stands s at (node kind (typ f c v) cat p kids) h = stands_by s at kind f c v cat p kids h

-- Conversions of values (C++14 4.5 to 4.12)

pub convert_gives : (s : Setting) (at : At) (f g : Form) (k : IntKind) (v : Tree) → Gives s f v → is_scalar g ≡ true → kind_in g ≡ Some k
    → Gives s g (node (Convert k) (plain g) Prvalue at (one v))
convert_gives s at f g k v h i e = record {
  scalar = i;
  fits = one_kid s (Convert k) (plain g) Prvalue at v (converts k) (ap not (no_class g false false i))
      (both (both (scalar_value g i) (ap (λ (x : Option IntKind). is_kind k x) e ∙ kind_refl k))
      (both (ap is_prvalue (given_cat s f v h)) (ap (λ (t : Typ). is_some (kind_in (form_in t))) (given_typ s f v h) ∙ has_kind f h.scalar))) h.fits;
  typed = refl;
  category = refl;
}

same_gives : (s : Setting) (at : At) (f g : Form) (k : IntKind) (v : Tree) (b : Bool) → typ_eq (plain g) (typ_in v) ≡ b → Gives s f v → is_scalar g ≡ true
    → kind_in f ≡ Some k → kind_in g ≡ Some k → Gives s g (retyped_if at b (plain g) v)
same_gives s at f g k v true b h i e j = record { scalar = i; fits = h.fits; typed = sym (typ_same (plain g) (typ_in v) b); category = h.category }
same_gives s at f g k v false b h i e j = word_gives s at f g k v h i e j

kinds_give : (s : Setting) (at : At) (f g : Form) (j k : IntKind) (v : Tree) (b : Bool) → kind_eq j k ≡ b → Gives s f v → is_scalar g ≡ true
    → kind_in f ≡ Some j → kind_in g ≡ Some k → Gives s g (between at (Some j) (Some k) (plain g) v)
kinds_give s at f g j k v true b h i e d = rw b (same_gives s at f g k v (typ_eq (plain g) (typ_in v)) refl h i (e ∙ ap Some (kind_same j k b)) d)
kinds_give s at f g j k v false b h i e d = rw b (convert_gives s at f g k v h i d)

between_gives : (s : Setting) (at : At) (f g : Form) (x y : Option IntKind) (j k : IntKind) (v : Tree) → x ≡ Some j → y ≡ Some k → Gives s f v
    → is_scalar g ≡ true → kind_in f ≡ Some j → kind_in g ≡ Some k → Gives s g (between at x y (plain g) v)
between_gives s at f g x y j k v m n h i e d = rw (m, n) (kinds_give s at f g j k v (kind_eq j k) refl h i e d)

-- a scalar as one of another type
pub converted_gives : (s : Setting) (at : At) (f g : Form) (c d : Bool) (v : Tree) → Gives s f v → is_scalar g ≡ true
    → Gives s g (converted at (typ g c d) v)
converted_gives s at f g c d v h i = with_kind (Gives s g (converted at (typ g c d) v)) f h.scalar (λ j e.
    with_kind (Gives s g (converted at (typ g c d) v)) g i (λ k n.
    between_gives s at f g (kind_in (form_in (typ_in v))) (kind_in g) j k v (ap (λ (t : Typ). kind_in (form_in t)) h.typed ∙ e) n h i e n))

pub in_kind_gives : (s : Setting) (at : At) (f : Form) (k : IntKind) (v : Tree) → Gives s f v → Gives s (int k) (in_kind at k v)
in_kind_gives s at f k v h = converted_gives s at f (int k) false false v h refl

-- Objects (C++14 8.5 p17)

stores : (s : Setting) (k : IntKind) (v : Bool) (t : Typ) (at : At) (e : Tree) → row_fits s (Store k v) t Prvalue (head_of e ∷ []) ≡ true → FitsAs s Value e
    → FitsAs s Initialiser (node (Store k v) t Prvalue at (one e))
stores s k v t at e r h = λ p full. node_fits s p Initialiser (Store k v) t Prvalue at (one e) (only (Value ∷ [])) refl refl refl refl r refl refl refl
    (one_value s p e (h p full))

store_row : (s : Setting) (f : Form) (c v : Bool) (k : IntKind) (x : Head) → is_scalar f ≡ true → is_kind k (kind_in f) ≡ true → x.typ ≡ plain f
    → x.cat ≡ Prvalue → row_fits s (Store k v) (typ f c v) Prvalue (x ∷ []) ≡ true
store_row s f c v k x i h e d = both (both h (flag_refl v)) (value_initialises f c v x i e d)

stored_by : (s : Setting) (at : At) (f : Form) (c v : Bool) (x : Option IntKind) (k : IntKind) (e : Tree) → x ≡ Some k → kind_in f ≡ Some k → Gives s f e
    → BuildsOne s (typ f c v) (stored_as at x (typ f c v) e)
stored_by s at f c v x k e h i g = rw h (record {
  fits = stores s k v (typ f c v) at e (store_row s f c v k (head_of e) g.scalar (ap (λ (j : Option IntKind). is_kind k j) i ∙ kind_refl k)
      (given_typ s f e g) (given_cat s f e g)) g.fits;
  builds = or_left _ (or_left _ (typ_refl (typ f c v)));
})

-- a scalar's value builds an object of its form
pub stored_builds : (s : Setting) (at : At) (f : Form) (c v : Bool) (e : Tree) → Gives s f e → BuildsOne s (typ f c v) (stored at (typ f c v) e)
stored_builds s at f c v e g = with_kind (BuildsOne s (typ f c v) (stored at (typ f c v) e)) f g.scalar
    (λ k h. stored_by s at f c v (kind_in f) k e h h g)
