-- Kids that are run for their words have them: what the rows of nodes say.
use Rattle.std.proofs.Common.{◌≡◌, Bool, true, false, not, ◌&&◌, ◌||◌, cond, Option, Some, None, refl, ap, ◌∙◌}
use Rattle.std.proofs.lemmas.Bool.{and_parts, or_right}
use Rattle.std.specs.Prelude.{is_some}
use Rattle.cpp_tree.specs.tx_ints.declared.kinds.IntKind.{IntKind}
use Rattle.cpp_tree.specs.tx_ints.declared.kinds.IntKind.TheVariants.{ULong}
use Rattle.cpp_tree.specs.tx_ints.declared.kinds.BinOp.{BinOp}
use Rattle.cpp_tree.specs.tx_ints.Integers.{is_shift}
use Rattle.cpp_tree.specs.cpp_types.Typ.{Typ, typ, void, ref}
use Rattle.cpp_tree.specs.cpp_types.Equal.{typ_eq, kind_eq, form_eq}
use Rattle.cpp_tree.specs.cpp_types.Conversion.{is_lvalue}
use Rattle.cpp_tree.specs.cpp_types.declared.ranks.Cat.{Cat}
use Rattle.cpp_tree.specs.cpp_types.declared.ranks.Cat.TheVariants.{Lvalue, Prvalue}
use Rattle.cpp_tree.specs.declared.kinds.TKind.{TKind}
use Rattle.cpp_tree.specs.declared.kinds.TKind.TheVariants.{Literal, Local}
use Rattle.cpp_tree.specs.Typing.{Head, is_prvalue, is_scalar_value, is_kind, kind_in, form_in, word_kind, is_bool, is_class_typ, unqualified, gives, gives_promoted}
use Rattle.cpp_tree.specs.Typing.{same_kind, initialises, without_exception}
use Rattle.cpp_tree.specs.Rows.{is_access, is_right, is_load, is_read, is_slot, is_result_address, is_first_place, is_zero_literal}
use Rattle.low_code.specs.Types.{is_void}
use Rattle.lowered_trees.specs.Shapes as shapes
use Rattle.lowered_trees.specs.Suiting.{has_word}
use Rattle.lowered_trees.specs.Words.{tells, gives_word}
use Rattle.lowered_trees.proofs.Facts.{void_alike, worded}
use Rattle.lowered_trees.proofs.Tests.{untold}
use Rattle.lowered_trees.proofs.Words.{bool_typed, unqualified_void}

-- what is told of a kid
abbrev pub Tells : Bool → Head → Type 0
Tells a h = tells a h.kind h.typ h.cat ≡ true

pub typed : (h : Head) → is_void h.typ ≡ false → has_word h ≡ true
typed h e = or_right (shapes.is_load h.kind) (not (is_void h.typ)) (ap not e)

lvalue_word : (a : Bool) (kind : TKind) (c : Cat) → is_lvalue c ≡ true → gives_word a kind c ≡ true
lvalue_word a kind Lvalue l = refl
lvalue_word a kind Prvalue l = absurd cc

pub lvalue : (a : Bool) (h : Head) → Tells a h → is_lvalue h.cat ≡ true → has_word h ≡ true
lvalue a h t l = typed h (untold (gives_word a h.kind h.cat) (is_void h.typ) (lvalue_word a h.kind h.cat l) t)

pub alike : (u : Typ) (h : Head) → typ_eq u h.typ ≡ true → is_void u ≡ false → has_word h ≡ true
alike u h e v = typed h (void_alike u h.typ e ∙ v)

kind_some : (t : Typ) → is_some (kind_in (form_in t)) ≡ true → is_void t ≡ false
kind_some (typ void c v) e = absurd cc
kind_some (typ f c v) e = refl

pub of_kind : (h : Head) → is_some (kind_in (form_in h.typ)) ≡ true → has_word h ≡ true
of_kind h e = typed h (kind_some h.typ e)

word_some : (a : Bool) (kind : TKind) (t : Typ) (c : Cat) → tells a kind t c ≡ true → is_some (word_kind t c) ≡ true → is_void t ≡ false
word_some a kind t Lvalue e w = untold true (is_void t) refl e
word_some a kind (typ f c v) Prvalue e w = kind_some (typ f c v) w

pub of_word : (a : Bool) (h : Head) → Tells a h → is_some (word_kind h.typ h.cat) ≡ true → has_word h ≡ true
of_word a h t w = typed h (word_some a h.kind h.typ h.cat t w)

some_kind : (k : IntKind) (o : Option IntKind) → is_kind k o ≡ true → is_some o ≡ true
some_kind k None e = absurd cc
some_kind k (Some j) e = refl

pub some_promoted : (o : Option IntKind) → gives_promoted o ≡ true → is_some o ≡ true
some_promoted None e = absurd cc
some_promoted (Some k) e = refl

pub given : (a : Bool) (k : IntKind) (h : Head) → Tells a h → gives k h ≡ true → has_word h ≡ true
given a k h t e = of_word a h t (some_kind k (word_kind h.typ h.cat) e)

either_some : (b : Bool) (x y : Bool) {A : Type 0} → (x ≡ true → A) → (y ≡ true → A) → cond b x y ≡ true → A
either_some true x y f g e = f e
either_some false x y f g e = g e

pub right_word : (a : Bool) (op : BinOp) (k : IntKind) (h : Head) → Tells a h → is_right op k h ≡ true → has_word h ≡ true
right_word a op k h t e = either_some (is_shift op) (gives_promoted (word_kind h.typ h.cat)) (gives k h)
    (λ x. of_word a h t (some_promoted (word_kind h.typ h.cat) x)) (λ x. given a k h t x) e

pub bool_word : (h : Head) → is_bool h ≡ true → has_word h ≡ true
bool_word h e = typed h (bool_typed h e)

pub or_either : (x y : Bool) {A : Type 0} → (x ≡ true → A) → (y ≡ true → A) → (x || y) ≡ true → A
or_either true y f g e = f refl
or_either false y f g e = g e

first_word : (kind : TKind) (t : Typ) (c : Cat) → tells false kind t c ≡ true → is_first_place kind ≡ true → is_void t ≡ false
first_word (Local n) t c e f = untold (gives_word false (Local n) c) (is_void t) (worded false (Local n) c refl refl) e
first_word kind t c e f = absurd cc

pub load_word : (r : Typ) (k : IntKind) (v : Bool) (t : Typ) (cat : Cat) (h : Head) → Tells false h → is_load r k v t cat h ≡ true → has_word h ≡ true
load_word r k v t Prvalue h e i = or_either (is_scalar_value t && is_read k v t h)
    (kind_eq k ULong && not v && typ_eq t (typ void false false) && is_result_address r h)
    (λ x. let p = and_parts (is_scalar_value t) (is_read k v t h) x in
    let q = and_parts (is_lvalue h.cat && form_eq (form_in (without_exception h.typ)) (form_in t)) (is_access k v (without_exception h.typ)) p.1 in
    lvalue false h e (and_parts (is_lvalue h.cat) (form_eq (form_in (without_exception h.typ)) (form_in t)) q.0).0)
    (λ x. let p = and_parts (kind_eq k ULong && not v && typ_eq t (typ void false false)) (is_result_address r h) x in
    typed h (first_word h.kind h.typ h.cat e (and_parts (is_class_typ r) (is_first_place h.kind) p.1).1)) i
load_word r k v t Lvalue h e i =
    let p = and_parts (kind_eq k ULong && not v && is_lvalue h.cat) (is_slot t h.typ) i in
    lvalue false h e (and_parts (kind_eq k ULong && not v) (is_lvalue h.cat) p.0).1

literal_word : (kind : TKind) (t : Typ) (c : Cat) → tells false kind t c ≡ true → is_zero_literal kind ≡ true → is_void t ≡ false
literal_word (Literal n) t c e f = untold (gives_word false (Literal n) c) (is_void t) (worded false (Literal n) c refl refl) e
literal_word kind t c e f = absurd cc

same_some : (o p : Option IntKind) → same_kind o p ≡ true → is_some o ≡ true → is_some p ≡ true
same_some None p e i = absurd cc
same_some (Some j) p e i = some_kind j p e

pub retype_by : (o : Option IntKind) (h : Head) → Tells false h → is_some o ≡ true → (same_kind o (word_kind h.typ h.cat) || (is_zero_literal h.kind && is_some o)) ≡ true
    → has_word h ≡ true
retype_by o h e s i = or_either (same_kind o (word_kind h.typ h.cat)) (is_zero_literal h.kind && is_some o)
    (λ x. of_word false h e (same_some o (word_kind h.typ h.cat) x s))
    (λ x. typed h (literal_word h.kind h.typ h.cat e (and_parts (is_zero_literal h.kind) (is_some o) x).0)) i

-- a value that is retyped, where the whole has a type
pub initial_word : (t : Typ) (h : Head) → Tells false h → is_void t ≡ false → initialises t h ≡ true → has_word h ≡ true
initial_word (typ (ref t) c v) h e n i = lvalue false h e (and_parts (is_lvalue h.cat) _ i).0
initial_word (typ void c v) h e n i = absurd cc
initial_word t h e n i = alike (unqualified t) h (and_parts (is_prvalue h.cat) (typ_eq (unqualified t) h.typ) i).1 (unqualified_void t ∙ n)
