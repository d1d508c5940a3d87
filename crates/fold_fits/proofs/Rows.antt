-- What a node asks of its kids, it finds in folded ones.
use Rattle.std.proofs.Common.{◌≡◌, refl, ap, subst, ℕ, suc, ◌*◌, ◌-◌, ◌==◌, nat_lt, Bool, true, false, ◌&&◌, ◌||◌, not, List, [], ◌∷◌, length}
use Rattle.std.proofs.Common.{drop, slice_get, Option, Some, None, inl, inr}
use Rattle.std.specs.List.{list_all}
use Rattle.std.proofs.lemmas.Bool.{and_parts, and_from}
use Rattle.cpp_tree.specs.tx_ints.declared.kinds.IntKind.{IntKind}
use Rattle.cpp_tree.specs.tx_ints.declared.kinds.BinOp.{BinOp}
use Rattle.cpp_tree.specs.cpp_types.Typ.{Typ, typ, void, ref, array, class, closure, tx_ex, Signature}
use Rattle.cpp_tree.specs.cpp_types.Class.{Class}
use Rattle.cpp_tree.specs.cpp_types.Conversion.{is_lvalue, is_object_form}
use Rattle.cpp_tree.specs.cpp_types.Equal.{typ_eq}
use Rattle.cpp_tree.specs.cpp_types.declared.ranks.Cat.{Cat}
use Rattle.cpp_tree.specs.cpp_types.declared.ranks.Cat.TheVariants.{Lvalue, Prvalue}
use Rattle.cpp_tree.specs.declared.kinds.TKind.{TKind}
use Rattle.cpp_tree.specs.declared.kinds.TKind.TheVariants.{Load, Retype, Binary, Conditional, Comma, Assign, Update, CopyAssign, Materialize, FullExpression}
use Rattle.cpp_tree.specs.declared.kinds.TKind.TheVariants.{Convert, Call, VirtualCall, PointerCall, Builtin, Throw, Store, Construct, CopyFrom, Pieces, Piece}
use Rattle.cpp_tree.specs.declared.kinds.TKind.TheVariants.{Elements, Init, Defer, Loop, Switch, Case, Return, Handler}
use Rattle.cpp_tree.specs.declared.program.FuncKind.TheVariants.{Plain}
use Rattle.cpp_tree.specs.Typing.{Head, passes, form_in, is_void, is_prvalue, is_class_typ, is_class_prvalue, same_shape, without_exception, goes_both_ways}
use Rattle.cpp_tree.specs.Typing.{is_temporary, initialises, builds, is_argument, Word, object, passed, is_word, are_words}
use Rattle.cpp_tree.specs.Typing.{is_reference, kind_in, is_result, is_bool, gives_promoted}
use Rattle.cpp_tree.specs.Parts.{Part, Scalar, part_of, size_in, is_piece_of, is_piece_at, is_at, are_part_pieces, is_last}
use Rattle.cpp_tree.specs.Parts.{are_element_pieces, are_pieces, are_elements, is_field_of, are_fields, are_scalars, scalars_of}
use Rattle.cpp_tree.specs.Roles.{is_expression, is_initialiser, is_throw}
use Rattle.cpp_tree.specs.Rows.{Setting, row_fits, is_load, is_first_place, is_retyped, is_zero_literal, is_binary, is_literal, is_loaded, is_branch}
use Rattle.cpp_tree.specs.Rows.{same_value, is_update, is_destruction, are_destructions, offsets_fall, is_case_of, are_cases, is_returned, is_return}
use Rattle.cpp_tree.specs.Rows.{is_handler_of, kid, two_kids, referred, result_of, words_of, called_in, result_in, signature_words}
use Rattle.cpp_tree.specs.Rows.{builtin_words}
use Rattle.setting_growth.proofs.Still.{Still, same, equal, both, both_if, one_of, choice, each}
use Rattle.fold_fits.proofs.Heads.{is_folded_kind, by_kinds, Alike, AllAlike, Keeps, kept, first_kept, second_kept, third_kept, two_kept}
use Rattle.fold_fits.proofs.Heads.{all_kept, many_kept, rest_alike, typ_alike}

pub off : {a : Bool} (b : Bool) → a ≡ false → Still a b
off b e = record { up = λ h. absurd cc }

pub after : {a b c : Bool} → Still a b → Still b c → Still a c
after h g = record { up = λ e. g.up (h.up e) }

-- Tests of one kid

load_keeps : (r : Typ) (k : IntKind) (marked : Bool) (t : Typ) (cat : Cat) → Keeps (is_load r k marked t cat)
load_keeps r k marked t Prvalue = λ kind other u c w s. one_of (same _) (both (same _) (both (same (is_class_typ r))
    (off (is_first_place other) (by_kinds (λ z. is_first_place z ≡ false) (λ to. refl) (λ op j. refl) refl refl kind w))))
load_keeps r k marked t Lvalue = λ kind other u c w s. same _

zero_off : (kind other : TKind) → is_folded_kind kind ≡ true → Still (is_zero_literal kind) (is_zero_literal other)
zero_off kind other w = off (is_zero_literal other) (by_kinds (λ z. is_zero_literal z ≡ false) (λ to. refl) (λ op j. refl) refl refl kind w)

retype_keeps : (t : Typ) (cat : Cat) → Keeps (is_retyped t cat)
retype_keeps (typ void c v) Prvalue = λ kind other u d w s. same _
retype_keeps (typ void c v) Lvalue = λ kind other u d w s. one_of (same _) (both (zero_off kind other w) (same _))
retype_keeps (typ f c v) cat = λ kind other u d w s. one_of (same _) (both (zero_off kind other w) (same _))

binary_left : (op : BinOp) (k : IntKind) (t : Typ) (cat : Cat) (b : Head) → Keeps (λ a. is_binary op k t cat a b)
binary_left op k t Lvalue b = λ kind other u c w s. same _
binary_left op k t Prvalue b = λ kind other u c w s. same _

binary_right : (op : BinOp) (k : IntKind) (t : Typ) (cat : Cat) (a : Head) → Keeps (λ b. is_binary op k t cat a b)
binary_right op k t Lvalue a = λ kind other u c w s. both (same _)
    (off (is_literal other) (by_kinds (λ z. is_literal z ≡ false) (λ to. refl) (λ op j. refl) refl refl kind w))
binary_right op k t Prvalue a = λ kind other u c w s. same _

pub two_by : (test : Head → Head → Bool) → ((b : Head) → Keeps (λ a. test a b)) → ((a : Head) → Keeps (test a)) → (hs gs : List Head) → AllAlike hs gs
    → (h g i j : Head) → Alike h g → Alike i j → Still (test h i) (test g j)
two_by test k l hs gs a h g i j x y = after (kept (λ z. test z i) (k i) h g x) (kept (test g) (l g) i j y)

pub throw_off : (kind other : TKind) → is_folded_kind kind ≡ true → Still (is_throw kind) (is_throw other)
throw_off kind other w = off (is_throw other) (by_kinds (λ z. is_throw z ≡ false) (λ to. refl) (λ op j. refl) refl refl kind w)

pub branch_keeps : (t : Typ) (cat : Cat) → Keeps (is_branch t cat)
branch_keeps t Lvalue = λ kind other u c w s. one_of (throw_off kind other w) (same _)
branch_keeps t Prvalue = λ kind other u c w s. one_of (one_of (throw_off kind other w) (same (is_void t))) (same _)

pub value_keeps : (t : Typ) (cat : Cat) → Keeps (same_value t cat)
value_keeps t Lvalue = λ kind other u c w s. same _
value_keeps t Prvalue = λ kind other u c w s. same _

class_shape : (t u : Typ) → is_class_typ t ≡ true → same_shape t u ≡ true → is_class_typ u ≡ true
class_shape (typ (class n) c v) (typ (class m) d w) e h = refl
class_shape (typ (class n) c v) (typ g d w) e h = absurd cc
class_shape (typ (closure n) c v) (typ (closure m) d w) e h = refl
class_shape (typ (closure n) c v) (typ g d w) e h = absurd cc
class_shape (typ (tx_ex s) c v) (typ (tx_ex t) d w) e h = refl
class_shape (typ (tx_ex s) c v) (typ g d w) e h = absurd cc
class_shape (typ f c v) u e h = absurd cc

class_prvalue : (u : Typ) (c : Cat) → is_prvalue c ≡ true → is_class_typ u ≡ true → is_class_prvalue u c ≡ true
class_prvalue u Lvalue e h = absurd cc
class_prvalue u Prvalue e h = h

pub builds_keeps : (t : Typ) → Keeps (builds t)
builds_keeps t = λ kind other u c w s. both_if (same (is_prvalue c)) (λ p. one_of (same (typ_eq t u || typ_eq (without_exception t) u)) (record {
  up = λ e.
      let q = and_parts (goes_both_ways kind && is_class_typ t) (same_shape t u) e in
      let r = and_parts (goes_both_ways kind) (is_class_typ t) q.0 in
      and_from (goes_both_ways other && is_class_typ t) (same_shape t u)
      (and_from (goes_both_ways other) (is_class_typ t) (s.goes (class_prvalue u c p (class_shape t u r.1 q.1))) r.1) q.1;
}))

temporary_off : (kind other : TKind) → is_folded_kind kind ≡ true → Still (is_temporary kind) (is_temporary other)
temporary_off kind other w = off (is_temporary other) (by_kinds (λ z. is_temporary z ≡ false) (λ to. refl) (λ op j. refl) refl refl kind w)

initialises_keeps : (t : Typ) → Keeps (initialises t)
initialises_keeps (typ (ref t) c v) = λ kind other u d w s. both (same _) (one_of (same _) (both (temporary_off kind other w) (same _)))
initialises_keeps (typ f c v) = λ kind other u d w s. same _

plain_argument : (kind : TKind) → (is_expression kind || is_initialiser kind) ≡ true → is_argument kind ≡ false
plain_argument (Materialize place true) e = absurd cc
plain_argument (Materialize place false) e = refl
plain_argument kind e = refl

no_argument : (kind other : TKind) → (is_expression other || is_initialiser other) ≡ true → Still (not (is_argument kind)) (not (is_argument other))
no_argument kind other e = record { up = λ h. ap not (plain_argument other e) }

argument_off : (kind other : TKind) → is_folded_kind kind ≡ true → Still (is_argument kind) (is_argument other)
argument_off kind other w = off (is_argument other) (by_kinds (λ z. is_argument z ≡ false) (λ to. refl) (λ op j. refl) refl refl kind w)

word_keeps : (word : Word) → Keeps (is_word word)
word_keeps (object n) = λ kind other u c w s. both (same _) (no_argument kind other s.serves)
word_keeps (passed (typ f c v)) = λ kind other u d w s. choice (is_object_form f) (both (argument_off kind other w) (same _))
    (both (no_argument kind other s.serves) (initialises_keeps (typ f c v) kind other u d w s))

returned_keeps : (t : Typ) → Keeps (is_returned t)
returned_keeps t = λ kind other u c w s. one_of (initialises_keeps t kind other u c w s) (both (both (same (is_reference t)) (zero_off kind other w)) (same _))

elements_keeps : (classes : List Class) (count stride before : ℕ) (t : Typ) → Keeps (are_elements classes count stride before t)
elements_keeps classes count stride before (typ (array e many) c v) = λ kind other u d w s. both (same _)
    (one_of (both (both (same _) (builds_keeps e kind other u d w s)) (same _)) (elements_keeps classes count stride (before * many) e kind other u d w s))
elements_keeps classes count stride before (typ f c v) = λ kind other u d w s. same false

plain_case : (o : Option IntKind) (kind : TKind) → (is_expression kind || is_initialiser kind) ≡ true → is_case_of o kind ≡ true
plain_case o (Case w) e = absurd cc
plain_case o kind e = refl

case_keeps : (o : Option IntKind) → Keeps (λ h. is_case_of o h.kind)
case_keeps o = λ kind other u c w s. record { up = λ h. plain_case o other s.serves }

piece_off : (at : ℕ) (kind other : TKind) → is_folded_kind kind ≡ true → Still (is_at at kind) (is_at at other)
piece_off at kind other w = off (is_at at other) (by_kinds (λ z. is_at at z ≡ false) (λ to. refl) (λ op j. refl) refl refl kind w)

piece_keeps : (at : ℕ) (t : Typ) → Keeps (is_piece_at at t)
piece_keeps at t = λ kind other u c w s. both (piece_off at kind other w) (same _)

field_keeps : (x : Scalar) → Keeps (λ h. is_field_of x h.kind)
field_keeps x = λ kind other u c w s. off (is_field_of x other) (by_kinds (λ z. is_field_of x z ≡ false) (λ to. refl) (λ op j. refl) refl refl kind w)

-- Tests of all kids

words_kept : (ws : List Word) (hs gs : List Head) → AllAlike hs gs → Still (are_words ws hs) (are_words ws gs)
words_kept [] [] [] a = same true
words_kept [] [] (g ∷ gs) a = absurd a
words_kept [] (h ∷ hs) gs a = off _ refl
words_kept (w ∷ ws) [] [] a = same false
words_kept (w ∷ ws) [] (g ∷ gs) a = absurd a
words_kept (w ∷ ws) (h ∷ hs) [] a = absurd a
words_kept (w ∷ ws) (h ∷ hs) (g ∷ gs) a = both (kept (is_word w) (word_keeps w) h g a.0) (words_kept ws hs gs a.1)

fields_kept : (ss : List Scalar) (hs gs : List Head) → AllAlike hs gs → Still (are_fields ss hs) (are_fields ss gs)
fields_kept [] [] [] a = same true
fields_kept [] [] (g ∷ gs) a = absurd a
fields_kept [] (h ∷ hs) gs a = off _ refl
fields_kept (s ∷ ss) [] [] a = same false
fields_kept (s ∷ ss) [] (g ∷ gs) a = absurd a
fields_kept (s ∷ ss) (h ∷ hs) [] a = absurd a
fields_kept (s ∷ ss) (h ∷ hs) (g ∷ gs) a = both (kept (λ (z : Head). is_field_of s z.kind) (field_keeps s) h g a.0) (fields_kept ss hs gs a.1)

scalars_kept : (classes : List Class) (t : Typ) (hs gs : List Head) → AllAlike hs gs → Still (are_scalars classes t hs) (are_scalars classes t gs)
scalars_kept classes t hs gs a = both (same _) (fields_kept (scalars_of classes t) hs gs a)

-- destructions are not folded
destroy_same : (s : Setting) (t : Typ) (h g : Head) → Alike h g → is_destruction s t h.kind ≡ true → h ≡ g
destroy_same s t h g (inl e) d = e
destroy_same s t h g (inr c) d = absurd (let o : is_destruction s t h.kind ≡ false =
    by_kinds (λ z. is_destruction s t z ≡ false) (λ to. refl) (λ op j. refl) refl refl h.kind c.was in cc)

destroys_same : (s : Setting) (t : Typ) (hs gs : List Head) → AllAlike hs gs → list_all (λ (h : Head). is_destruction s t h.kind) hs ≡ true → hs ≡ gs
destroys_same s t [] [] a d = refl
destroys_same s t [] (g ∷ gs) a d = absurd a
destroys_same s t (h ∷ hs) [] a d = absurd a
destroys_same s t (h ∷ hs) (g ∷ gs) a d =
    let p = and_parts (is_destruction s t h.kind) (list_all (λ (h : Head). is_destruction s t h.kind) hs) d in
    let e = destroy_same s t h g a.0 p.0 in
    let f = destroys_same s t hs gs a.1 p.1 in
    cc

pub destructions_kept : (s : Setting) (t : Typ) (hs gs : List Head) → AllAlike hs gs → Still (are_destructions s t hs) (are_destructions s t gs)
destructions_kept s t hs gs a = record {
  up = λ e. subst (λ z. are_destructions s t z ≡ true)
      (destroys_same s t hs gs a (and_parts (list_all (λ (h : Head). is_destruction s t h.kind) hs) (offsets_fall hs) e).0) e;
}

-- of the type of a kid, and of the kids behind it
destructions_of : (s : Setting) (h g : Head) (hs gs : List Head) → Alike h g → AllAlike hs gs
    → Still (are_destructions s h.typ hs) (are_destructions s g.typ gs)
destructions_of s h g hs gs x a = after (destructions_kept s h.typ hs gs a) (equal (ap (λ (t : Typ). are_destructions s t gs) (typ_alike h g x)))

part_kept : (classes : List Class) (c v : Bool) (h g : Head) (o : Option Part) → Alike h g
    → Still (passes (is_piece_of c v h) o) (passes (is_piece_of c v g) o)
part_kept classes c v h g None a = same false
part_kept classes c v h g (Some p) a = kept (λ (z : Head). is_piece_of c v z p) (piece_keeps p.offset _) h g a

parts_kept : (classes : List Class) (c v : Bool) (n i : ℕ) (hs gs : List Head) → AllAlike hs gs
    → Still (are_part_pieces classes c v n i hs) (are_part_pieces classes c v n i gs)
parts_kept classes c v n i [] [] a = same _
parts_kept classes c v n i [] (g ∷ gs) a = absurd a
parts_kept classes c v n i (h ∷ hs) [] a = absurd a
parts_kept classes c v n i (h ∷ hs) (g ∷ gs) a = both (part_kept classes c v h g (part_of classes n i) a.0) (parts_kept classes c v n (suc i) hs gs a.1)

last_kept : (hs gs : List Head) → AllAlike hs gs → Still (is_last hs) (is_last gs)
last_kept [] [] a = same true
last_kept [] (g ∷ gs) a = absurd a
last_kept (h ∷ hs) gs a = off _ refl

element_pieces_kept : (e : Typ) (size many i : ℕ) (hs gs : List Head) → AllAlike hs gs
    → Still (are_element_pieces e size many i hs) (are_element_pieces e size many i gs)
element_pieces_kept e size many i [] [] a = same _
element_pieces_kept e size many i [] (g ∷ gs) a = absurd a
element_pieces_kept e size many i (h ∷ hs) [] a = absurd a
element_pieces_kept e size many i (h ∷ hs) (g ∷ gs) a = both (same (nat_lt i many))
    (one_of (both (last_kept hs gs a.1)
    (kept (is_piece_at (i * size) (typ (array e (many - i)) false false)) (piece_keeps (i * size) (typ (array e (many - i)) false false)) h g a.0))
    (both (kept (is_piece_at (i * size) e) (piece_keeps (i * size) e) h g a.0) (element_pieces_kept e size many (suc i) hs gs a.1)))

pieces_kept : (classes : List Class) (t : Typ) (hs gs : List Head) → AllAlike hs gs → Still (are_pieces classes t hs) (are_pieces classes t gs)
pieces_kept classes (typ (class n) c v) hs gs a = both (same _) (parts_kept classes c v n 0 hs gs a)
pieces_kept classes (typ (closure n) c v) hs gs a = both (same _) (parts_kept classes c v n 0 hs gs a)
pieces_kept classes (typ (array e many) c v) hs gs a = each (size_in classes e) (λ (size : ℕ). are_element_pieces e size many 0 hs)
    (λ (size : ℕ). are_element_pieces e size many 0 gs) (λ size. element_pieces_kept e size many 0 hs gs a)
pieces_kept classes (typ f c v) hs gs a = same false

return_kept : (t : Typ) (hs gs : List Head) → AllAlike hs gs → Still (is_return t hs) (is_return t gs)
return_kept t [] [] a = same _
return_kept t [] (g ∷ gs) a = absurd a
return_kept t (h ∷ hs) [] a = absurd a
return_kept t (h ∷ []) (g ∷ []) a = both (same _) (kept (is_returned t) (returned_keeps t) h g a.0)
return_kept t (h ∷ []) (g ∷ j ∷ gs) a = absurd a.1
return_kept t (h ∷ i ∷ hs) gs a = off _ refl

handler_kept : (classes : List Class) (frame : List Typ) (place : Option ℕ) (t : Typ) (hs gs : List Head) → AllAlike hs gs
    → Still (is_handler_of classes frame place t hs) (is_handler_of classes frame place t gs)
handler_kept classes frame None t hs gs a = equal (ap (λ (n : ℕ). n == 0) (many_kept hs gs a))
handler_kept classes frame (Some place) t hs gs a = both (same _) (scalars_kept classes (referred t) hs gs a)

-- Rows that look at the first kid and at the others

pointer_kept : (t : Typ) (cat : Cat) (h g : Head) (hs gs : List Head) → Alike h g → AllAlike hs gs
    → Still (is_prvalue h.cat
    && passes (λ (x : Signature). is_result (result_in Plain x) t cat && are_words (signature_words None x) hs) (called_in (form_in h.typ)))
    (is_prvalue g.cat
    && passes (λ (x : Signature). is_result (result_in Plain x) t cat && are_words (signature_words None x) gs) (called_in (form_in g.typ)))
pointer_kept t cat h g hs gs x a = after (kept (λ (z : Head). is_prvalue z.cat
    && passes (λ (x : Signature). is_result (result_in Plain x) t cat && are_words (signature_words None x) hs) (called_in (form_in z.typ)))
    (λ kind other u c w s. same _) h g x)
    (both (same (is_prvalue g.cat)) (each (called_in (form_in g.typ)) _ _ (λ x. both (same _) (words_kept (signature_words None x) hs gs a))))

pointers_kept : (t : Typ) (cat : Cat) (hs gs : List Head) → AllAlike hs gs
    → Still (kid 0 (λ h. is_prvalue h.cat && passes (λ (x : Signature). is_result (result_in Plain x) t cat
    && are_words (signature_words None x) (drop 1 hs)) (called_in (form_in h.typ))) hs)
    (kid 0 (λ h. is_prvalue h.cat && passes (λ (x : Signature). is_result (result_in Plain x) t cat
    && are_words (signature_words None x) (drop 1 gs)) (called_in (form_in h.typ))) gs)
pointers_kept t cat [] [] a = same false
pointers_kept t cat [] (g ∷ gs) a = absurd a
pointers_kept t cat (h ∷ hs) [] a = absurd a
pointers_kept t cat (h ∷ hs) (g ∷ gs) a = pointer_kept t cat h g hs gs a.0 a.1

elements_kept : (s : Setting) (count stride : ℕ) (t : Typ) (hs gs : List Head) → AllAlike hs gs
    → Still (kid 0 (λ h. are_elements s.classes count stride 1 t h && are_destructions s h.typ (drop 1 hs)) hs)
    (kid 0 (λ h. are_elements s.classes count stride 1 t h && are_destructions s h.typ (drop 1 gs)) gs)
elements_kept s count stride t [] [] a = same false
elements_kept s count stride t [] (g ∷ gs) a = absurd a
elements_kept s count stride t (h ∷ hs) [] a = absurd a
elements_kept s count stride t (h ∷ hs) (g ∷ gs) a =
    both (kept (are_elements s.classes count stride 1 t) (elements_keeps s.classes count stride 1 t) h g a.0) (destructions_of s h g hs gs a.0 a.1)

defer_kept : (s : Setting) (hs gs : List Head) → AllAlike hs gs
    → Still (kid 0 (λ h. is_lvalue h.cat && are_destructions s h.typ (drop 1 hs)) hs) (kid 0 (λ h. is_lvalue h.cat && are_destructions s h.typ (drop 1 gs)) gs)
defer_kept s [] [] a = same false
defer_kept s [] (g ∷ gs) a = absurd a
defer_kept s (h ∷ hs) [] a = absurd a
defer_kept s (h ∷ hs) (g ∷ gs) a = both (kept (λ (z : Head). is_lvalue z.cat) (λ kind other u c w x. same _) h g a.0) (destructions_of s h g hs gs a.0 a.1)

switch_kept : (hs gs : List Head) → AllAlike hs gs
    → Still (kid 0 (λ h. is_prvalue h.cat && gives_promoted (kind_in (form_in h.typ)) && are_cases (kind_in (form_in h.typ)) (drop 1 hs)) hs)
    (kid 0 (λ h. is_prvalue h.cat && gives_promoted (kind_in (form_in h.typ)) && are_cases (kind_in (form_in h.typ)) (drop 1 gs)) gs)
switch_kept [] [] a = same false
switch_kept [] (g ∷ gs) a = absurd a
switch_kept (h ∷ hs) [] a = absurd a
switch_kept (h ∷ hs) (g ∷ gs) a = after
    (kept (λ (z : Head). is_prvalue z.cat && gives_promoted (kind_in (form_in z.typ)) && are_cases (kind_in (form_in z.typ)) hs)
    (λ kind other u c w x. same _) h g a.0)
    (both (same _) (all_kept (λ (z : Head). is_case_of (kind_in (form_in g.typ)) z.kind) (case_keeps (kind_in (form_in g.typ))) hs gs a.1))

loaded_off : (kind other : TKind) → is_folded_kind kind ≡ true → Still (is_loaded kind) (is_loaded other)
loaded_off kind other w = off (is_loaded other) (by_kinds (λ z. is_loaded z ≡ false) (λ to. refl) (λ op j. refl) refl refl kind w)

abbrev is_declared : Setting → Head → Head → List Head → ℕ → Bool
is_declared s address init hs many = is_lvalue address.cat && builds address.typ init && are_destructions s address.typ hs
    || is_prvalue address.cat && is_void address.typ && is_loaded address.kind && many == 2

declared_kept : (s : Setting) (h g i j : Head) (hs gs : List Head) (m n : ℕ) → Alike h g → Alike i j → AllAlike hs gs → n ≡ m
    → Still (is_declared s h i hs m) (is_declared s g j gs n)
declared_kept s h g i j hs gs m n x y a e = after
    (kept (λ (z : Head). is_declared s z i hs m) (λ kind other u c w t. one_of (same _) (both (both (same _) (loaded_off kind other w)) (same (m == 2)))) h g x)
    (one_of (both (both (same (is_lvalue g.cat)) (kept (builds g.typ) (builds_keeps g.typ) i j y)) (destructions_kept s g.typ hs gs a))
    (both (same _) (equal (ap (λ (z : ℕ). z == 2) e))))

init_kept : (s : Setting) (hs gs : List Head) → AllAlike hs gs
    → Still (two_kids (λ address init. is_declared s address init (drop 2 hs) (length hs)) hs)
    (two_kids (λ address init. is_declared s address init (drop 2 gs) (length gs)) gs)
init_kept s [] [] a = same false
init_kept s [] (g ∷ gs) a = absurd a
init_kept s (h ∷ hs) [] a = absurd a
init_kept s (h ∷ []) (g ∷ []) a = same false
init_kept s (h ∷ []) (g ∷ j ∷ gs) a = absurd a.1
init_kept s (h ∷ i ∷ hs) (g ∷ []) a = absurd a.1
init_kept s (h ∷ i ∷ hs) (g ∷ j ∷ gs) a = declared_kept s h g i j hs gs (length (h ∷ i ∷ hs)) (length (g ∷ j ∷ gs)) a.0 a.1.0 a.1.1
    (many_kept (h ∷ i ∷ hs) (g ∷ j ∷ gs) a)

-- Rows

bool_keeps : Keeps is_bool
bool_keeps = λ kind other u c w s. same _

pub row_kept : (s : Setting) (kind : TKind) (t : Typ) (cat : Cat) (hs gs : List Head) → AllAlike hs gs
    → Still (row_fits s kind t cat hs) (row_fits s kind t cat gs)
row_kept s (Load k marked) t cat hs gs a = first_kept _ (load_keeps (result_of s.function) k marked t cat) hs gs a
row_kept s (Convert k) t cat hs gs a = both (same _) (first_kept _ (λ kind other u c w x. same _) hs gs a)
row_kept s Retype t cat hs gs a = first_kept _ (retype_keeps t cat) hs gs a
row_kept s (Binary op k) t cat hs gs a = two_kept _ (two_by (is_binary op k t cat) (binary_left op k t cat) (binary_right op k t cat) hs gs a) hs gs a
row_kept s Conditional t cat hs gs a = both (both (first_kept _ bool_keeps hs gs a) (second_kept _ (branch_keeps t cat) hs gs a))
    (third_kept _ (branch_keeps t cat) hs gs a)
row_kept s Comma t cat hs gs a = second_kept _ (value_keeps t cat) hs gs a
row_kept s (Assign k marked) t cat hs gs a = both (both (same _) (first_kept _ (λ kind other u c w x. same _) hs gs a))
    (second_kept _ (λ kind other u c w x. same _) hs gs a)
row_kept s (Update op stored operation marked old) t cat hs gs a = two_kept _ (two_by (is_update op stored operation marked old t cat)
    (update_left op stored operation marked old t cat) (λ h kind other u c w x. same _) hs gs a) hs gs a
  where
    update_left : (op : BinOp) (stored operation : IntKind) (marked old : Bool) (t : Typ) (cat : Cat) (b : Head)
        → Keeps (λ a. is_update op stored operation marked old t cat a b)
    update_left op stored operation marked true t cat b = λ kind other u c w x. same _
    update_left op stored operation marked false t cat b = λ kind other u c w x. same _
row_kept s CopyAssign t cat hs gs a = both (both (both (same _) (first_kept _ (λ kind other u c w x. same _) hs gs a))
    (second_kept _ (λ kind other u c w x. same _) hs gs a)) (third_kept _ (builds_keeps t) hs gs a)
row_kept s (Materialize place argument) t cat hs gs a = both (both (same _) (first_kept _ (builds_keeps t) hs gs a))
    (destructions_kept s t (drop 1 hs) (drop 1 gs) (rest_alike hs gs a))
row_kept s FullExpression t cat hs gs a = first_kept _ (value_keeps t cat) hs gs a
row_kept s (Call f) t cat hs gs a = each (slice_get s.funcs f) _ _ (λ g. both (same _) (words_kept (words_of g) hs gs a))
row_kept s (VirtualCall f n slot pointer) t cat hs gs a = both (each (slice_get s.funcs f) _ _ (λ g. both (same _) (words_kept (words_of g) hs gs a))) (same _)
row_kept s PointerCall t cat hs gs a = pointers_kept t cat hs gs a
row_kept s (Builtin b) t cat hs gs a = both (same _) (words_kept (builtin_words b) hs gs a)
row_kept s Throw t cat hs gs a = both (both (same _) (first_kept _ (λ kind other u c w x. same _) hs gs a))
    (scalars_kept s.classes t (drop 1 hs) (drop 1 gs) (rest_alike hs gs a))
row_kept s (Store k marked) t cat hs gs a = both (same _) (first_kept _ (initialises_keeps t) hs gs a)
row_kept s (Construct f) t cat hs gs a =
    both (same _) (each (slice_get s.funcs f) _ _ (λ g. both (same _) (words_kept (signature_words None g.declared.signature) hs gs a)))
row_kept s CopyFrom t cat hs gs a = both (both (same _) (first_kept _ (λ kind other u c w x. same _) hs gs a)) (second_kept _ (builds_keeps t) hs gs a)
row_kept s Pieces t cat hs gs a = both (same _) (pieces_kept s.classes t hs gs a)
row_kept s (Piece offset) t cat hs gs a = both (both (same _) (first_kept _ (builds_keeps t) hs gs a))
    (destructions_kept s t (drop 1 hs) (drop 1 gs) (rest_alike hs gs a))
row_kept s (Elements count stride) t cat hs gs a = both (same _) (elements_kept s count stride t hs gs a)
row_kept s Init t cat hs gs a = both (same _) (init_kept s hs gs a)
row_kept s Defer t cat hs gs a = both (same _) (defer_kept s hs gs a)
row_kept s (Loop first) t cat hs gs a = both (same _) (first_kept _ bool_keeps hs gs a)
row_kept s Switch t cat hs gs a = both (same _) (switch_kept hs gs a)
row_kept s Return t cat hs gs a = both (same _) (return_kept (result_of s.function) hs gs a)
row_kept s (Handler place) t cat hs gs a = both (same _) (handler_kept s.classes s.function.frame place t (drop 1 hs) (drop 1 gs) (rest_alike hs gs a))
row_kept s kind t cat hs gs a = same _
