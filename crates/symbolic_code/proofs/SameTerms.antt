-- Terms that are found to be the same are.
use Rattle.std.proofs.Common.{◌≡◌, ◌==◌, true, ◌&&◌, refl, ap, ap₂, sym, ◌∙◌, Option, Some}
use Rattle.std.specs.Prelude.{slice_get}
use Rattle.std.proofs.lemmas.Bool.{and_parts, eqb-true, true≢false}
use Rattle.tx_ints.specs.declared.kinds.IntKind.{IntKind}
use Rattle.tx_ints.specs.declared.kinds.IntKind.TheVariants.{Bool as BoolKind, Char, SChar, UChar, Short, UShort, Int, UInt, Long, ULong, LLong, ULLong}
use Rattle.tx_ints.specs.declared.kinds.BinOp.{BinOp}
use Rattle.tx_ints.specs.declared.kinds.BinOp.TheVariants.{Add, Sub, Mul, Div, Rem, Shl, Shr, And, Xor, Or, Lt, Gt, Le, Ge, Eq, Ne}
use Rattle.tx_code.specs.Meaning.{kinds, operators}
use Rattle.symbolic_source.specs.Terms.{Term, number, variable, local, global, function, table, slot_function, sum, product, before, low_byte, converted_to}
use Rattle.symbolic_source.specs.Terms.{result, field, Exception, unknown}
use Rattle.symbolic_code.specs.Same.{kind_place, operator_place, same_number, same_operator, same_exception, same_term}

pub kind_found : (k : IntKind) → slice_get kinds (kind_place k) ≡ Some k
kind_found BoolKind = refl
kind_found Char = refl
kind_found SChar = refl
kind_found UChar = refl
kind_found Short = refl
kind_found UShort = refl
kind_found Int = refl
kind_found UInt = refl
kind_found Long = refl
kind_found ULong = refl
kind_found LLong = refl
kind_found ULLong = refl

pub operator_found : (o : BinOp) → slice_get operators (operator_place o) ≡ Some o
operator_found Add = refl
operator_found Sub = refl
operator_found Mul = refl
operator_found Div = refl
operator_found Rem = refl
operator_found Shl = refl
operator_found Shr = refl
operator_found And = refl
operator_found Xor = refl
operator_found Or = refl
operator_found Lt = refl
operator_found Gt = refl
operator_found Le = refl
operator_found Ge = refl
operator_found Eq = refl
operator_found Ne = refl

some_same : {A : Type 0} (a b : A) (o : Option A) → o ≡ Some a → o ≡ Some b → a ≡ b
some_same a b o e h = cc

pub number_same : (j k : IntKind) → same_number j k ≡ true → j ≡ k
number_same j k e = some_same j k (slice_get kinds (kind_place j)) (kind_found j)
    (ap (λ z. slice_get kinds z) (eqb-true (kind_place j) (kind_place k) e) ∙ kind_found k)

pub operator_same : (o q : BinOp) → same_operator o q ≡ true → o ≡ q
operator_same o q e = some_same o q (slice_get operators (operator_place o)) (operator_found o)
    (ap (λ z. slice_get operators z) (eqb-true (operator_place o) (operator_place q) e) ∙ operator_found q)

exception_same : (e g : Exception) → same_exception e g ≡ true → e ≡ g
exception_same (unknown m) (unknown n) h = ap unknown (eqb-true m n h)
exception_same e g h = absurd (true≢false (sym h))

pub term_same : (a b : Term) → same_term a b ≡ true → a ≡ b
term_same (number m) (number n) h = ap number (eqb-true m n h)
term_same (variable m) (variable n) h = ap variable (eqb-true m n h)
term_same (local m) (local n) h = ap local (eqb-true m n h)
term_same (global m) (global n) h = ap global (eqb-true m n h)
term_same (function m) (function n) h = ap function (eqb-true m n h)
term_same (table m) (table n) h = ap table (eqb-true m n h)
term_same (slot_function c s a) (slot_function d t b) h =
    let g = and_parts ((c == d) && (s == t)) (same_term a b) h in
    let l = and_parts (c == d) (s == t) g.0 in
    ap₂ (λ u v. slot_function u v a) (eqb-true c d l.0) (eqb-true s t l.1) ∙ ap (λ z. slot_function d t z) (term_same a b g.1)
term_same (sum a b) (sum c d) h = let g = and_parts (same_term a c) (same_term b d) h in ap₂ sum (term_same a c g.0) (term_same b d g.1)
term_same (product a b) (product c d) h = let g = and_parts (same_term a c) (same_term b d) h in ap₂ product (term_same a c g.0) (term_same b d g.1)
term_same (before a) (before c) h = ap before (term_same a c h)
term_same (low_byte a) (low_byte c) h = ap low_byte (term_same a c h)
term_same (converted_to j a) (converted_to k c) h = let g = and_parts (same_number j k) (same_term a c) h in
    ap₂ converted_to (number_same j k g.0) (term_same a c g.1)
term_same (result o j a b) (result q k c d) h =
    let g = and_parts (same_operator o q && same_number j k) (same_term a c && same_term b d) h in
    let s = and_parts (same_operator o q) (same_number j k) g.0 in
    let t = and_parts (same_term a c) (same_term b d) g.1 in
    ap₂ (λ u v. result u v a b) (operator_same o q s.0) (number_same j k s.1) ∙ ap₂ (λ u v. result q k u v) (term_same a c t.0) (term_same b d t.1)
term_same (field e m n) (field g i j) h =
    let s = and_parts (same_exception e g && (m == i)) (n == j) h in
    let t = and_parts (same_exception e g) (m == i) s.0 in
    ap₂ (λ u v. field u v n) (exception_same e g t.0) (eqb-true m i t.1) ∙ ap (λ z. field g i z) (eqb-true n j s.1)
term_same a b h = absurd (true≢false (sym h))
