-- What spells a piece at a position has the kind that the place's first two bytes leave.
use Rattle.std.proofs.Common.{List, [], ◌∷◌, ◌≡◌, ℕ, ◌+◌, ◌≤◌, ◌⊎◌, inl, inr, Bool, true, false, slice_index, refl, subst, arith, if◌then◌else◌, nat_eq, nat_le}
use Rattle.std.proofs.Common.{◌&&◌, ◌||◌}
use Rattle.std.proofs.lemmas.Bool.Decides.{nat_tests}
use Rattle.std.specs.Char.{is_ascii_digit}
use Rattle.std.specs.List.{list_any, list_all}
use Rattle.cpp_lex.specs.declared.piece.PieceKind.{PieceKind}
use Rattle.cpp_lex.specs.declared.piece.PieceKind.TheVariants.{Blank, LineComment, BlockComment, HashLine, Word, IntegerLiteral, CharacterLiteral}
use Rattle.cpp_lex.specs.declared.piece.PieceKind.TheVariants.{StringLiteral, Punctuator}
use Rattle.cpp_lex.specs.Bytes.{is_letter, is_blank, is_digit}
use Rattle.cpp_lex.specs.Ints.{Digits, one, more, marked, Literal, decimal, octal, prefixed}
use Rattle.cpp_lex.specs.Puncts.{IsPunct, single, double, triple, single_puncts, double_puncts, triple_puncts, is_single_punct, is_double_punct}
use Rattle.cpp_lex.specs.Puncts.{is_triple_punct, is_pair, is_triple, opens_comment}
use Rattle.cpp_lex.specs.Kinds.{kind_by, kind_of}
use Rattle.cpp_lex.specs.Pieces.{Spells, IsLegal, PieceAt, NoPiece}

pub digit_is_no_letter : (b : ℕ) → is_ascii_digit b ≡ true → is_letter b ≡ false
digit_is_no_letter b h = grind (arith, nat_tests)

pub blank_is_no_letter : (b : ℕ) → is_blank b ≡ true → is_letter b ≡ false
blank_is_no_letter b h = grind (arith, nat_tests)

pub blank_is_no_digit : (b : ℕ) → is_blank b ≡ true → is_ascii_digit b ≡ false
blank_is_no_digit b h = grind (arith, nat_tests)

-- a digit of base 10 or less
pub small_digit : (base b : ℕ) → base ≤ 10 → is_digit base b ≡ true → is_ascii_digit b ≡ true
small_digit base b small h = grind (arith, nat_tests)

-- the byte begins neither a word nor a number, a blank, a quoted literal or a # line
abbrev pub is_other : ℕ → Bool
is_other b = if is_letter b || is_ascii_digit b || is_blank b || nat_eq b 39 || nat_eq b 34 || nat_eq b 35 then false else true

or_false : (p q : Bool) → (p || q) ≡ true → (p ≡ true) ⊎ (q ≡ true)
or_false true q h = inl refl
or_false false q h = inr h

and_true : (p q : Bool) → (p && q) ≡ true → (p ≡ true) × (q ≡ true)
and_true true q h = (refl, h)
and_true false q h = absurd cc

same_number : (a b : ℕ) → nat_eq a b ≡ true → a ≡ b
same_number a b h = grind (arith, nat_tests)

-- a byte that stands in a list, all of whose bytes pass a test, passes it
any_single : (test : ℕ → Bool) (xs : List ℕ) (b : ℕ) → list_all test xs ≡ true → list_any (λ x. nat_eq x b) xs ≡ true → test b ≡ true
any_single test [] b all any = absurd cc
any_single test (x ∷ xs) b all any =
    let parts = and_true (test x) (list_all test xs) all in
    elim (or_false (nat_eq x b) (list_any (λ x. nat_eq x b) xs) any) [
      | inl here ↦ subst (λ (n : ℕ). test n ≡ true) (same_number x b here) parts.0
      | inr there ↦ any_single test xs b parts.1 there
    ]

-- the same of the first bytes of pairs and triples, and of the last ones
any_pair : (test : ℕ → Bool) (xs : List (List ℕ)) (b c : ℕ) → list_all (λ x. test (slice_index x 0)) xs ≡ true → list_any (is_pair b c) xs ≡ true
    → test b ≡ true
any_pair test [] b c all any = absurd cc
any_pair test (x ∷ xs) b c all any =
    let parts = and_true (test (slice_index x 0)) (list_all (λ x. test (slice_index x 0)) xs) all in
    elim (or_false (is_pair b c x) (list_any (is_pair b c) xs) any) [
      | inl here ↦ subst (λ (n : ℕ). test n ≡ true) (same_number (slice_index x 0) b (and_true _ _ here).0) parts.0
      | inr there ↦ any_pair test xs b c parts.1 there
    ]

any_pair_end : (test : ℕ → Bool) (xs : List (List ℕ)) (b c : ℕ) → list_all (λ x. test (slice_index x 1)) xs ≡ true → list_any (is_pair b c) xs ≡ true
    → test c ≡ true
any_pair_end test [] b c all any = absurd cc
any_pair_end test (x ∷ xs) b c all any =
    let parts = and_true (test (slice_index x 1)) (list_all (λ x. test (slice_index x 1)) xs) all in
    elim (or_false (is_pair b c x) (list_any (is_pair b c) xs) any) [
      | inl here ↦ subst (λ (n : ℕ). test n ≡ true) (same_number (slice_index x 1) c (and_true _ _ here).1) parts.0
      | inr there ↦ any_pair_end test xs b c parts.1 there
    ]

any_triple : (test : ℕ → Bool) (xs : List (List ℕ)) (b c d : ℕ) → list_all (λ x. test (slice_index x 0)) xs ≡ true → list_any (is_triple b c d) xs ≡ true
    → test b ≡ true
any_triple test [] b c d all any = absurd cc
any_triple test (x ∷ xs) b c d all any =
    let parts = and_true (test (slice_index x 0)) (list_all (λ x. test (slice_index x 0)) xs) all in
    elim (or_false (is_triple b c d x) (list_any (is_triple b c d) xs) any) [
      | inl here ↦ subst (λ (n : ℕ). test n ≡ true) (same_number (slice_index x 0) b (and_true _ _ (and_true _ _ here).0).0) parts.0
      | inr there ↦ any_triple test xs b c d parts.1 there
    ]

any_triple_end : (test : ℕ → Bool) (xs : List (List ℕ)) (b c d : ℕ) → list_all (λ x. test (slice_index x 2)) xs ≡ true → list_any (is_triple b c d) xs ≡ true
    → test d ≡ true
any_triple_end test [] b c d all any = absurd cc
any_triple_end test (x ∷ xs) b c d all any =
    let parts = and_true (test (slice_index x 2)) (list_all (λ x. test (slice_index x 2)) xs) all in
    elim (or_false (is_triple b c d x) (list_any (is_triple b c d) xs) any) [
      | inl here ↦ subst (λ (n : ℕ). test n ≡ true) (same_number (slice_index x 2) d (and_true _ _ here).1) parts.0
      | inr there ↦ any_triple_end test xs b c d parts.1 there
    ]

-- a byte of a punct: not 0, no blank, no part of a word, no quote and no #
abbrev pub is_punct_byte : ℕ → Bool
is_punct_byte b = nat_le 33 b && is_other b

pub single_byte : (b : ℕ) → is_single_punct b ≡ true → is_punct_byte b ≡ true
unfolding is_single_punct single_puncts
single_byte b h = any_single is_punct_byte single_puncts b refl h

pub double_byte : (b c : ℕ) → is_double_punct b c ≡ true → is_punct_byte b ≡ true
unfolding is_double_punct double_puncts
double_byte b c h = any_pair is_punct_byte double_puncts b c refl h

pub double_end : (b c : ℕ) → is_double_punct b c ≡ true → is_punct_byte c ≡ true
unfolding is_double_punct double_puncts
double_end b c h = any_pair_end is_punct_byte double_puncts b c refl h

pub triple_byte : (b c d : ℕ) → is_triple_punct b c d ≡ true → is_punct_byte b ≡ true
unfolding is_triple_punct triple_puncts
triple_byte b c d h = any_triple is_punct_byte triple_puncts b c d refl h

pub triple_end : (b c d : ℕ) → is_triple_punct b c d ≡ true → is_punct_byte d ≡ true
unfolding is_triple_punct triple_puncts
triple_end b c d h = any_triple_end is_punct_byte triple_puncts b c d refl h

-- no pair and no triple begins a comment
abbrev begins_no_comment : List ℕ → Bool
begins_no_comment x = if nat_eq (slice_index x 0) 47 && (nat_eq (slice_index x 1) 47 || nat_eq (slice_index x 1) 42) then false else true

pair_here : (e f b c : ℕ) → (if nat_eq e 47 && (nat_eq f 47 || nat_eq f 42) then false else true) ≡ true → (nat_eq e b && nat_eq f c) ≡ true
    → opens_comment b c ≡ false
pair_here e f b c h g = grind (arith, nat_tests)

pair_no_comment : (xs : List (List ℕ)) (b c : ℕ) → list_all begins_no_comment xs ≡ true → list_any (is_pair b c) xs ≡ true → opens_comment b c ≡ false
pair_no_comment [] b c all any = absurd cc
pair_no_comment (x ∷ xs) b c all any =
    let parts = and_true (begins_no_comment x) (list_all begins_no_comment xs) all in
    elim (or_false (is_pair b c x) (list_any (is_pair b c) xs) any) [
      | inl here ↦ pair_here (slice_index x 0) (slice_index x 1) b c parts.0 here
      | inr there ↦ pair_no_comment xs b c parts.1 there
    ]

triple_no_comment : (xs : List (List ℕ)) (b c d : ℕ) → list_all begins_no_comment xs ≡ true → list_any (is_triple b c d) xs ≡ true → opens_comment b c ≡ false
triple_no_comment [] b c d all any = absurd cc
triple_no_comment (x ∷ xs) b c d all any =
    let parts = and_true (begins_no_comment x) (list_all begins_no_comment xs) all in
    elim (or_false (is_triple b c d x) (list_any (is_triple b c d) xs) any) [
      | inl here ↦ pair_here (slice_index x 0) (slice_index x 1) b c parts.0 (and_true (is_pair b c x) (nat_eq (slice_index x 2) d) here).0
      | inr there ↦ triple_no_comment xs b c d parts.1 there
    ]

-- the first two bytes of a punct: a byte of a punct that begins no comment
pub record PunctFront (b next : ℕ) : Type 0 where
  pub byte : is_punct_byte b ≡ true
  pub no_comment : opens_comment b next ≡ false

pub punct_front : (text : List ℕ) (from to : ℕ) → IsPunct text from to → PunctFront (slice_index text from) (slice_index text (from + 1))
unfolding is_double_punct double_puncts is_triple_punct triple_puncts
punct_front text from to (single no_comment is) = record { byte = single_byte _ is; no_comment = no_comment }
punct_front text from to (double is) =
    let b = slice_index text from in
    let c = slice_index text (from + 1) in
    record { byte = double_byte b c is; no_comment = pair_no_comment double_puncts b c refl is }
punct_front text from to (triple is) =
    let b = slice_index text from in
    let c = slice_index text (from + 1) in
    let d = slice_index text (from + 2) in
    record { byte = triple_byte b c d is; no_comment = triple_no_comment triple_puncts b c d refl is }

pub digits_first : (base : ℕ) (text : List ℕ) (from to : ℕ) → Digits base text from to → is_digit base (slice_index text from) ≡ true
digits_first base text from to (one d) = d
digits_first base text from to (more {at = at} ds d) = digits_first base text from at ds
digits_first base text from to (marked {at = at} ds m d) = digits_first base text from at ds

zero_digit : (b : ℕ) → b ≡ 48 → is_ascii_digit b ≡ true
zero_digit b h = grind (arith, nat_tests)

literal_first : (text : List ℕ) (from to : ℕ) → Literal text from to → is_ascii_digit (slice_index text from) ≡ true
literal_first text from to (decimal not_zero ds) = small_digit 10 (slice_index text from) (omega arith) (digits_first 10 text from to ds)
literal_first text from to (octal is ds) = zero_digit (slice_index text from) is
literal_first text from to (prefixed is p) = zero_digit (slice_index text from) is

by_parts : (b next : ℕ) → is_punct_byte b ≡ true → opens_comment b next ≡ false → kind_by b next ≡ Punctuator
unfolding kind_by
by_parts b next h g = grind (arith, nat_tests)

-- the kind that spells at a position is that of the first two bytes
pub kind_spelled : (text : List ℕ) (kind : PieceKind) (from to : ℕ) → Spells text kind from to → kind_of text from ≡ kind
unfolding kind_by
kind_spelled text Blank from to s = rw (blank_is_no_letter (slice_index text from) s.first, blank_is_no_digit (slice_index text from) s.first, s.first) refl
kind_spelled text LineComment from to s = rw (s.opened.one, s.opened.two) refl
kind_spelled text BlockComment from to s = rw (s.opened.one, s.opened.two) refl
kind_spelled text HashLine from to s = rw s.hash refl
kind_spelled text Word from to s = rw s.first refl
kind_spelled text IntegerLiteral from to s = let d = literal_first text from s.digits_end s.digits in rw (digit_is_no_letter (slice_index text from) d, d) refl
kind_spelled text CharacterLiteral from to s = rw s.opened refl
kind_spelled text StringLiteral from to s = rw s.opened refl
kind_spelled text Punctuator from to s = let f = punct_front text from to s in
    by_parts (slice_index text from) (slice_index text (from + 1)) f.byte f.no_comment

-- a piece from its kind's own readings
pub piece_by : (text : List ℕ) (kind : PieceKind) (from to : ℕ) → Spells text kind from to → ((end : ℕ) → Spells text kind from end → end ≤ to)
    → IsLegal text kind from to → PieceAt text kind from to
piece_by text kind from to spelled longest legal = record {
  spelled = spelled;
  longest = λ other end o.
      let same : other ≡ kind = let e = kind_spelled text kind from to spelled in let f = kind_spelled text other from end o in cc in
      longest end (subst (λ (k : PieceKind). Spells text k from end) same o);
  legal = legal;
}

pub none_by_kind : (text : List ℕ) (kind : PieceKind) (from : ℕ) → kind_of text from ≡ kind → ((to : ℕ) → PieceAt text kind from to → ⊥) → NoPiece text from
none_by_kind text kind from e h other to p =
    let same : other ≡ kind = let f = kind_spelled text other from to p.spelled in cc in
    h to (subst (λ (k : PieceKind). PieceAt text k from to) same p)
