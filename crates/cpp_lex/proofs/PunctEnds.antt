-- How far puncts reach.
use Rattle.std.proofs.Common.{List, ◌≡◌, ℕ, ◌+◌, true, false, refl, arith, slice_index}
use Rattle.cpp_lex.specs.Puncts.{IsPunct, single, double, triple, is_single_punct, is_double_punct, is_triple_punct, opens_comment}
use Rattle.cpp_lex.specs.Readings.{IsFurthest}

data PunctView (text : List ℕ) (from end : ℕ) : Type 0 where
  see_single : opens_comment (slice_index text from) (slice_index text (from + 1)) ≡ false → is_single_punct (slice_index text from) ≡ true → end ≡ from + 1
      → PunctView text from end
  see_double : is_double_punct (slice_index text from) (slice_index text (from + 1)) ≡ true → end ≡ from + 2 → PunctView text from end
  see_triple : is_triple_punct (slice_index text from) (slice_index text (from + 1)) (slice_index text (from + 2)) ≡ true → end ≡ from + 3
      → PunctView text from end

punct_view : (text : List ℕ) (from end : ℕ) → IsPunct text from end → PunctView text from end
punct_view text from end (single no_comment is) = see_single no_comment is refl
punct_view text from end (double is) = see_double is refl
punct_view text from end (triple is) = see_triple is refl

pub triple_end : (text : List ℕ) (from : ℕ) → is_triple_punct (slice_index text from) (slice_index text (from + 1)) (slice_index text (from + 2)) ≡ true
    → IsFurthest (λ to. IsPunct text from to) (from + 3)
triple_end text from is = record {
  reads = triple is;
  furthest = λ end p. elim
      (punct_view text from end p) [ see_single n h e ↦ omega arith | see_double h e ↦ omega arith | see_triple h e ↦ omega arith ];
}

pub double_end : (text : List ℕ) (from : ℕ) → is_triple_punct (slice_index text from) (slice_index text (from + 1)) (slice_index text (from + 2)) ≡ false
    → is_double_punct (slice_index text from) (slice_index text (from + 1)) ≡ true → IsFurthest (λ to. IsPunct text from to) (from + 2)
double_end text from no_triple is = record {
  reads = double is;
  furthest = λ end p. elim
      (punct_view text from end p) [ see_single n h e ↦ omega arith | see_double h e ↦ omega arith | see_triple h e ↦ absurd cc ];
}

pub single_end : (text : List ℕ) (from : ℕ) → is_triple_punct (slice_index text from) (slice_index text (from + 1)) (slice_index text (from + 2)) ≡ false
    → is_double_punct (slice_index text from) (slice_index text (from + 1)) ≡ false
    → opens_comment (slice_index text from) (slice_index text (from + 1)) ≡ false → is_single_punct (slice_index text from) ≡ true
    → IsFurthest (λ to. IsPunct text from to) (from + 1)
single_end text from no_triple no_double no_comment is =
    record {
      reads = single no_comment is;
      furthest =
          λ end p. elim (punct_view text from end p) [ see_single n h e ↦ omega arith | see_double h e ↦ absurd cc | see_triple h e ↦ absurd cc ];
    }

pub no_punct : (text : List ℕ) (from : ℕ) → is_triple_punct (slice_index text from) (slice_index text (from + 1)) (slice_index text (from + 2)) ≡ false
    → is_double_punct (slice_index text from) (slice_index text (from + 1)) ≡ false
    → (opens_comment (slice_index text from) (slice_index text (from + 1)) ≡ false → is_single_punct (slice_index text from) ≡ true → ⊥) → (end : ℕ)
    → IsPunct text from end → ⊥
no_punct text from no_triple no_double no_single end p =
    elim (punct_view text from end p) [ see_single n h e ↦ no_single n h | see_double h e ↦ cc | see_triple h e ↦ cc ]
