-- The beginnings of lines, and the markers of # lines.
use Rattle.std.proofs.Common.{List, ◌≡◌, ◌≢◌, ℕ, ◌+◌, ◌-◌, ◌<◌, inl, inr, true, false, length, sym, ◌∙◌, subst, ap, arith, slice_index, slice_range}
use Rattle.std.proofs.lemmas.Bool.{cases_lt}
use Rattle.std.proofs.lemmas.Bool.Decides.{nat_tests}
use Rattle.std.specs.Char.{is_ascii_digit}
use Rattle.cpp_lex.specs.Bytes.{is_blank, is_line_blank, Run}
use Rattle.cpp_lex.specs.Skipped.{IsFirstOnLine, IsMarker, IsHashLine}
use Rattle.cpp_lex.specs.Readings.{IsFurthest}
use Rattle.cpp_lex.proofs.Values.{range_at}

digit_is_no_blank : (b : ℕ) → is_ascii_digit b ≡ true → is_line_blank b ≡ false
digit_is_no_blank b h = grind (arith, nat_tests)

p_is_no_blank : (b : ℕ) → b ≡ 112 → is_line_blank b ≡ false
p_is_no_blank b h = grind (arith, nat_tests)

marker_is_no_blank : (text : List ℕ) (at : ℕ) → IsMarker text at → is_line_blank (slice_index text at) ≡ false
marker_is_no_blank text at m = elim m [
  | inl digit ↦ digit_is_no_blank (slice_index text at) digit
  | inr pragma ↦
      let first = range_at text at (at + 6) 0 (omega arith) in
      let there : slice_index (slice_range text at (at + 6)) 0 ≡ 112 = ap (λ (bytes : List ℕ). slice_index bytes 0) pragma.word in
      let position : at + 0 ≡ at = omega arith in
      let same : slice_index text at ≡ 112 = sym (first ∙ ap (slice_index text) position) ∙ there in
      p_is_no_blank (slice_index text at) same
]

pub same_marker : (text : List ℕ) (from at end : ℕ) → IsFurthest (Run is_line_blank text (from + 1)) at → (s : IsHashLine text from end)
    → is_line_blank (slice_index text at) ≡ false → s.marker_at ≡ at
same_marker text from at end blanks s no_blank = elim (cases_lt s.marker_at at) [
  | inl h ↦
      let ordered = s.blanks.ordered in
      let yes : is_line_blank (slice_index text s.marker_at) ≡ true = blanks.reads.each s.marker_at ordered h in
      let no_marker = marker_is_no_blank text s.marker_at s.marker in
      absurd cc
  | inr h ↦ let far = blanks.furthest s.marker_at s.blanks in omega arith
]

pub no_hash_line : (text : List ℕ) (from at : ℕ) → IsFurthest (Run is_line_blank text (from + 1)) at → (IsMarker text at → ⊥) → (end : ℕ)
    → IsHashLine text from end → ⊥
no_hash_line text from at blanks no_marker end s = elim (cases_lt s.marker_at at) [
  | inl h ↦
      let ordered = s.blanks.ordered in
      let yes : is_line_blank (slice_index text s.marker_at) ≡ true = blanks.reads.each s.marker_at ordered h in
      let no_blank = marker_is_no_blank text s.marker_at s.marker in
      absurd cc
  | inr h ↦
      let far = blanks.furthest s.marker_at s.blanks in
      let same : s.marker_at ≡ at = omega arith in
      no_marker (subst (λ (n : ℕ). IsMarker text n) same s.marker)
]

-- behind the end of a line
pub first_of_next : (text : List ℕ) (at : ℕ) → at < length text → slice_index text at ≡ 10 → IsFirstOnLine text (at + 1)
first_of_next text at h newline =
    let same : at ≡ at + 1 - 1 = omega arith in
    record {
      line = at + 1;
      begins = inr (omega arith, subst (λ (n : ℕ). slice_index text n ≡ 10) same newline);
      blanks = record { ordered = omega arith; inside = omega arith; each = λ k low high. absurd (omega arith) };
    }

line_blank : (b : ℕ) → is_blank b ≡ true → b ≢ 10 → is_line_blank b ≡ true
line_blank b h other = grind (arith, nat_tests)

-- one blank further
pub first_further : (text : List ℕ) (at : ℕ) → at < length text → is_blank (slice_index text at) ≡ true → slice_index text at ≢ 10 → IsFirstOnLine text at
    → IsFirstOnLine text (at + 1)
first_further text at h blank other f =
    let ordered = f.blanks.ordered in
    record {
      line = f.line;
      begins = f.begins;
      blanks = record {
        ordered = omega arith;
        inside = omega arith;
        each = λ k low high. elim (cases_lt k at) [
          | inl g ↦ f.blanks.each k low g
          | inr g ↦ let same : at ≡ k = omega arith in
              subst (λ (n : ℕ). is_line_blank (slice_index text n) ≡ true) same (line_blank (slice_index text at) blank other)
        ];
      };
    }

pub first_before : (text : List ℕ) (at : ℕ) → at < length text → slice_index text at ≢ 10 → IsFirstOnLine text (at + 1) → IsFirstOnLine text at
first_before text at h other f = elim (cases_lt at f.line) [
  | inr g ↦ record {
    line = f.line;
    begins = f.begins;
    blanks = record { ordered = g; inside = omega arith; each = λ k low high. f.blanks.each k low (omega arith) };
  }
  | inl g ↦
      let ordered = f.blanks.ordered in
      elim f.begins [
        | inl z ↦ absurd (omega arith)
        | inr b ↦ let same : f.line - 1 ≡ at = omega arith in absurd (other (subst (λ (n : ℕ). slice_index text n ≡ 10) same b.1))
      ]
]
