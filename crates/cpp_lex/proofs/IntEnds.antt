-- How far integer literals reach.
use Rattle.std.proofs.Common.{List, ◌≡◌, ◌≢◌, ℕ, ◌+◌, ◌<◌, ◌≤◌, ◌⊎◌, inl, inr, true, false, length, Option, Some, None, refl, ◌∙◌, subst, ap, arith}
use Rattle.std.proofs.Common.{slice_index}
use Rattle.std.proofs.Math.ListN.{get_or-eq_default}
use Rattle.std.proofs.lemmas.Bool.{cases_lt}
use Rattle.std.proofs.lemmas.Bool.Decides.{nat_tests}
use Rattle.cpp_lex.specs.Bytes.{is_digit}
use Rattle.cpp_lex.specs.Ints.{Digits, one, more, marked, Prefixed, hexadecimal, binary, Literal, decimal, octal, prefixed, LongSuffix, one_l, two_l, Suffix}
use Rattle.cpp_lex.specs.Ints.{no_suffix, only_u, only_l, u_then_l, l_then_u, is_u, is_l, IsInt}
use Rattle.cpp_lex.specs.Readings.{IsFurthest, IsLongest}
use Rattle.cpp_lex.proofs.Fronts.{digits_first}
use Rattle.cpp_lex.proofs.Ends.{digits_within, prefixed_within, literal_within, long_within, suffix_from}

-- the last byte of digits is one
record LastDigit (base : ℕ) (text : List ℕ) (to : ℕ) : Type 0 where
  position : ℕ
  ends : to ≡ position + 1
  digit : is_digit base (slice_index text position) ≡ true

last_digit : (base : ℕ) (text : List ℕ) (from to : ℕ) → Digits base text from to → LastDigit base text to
last_digit base text from to (one d) = record { position = from; ends = refl; digit = d }
last_digit base text from to (more {at = at} ds d) = record { position = at; ends = refl; digit = d }
last_digit base text from to (marked {at = at} ds m d) = record { position = at + 1; ends = omega arith; digit = d }

mark_is_no_digit : (base b : ℕ) → b ≡ 39 → is_digit base b ≡ true → ⊥
mark_is_no_digit base b e h = grind (arith, nat_tests)

pub digits_furthest : (base : ℕ) (text : List ℕ) (from at : ℕ) → Digits base text from at → is_digit base (slice_index text at) ≡ false
    → (slice_index text at ≡ 39 → is_digit base (slice_index text (at + 1)) ≡ false) → (end : ℕ) → Digits base text from end → end ≤ at
digits_furthest base text from at here no_digit no_mark end (one d) = let w = digits_within base text from at here in omega (arith, w.after)
digits_furthest base text from at here no_digit no_mark end (more {at = position} ds d) =
    let before : position ≤ at = digits_furthest base text from at here no_digit no_mark position ds in
    elim (cases_lt position at) [
      | inl h ↦ omega arith
      | inr h ↦ let same : position ≡ at = omega arith in let yes : is_digit base (slice_index text at) ≡ true =
          subst (λ (n : ℕ). is_digit base (slice_index text n) ≡ true) same d in absurd cc
    ]
digits_furthest base text from at here no_digit no_mark end (marked {at = position} ds m d) =
    let before : position ≤ at = digits_furthest base text from at here no_digit no_mark position ds in
    let last = last_digit base text from at here in
    let ends : at ≡ last.position + 1 = last.ends in
    elim (cases_lt (position + 1) at) [
      | inl h ↦ omega arith
      | inr h ↦ elim (cases_lt position at) [
        | inl g ↦ let same : last.position ≡ position = omega arith in
            absurd (mark_is_no_digit base (slice_index text position) m (subst (λ (n : ℕ). is_digit base (slice_index text n) ≡ true) same last.digit))
        | inr g ↦
            let same : position ≡ at = omega arith in
            let mark : slice_index text at ≡ 39 = subst (λ (n : ℕ). slice_index text n ≡ 39) same m in
            let yes : is_digit base (slice_index text (at + 1)) ≡ true = subst (λ (n : ℕ). is_digit base (slice_index text (n + 1)) ≡ true) same d in
            let no_digit_there = no_mark mark in
            absurd cc
      ]
    ]

pub no_digits : (base : ℕ) (text : List ℕ) (from end : ℕ) → is_digit base (slice_index text from) ≡ false → Digits base text from end → ⊥
no_digits base text from end h ds = let d = digits_first base text from end ds in cc

-- the byte behind the end of a text is 0
pub behind_end : (text : List ℕ) (at : ℕ) → length text ≤ at → slice_index text at ≡ 0
behind_end text at h = get_or-eq_default text 0 h

zero_is_no_digit : (base b : ℕ) → b ≡ 0 → is_digit base b ≡ false
zero_is_no_digit base b e = grind (arith, nat_tests)

pub end_is_no_digit : (base : ℕ) (text : List ℕ) (at : ℕ) → length text ≤ at → is_digit base (slice_index text at) ≡ false
end_is_no_digit base text at h = zero_is_no_digit base (slice_index text at) (behind_end text at h)

pub end_is_no_mark : (text : List ℕ) (at : ℕ) → length text ≤ at → slice_index text at ≡ 39 → ⊥
end_is_no_mark text at h e = let z = behind_end text at h in omega arith

-- literals that do not begin with 0
pub decimal_end : (text : List ℕ) (from : ℕ) → slice_index text from ≢ 48 → (o : Option ℕ) → IsLongest (λ to. Digits 10 text from to) o
    → IsLongest (λ to. Literal text from to) o
decimal_end text from other None none = λ end l. elim l [
  | decimal is ds ↦ none end ds
  | octal is ds ↦ other is
  | prefixed is p ↦ other is
]
decimal_end text from other (Some to) here = record {
  reads = decimal other here.reads;
  furthest = λ end l. elim l [
    | decimal is ds ↦ here.furthest end ds
    | octal is ds ↦ absurd (other is)
    | prefixed is p ↦ absurd (other is)
  ];
}

-- x and hexadecimal digits, b and binary digits, or neither
pub hexadecimal_end : (text : List ℕ) (from : ℕ) → slice_index text (from + 1) ≡ 120 → (o : Option ℕ) → IsLongest (λ to. Digits 16 text (from + 2) to) o
    → IsLongest (λ to. Prefixed text from to) o
hexadecimal_end text from is_x None none = λ end p. elim p [
  | hexadecimal is ds ↦ none end ds
  | binary is ds ↦ absurd (omega arith)
]
hexadecimal_end text from is_x (Some to) here = record {
  reads = hexadecimal is_x here.reads;
  furthest = λ end p. elim p [
    | hexadecimal is ds ↦ here.furthest end ds
    | binary is ds ↦ absurd (omega arith)
  ];
}

pub binary_end : (text : List ℕ) (from : ℕ) → slice_index text (from + 1) ≡ 98 → (o : Option ℕ) → IsLongest (λ to. Digits 2 text (from + 2) to) o
    → IsLongest (λ to. Prefixed text from to) o
binary_end text from is_b None none = λ end p. elim p [
  | hexadecimal is ds ↦ absurd (omega arith)
  | binary is ds ↦ none end ds
]
binary_end text from is_b (Some to) here = record {
  reads = binary is_b here.reads;
  furthest = λ end p. elim p [
    | hexadecimal is ds ↦ absurd (omega arith)
    | binary is ds ↦ here.furthest end ds
  ];
}

pub no_prefix : (text : List ℕ) (from : ℕ) → slice_index text (from + 1) ≢ 120 → slice_index text (from + 1) ≢ 98 → (end : ℕ) → Prefixed text from end → ⊥
no_prefix text from no_x no_b end p = elim p [
  | hexadecimal is ds ↦ no_x is
  | binary is ds ↦ no_b is
]

-- a literal that begins with 0: the octal digits reach no further than a prefixed literal
letter_ends : (b : ℕ) → (b ≡ 120) ⊎ (b ≡ 98) → (is_digit 8 b ≡ false) × (b ≢ 39)
letter_ends b h = elim h [ inl x ↦ (grind (arith, nat_tests), λ e. omega arith) | inr y ↦ (grind (arith, nat_tests), λ e. omega arith) ]

zero_is_octal : (b : ℕ) → b ≡ 48 → is_digit 8 b ≡ true
zero_is_octal b h = grind (arith, nat_tests)

prefix_letter : (text : List ℕ) (from to : ℕ) → Prefixed text from to → (slice_index text (from + 1) ≡ 120) ⊎ (slice_index text (from + 1) ≡ 98)
prefix_letter text from to (hexadecimal is ds) = inl is
prefix_letter text from to (binary is ds) = inr is

octal_short : (text : List ℕ) (from to : ℕ) → slice_index text from ≡ 48 → Prefixed text from to → (end : ℕ) → Digits 8 text from end → end ≤ from + 1
octal_short text from to is p end ds =
    let letter = letter_ends (slice_index text (from + 1)) (prefix_letter text from to p) in
    digits_furthest 8 text from (from + 1) (one (zero_is_octal (slice_index text from) is)) letter.0 (λ e. absurd (letter.1 e)) end ds

pub prefixed_end : (text : List ℕ) (from to : ℕ) → slice_index text from ≡ 48 → IsFurthest (λ to. Prefixed text from to) to
    → IsFurthest (λ to. Literal text from to) to
prefixed_end text from to is_zero here =
    let w = prefixed_within text from to here.reads in
    record {
      reads = prefixed is_zero here.reads;
      furthest = λ end l. elim l [
        | decimal is ds ↦ absurd (is is_zero)
        | octal is ds ↦ let short = octal_short text from to is_zero here.reads end ds in let after = w.after in omega arith
        | prefixed is p ↦ here.furthest end p
      ];
    }

pub octal_end : (text : List ℕ) (from : ℕ) → slice_index text from ≡ 48 → ((end : ℕ) → Prefixed text from end → ⊥) → (o : Option ℕ)
    → IsLongest (λ to. Digits 8 text from to) o → IsLongest (λ to. Literal text from to) o
octal_end text from is_zero unprefixed None none = λ end l. elim l [
  | decimal is ds ↦ is is_zero
  | octal is ds ↦ none end ds
  | prefixed is p ↦ unprefixed end p
]
octal_end text from is_zero unprefixed (Some to) here = record {
  reads = octal is_zero here.reads;
  furthest = λ end l. elim l [
    | decimal is ds ↦ absurd (is is_zero)
    | octal is ds ↦ here.furthest end ds
    | prefixed is p ↦ absurd (unprefixed end p)
  ];
}

-- suffixes, with their ends as equations
data LongView (text : List ℕ) (at end : ℕ) : Type 0 where
  see_one : is_l (slice_index text at) ≡ true → end ≡ at + 1 → LongView text at end
  see_two : is_l (slice_index text at) ≡ true → slice_index text (at + 1) ≡ slice_index text at → end ≡ at + 2 → LongView text at end

long_view : (text : List ℕ) (at end : ℕ) → LongSuffix text at end → LongView text at end
long_view text at end (one_l is) = see_one is refl
long_view text at end (two_l is e) = see_two is e refl

data SuffixView (text : List ℕ) (at end : ℕ) : Type 0 where
  see_none : end ≡ at → SuffixView text at end
  see_u : is_u (slice_index text at) ≡ true → end ≡ at + 1 → SuffixView text at end
  see_l : LongSuffix text at end → SuffixView text at end
  see_u_l : is_u (slice_index text at) ≡ true → LongSuffix text (at + 1) end → SuffixView text at end
  see_l_u : (mid : ℕ) → LongSuffix text at mid → is_u (slice_index text mid) ≡ true → end ≡ mid + 1 → SuffixView text at end

suffix_view : (text : List ℕ) (at end : ℕ) → Suffix text at end → SuffixView text at end
suffix_view text at end no_suffix = see_none refl
suffix_view text at end (only_u u) = see_u u refl
suffix_view text at end (only_l l) = see_l l
suffix_view text at end (u_then_l u l) = see_u_l u l
suffix_view text at end (l_then_u {mid = mid} l u) = see_l_u mid l u refl

pub no_long : (text : List ℕ) (at : ℕ) → is_l (slice_index text at) ≡ false → (end : ℕ) → LongSuffix text at end → ⊥
no_long text at h end l = elim (long_view text at end l) [ see_one is e ↦ cc | see_two is e f ↦ cc ]

pub two_end : (text : List ℕ) (at : ℕ) → is_l (slice_index text at) ≡ true → slice_index text (at + 1) ≡ slice_index text at
    → IsFurthest (λ to. LongSuffix text at to) (at + 2)
two_end text at is e = record {
  reads = two_l is e;
  furthest = λ end l. elim
      (long_view text at end l) [ see_one is2 ends ↦ omega arith | see_two is2 e2 ends ↦ omega arith ];
}

pub one_end : (text : List ℕ) (at : ℕ) → is_l (slice_index text at) ≡ true → slice_index text (at + 1) ≢ slice_index text at
    → IsFurthest (λ to. LongSuffix text at to) (at + 1)
one_end text at is e = record {
  reads = one_l is;
  furthest = λ end l. elim
      (long_view text at end l) [ see_one is2 ends ↦ omega arith | see_two is2 e2 ends ↦ absurd (e e2) ];
}

u_is_no_l : (b : ℕ) → is_u b ≡ true → is_l b ≡ false
u_is_no_l b h = grind (arith, nat_tests)

pub u_l_end : (text : List ℕ) (at to : ℕ) → is_u (slice_index text at) ≡ true → IsFurthest (λ to. LongSuffix text (at + 1) to) to
    → IsFurthest (λ to. Suffix text at to) to
u_l_end text at to u here =
    let w = long_within text (at + 1) to here.reads in
    let after = w.after in
    let none = no_long text at (u_is_no_l (slice_index text at) u) in
    record {
      reads = u_then_l u here.reads;
      furthest = λ end s. elim (suffix_view text at end s) [
        | see_none ends ↦ omega arith
        | see_u u2 ends ↦ omega arith
        | see_l l ↦ absurd (none end l)
        | see_u_l u2 l ↦ here.furthest end l
        | see_l_u mid l u2 ends ↦ absurd (none mid l)
      ];
    }

pub u_end : (text : List ℕ) (at : ℕ) → is_u (slice_index text at) ≡ true → ((end : ℕ) → LongSuffix text (at + 1) end → ⊥)
    → IsFurthest (λ to. Suffix text at to) (at + 1)
u_end text at u none_behind =
    let none = no_long text at (u_is_no_l (slice_index text at) u) in
    record {
      reads = only_u u;
      furthest = λ end s. elim (suffix_view text at end s) [
        | see_none ends ↦ omega arith
        | see_u u2 ends ↦ omega arith
        | see_l l ↦ absurd (none end l)
        | see_u_l u2 l ↦ absurd (none_behind end l)
        | see_l_u mid l u2 ends ↦ absurd (none mid l)
      ];
    }

pub plain_end : (text : List ℕ) (at : ℕ) → is_u (slice_index text at) ≡ false → ((end : ℕ) → LongSuffix text at end → ⊥)
    → IsFurthest (λ to. Suffix text at to) at
plain_end text at no_u none = record {
  reads = no_suffix;
  furthest = λ end s. elim (suffix_view text at end s) [
    | see_none ends ↦ omega arith
    | see_u u2 ends ↦ absurd cc
    | see_l l ↦ absurd (none end l)
    | see_u_l u2 l ↦ absurd cc
    | see_l_u mid l u2 ends ↦ absurd (none mid l)
  ];
}

l_is_no_u : (b : ℕ) → is_l b ≡ true → is_u b ≡ false
l_is_no_u b h = grind (arith, nat_tests)

-- a u behind a long suffix stands behind the longest one
u_at_end : (text : List ℕ) (at mid end : ℕ) → IsFurthest (λ to. LongSuffix text at to) end → LongSuffix text at mid → is_u (slice_index text mid) ≡ true
    → mid ≡ end
u_at_end text at mid end here l u =
    elim (long_view text at end here.reads) [
      | see_one is ends ↦ elim (long_view text at mid l) [
        | see_one is2 ends2 ↦ omega arith
        | see_two is2 e2 ends2 ↦ let h = here.furthest mid l in absurd (omega arith)
      ]
      | see_two is e ends ↦ elim (long_view text at mid l) [
        | see_one is2 ends2 ↦
            let second : slice_index text mid ≡ slice_index text at = ap (slice_index text) ends2 ∙ e in
            let no_u : is_u (slice_index text mid) ≡ false = rw second (l_is_no_u (slice_index text at) is) in
            absurd cc
        | see_two is2 e2 ends2 ↦ omega arith
      ]
    ]

pub l_u_end : (text : List ℕ) (at to : ℕ) → is_u (slice_index text at) ≡ false → IsFurthest (λ to. LongSuffix text at to) to → is_u (slice_index text to) ≡ true
    → IsFurthest (λ to. Suffix text at to) (to + 1)
l_u_end text at to no_u here u =
    let w = long_within text at to here.reads in
    let after = w.after in
    record {
      reads = l_then_u here.reads u;
      furthest = λ end s. elim (suffix_view text at end s) [
        | see_none ends ↦ omega arith
        | see_u u2 ends ↦ absurd cc
        | see_l l ↦ let h = here.furthest end l in omega arith
        | see_u_l u2 l ↦ absurd cc
        | see_l_u mid l u2 ends ↦ let h = here.furthest mid l in omega arith
      ];
    }

pub l_end : (text : List ℕ) (at to : ℕ) → is_u (slice_index text at) ≡ false → IsFurthest (λ to. LongSuffix text at to) to → is_u (slice_index text to) ≡ false
    → IsFurthest (λ to. Suffix text at to) to
l_end text at to no_u here no_u_behind =
    let w = long_within text at to here.reads in
    let after = w.after in
    record {
      reads = only_l here.reads;
      furthest = λ end s. elim (suffix_view text at end s) [
        | see_none ends ↦ omega arith
        | see_u u2 ends ↦ absurd cc
        | see_l l ↦ here.furthest end l
        | see_u_l u2 l ↦ absurd cc
        | see_l_u mid l u2 ends ↦ let e : mid ≡ to = u_at_end text at mid to here l u2 in let u3 : is_u (slice_index text to) ≡ true =
            subst (λ (n : ℕ). is_u (slice_index text n) ≡ true) e u2 in absurd cc
      ];
    }

-- integers

-- a byte that no suffix begins with
record NoSuffix (b : ℕ) : Type 0 where
  no_u : is_u b ≡ false
  no_l : is_l b ≡ false

digit_no_u : (base b : ℕ) → is_digit base b ≡ true → is_u b ≡ false
digit_no_u base b h = grind (arith, nat_tests)

digit_no_l : (base b : ℕ) → is_digit base b ≡ true → is_l b ≡ false
digit_no_l base b h = grind (arith, nat_tests)

mark_no_u : (b n : ℕ) → b ≡ n → (n ≡ 39) ⊎ ((n ≡ 120) ⊎ (n ≡ 98)) → is_u b ≡ false
mark_no_u b n e h = grind (arith, nat_tests)

mark_no_l : (b n : ℕ) → b ≡ n → (n ≡ 39) ⊎ ((n ≡ 120) ⊎ (n ≡ 98)) → is_l b ≡ false
mark_no_l b n e h = grind (arith, nat_tests)

digit_no_suffix : (base b : ℕ) → is_digit base b ≡ true → NoSuffix b
digit_no_suffix base b h = record { no_u = digit_no_u base b h; no_l = digit_no_l base b h }

mark_no_suffix : (b n : ℕ) → b ≡ n → (n ≡ 39) ⊎ ((n ≡ 120) ⊎ (n ≡ 98)) → NoSuffix b
mark_no_suffix b n e h = record { no_u = mark_no_u b n e h; no_l = mark_no_l b n e h }

-- a byte of digits begins no suffix
digits_no_suffix : (base : ℕ) (text : List ℕ) (from to : ℕ) → Digits base text from to → (k : ℕ) → from ≤ k → k < to → NoSuffix (slice_index text k)
digits_no_suffix base text from to (one d) k low high = let same : from ≡ k = omega arith in
    subst (λ (n : ℕ). NoSuffix (slice_index text n)) same (digit_no_suffix base (slice_index text from) d)
digits_no_suffix base text from to (more {at = at} ds d) k low high = elim (cases_lt k at) [
  | inl h ↦ digits_no_suffix base text from at ds k low h
  | inr h ↦ let same : at ≡ k = omega arith in subst (λ (n : ℕ). NoSuffix (slice_index text n)) same (digit_no_suffix base (slice_index text at) d)
]
digits_no_suffix base text from to (marked {at = at} ds m d) k low high = elim (cases_lt k at) [
  | inl h ↦ digits_no_suffix base text from at ds k low h
  | inr h ↦ elim (cases_lt at k) [
    | inl g ↦ let same : at + 1 ≡ k = omega arith in subst (λ (n : ℕ). NoSuffix (slice_index text n)) same (digit_no_suffix base (slice_index text (at + 1)) d)
    | inr g ↦ let same : at ≡ k = omega arith in subst (λ (n : ℕ). NoSuffix (slice_index text n)) same (mark_no_suffix (slice_index text at) 39 m (inl refl))
  ]
]

behind_prefix : (base : ℕ) (text : List ℕ) (from to letter : ℕ) → slice_index text (from + 1) ≡ letter → (letter ≡ 39) ⊎ ((letter ≡ 120) ⊎ (letter ≡ 98))
    → Digits base text (from + 2) to → (k : ℕ) → from < k → k < to → NoSuffix (slice_index text k)
behind_prefix base text from to letter e h ds k low high = elim (cases_lt k (from + 2)) [
  | inl g ↦ let same : from + 1 ≡ k = omega arith in subst (λ (n : ℕ). NoSuffix (slice_index text n)) same
      (mark_no_suffix (slice_index text (from + 1)) letter e h)
  | inr g ↦ digits_no_suffix base text (from + 2) to ds k g high
]

prefixed_no_suffix : (text : List ℕ) (from to : ℕ) → Prefixed text from to → (k : ℕ) → from < k → k < to → NoSuffix (slice_index text k)
prefixed_no_suffix text from to (hexadecimal is ds) k low high = behind_prefix 16 text from to 120 is (inr (inl refl)) ds k low high
prefixed_no_suffix text from to (binary is ds) k low high = behind_prefix 2 text from to 98 is (inr (inr refl)) ds k low high

literal_no_suffix : (text : List ℕ) (from to : ℕ) → Literal text from to → (k : ℕ) → from < k → k < to → NoSuffix (slice_index text k)
literal_no_suffix text from to (decimal is ds) k low high = digits_no_suffix 10 text from to ds k (omega arith) high
literal_no_suffix text from to (octal is ds) k low high = digits_no_suffix 8 text from to ds k (omega arith) high
literal_no_suffix text from to (prefixed is p) k low high = prefixed_no_suffix text from to p k low high

-- where no suffix begins, the suffix is empty
empty_suffix : (text : List ℕ) (at end : ℕ) → NoSuffix (slice_index text at) → Suffix text at end → end ≡ at
empty_suffix text at end n s = elim (suffix_view text at end s) [
  | see_none ends ↦ ends
  | see_u u2 ends ↦ let h = n.no_u in absurd cc
  | see_l l ↦ absurd (no_long text at n.no_l end l)
  | see_u_l u2 l ↦ let h = n.no_u in absurd cc
  | see_l_u mid l u2 ends ↦ absurd (no_long text at n.no_l mid l)
]

pub int_furthest : (text : List ℕ) (from digits_end to : ℕ) → IsFurthest (λ to. Literal text from to) digits_end
    → IsFurthest (λ to. Suffix text digits_end to) to → IsFurthest (λ to. IsInt text from to) to
int_furthest text from digits_end to here suffix =
    let w = literal_within text from digits_end here.reads in
    let f = suffix_from text digits_end to w.inside suffix.reads in
    let behind : digits_end ≤ to = f.behind in
    record {
      reads = record { digits_end = digits_end; digits = here.reads; suffix = suffix.reads };
      furthest = λ end i.
          let before : i.digits_end ≤ digits_end = here.furthest i.digits_end i.digits in
          let w2 = literal_within text from i.digits_end i.digits in
          elim (cases_lt i.digits_end digits_end) [
            | inl h ↦ let e = empty_suffix text i.digits_end end (literal_no_suffix text from digits_end here.reads i.digits_end w2.after h) i.suffix in
                omega arith
            | inr h ↦ let same : i.digits_end ≡ digits_end = omega arith in suffix.furthest end (subst (λ (n : ℕ). Suffix text n end) same i.suffix)
          ];
    }
