-- Each piece ends behind its beginning and within its text, and mostly in a byte that is no blank.
use Rattle.std.proofs.Common.{List, ◌≡◌, ℕ, ◌+◌, ◌-◌, ◌<◌, ◌≤◌, inl, inr, Bool, true, false, length, slice_index, refl, subst, arith, if◌then◌else◌}
use Rattle.std.proofs.Math.ListN.{get_or-eq_default}
use Rattle.std.proofs.lemmas.Bool.Decides.{nat_tests}
use Rattle.std.proofs.lemmas.Bool.{cases_lt}
use Rattle.cpp_lex.specs.declared.piece.PieceKind.{PieceKind}
use Rattle.cpp_lex.specs.declared.piece.PieceKind.TheVariants.{Blank, LineComment, BlockComment, HashLine, Word, IntegerLiteral, CharacterLiteral}
use Rattle.cpp_lex.specs.declared.piece.PieceKind.TheVariants.{StringLiteral, Punctuator}
use Rattle.cpp_lex.specs.Bytes.{is_letter, is_word_byte, is_blank, is_line_byte, is_line_blank, is_digit}
use Rattle.cpp_lex.specs.Words.{IsWord}
use Rattle.cpp_lex.specs.Ints.{Digits, one, more, marked, Prefixed, hexadecimal, binary, Literal, decimal, octal, prefixed, LongSuffix, one_l, two_l, Suffix}
use Rattle.cpp_lex.specs.Ints.{no_suffix, only_u, only_l, u_then_l, l_then_u, is_u, is_l}
use Rattle.cpp_lex.specs.Quoted.{OneOf, itself, escaped, SomeOf, no_more, one_more, EscapeBody, by_letter, in_octal, in_hex, is_char_byte, is_str_byte}
use Rattle.cpp_lex.specs.Puncts.{IsPunct, single, double, triple}
use Rattle.cpp_lex.specs.Skipped.{IsLineComment, IsHashLine, IsFirstOnLine}
use Rattle.cpp_lex.specs.Pieces.{Spells}
use Rattle.cpp_lex.proofs.Fronts.{is_punct_byte, single_byte, double_end, triple_end}

-- a byte that is not 0 is in the text
pub there : (text : List ℕ) (at : ℕ) → 0 < slice_index text at → at < length text
there text at h = grind (arith, get_or-eq_default text 0 {n = at})

-- a range of a text that is not empty
pub record Within (text : List ℕ) (from to : ℕ) : Type 0 where
  pub after : from < to
  pub inside : to ≤ length text

digit_is_there : (text : List ℕ) (base at : ℕ) → is_digit base (slice_index text at) ≡ true → at < length text
digit_is_there text base at h = let high : 0 < slice_index text at = grind (arith, nat_tests) in there text at high

pub digits_within : (base : ℕ) (text : List ℕ) (from to : ℕ) → Digits base text from to → Within text from to
digits_within base text from to (one d) = record { after = omega arith; inside = let h = digit_is_there text base from d in omega arith }
digits_within base text from to (more {at = at} ds d) = let before = digits_within base text from at ds in let h = digit_is_there text base at d in
    record { after = omega arith; inside = omega arith }
digits_within base text from to (marked {at = at} ds m d) = let before = digits_within base text from at ds in let h = digit_is_there text base (at + 1) d in
    record { after = omega arith; inside = omega arith }

pub prefixed_within : (text : List ℕ) (from to : ℕ) → Prefixed text from to → Within text from to
prefixed_within text from to (hexadecimal is ds) = let w = digits_within 16 text (from + 2) to ds in record { after = omega arith; inside = w.inside }
prefixed_within text from to (binary is ds) = let w = digits_within 2 text (from + 2) to ds in record { after = omega arith; inside = w.inside }

pub literal_within : (text : List ℕ) (from to : ℕ) → Literal text from to → Within text from to
literal_within text from to (decimal not_zero ds) = digits_within 10 text from to ds
literal_within text from to (octal is_zero ds) = digits_within 8 text from to ds
literal_within text from to (prefixed is p) = prefixed_within text from to p

u_is_there : (text : List ℕ) (at : ℕ) → is_u (slice_index text at) ≡ true → at < length text
u_is_there text at h = let high : 0 < slice_index text at = grind (arith, nat_tests) in there text at high

l_is_there : (text : List ℕ) (at : ℕ) → is_l (slice_index text at) ≡ true → at < length text
l_is_there text at h = let high : 0 < slice_index text at = grind (arith, nat_tests) in there text at high

same_l : (text : List ℕ) (at : ℕ) → is_l (slice_index text at) ≡ true → slice_index text (at + 1) ≡ slice_index text at
    → is_l (slice_index text (at + 1)) ≡ true
same_l text at h e = rw e h

pub long_within : (text : List ℕ) (from to : ℕ) → LongSuffix text from to → Within text from to
long_within text from to (one_l h) = let t = l_is_there text from h in record { after = omega arith; inside = omega arith }
long_within text from to (two_l h e) = let t = l_is_there text (from + 1) (same_l text from h e) in record { after = omega arith; inside = omega arith }

-- a range of a text that may be empty
pub record From (text : List ℕ) (from to : ℕ) : Type 0 where
  pub behind : from ≤ to
  pub inside : to ≤ length text

pub suffix_from : (text : List ℕ) (from to : ℕ) → from ≤ length text → Suffix text from to → From text from to
suffix_from text from to h no_suffix = record { behind = omega arith; inside = h }
suffix_from text from to h (only_u u) = let t = u_is_there text from u in record { behind = omega arith; inside = omega arith }
suffix_from text from to h (only_l l) = let w = long_within text from to l in record { behind = omega arith; inside = w.inside }
suffix_from text from to h (u_then_l u l) = let w = long_within text (from + 1) to l in record { behind = omega arith; inside = w.inside }
suffix_from text from to h (l_then_u {mid = mid} l u) = let w = long_within text from mid l in let t = u_is_there text mid u in
    record { behind = omega arith; inside = omega arith }

escape_after : (text : List ℕ) (from to : ℕ) → EscapeBody text from to → from < to
escape_after text from to (by_letter h) = omega arith
escape_after text from to (in_octal e) = omega (arith, e.some)
escape_after text from to (in_hex e) = omega (arith, e.some)

pub one_of_after : (test : ℕ → Bool) (text : List ℕ) (from to : ℕ) → OneOf test text from to → from < to
one_of_after test text from to (itself h) = omega arith
one_of_after test text from to (escaped e) = escape_after text from to e.body

pub some_of_after : (test : ℕ → Bool) (text : List ℕ) (from to : ℕ) → SomeOf test text from to → from ≤ to
some_of_after test text from to no_more = omega arith
some_of_after test text from to (one_more {mid = mid} o s) = let a = one_of_after test text from mid o in let b = some_of_after test text mid to s in
    omega arith

number_is_there : (text : List ℕ) (at n : ℕ) → slice_index text at ≡ n → 0 < n → at < length text
number_is_there text at n e h = there text at (omega arith)

punct_is_there : (text : List ℕ) (at : ℕ) → is_punct_byte (slice_index text at) ≡ true → at < length text
punct_is_there text at h = let high : 0 < slice_index text at = grind (arith, nat_tests) in there text at high

punct_within : (text : List ℕ) (from to : ℕ) → IsPunct text from to → Within text from to
punct_within text from to (single n h) = let t = punct_is_there text from (single_byte (slice_index text from) h) in
    record { after = omega arith; inside = omega arith }
punct_within text from to (double h) = let t = punct_is_there text (from + 1) (double_end (slice_index text from) (slice_index text (from + 1)) h) in
    record { after = omega arith; inside = omega arith }
punct_within text from to (triple h) = let t = punct_is_there text (from + 2)
    (triple_end (slice_index text from) (slice_index text (from + 1)) (slice_index text (from + 2)) h) in record { after = omega arith; inside = omega arith }

pub spelled_within : (text : List ℕ) (kind : PieceKind) (from to : ℕ) → Spells text kind from to → Within text from to
spelled_within text Blank from to s = let r = s.rest.ordered in record { after = omega arith; inside = s.rest.inside }
spelled_within text LineComment from to s = let r = s.rest.ordered in record { after = omega arith; inside = s.rest.inside }
spelled_within text BlockComment from to s = let r = s.room in record { after = omega arith; inside = s.inside }
spelled_within text HashLine from to s = let r = s.rest.ordered in let b = s.blanks.ordered in record { after = omega arith; inside = s.rest.inside }
spelled_within text Word from to s = let r = s.rest.ordered in record { after = omega arith; inside = s.rest.inside }
spelled_within text IntegerLiteral from to s =
    let d = literal_within text from s.digits_end s.digits in
    let f = suffix_from text s.digits_end to d.inside s.suffix in
    let a : from < s.digits_end = d.after in
    let b : s.digits_end ≤ to = f.behind in
    record { after = omega arith; inside = f.inside }
spelled_within text CharacterLiteral from to s =
    let a = one_of_after is_char_byte text (from + 1) s.inner_end s.inner in
    let t = number_is_there text s.inner_end 39 s.closed (omega arith) in
    let e = s.ends in
    record { after = omega arith; inside = omega arith }
spelled_within text StringLiteral from to s =
    let a = some_of_after is_str_byte text (from + 1) s.inner_end s.inner in
    let t = number_is_there text s.inner_end 34 s.closed (omega arith) in
    let e = s.ends in
    record { after = omega arith; inside = omega arith }
spelled_within text Punctuator from to s = punct_within text from to s

-- a byte that is no blank
abbrev pub is_dark : ℕ → Bool
is_dark b = if is_blank b then false else true

-- the last byte of what ends at a position is no blank
pub record EndsDark (text : List ℕ) (to : ℕ) : Type 0 where
  pub position : ℕ
  pub ends : to ≡ position + 1
  pub dark : is_dark (slice_index text position) ≡ true

dark_at : (text : List ℕ) (position to : ℕ) → to ≡ position + 1 → is_dark (slice_index text position) ≡ true → EndsDark text to
dark_at text position to e h = record { position = position; ends = e; dark = h }

dark_digit : (base b : ℕ) → is_digit base b ≡ true → is_dark b ≡ true
dark_digit base b h = grind (arith, nat_tests)

dark_u : (b : ℕ) → is_u b ≡ true → is_dark b ≡ true
dark_u b h = grind (arith, nat_tests)

dark_l : (b : ℕ) → is_l b ≡ true → is_dark b ≡ true
dark_l b h = grind (arith, nat_tests)

dark_letter : (b : ℕ) → is_letter b ≡ true → is_dark b ≡ true
dark_letter b h = grind (arith, nat_tests)

dark_word : (b : ℕ) → is_word_byte b ≡ true → is_dark b ≡ true
dark_word b h = grind (arith, nat_tests)

dark_punct : (b : ℕ) → is_punct_byte b ≡ true → is_dark b ≡ true
dark_punct b h = grind (arith, nat_tests)

dark_number : (b n : ℕ) → b ≡ n → 33 ≤ n → is_dark b ≡ true
dark_number b n e h = grind (arith, nat_tests)

digits_dark : (base : ℕ) (text : List ℕ) (from to : ℕ) → Digits base text from to → EndsDark text to
digits_dark base text from to (one d) = dark_at text from to refl (dark_digit base (slice_index text from) d)
digits_dark base text from to (more {at = at} ds d) = dark_at text at to refl (dark_digit base (slice_index text at) d)
digits_dark base text from to (marked {at = at} ds m d) = dark_at text (at + 1) to (omega arith) (dark_digit base (slice_index text (at + 1)) d)

prefixed_dark : (text : List ℕ) (from to : ℕ) → Prefixed text from to → EndsDark text to
prefixed_dark text from to (hexadecimal is ds) = digits_dark 16 text (from + 2) to ds
prefixed_dark text from to (binary is ds) = digits_dark 2 text (from + 2) to ds

literal_dark : (text : List ℕ) (from to : ℕ) → Literal text from to → EndsDark text to
literal_dark text from to (decimal not_zero ds) = digits_dark 10 text from to ds
literal_dark text from to (octal is_zero ds) = digits_dark 8 text from to ds
literal_dark text from to (prefixed is p) = prefixed_dark text from to p

long_dark : (text : List ℕ) (from to : ℕ) → LongSuffix text from to → EndsDark text to
long_dark text from to (one_l h) = dark_at text from to refl (dark_l (slice_index text from) h)
long_dark text from to (two_l h e) = dark_at text (from + 1) to (omega arith) (dark_l (slice_index text (from + 1)) (same_l text from h e))

suffix_dark : (text : List ℕ) (from to : ℕ) → EndsDark text from → Suffix text from to → EndsDark text to
suffix_dark text from to h no_suffix = h
suffix_dark text from to h (only_u u) = dark_at text from to refl (dark_u (slice_index text from) u)
suffix_dark text from to h (only_l l) = long_dark text from to l
suffix_dark text from to h (u_then_l u l) = long_dark text (from + 1) to l
suffix_dark text from to h (l_then_u {mid = mid} l u) = dark_at text mid to refl (dark_u (slice_index text mid) u)

punct_dark : (text : List ℕ) (from to : ℕ) → IsPunct text from to → EndsDark text to
punct_dark text from to (single n h) = dark_at text from to refl (dark_punct (slice_index text from) (single_byte (slice_index text from) h))
punct_dark text from to (double h) = dark_at text (from + 1) to (omega arith)
    (dark_punct (slice_index text (from + 1)) (double_end (slice_index text from) (slice_index text (from + 1)) h))
punct_dark text from to (triple h) = dark_at text (from + 2) to (omega arith)
    (dark_punct (slice_index text (from + 2)) (triple_end (slice_index text from) (slice_index text (from + 1)) (slice_index text (from + 2)) h))

word_dark : (text : List ℕ) (from to : ℕ) → IsWord text from to → EndsDark text to
word_dark text from to s = let r = s.rest.ordered in elim (cases_lt (from + 1) to) [
  | inl h ↦ dark_at text (to - 1) to (omega arith) (dark_word (slice_index text (to - 1)) (s.rest.each (to - 1) (omega arith) (omega arith)))
  | inr h ↦ dark_at text from to (omega arith) (dark_letter (slice_index text from) s.first)
]

blank_is_not_dark : (b : ℕ) → is_line_blank b ≡ true → is_dark b ≡ true → ⊥
blank_is_not_dark b h g = grind (arith, nat_tests)

newline_is_not_dark : (b : ℕ) → b ≡ 10 → is_dark b ≡ true → ⊥
newline_is_not_dark b h g = grind (arith, nat_tests)

-- behind a byte that is no blank nothing is the first of its line
dark_not_first : (text : List ℕ) (to : ℕ) → EndsDark text to → IsFirstOnLine text to → ⊥
dark_not_first text to e f = elim (cases_lt e.position f.line) [
  | inr h ↦ blank_is_not_dark (slice_index text e.position) (f.blanks.each e.position h (let s = e.ends in omega arith)) e.dark
  | inl h ↦
      let ordered = f.blanks.ordered in
      let ends = e.ends in
      elim f.begins [
        | inl z ↦ absurd (omega arith)
        | inr b ↦ let same : f.line - 1 ≡ e.position = omega arith in
            newline_is_not_dark (slice_index text e.position) (subst (λ (n : ℕ). slice_index text n ≡ 10) same b.1) e.dark
      ]
]

no_newline : (b : ℕ) → b ≡ 10 → is_line_byte b ≡ true → ⊥
no_newline b h g = grind (arith, nat_tests)

-- nor behind what is all on one line and begins with such a byte
line_not_first : (text : List ℕ) (from to : ℕ) → is_dark (slice_index text from) ≡ true → from < to
    → ((k : ℕ) → from ≤ k → k < to → is_line_byte (slice_index text k) ≡ true) → IsFirstOnLine text to → ⊥
line_not_first text from to dark after line f = elim (cases_lt from f.line) [
  | inr h ↦ blank_is_not_dark (slice_index text from) (f.blanks.each from h after) dark
  | inl h ↦ let ordered = f.blanks.ordered in elim f.begins [
    | inl z ↦ absurd (omega arith)
    | inr b ↦ no_newline (slice_index text (f.line - 1)) b.1 (line (f.line - 1) (omega arith) (omega arith))
  ]
]

line_byte : (b n : ℕ) → b ≡ n → 33 ≤ n → is_line_byte b ≡ true
line_byte b n e h = grind (arith, nat_tests)

line_blank_byte : (b : ℕ) → is_line_blank b ≡ true → is_line_byte b ≡ true
line_blank_byte b h = grind (arith, nat_tests)

comment_line : (text : List ℕ) (from to : ℕ) → IsLineComment text from to → (k : ℕ) → from ≤ k → k < to → is_line_byte (slice_index text k) ≡ true
comment_line text from to s k low high = elim (cases_lt k (from + 2)) [
  | inr h ↦ s.rest.each k h high
  | inl h ↦ elim (cases_lt from k) [
    | inr g ↦ let same : k ≡ from = omega arith in line_byte (slice_index text k) 47 (rw same s.opened.one) (omega arith)
    | inl g ↦ let same : k ≡ from + 1 = omega arith in line_byte (slice_index text k) 47 (rw same s.opened.two) (omega arith)
  ]
]

hash_line : (text : List ℕ) (from to : ℕ) → IsHashLine text from to → (k : ℕ) → from ≤ k → k < to → is_line_byte (slice_index text k) ≡ true
hash_line text from to s k low high = elim (cases_lt from k) [
  | inr g ↦ let same : k ≡ from = omega arith in line_byte (slice_index text k) 35 (rw same s.hash) (omega arith)
  | inl g ↦ elim (cases_lt k s.marker_at) [
    | inr h ↦ s.rest.each k h high
    | inl h ↦ line_blank_byte (slice_index text k) (s.blanks.each k (omega arith) h)
  ]
]

-- behind a piece that is no blank nothing is the first of its line
pub not_first_behind : (text : List ℕ) (kind : PieceKind) (from to : ℕ) → Spells text kind from to → (kind ≡ Blank → ⊥) → IsFirstOnLine text to → ⊥
not_first_behind text Blank from to s other f = other refl
not_first_behind text LineComment from to s other f =
    line_not_first text from to (dark_number (slice_index text from) 47 s.opened.one (omega arith))
    (let w = spelled_within text LineComment from to s in w.after) (comment_line text from to s) f
not_first_behind text BlockComment from to s other f =
    let room = s.room in
    let same : to - 2 + 1 ≡ to - 1 = omega arith in
    dark_not_first text to (dark_at text (to - 1) to (omega arith)
    (dark_number (slice_index text (to - 1)) 47 (subst (λ (n : ℕ). slice_index text n ≡ 47) same s.closed.two) (omega arith))) f
not_first_behind text HashLine from to s other f = line_not_first text from to (dark_number (slice_index text from) 35 s.hash (omega arith))
    (let w = spelled_within text HashLine from to s in w.after) (hash_line text from to s) f
not_first_behind text Word from to s other f = dark_not_first text to (word_dark text from to s) f
not_first_behind text IntegerLiteral from to s other f =
    dark_not_first text to (suffix_dark text s.digits_end to (literal_dark text from s.digits_end s.digits) s.suffix) f
not_first_behind text CharacterLiteral from to s other f =
    dark_not_first text to (dark_at text s.inner_end to s.ends (dark_number (slice_index text s.inner_end) 39 s.closed (omega arith))) f
not_first_behind text StringLiteral from to s other f =
    dark_not_first text to (dark_at text s.inner_end to s.ends (dark_number (slice_index text s.inner_end) 34 s.closed (omega arith))) f
not_first_behind text Punctuator from to s other f = dark_not_first text to (punct_dark text from to s) f
