-- How far escapes, characters and strings reach.
use Rattle.std.proofs.Common.{List, ◌≡◌, ◌≢◌, ℕ, ◌+◌, ◌<◌, ◌≤◌, inl, inr, Bool, true, false, length, Option, Some, None, IsSome, refl, subst, arith}
use Rattle.std.proofs.Common.{slice_index, slice_range}
use Rattle.std.proofs.lemmas.Bool.{cases_lt}
use Rattle.std.proofs.lemmas.Bool.Decides.{nat_tests}
use Rattle.cpp_lex.specs.Bytes.{is_digit, Run}
use Rattle.cpp_lex.specs.Numbers.{number}
use Rattle.cpp_lex.specs.declared.quoted.Quote.{Quote}
use Rattle.cpp_lex.specs.declared.quoted.Quote.TheVariants.{Single, Double}
use Rattle.cpp_lex.specs.Quoted.{simple_escape, OctalEscape, HexEscape, Escape, EscapeBody, by_letter, in_octal, in_hex, OneOf, itself, escaped, SomeOf}
use Rattle.cpp_lex.specs.Quoted.{no_more, one_more, IsChar, IsStr, is_char_byte, is_str_byte}
use Rattle.cpp_lex.specs.Readings.{IsFurthest, IsOnly, IsTheOne, own_byte}
use Rattle.cpp_lex.proofs.IntEnds.{behind_end, end_is_no_digit}
use Rattle.cpp_lex.proofs.Values.{digit_is_no_escape}

-- hexadecimal escapes

hex_same : (text : List ℕ) (from to end : ℕ) → IsFurthest (Run (is_digit 16) text (from + 2)) to → HexEscape text from end → end ≡ to
hex_same text from to end run e = elim (cases_lt end to) [
  | inl h ↦
      let some = e.some in
      let yes : is_digit 16 (slice_index text end) ≡ true = run.reads.each end (omega arith) h in
      let no_digit : is_digit 16 (slice_index text end) ≡ false = e.ends in
      absurd cc
  | inr h ↦ let far = run.furthest end e.digits in omega arith
]

stops_anyway : (base : ℕ) (text : List ℕ) (to : ℕ) → (to < length text → is_digit base (slice_index text to) ≡ false)
    → is_digit base (slice_index text to) ≡ false
stops_anyway base text to stops = elim (cases_lt to (length text)) [ inl h ↦ stops h | inr h ↦ end_is_no_digit base text to h ]

pub hex_escape : (text : List ℕ) (from to : ℕ) → slice_index text (from + 1) ≡ 120 → IsFurthest (Run (is_digit 16) text (from + 2)) to
    → (to < length text → is_digit 16 (slice_index text to) ≡ false) → from + 3 ≤ to → number 16 (slice_range text from to) ≤ 255
    → IsOnly (λ to. HexEscape text from to) to
hex_escape text from to letter run stops some fits = record {
  reads = record { letter = letter; some = some; digits = run.reads; ends = stops_anyway 16 text to stops; fits = fits };
  only = λ end e. hex_same text from to end run e;
}

pub hex_too_short : (text : List ℕ) (from to : ℕ) → IsFurthest (Run (is_digit 16) text (from + 2)) to → to < from + 3 → (end : ℕ) → HexEscape text from end → ⊥
hex_too_short text from to run short end e = let same = hex_same text from to end run e in let some = e.some in omega arith

pub hex_too_great : (text : List ℕ) (from to : ℕ) → IsFurthest (Run (is_digit 16) text (from + 2)) to → 255 < number 16 (slice_range text from to) → (end : ℕ)
    → HexEscape text from end → ⊥
hex_too_great text from to run great end e =
    let same : end ≡ to = hex_same text from to end run e in
    let fits : number 16 (slice_range text from to) ≤ 255 = subst (λ (n : ℕ). number 16 (slice_range text from n) ≤ 255) same e.fits in
    omega arith

-- octal escapes

-- the octal digits behind a backslash, three at most
pub record OctalRun (text : List ℕ) (from to : ℕ) : Type 0 where
  pub run : Run (is_digit 8) text (from + 1) to
  pub three : to ≤ from + 4
  pub stops : to < from + 4 → is_digit 8 (slice_index text to) ≡ false

octal_same : (text : List ℕ) (from to end : ℕ) → OctalRun text from to → OctalEscape text from end → end ≡ to
octal_same text from to end here e =
    let some = e.some in
    let three = e.three in
    let three2 = here.three in
    elim (cases_lt end to) [
      | inl h ↦
          let yes : is_digit 8 (slice_index text end) ≡ true = here.run.each end (omega arith) h in
          let no_digit : is_digit 8 (slice_index text end) ≡ false = e.ends (omega arith) in
          absurd cc
      | inr h ↦ elim (cases_lt to end) [
        | inl g ↦
            let ordered = here.run.ordered in
            let yes : is_digit 8 (slice_index text to) ≡ true = e.digits.each to ordered g in
            let no_digit : is_digit 8 (slice_index text to) ≡ false = here.stops (omega arith) in
            absurd cc
        | inr g ↦ omega arith
      ]
    ]

pub octal_escape : (text : List ℕ) (from to : ℕ) → OctalRun text from to → from + 2 ≤ to → number 8 (slice_range text from to) ≤ 255
    → IsOnly (λ to. OctalEscape text from to) to
octal_escape text from to here some fits = record {
  reads = record { some = some; three = here.three; digits = here.run; ends = here.stops; fits = fits };
  only = λ end e. octal_same text from to end here e;
}

pub octal_too_short : (text : List ℕ) (from to : ℕ) → OctalRun text from to → to < from + 2 → (end : ℕ) → OctalEscape text from end → ⊥
octal_too_short text from to here short end e = let same = octal_same text from to end here e in let some = e.some in omega arith

pub octal_too_great : (text : List ℕ) (from to : ℕ) → OctalRun text from to → 255 < number 8 (slice_range text from to) → (end : ℕ) → OctalEscape text from end
    → ⊥
octal_too_great text from to here great end e =
    let same : end ≡ to = octal_same text from to end here e in
    let fits : number 8 (slice_range text from to) ≤ 255 = subst (λ (n : ℕ). number 8 (slice_range text from n) ≤ 255) same e.fits in
    omega arith

-- escapes

data EscapeView (text : List ℕ) (from end : ℕ) : Type 0 where
  see_letter : IsSome (simple_escape (slice_index text (from + 1))) → end ≡ from + 2 → EscapeView text from end
  see_octal : OctalEscape text from end → EscapeView text from end
  see_hex : HexEscape text from end → EscapeView text from end

escape_view : (text : List ℕ) (from end : ℕ) → EscapeBody text from end → EscapeView text from end
escape_view text from end (by_letter h) = see_letter h refl
escape_view text from end (in_octal e) = see_octal e
escape_view text from end (in_hex e) = see_hex e

-- the byte behind the backslash of an octal escape
octal_letter : (text : List ℕ) (from end : ℕ) → OctalEscape text from end → is_digit 8 (slice_index text (from + 1)) ≡ true
octal_letter text from end e = let some = e.some in e.digits.each (from + 1) (omega arith) (omega arith)

x_is_no_letter : (b : ℕ) → b ≡ 120 → simple_escape b ≡ None
unfolding simple_escape
x_is_no_letter b e = rw e refl

x_is_no_octal : (b : ℕ) → b ≡ 120 → is_digit 8 b ≡ true → ⊥
x_is_no_octal b e h = grind (arith, nat_tests)

none_is_not_some : (c : ℕ) → simple_escape c ≡ None → IsSome (simple_escape c) → ⊥
none_is_not_some c e h = let g : IsSome {T = ℕ} None = subst (λ (o : Option ℕ). IsSome o) e h in cc

some_is_some : (c v : ℕ) → simple_escape c ≡ Some v → IsSome (simple_escape c)
some_is_some c v e = rw e refl

pub letter_escape : (text : List ℕ) (from v : ℕ) → slice_index text from ≡ 92 → simple_escape (slice_index text (from + 1)) ≡ Some v
    → IsOnly (λ to. Escape text from to) (from + 2)
letter_escape text from v backslash letter = record {
  reads = record { backslash = backslash; body = by_letter (some_is_some (slice_index text (from + 1)) v letter) };
  only = λ end e. elim (escape_view text from end e.body) [
    | see_letter h ends ↦ ends
    | see_octal o ↦ let n = digit_is_no_escape (slice_index text (from + 1)) (octal_letter text from end o) in absurd cc
    | see_hex x ↦ let n = x_is_no_letter (slice_index text (from + 1)) x.letter in absurd cc
  ];
}

pub by_hex : (text : List ℕ) (from : ℕ) → slice_index text from ≡ 92 → slice_index text (from + 1) ≡ 120 → (o : Option ℕ)
    → IsTheOne (λ to. HexEscape text from to) o → IsTheOne (λ to. Escape text from to) o
by_hex text from backslash x None none = λ end e. elim (escape_view text from end e.body) [
  | see_letter h ends ↦ none_is_not_some (slice_index text (from + 1)) (x_is_no_letter (slice_index text (from + 1)) x) h
  | see_octal o ↦ x_is_no_octal (slice_index text (from + 1)) x (octal_letter text from end o)
  | see_hex h ↦ none end h
]
by_hex text from backslash x (Some to) here = record {
  reads = record { backslash = backslash; body = in_hex here.reads };
  only = λ end e. elim (escape_view text from end e.body) [
    | see_letter h ends ↦ absurd (none_is_not_some (slice_index text (from + 1)) (x_is_no_letter (slice_index text (from + 1)) x) h)
    | see_octal o ↦ absurd (x_is_no_octal (slice_index text (from + 1)) x (octal_letter text from end o))
    | see_hex h ↦ here.only end h
  ];
}

pub by_octal : (text : List ℕ) (from : ℕ) → slice_index text from ≡ 92 → simple_escape (slice_index text (from + 1)) ≡ None → slice_index text (from + 1) ≢ 120
    → (o : Option ℕ) → IsTheOne (λ to. OctalEscape text from to) o → IsTheOne (λ to. Escape text from to) o
by_octal text from backslash no_letter no_x None none = λ end e. elim (escape_view text from end e.body) [
  | see_letter h ends ↦ none_is_not_some (slice_index text (from + 1)) no_letter h
  | see_octal o ↦ none end o
  | see_hex h ↦ no_x h.letter
]
by_octal text from backslash no_letter no_x (Some to) here = record {
  reads = record { backslash = backslash; body = in_octal here.reads };
  only = λ end e. elim (escape_view text from end e.body) [
    | see_letter h ends ↦ absurd (none_is_not_some (slice_index text (from + 1)) no_letter h)
    | see_octal o ↦ here.only end o
    | see_hex h ↦ absurd (no_x h.letter)
  ];
}

-- one byte or escape

data OneView (test : ℕ → Bool) (text : List ℕ) (from end : ℕ) : Type 0 where
  see_itself : test (slice_index text from) ≡ true → end ≡ from + 1 → OneView test text from end
  see_escaped : Escape text from end → OneView test text from end

one_view : (test : ℕ → Bool) (text : List ℕ) (from end : ℕ) → OneOf test text from end → OneView test text from end
one_view test text from end (itself h) = see_itself h refl
one_view test text from end (escaped e) = see_escaped e

backslash_is_not_own : (quote : Quote) (b : ℕ) → b ≡ 92 → own_byte quote b ≡ false
backslash_is_not_own Single b e = rw e refl
backslash_is_not_own Double b e = rw e refl

pub own_one : (quote : Quote) (text : List ℕ) (from : ℕ) → own_byte quote (slice_index text from) ≡ true
    → IsOnly (λ to. OneOf (own_byte quote) text from to) (from + 1)
own_one quote text from own = record {
  reads = itself own;
  only = λ end o. elim (one_view (own_byte quote) text from end o) [
    | see_itself h ends ↦ ends
    | see_escaped e ↦ let n = backslash_is_not_own quote (slice_index text from) e.backslash in absurd cc
  ];
}

pub escaped_one : (quote : Quote) (text : List ℕ) (from : ℕ) → own_byte quote (slice_index text from) ≡ false → (o : Option ℕ)
    → IsTheOne (λ to. Escape text from to) o → IsTheOne (λ to. OneOf (own_byte quote) text from to) o
escaped_one quote text from not_own None none = λ end o. elim (one_view (own_byte quote) text from end o) [
  | see_itself h ends ↦ cc
  | see_escaped e ↦ none end e
]
escaped_one quote text from not_own (Some to) here = record {
  reads = escaped here.reads;
  only = λ end o. elim (one_view (own_byte quote) text from end o) [
    | see_itself h ends ↦ absurd cc
    | see_escaped e ↦ here.only end e
  ];
}

-- characters

pub one_char : (text : List ℕ) (from inner_end : ℕ) → slice_index text from ≡ 39 → IsOnly (λ to. OneOf is_char_byte text (from + 1) to) inner_end
    → slice_index text inner_end ≡ 39 → IsOnly (λ to. IsChar text from to) (inner_end + 1)
one_char text from inner_end opened inner closed = record {
  reads = record { opened = opened; inner_end = inner_end; inner = inner.reads; closed = closed; ends = refl };
  only = λ end c. let same : c.inner_end ≡ inner_end = inner.only c.inner_end c.inner in let ends : end ≡ c.inner_end + 1 = c.ends in omega arith;
}

pub not_closed : (text : List ℕ) (from inner_end : ℕ) → IsOnly (λ to. OneOf is_char_byte text (from + 1) to) inner_end → slice_index text inner_end ≢ 39
    → (end : ℕ) → IsChar text from end → ⊥
not_closed text from inner_end inner open_end end c = let same : c.inner_end ≡ inner_end = inner.only c.inner_end c.inner in
    open_end (subst (λ (n : ℕ). slice_index text n ≡ 39) same c.closed)

-- strings

not_at_quote : (b : ℕ) → b ≡ 34 → own_byte Double b ≡ false
not_at_quote b e = rw e refl

nothing_at : (text : List ℕ) (at end : ℕ) → slice_index text at ≡ 34 → OneOf is_str_byte text at end → ⊥
nothing_at text at end quote o = elim (one_view is_str_byte text at end o) [
  | see_itself h ends ↦ let n : is_str_byte (slice_index text at) ≡ false = not_at_quote (slice_index text at) quote in cc
  | see_escaped e ↦ let b = e.backslash in absurd (omega arith)
]

at_quote : (text : List ℕ) (at end : ℕ) → slice_index text at ≡ 34 → SomeOf is_str_byte text at end → end ≡ at
at_quote text at end quote no_more = refl
at_quote text at end quote (one_more {mid = mid} o s) = absurd (nothing_at text at mid quote o)

-- the inner part of a string may be read from a position on
pub record ReadTo (text : List ℕ) (from at : ℕ) : Type 0 where
  pub back : (end : ℕ) → SomeOf is_str_byte text at end → SomeOf is_str_byte text from end
  pub on : (end : ℕ) → SomeOf is_str_byte text from end → slice_index text end ≡ 34 → SomeOf is_str_byte text at end

pub read_none : (text : List ℕ) (from : ℕ) → ReadTo text from from
read_none text from = record { back = λ end s. s; on = λ end s q. s }

rest_of : (text : List ℕ) (at next end : ℕ) → IsOnly (λ to. OneOf is_str_byte text at to) next → slice_index text at ≢ 34 → SomeOf is_str_byte text at end
    → slice_index text end ≡ 34 → SomeOf is_str_byte text next end
rest_of text at next end one not_quote no_more quote = absurd (not_quote quote)
rest_of text at next end one not_quote (one_more {mid = mid} o s) quote = subst (λ (n : ℕ). SomeOf is_str_byte text n end) (one.only mid o) s

pub read_more : (text : List ℕ) (from at next : ℕ) → ReadTo text from at → IsOnly (λ to. OneOf is_str_byte text at to) next → slice_index text at ≢ 34
    → ReadTo text from next
read_more text from at next read one not_quote = record {
  back = λ end s. read.back end (one_more one.reads s);
  on = λ end s quote. rest_of text at next end one not_quote (read.on end s quote) quote;
}

pub one_str : (text : List ℕ) (from at : ℕ) → slice_index text from ≡ 34 → ReadTo text (from + 1) at → slice_index text at ≡ 34
    → IsOnly (λ to. IsStr text from to) (at + 1)
one_str text from at opened read closed = record {
  reads = record { opened = opened; inner_end = at; inner = read.back at no_more; closed = closed; ends = refl };
  only = λ end s.
      let same : s.inner_end ≡ at = at_quote text at s.inner_end closed (read.on s.inner_end s.inner s.closed) in
      let ends : end ≡ s.inner_end + 1 = s.ends in
      omega arith;
}

stuck : (text : List ℕ) (at end : ℕ) → slice_index text at ≢ 34 → ((next : ℕ) → OneOf is_str_byte text at next → ⊥) → SomeOf is_str_byte text at end
    → slice_index text end ≡ 34 → ⊥
stuck text at end not_quote none no_more quote = not_quote quote
stuck text at end not_quote none (one_more {mid = mid} o s) quote = none mid o

pub no_str : (text : List ℕ) (from at : ℕ) → ReadTo text (from + 1) at → slice_index text at ≢ 34 → ((next : ℕ) → OneOf is_str_byte text at next → ⊥)
    → (end : ℕ) → IsStr text from end → ⊥
no_str text from at read not_quote none end s = stuck text at s.inner_end not_quote none (read.on s.inner_end s.inner s.closed) s.closed

zero_is_not_own : (b : ℕ) → b ≡ 0 → own_byte Double b ≡ false
zero_is_not_own b e = rw e refl

pub nothing_behind : (text : List ℕ) (at : ℕ) → length text ≤ at → (next : ℕ) → OneOf is_str_byte text at next → ⊥
nothing_behind text at h next o =
    let zero_there = behind_end text at h in
    elim (one_view is_str_byte text at next o) [
      | see_itself own ends ↦ let n : is_str_byte (slice_index text at) ≡ false = zero_is_not_own (slice_index text at) zero_there in cc
      | see_escaped e ↦ let b = e.backslash in absurd (omega arith)
    ]

pub no_quote_behind : (text : List ℕ) (at : ℕ) → length text ≤ at → slice_index text at ≢ 34
no_quote_behind text at h = λ e. let z = behind_end text at h in omega arith
