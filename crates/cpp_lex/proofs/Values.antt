-- Parts of parts of a text, and the values that spellings have.
use Rattle.std.proofs.Common.{List, ◌≡◌, ℕ, ◌+◌, ◌-◌, ◌<◌, ◌≤◌, Bool, true, false, length, Option, Some, None, IsSome, if◌then◌else◌, nat_eq, ◌||◌, refl, ◌∙◌}
use Rattle.std.proofs.Common.{ap, arith, slice_index, slice_range, take, drop}
use Rattle.std.specs.Prelude.{unwrap_or}
use Rattle.std.proofs.lemmas.List.{drop-take, drop-drop, take-take, get_or-drop, get_or-take, length-take, length-drop}
use Rattle.std.proofs.lemmas.Bool.Decides.{nat_tests}
use Rattle.cpp_lex.specs.declared.piece.PieceKind.TheVariants.{CharacterLiteral}
use Rattle.cpp_lex.specs.Bytes.{is_digit}
use Rattle.cpp_lex.specs.Numbers.{number}
use Rattle.cpp_lex.specs.Quoted.{IsChar, char_value, escape_value, simple_escape, OneOf, itself, escaped, EscapeBody, by_letter, in_octal, in_hex, is_char_byte}
use Rattle.cpp_lex.proofs.Ends.{spelled_within, one_of_after}

-- a part of a part
pub range_range : (xs : List ℕ) (a b c d : ℕ) → c ≤ d → a + d ≤ b → slice_range (slice_range xs a b) c d ≡ slice_range xs (a + c) (a + d)
range_range xs a b c d h g =
    let m : ℕ = (b - a) - c in
    let whole : b - a ≡ c + m = omega arith in
    let e : drop c (take (b - a) (drop a xs)) ≡ take m (drop c (drop a xs)) = ap (λ (z : ℕ). drop c (take z (drop a xs))) whole ∙ drop-take c m (drop a xs) in
    let f : drop c (drop a xs) ≡ drop (a + c) xs = drop-drop c a xs in
    let k : take (d - c) (take m (drop (a + c) xs)) ≡ take (d - c) (drop (a + c) xs) = take-take (d - c) m (drop (a + c) xs) (omega arith) in
    let n : d - c ≡ (a + d) - (a + c) = omega arith in
    ap (take (d - c)) (e ∙ ap (take m) f) ∙ k ∙ ap (λ (z : ℕ). take z (drop (a + c) xs)) n

-- a byte of a part
pub range_at : (xs : List ℕ) (a b k : ℕ) → a + k < b → slice_index (slice_range xs a b) k ≡ slice_index xs (a + k)
range_at xs a b k h = get_or-take (b - a) (drop a xs) k 0 (omega arith) ∙ get_or-drop a xs k 0

pub range_length : (xs : List ℕ) (a b : ℕ) → b ≤ length xs → length (slice_range xs a b) ≡ b - a
range_length xs a b h = simp (length-take, length-drop) (omega arith)

abbrev pick : Bool → Bool → Bool → Bool → Bool → Bool → Bool → Bool → ℕ → Option ℕ
pick a b e f g k l m v = if a then Some 10 else (if b then Some 9 else
    (if e then Some 11 else (if f then Some 8 else (if g then Some 13 else (if k then Some 12 else (if l then Some 7 else (if m then Some v else None)))))))

pick_small : (a b e f g k l m : Bool) (v d : ℕ) → (m ≡ true → v ≤ 255) → IsSome (pick a b e f g k l m v) → unwrap_or (pick a b e f g k l m v) d ≤ 255
pick_small true b e f g k l m v d h is = omega arith
pick_small false true e f g k l m v d h is = omega arith
pick_small false false true f g k l m v d h is = omega arith
pick_small false false false true g k l m v d h is = omega arith
pick_small false false false false true k l m v d h is = omega arith
pick_small false false false false false true l m v d h is = omega arith
pick_small false false false false false false true m v d h is = omega arith
pick_small false false false false false false false true v d h is = h refl
pick_small false false false false false false false false v d h is = absurd cc

itself_small : (c : ℕ) → (nat_eq c 92 || nat_eq c 63 || nat_eq c 39 || nat_eq c 34) ≡ true → c ≤ 255
itself_small c h = grind (arith, nat_tests)

letter_small : (c d : ℕ) → IsSome (simple_escape c) → unwrap_or (simple_escape c) d ≤ 255
unfolding simple_escape
letter_small c d h = pick_small (nat_eq c 110) (nat_eq c 116) (nat_eq c 118) (nat_eq c 98) (nat_eq c 114) (nat_eq c 102) (nat_eq c 97)
    (nat_eq c 92 || nat_eq c 63 || nat_eq c 39 || nat_eq c 34) c d (itself_small c) h

pub digit_is_no_escape : (c : ℕ) → is_digit 8 c ≡ true → simple_escape c ≡ None
unfolding simple_escape
digit_is_no_escape c h = grind (arith, nat_tests)

digit_is_no_x : (c : ℕ) → is_digit 8 c ≡ true → nat_eq c 120 ≡ false
digit_is_no_x c h = grind (arith, nat_tests)

-- the value of an escape from the byte behind its backslash
abbrev value_by : ℕ → List ℕ → ℕ
value_by c bytes = unwrap_or (simple_escape c) (if nat_eq c 120 then number 16 bytes else number 8 bytes)

escape_value_by : (text : List ℕ) (from to : ℕ) → from + 1 < to
    → escape_value (slice_range text from to) ≡ value_by (slice_index text (from + 1)) (slice_range text from to)
unfolding escape_value
escape_value_by text from to h = ap (λ (c : ℕ). value_by c (slice_range text from to)) (range_at text from to 1 h)

body_small : (text : List ℕ) (from to : ℕ) → EscapeBody text from to → value_by (slice_index text (from + 1)) (slice_range text from to) ≤ 255
unfolding simple_escape
body_small text from to (by_letter h) = letter_small (slice_index text (from + 1)) _ h
body_small text from to (in_octal e) =
    let some = e.some in
    let d = e.digits.each (from + 1) (omega arith) (omega arith) in
    rw (digit_is_no_escape (slice_index text (from + 1)) d, digit_is_no_x (slice_index text (from + 1)) d) e.fits
body_small text from to (in_hex e) = rw e.letter e.fits

body_room : (text : List ℕ) (from to : ℕ) → EscapeBody text from to → from + 1 < to
body_room text from to (by_letter h) = omega arith
body_room text from to (in_octal e) = omega (arith, e.some)
body_room text from to (in_hex e) = omega (arith, e.some)

pub escape_small : (text : List ℕ) (from to : ℕ) → EscapeBody text from to → escape_value (slice_range text from to) ≤ 255
escape_small text from to b = rw (escape_value_by text from to (body_room text from to b)) (body_small text from to b)

-- the value of a character from its first inner byte
abbrev char_by : ℕ → List ℕ → ℕ
char_by b inner = if nat_eq b 92 then escape_value inner else b

pub char_value_by : (text : List ℕ) (from inner_end to : ℕ) → from + 1 < inner_end → to ≡ inner_end + 1 → to ≤ length text
    → char_value (slice_range text from to) ≡ char_by (slice_index text (from + 1)) (slice_range text (from + 1) inner_end)
unfolding char_value
char_value_by text from inner_end to h e g =
    let l : length (slice_range text from to) ≡ to - from = range_length text from to g in
    let b : slice_index (slice_range text from to) 1 ≡ slice_index text (from + 1) = range_at text from to 1 (omega arith) in
    let n : length (slice_range text from to) - 1 ≡ inner_end - from = omega arith in
    let r : slice_range (slice_range text from to) 1 (inner_end - from) ≡ slice_range text (from + 1) (from + (inner_end - from)) =
    range_range text from to 1 (inner_end - from) (omega arith) (omega arith) in
    let m : from + (inner_end - from) ≡ inner_end = omega arith in
    let i : slice_range (slice_range text from to) 1 (length (slice_range text from to) - 1) ≡ slice_range text (from + 1) inner_end =
    ap (slice_range (slice_range text from to) 1) n ∙ r ∙ ap (slice_range text (from + 1)) m in
    ap (λ (z : ℕ). char_by z (slice_range (slice_range text from to) 1 (length (slice_range text from to) - 1))) b
    ∙ ap (char_by (slice_index text (from + 1))) i

own_byte : (b : ℕ) → is_char_byte b ≡ true → (nat_eq b 92 ≡ false) × (b ≤ 255)
own_byte b h = (grind (arith, nat_tests), grind (arith, nat_tests))

inner_small : (text : List ℕ) (from to : ℕ) → OneOf is_char_byte text from to → char_by (slice_index text from) (slice_range text from to) ≤ 255
inner_small text from to (itself h) = let own = own_byte (slice_index text from) h in rw own.0 own.1
inner_small text from to (escaped e) = rw e.backslash (escape_small text from to e.body)

pub char_small : (text : List ℕ) (from to : ℕ) → IsChar text from to → char_value (slice_range text from to) ≤ 255
char_small text from to s =
    let w = spelled_within text CharacterLiteral from to s in
    let a = one_of_after is_char_byte text (from + 1) s.inner_end s.inner in
    rw (char_value_by text from s.inner_end to a s.ends w.inside) (inner_small text (from + 1) s.inner_end s.inner)
