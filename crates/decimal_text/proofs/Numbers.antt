-- Numbers at the front of a text.
use Rattle.std.proofs.Common.{◌≡◌, ◌∙◌, ◌⊎◌, leb-true, ◌<◌, ◌≤◌, ◌+◌, ◌*◌, ◌-◌, ◌++◌, inl, inr, ap, sym, subst, refl, arith, rules, ℕ, Bool, List, [], ◌∷◌}
use Rattle.std.proofs.Common.{true, false, true≢false, length, take, drop, get_or}
use Rattle.std.specs.Prelude.{◌&&◌, ◌^◌, cond, zero, suc}
use Rattle.std.specs.Char.{is_ascii_digit}
use Rattle.std.specs.List.{prefix_len}
use Rattle.std.specs.Fmt.{decimal}
use Rattle.std.specs.Str.{all_ascii_digits}
use Rattle.std.proofs.lemmas.List.{take_more, take-append-drop}
use Rattle.std.proofs.lemmas.Str.Parse.{IsNumeralModel, numerals_by_fold}
use Rattle.std.proofs.lemmas.Fmt.{decimal-digits_value, digits_decimal, digits_value-decimal, decimal_nonempty, first_decimal, decimal_digit, decimal_injective}
use Rattle.decimal_text.specs.Number.{read_on, IsBehind, BeginsWith, BeginsWithNone}

pub own : IsNumeralModel (λ ds. all_ascii_digits ds ≡ true) (read_on 0)
own = numerals_by_fold _ (search rules) read_on (search rules)

-- the digits at the front, and what is behind them
abbrev pub count : List ℕ → ℕ
count text = prefix_len is_ascii_digit text

abbrev pub front : List ℕ → List ℕ
front text = take (count text) text

abbrev pub back : List ℕ → List ℕ
back text = drop (count text) text

both : (a b : Bool) → (a && b) ≡ true → (a ≡ true) × (b ≡ true)
both true b e = (refl, e)
both false b e = absurd (true≢false (sym e))

one_more : (n : ℕ) → suc n ≡ 1 + n
one_more n = omega arith

-- with a digit before it
count_digit : (c : ℕ) (cs : List ℕ) → is_ascii_digit c ≡ true → count (c ∷ cs) ≡ suc (count cs)
count_digit c cs e = ap (λ b. cond b (1 + count cs) 0) e ∙ sym (one_more (count cs))

count_none : (c : ℕ) (cs : List ℕ) → is_ascii_digit c ≡ false → count (c ∷ cs) ≡ 0
count_none c cs e = ap (λ b. cond b (1 + count cs) 0) e

pub front_digits : (text : List ℕ) → all_ascii_digits (front text) ≡ true
front_digits [] = refl
front_digits (c ∷ cs) = go (front_digits cs) (is_ascii_digit c) refl
  where
    go : all_ascii_digits (front cs) ≡ true → (b : Bool) → is_ascii_digit c ≡ b → all_ascii_digits (front (c ∷ cs)) ≡ true
    go ih true e = subst (λ k. all_ascii_digits (take k (c ∷ cs)) ≡ true) (sym (count_digit c cs e)) (ap (λ b. b && all_ascii_digits (front cs)) e ∙ ih)
    go ih false e = subst (λ k. all_ascii_digits (take k (c ∷ cs)) ≡ true) (sym (count_none c cs e)) refl

pub back_behind : (text : List ℕ) → IsBehind (back text)
back_behind [] = refl
back_behind (c ∷ cs) = go (back_behind cs) (is_ascii_digit c) refl
  where
    go : IsBehind (back cs) → (b : Bool) → is_ascii_digit c ≡ b → IsBehind (back (c ∷ cs))
    go ih true e = subst (λ k. IsBehind (drop k (c ∷ cs))) (sym (count_digit c cs e)) ih
    go ih false e = subst (λ k. IsBehind (drop k (c ∷ cs))) (sym (count_none c cs e)) e

-- digits, and what is behind them, are found
pub count_cut : (ds rest : List ℕ) → all_ascii_digits ds ≡ true → IsBehind rest → count (ds ++ rest) ≡ length ds
count_cut [] [] p b = refl
count_cut [] (c ∷ cs) p b = count_none c cs b
count_cut (d ∷ ds) rest p b = let two = both _ _ p in count_digit d (ds ++ rest) two.0 ∙ ap suc (count_cut ds rest two.1 b)

take_all : (xs ys : List ℕ) → take (length xs) (xs ++ ys) ≡ xs
take_all [] ys = refl
take_all (x ∷ xs) ys = ap (λ zs. x ∷ zs) (take_all xs ys)

drop_all : (xs ys : List ℕ) → drop (length xs) (xs ++ ys) ≡ ys
drop_all [] ys = refl
drop_all (x ∷ xs) ys = drop_all xs ys

pub record IsCut (text : List ℕ) (n : ℕ) (rest : List ℕ) : Type 0 where
  pub digits : front text ≡ decimal n
  pub others : back text ≡ rest

pub is_cut : (text : List ℕ) (n : ℕ) (rest : List ℕ) → n < 2 ^ 64 → text ≡ decimal n ++ rest → IsBehind rest → IsCut text n rest
is_cut text n rest small e b =
    let here = count_cut (decimal n) rest (digits_decimal own n small) b in
    record {
      digits = ap front e ∙ (ap (λ k. take k (decimal n ++ rest)) here ∙ take_all (decimal n) rest);
      others = ap back e ∙ (ap (λ k. drop k (decimal n ++ rest)) here ∙ drop_all (decimal n) rest);
    }

-- one number, and one rest
pub record IsSame (m n : ℕ) (x y : List ℕ) : Type 0 where
  pub number : m ≡ n
  pub rest : x ≡ y

pub same_number : (m n : ℕ) (x y : List ℕ) → m < 2 ^ 64 → n < 2 ^ 64 → decimal m ++ x ≡ decimal n ++ y → IsBehind x → IsBehind y → IsSame m n x y
same_number m n x y p q e b c =
    let one = is_cut (decimal m ++ x) m x p refl b in
    let two = is_cut (decimal m ++ x) n y q e c in
    record { number = decimal_injective m n p q (sym one.digits ∙ two.digits); rest = sym one.others ∙ two.others }

-- no number is empty or has a zero before other digits
pub not_padded : (text : List ℕ) (most : ℕ) → most < 2 ^ 64 → ((length (front text) ≡ 0) ⊎ ((1 < length (front text)) × (get_or (front text) 0 0 ≡ 48)))
    → BeginsWithNone text most
not_padded text most fits pad n rest is =
    let cut = is_cut text n rest (omega (arith, is.bound)) is.written is.behind in
    go n (omega (arith, is.bound)) (subst (λ ds. (length ds ≡ 0) ⊎ ((1 < length ds) × (get_or ds 0 0 ≡ 48))) cut.digits pad)
  where
    go : (n : ℕ) → n < 2 ^ 64 → ((length (decimal n) ≡ 0) ⊎ ((1 < length (decimal n)) × (get_or (decimal n) 0 0 ≡ 48))) → ⊥
    go n small (inl none) = let some = decimal_nonempty n small in omega arith
    go zero small (inr h) = let one = ap length (decimal_digit 0 (omega arith)) in omega (arith, h.0)
    go (suc n) small (inr h) = let far = first_decimal (suc n) (omega arith) small in omega (arith, h.1)

-- a number above the bound is none
pub too_large : (text : List ℕ) (most : ℕ) → most < 2 ^ 64 → most < read_on 0 (front text) → BeginsWithNone text most
too_large text most fits large n rest is =
    let cut = is_cut text n rest (omega (arith, is.bound)) is.written is.behind in
    let value = ap (read_on 0) cut.digits ∙ digits_value-decimal own n (omega (arith, is.bound)) in
    omega (arith, is.bound)

-- a number that is not padded is what its digits write
pub is_written : (text : List ℕ) (most n : ℕ) → most < 2 ^ 64 → (((length (front text) ≡ 0) ⊎ ((1 < length (front text)) × (get_or (front text) 0 0 ≡ 48))) → ⊥)
    → n ≡ read_on 0 (front text) → n ≤ most
    → text ≡ front text ++ back text → BeginsWith text most n (back text)
is_written text most n fits plain value bound split = record {
  bound = bound;
  written = split ∙ ap (λ ds. ds ++ back text) (sym (ap decimal value ∙ decimal-digits_value own (front text) (front_digits text)
      (some (length (front text)) refl) one (omega arith)));
  behind = back_behind text;
}
  where
    some : (k : ℕ) → length (front text) ≡ k → 0 < length (front text)
    some zero e = absurd (plain (inl e))
    some (suc k) e = omega arith

    at : (k : ℕ) → length (front text) ≡ k → get_or (front text) 0 0 ≡ 48 → k ≡ 1
    at zero e z = absurd (plain (inl e))
    at (suc zero) e z = refl
    at (suc (suc k)) e z = absurd (plain (inr (omega arith, z)))

    one : get_or (front text) 0 0 ≡ 48 → length (front text) ≡ 1
    one z = at (length (front text)) refl z

-- reading on never makes a number smaller
pub read_on_grows : (n : ℕ) (ds : List ℕ) → n ≤ read_on n ds
read_on_grows n [] = omega arith
read_on_grows n (c ∷ cs) = let more = read_on_grows (10 * n + (c - 48)) cs in omega arith

pub read_on_append : (n : ℕ) (xs ys : List ℕ) → read_on n (xs ++ ys) ≡ read_on (read_on n xs) ys
read_on_append n [] ys = refl
read_on_append n (x ∷ xs) ys = read_on_append (10 * n + (x - 48)) xs ys

-- ---- digits one by one

pub digit_at : (ds : List ℕ) (i : ℕ) → all_ascii_digits ds ≡ true → i < length ds → is_ascii_digit (get_or ds i 0) ≡ true
digit_at [] i e h = absurd (omega arith)
digit_at (d ∷ ds) zero e h = (both _ _ e).0
digit_at (d ∷ ds) (suc i) e h = digit_at ds i (both _ _ e).1 (omega arith)

pub digit_range : (ds : List ℕ) (i : ℕ) → all_ascii_digits ds ≡ true → i < length ds → (48 ≤ get_or ds i 0) × (get_or ds i 0 ≤ 57)
digit_range ds i e h = let two = both _ _ (digit_at ds i e h) in (leb-true _ _ two.0, leb-true _ _ two.1)

pub read_more : (ds : List ℕ) (i : ℕ) → i < length ds → read_on 0 (take (i + 1) ds) ≡ 10 * read_on 0 (take i ds) + (get_or ds i 0 - 48)
read_more ds i h = ap (read_on 0) (take_more ds i 0 h) ∙ read_on_append 0 (take i ds) (get_or ds i 0 ∷ [])

pub read_at_least : (ds : List ℕ) (i : ℕ) → read_on 0 (take i ds) ≤ read_on 0 ds
read_at_least ds i = subst (λ t. read_on 0 (take i ds) ≤ t) (sym (read_on_append 0 (take i ds) (drop i ds)) ∙ ap (read_on 0) (take-append-drop i ds))
    (read_on_grows (read_on 0 (take i ds)) (drop i ds))
