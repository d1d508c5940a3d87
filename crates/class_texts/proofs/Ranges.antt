-- The tokens from one to another, and their spellings with blanks between them.
use Rattle.std.proofs.Common.{◌≡◌, ◌∙◌, ℕ, suc, ◌+◌, ◌-◌, ◌<◌, ◌≤◌, nat_lt, Bool, true, false, min, List, [], ◌∷◌, ◌++◌, length, map, take, drop, get_or, refl}
use Rattle.std.proofs.Common.{sym, ap, add-one, arith, slice_range, append_assoc, append-nil}
use Rattle.std.proofs.lemmas.Slice.{between_is}
use Rattle.std.proofs.lemmas.List.{take_min, drop_min, take-map, drop-map, length-take, length-drop}
use Rattle.std.proofs.lemmas.Bool.{ltb-true, ltb-false}
use Rattle.std.proofs.Math.Seq.{drop-cons}
use Rattle.elab_init.specs.cpp_lex.Tokens.{Lexeme, lexeme_of}
use Rattle.elab_init.specs.cpp_lex.declared.Token.{Token}
use Rattle.elab_init.specs.elab_rules.Functions.{joined}
use Rattle.class_texts.specs.Signatures.{gap}

same_part : {X : Type 0} (xs : List X) (i j s e : ℕ) → e ≡ min j (length xs) → s ≡ min i e → drop s (take e xs) ≡ drop i (take j xs)
same_part xs i j s e he hs =
    let long : length (take j xs) ≡ e = length-take j xs ∙ sym he in
    ap (λ z. drop s (take z xs)) he
    ∙ ap (drop s) (take_min j xs)
    ∙ ap (λ z. drop z (take j xs)) (hs ∙ ap (min i) (sym long))
    ∙ drop_min i (take j xs)

pub range_is : {X Y : Type 0} (f : X → Y) (xs : List X) (i j s e : ℕ) → e ≡ min j (length xs) → s ≡ min i e
    → map f (slice_range xs s e) ≡ slice_range (map f xs) i j
range_is f xs i j s e he hs =
    ap (map f) (between_is xs s e ∙ same_part xs i j s e he hs)
    ∙ sym (drop-map f i (take j xs))
    ∙ ap (drop i) (sym (take-map f j xs))
    ∙ sym (between_is (map f xs) i j)

-- One more token is written: with a blank behind it where others follow

pub joined_more : (t u : Lexeme) (ts : List Lexeme) (text : List ℕ) → ((text ++ t.bytes) ++ 32 ∷ []) ++ joined (u ∷ ts) ≡ text ++ joined (t ∷ u ∷ ts)
joined_more t u ts text = append_assoc (text ++ t.bytes) (32 ∷ []) (joined (u ∷ ts)) ∙ append_assoc text t.bytes (32 ∷ joined (u ∷ ts))

-- the tokens behind it are there where it is said so
joined_by : (b : Bool) (t : Token) (rest : List Token) (text : List ℕ) → (b ≡ true → 0 < length rest) → (b ≡ false → length rest ≡ 0)
    → ((text ++ t.bytes.items) ++ gap b) ++ joined (map lexeme_of rest) ≡ text ++ joined (map lexeme_of (t ∷ rest))
joined_by true t [] text h g = absurd (let z : 0 < 0 = h refl in omega (arith, z))
joined_by true t (u ∷ us) text h g = joined_more (lexeme_of t) (lexeme_of u) (map lexeme_of us) text
joined_by false t [] text h g = append-nil ((text ++ t.bytes.items) ++ []) ∙ append-nil (text ++ t.bytes.items)
joined_by false t (u ∷ us) text h g = absurd (let z : suc (length us) ≡ 0 = g refl in omega (arith, z))

pub joined_step : (items : List Token) (i : ℕ) (t : Token) (b : Bool) (text new all : List ℕ) → i < length items → t ≡ get_or items i t
    → b ≡ nat_lt (i + 1) (length items) → new ≡ (text ++ t.bytes.items) ++ gap b →
    text ++ joined (map lexeme_of (drop i items)) ≡ all → new ++ joined (map lexeme_of (drop (i + 1) items)) ≡ all
joined_step items i t b text new all h e be ne g =
    let one : drop i items ≡ t ∷ drop (suc i) items = drop-cons items i t h ∙ ap (λ (z : Token). z ∷ drop (suc i) items) (sym e) in
    let long : length (drop (suc i) items) ≡ length items - suc i = length-drop (suc i) items in
    let there : b ≡ true → 0 < length (drop (suc i) items) = λ (p : b ≡ true). let q : i + 1 < length items = ltb-true (i + 1) (length items) (sym be ∙ p) in
    omega (arith, q, long) in
    let none : b ≡ false → length (drop (suc i) items) ≡ 0 = λ (p : b ≡ false). let q : length items ≤ i + 1 = ltb-false (i + 1) (length items) (sym be ∙ p) in
    omega (arith, q, long) in
    rw (add-one i)
    (ap (λ z. z ++ joined (map lexeme_of (drop (suc i) items))) ne
    ∙ joined_by b t (drop (suc i) items) text there none
    ∙ ap (λ z. text ++ joined (map lexeme_of z)) (sym one)
    ∙ g)
