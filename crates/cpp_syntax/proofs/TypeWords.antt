-- Words of types, one behind the other, and when they spell a type.
use Rattle.std.proofs.Common.{◌≡◌, ℕ, zero, suc, ◌+◌, ◌-◌, ◌<◌, ◌≤◌, ◌⊎◌, inl, inr, nat_le, nat_eq, Bool, true, false, not, ◌&&◌, ◌||◌, refl, sym as back, ◌∙◌}
use Rattle.std.proofs.Common.{subst, ap, ap₂, arith, List, [], ◌∷◌, ◌++◌, take, drop, length, get_or, slice_range, count_by, Option, Some, None, true≢false}
use Rattle.std.proofs.Math.Seq.{take-add}
use Rattle.std.proofs.lemmas.List.{drop-drop}
use Rattle.std.proofs.lemmas.List.Sums.{sum_by-append}
use Rattle.std.specs.List.{list_all}
use Rattle.std.proofs.lemmas.List.Folds.{list_all-append}
use Rattle.std.proofs.lemmas.Bool.{cases_lt, cases_Bool, and_from, and_parts, or_cases, or_left, or_right}
use Rattle.cpp_syntax.specs.declared.terminal.Terminal.{Terminal}
use Rattle.cpp_syntax.specs.declared.terminal.Terminal.TheVariants as terminal
use Rattle.cpp_syntax.specs.declared.type_words.Words.{Words}
use Rattle.cpp_syntax.specs.Source.{Source, terminal_at}
use Rattle.cpp_syntax.specs.Terminals.{is_type_word}
use Rattle.cpp_syntax.specs.Types.{is_sign, is_char, is_short, is_int, is_long, is_integer_word, is_combination, is_spelling, spells_a_type}
use Rattle.cpp_syntax.specs.Shapes.{AreTypeWords, BehindWords}
use Rattle.cpp_syntax.specs.Tallies.{tally_of, is_tally, with_word, may_come, IntegerWords}
use Rattle.cpp_syntax.proofs.TerminalTables.{passes, at_each, implies, implied}
use Rattle.cpp_syntax.proofs.WithinTokens.{token_inside}

-- Parts of a list.

pub part_split : (xs : List Terminal) (a b c : ℕ) → a ≤ b → b ≤ c → slice_range xs a c ≡ slice_range xs a b ++ slice_range xs b c
part_split xs a b c h i =
    let e : c - a ≡ (b - a) + (c - b) = omega (arith, h, i) in
    let f : a + (b - a) ≡ b = omega (arith, h) in
    ap (λ (n : ℕ). take n (drop a xs)) e ∙ take-add (b - a) (c - b) (drop a xs) ∙ ap (λ (ys : List Terminal). take (b - a) (drop a xs) ++ take
    (c - b) ys) (drop-drop (b - a) a xs ∙ ap (λ (n : ℕ). drop n xs) f)

pub part_none : (xs : List Terminal) (a : ℕ) → slice_range xs a a ≡ []
part_none xs a = let e : a - a ≡ 0 = omega arith in ap (λ (n : ℕ). take n (drop a xs)) e

pub part_first : (xs : List Terminal) (a b : ℕ) → a < b → a < length xs → slice_range xs a b ≡ get_or xs a terminal.End ∷ slice_range xs (a + 1) b
part_first xs a b h i = part_split xs a (a + 1) b (omega arith) (omega (arith, h)) ∙ ap (λ (ys : List Terminal). ys ++ slice_range xs (a + 1) b) (one xs a i)
  where
    one : (xs : List Terminal) (a : ℕ) → a < length xs → slice_range xs a (a + 1) ≡ get_or xs a terminal.End ∷ []
    one [] a h = absurd (omega (arith, h))
    one (x ∷ xs) zero h = refl
    one (x ∷ xs) (suc a) h = let e : suc a + 1 - suc a ≡ a + 1 - a = omega arith in ap (λ (n : ℕ). take n (drop a xs)) e ∙ one xs a (omega (arith, h))

pub part_one : (xs : List Terminal) (a : ℕ) → a < length xs → slice_range xs a (a + 1) ≡ get_or xs a terminal.End ∷ []
part_one xs a h = part_first xs a (a + 1) (omega arith) h ∙ ap (λ (ys : List Terminal). get_or xs a terminal.End ∷ ys) (part_none xs (a + 1))

pub part_last : (xs : List Terminal) (a b : ℕ) → a ≤ b → b < length xs → slice_range xs a (b + 1) ≡ slice_range xs a b ++ get_or xs b terminal.End ∷ []
part_last xs a b h i = part_split xs a b (b + 1) h (omega arith) ∙ ap (λ (ys : List Terminal). slice_range xs a b ++ ys) (part_one xs b i)

-- all between two indices pass a test
pub part_all : (test : Terminal → Bool) (xs : List Terminal) (a b : ℕ) → not (test terminal.End) ≡ true
    → ((c : ℕ) → a ≤ c → c < b → test (get_or xs c terminal.End) ≡ true) → list_all test (slice_range xs a b) ≡ true
part_all test xs a b e f = by b f
  where
    here : (c : ℕ) → test (get_or xs c terminal.End) ≡ true → c < length xs
    here c t = token_inside (record { number = 0; terminals = xs; begins = []; ends = 0 }) c test e t

    by : (b : ℕ) → ((c : ℕ) → a ≤ c → c < b → test (get_or xs c terminal.End) ≡ true) → list_all test (slice_range xs a b) ≡ true
    by zero f = let e : 0 - a ≡ 0 = omega arith in ap (λ (n : ℕ). list_all test (take n (drop a xs))) e
    by (suc b) f = elim (cases_lt b a) [
      | inl h ↦ let e : suc b - a ≡ 0 = omega (arith, h) in ap (λ (n : ℕ). list_all test (take n (drop a xs))) e
      | inr h ↦
          let t = f b h (omega arith) in
          let e : suc b ≡ b + 1 = omega arith in
          ap (λ (n : ℕ). list_all test (slice_range xs a n)) e ∙ ap (list_all test) (part_last xs a b h (here b t)) ∙ list_all-append test
          (slice_range xs a b) (get_or xs b terminal.End ∷ [])
          ∙ and_from (list_all test (slice_range xs a b)) (test (get_or xs b terminal.End) && true) (by b (λ c i j. f c i (omega (arith, j))))
          (and_from (test (get_or xs b terminal.End)) true t refl)
    ]

-- Tallies.

count_both : (p : Terminal → Bool) (xs ys : List Terminal) → count_by p (xs ++ ys) ≡ count_by p xs + count_by p ys
count_both p xs ys = sum_by-append _ xs ys

same_words : {a a' b b' c c' d d' e e' : ℕ} → a ≡ a' → b ≡ b' → c ≡ c' → d ≡ d' → e ≡ e'
    → (let x : Words = record { signs = a; chars = b; shorts = c; ints = d; longs = e } in x) ≡
    (let y : Words = record { signs = a'; chars = b'; shorts = c'; ints = d'; longs = e' } in y)
same_words f g h i j = cc

stays_so : (n : ℕ) → n + 0 ≡ n
stays_so n = omega arith

pub tally_more : (xs : List Terminal) (s : Terminal) → is_integer_word s ≡ true → tally_of (xs ++ s ∷ []) ≡ with_word (tally_of xs) s
tally_more xs s e =
    same_words (count_both is_sign xs (s ∷ [])) (count_both is_char xs (s ∷ [])) (count_both is_short xs (s ∷ [])) (count_both is_int xs (s ∷ []))
    (count_both is_long xs (s ∷ [])) ∙ by s e
  where
    by : (s : Terminal) → is_integer_word s ≡ true
        → (let x : Words = record {
          signs = count_by is_sign xs + count_by is_sign (s ∷ []);
          chars = count_by is_char xs + count_by is_char (s ∷ []);
          shorts = count_by is_short xs + count_by is_short (s ∷ []);
          ints = count_by is_int xs + count_by is_int (s ∷ []);
          longs = count_by is_long
              xs + count_by is_long (s ∷ []);
        } in x) ≡ with_word (tally_of xs) s
    by terminal.Signed e = same_words refl (stays_so _) (stays_so _) (stays_so _) (stays_so _)
    by terminal.Unsigned e = same_words refl (stays_so _) (stays_so _) (stays_so _) (stays_so _)
    by terminal.Char e = same_words (stays_so _) refl (stays_so _) (stays_so _) (stays_so _)
    by terminal.Short e = same_words (stays_so _) (stays_so _) refl (stays_so _) (stays_so _)
    by terminal.Int e = same_words (stays_so _) (stays_so _) (stays_so _) refl (stays_so _)
    by terminal.Long e = same_words (stays_so _) (stays_so _) (stays_so _) (stays_so _) refl
    by _ e = cc

-- more words come together only where fewer do

le_fewer : (a a' n : ℕ) → nat_le (a + a') n ≡ true → nat_le a n ≡ true
le_fewer a a' n h = grind (arith, h)

none_fewer : (a a' : ℕ) → nat_eq (a + a') 0 ≡ true → nat_eq a 0 ≡ true
none_fewer a a' h = grind (arith, h)

three_fewer : (a b c a' b' c' : ℕ) → nat_eq (a + a' + (b + b') + (c + c')) 0 ≡ true → nat_eq (a + b + c) 0 ≡ true
three_fewer a b c a' b' c' h = grind (arith, h)

or_fewer : (p q p' q' : Bool) → (p' ≡ true → p ≡ true) → (q' ≡ true → q ≡ true) → (p' || q') ≡ true → (p || q) ≡ true
or_fewer p q p' q' f g h = elim (or_cases p' q' h) [ inl i ↦ or_left p q (f i) | inr i ↦ or_right p q (g i) ]

and_fewer : (p q p' q' : Bool) → (p' ≡ true → p ≡ true) → (q' ≡ true → q ≡ true) → (p' && q') ≡ true → (p && q) ≡ true
and_fewer p q p' q' f g h = let i = and_parts p' q' h in and_from p q (f i.0) (g i.1)

pub fewer_together : (a b c d e a' b' c' d' e' : ℕ) → is_combination (a + a') (b + b') (c + c') (d + d') (e + e') ≡ true → is_combination a b c d e ≡ true
fewer_together a b c d e a' b' c' d' e' =
    and_fewer _ _ _ _ (and_fewer _ _ _ _ (and_fewer _ _ _ _ (and_fewer _ _ _ _ (and_fewer _ _ _ _
    (and_fewer _ _ _ _ (le_fewer a a' 1) (le_fewer b b' 1)) (le_fewer c c' 1)) (le_fewer d d' 1)) (le_fewer e e' 2))
    (or_fewer _ _ _ _ (none_fewer b b') (three_fewer c d e c' d' e')))
    (or_fewer _ _ _ _ (none_fewer c c') (none_fewer e e'))

pub tally_fewer : (xs ys : List Terminal) → is_tally (tally_of (xs ++ ys)) ≡ true → is_tally (tally_of xs) ≡ true
tally_fewer xs ys h =
    fewer_together (count_by is_sign xs) (count_by is_char xs) (count_by is_short xs) (count_by is_int xs) (count_by is_long xs)
    (count_by is_sign ys) (count_by is_char ys) (count_by is_short ys) (count_by is_int ys) (count_by is_long ys)
    (ap is_tally (back (same_words (count_both is_sign xs ys) (count_both is_char xs ys) (count_both is_short xs ys) (count_both is_int xs ys)
    (count_both is_long xs ys))) ∙ h)

-- Spellings.

pub integer_spelled : (s : Terminal) (xs : List Terminal) → is_integer_word s ≡ true
    → is_spelling (s ∷ xs) ≡ (list_all is_integer_word (s ∷ xs) && is_tally (tally_of (s ∷ xs)))
integer_spelled terminal.Signed xs e = refl
integer_spelled terminal.Unsigned xs e = refl
integer_spelled terminal.Char xs e = refl
integer_spelled terminal.Short xs e = refl
integer_spelled terminal.Int xs e = refl
integer_spelled terminal.Long xs e = refl
integer_spelled _ xs e = cc

-- words of an integer type were read from one index to another
pub record Tallied (source : Source) (a b : ℕ) (w : Words) : Type 0 where
  pub ahead : a ≤ b
  pub words : (c : ℕ) → a ≤ c → c < b → is_integer_word (terminal_at source c) ≡ true
  pub counted : w ≡ tally_of (slice_range source.terminals a b)
  pub together : is_tally w ≡ true

pub tallied_none : (source : Source) (a : ℕ) → Tallied source a a (record { signs = 0; chars = 0; shorts = 0; ints = 0; longs = 0 })
tallied_none source a =
    record {
      ahead = omega arith;
      words = λ c h i. absurd (omega (arith, h, i));
      counted = ap tally_of (back (part_none source.terminals a));
      together = refl;
    }

integer_inside : (source : Source) (a : ℕ) → is_integer_word (terminal_at source a) ≡ true → a < length source.terminals
integer_inside source a t = token_inside source a is_integer_word refl t

pub came_inside : (source : Source) (w : Words) (a : ℕ) (s : Terminal) → s ≡ terminal_at source a → may_come w s ≡ true → a < length source.terminals
came_inside source w a s i e = integer_inside source a (ap is_integer_word (back i) ∙ (and_parts (is_integer_word s) (is_tally (with_word w s)) e).0)

pub tallied_more : (source : Source) (a b : ℕ) (w more : Words) (s : Terminal) → s ≡ terminal_at source b → Tallied source a b w
    → more ≡ with_word w s → may_come w s ≡ true → Tallied source a (b + 1) more
tallied_more source a b w more s i x e f = by (subst (λ (z : Terminal). more ≡ with_word w z) i e) (subst (λ (z : Terminal). may_come w z ≡ true) i f)
  where
    by : more ≡ with_word w (terminal_at source b) → may_come w (terminal_at source b) ≡ true → Tallied source a (b + 1) more
    by e f =
        let p = and_parts (is_integer_word (terminal_at source b)) (is_tally (with_word w (terminal_at source b))) f in
        record {
          ahead = let h = x.ahead in omega (arith, h);
          words =
              λ c h i. elim (cases_lt c b) [
                | inl j ↦ x.words c h j
                | inr j ↦ let k : b ≡ c = omega (arith, i, j) in subst
                    (λ (n : ℕ). is_integer_word (terminal_at source n) ≡ true) k p.0
              ];
          counted =
              e ∙ ap (λ (v : Words). with_word v (terminal_at source b)) x.counted ∙ back
              (tally_more (slice_range source.terminals a b) (terminal_at source b) p.0) ∙ ap tally_of
              (back (part_last source.terminals a b x.ahead (integer_inside source b p.0)));
          together = ap is_tally e ∙ p.1;
        }

pub tallied_all : (source : Source) (a b : ℕ) (w : Words) (s : Terminal) → s ≡ terminal_at source b → Tallied source a b w → may_come w s ≡ false
    → IntegerWords source a b
tallied_all source a b w s i x e =
    record {
      ahead = x.ahead;
      words = x.words;
      together = ap is_tally (back x.counted) ∙ x.together;
      no_more = ap
          (λ (v : Words). may_come v (terminal_at source b)) (back x.counted) ∙ ap (may_come w) (back i) ∙ e;
    }

-- The words of an integer type are those of a type, unless void, bool or auto stands there.

integer_is_word : (s : Terminal) → is_integer_word s ≡ true → is_type_word s ≡ true
integer_is_word s e = implied (is_integer_word s) (is_type_word s) (at_each (λ z. implies (is_integer_word z) (is_type_word z)) refl s) e

-- void, bool and auto
abbrev pub is_lone_word : Terminal → Bool
is_lone_word terminal.Void = true
is_lone_word terminal.Bool = true
is_lone_word terminal.Auto = true
is_lone_word _ = false

other_word : (s : Terminal) → is_lone_word s ≡ false → is_type_word s ≡ true → is_integer_word s ≡ true
other_word s e f =
    elim (or_cases (is_lone_word s) (is_integer_word s) (implied (is_type_word s) (is_lone_word s || is_integer_word s)
    (at_each (λ z. implies (is_type_word z) (is_lone_word z || is_integer_word z)) refl s) f)) [
      | inl h ↦ absurd (true≢false (back h ∙ e))
      | inr h ↦ h
    ]

first_comes : (s : Terminal) → is_integer_word s ≡ true → may_come (record { signs = 0; chars = 0; shorts = 0; ints = 0; longs = 0 }) s ≡ true
first_comes terminal.Signed e = refl
first_comes terminal.Unsigned e = refl
first_comes terminal.Char e = refl
first_comes terminal.Short e = refl
first_comes terminal.Int e = refl
first_comes terminal.Long e = refl
first_comes _ e = cc

-- words of an integer type with a word behind them that may not come to them spell no type, whatever follows
spoiled : (xs zs : List Terminal) (s : Terminal) → may_come (tally_of xs) s ≡ false → list_all is_integer_word (xs ++ s ∷ zs) ≡ true
    → is_tally (tally_of (xs ++ s ∷ zs)) ≡ true → ⊥
spoiled xs zs s e f g =
    let all : (list_all is_integer_word xs && list_all is_integer_word (s ∷ zs)) ≡ true = back (list_all-append is_integer_word xs (s ∷ zs)) ∙ f in
    let here = (and_parts (is_integer_word s) (list_all is_integer_word zs) (and_parts (list_all is_integer_word xs)
    (list_all is_integer_word (s ∷ zs)) all).1).0 in
    let some : is_tally (tally_of (xs ++ s ∷ [])) ≡ true = tally_fewer (xs ++ s ∷ []) zs
    (ap (λ (ys : List Terminal). is_tally (tally_of ys)) (regroup xs zs s) ∙ g) in
    true≢false (back (and_from (is_integer_word s) (is_tally (with_word (tally_of xs) s)) here (ap is_tally (back (tally_more xs s here)) ∙ some)) ∙ e)
  where
    regroup : (xs zs : List Terminal) (s : Terminal) → (xs ++ s ∷ []) ++ zs ≡ xs ++ s ∷ zs
    regroup [] zs s = refl
    regroup (x ∷ xs) zs s = ap (λ (ys : List Terminal). x ∷ ys) (regroup xs zs s)

spelled_not : (xs : List Terminal) → (list_all is_integer_word xs ≡ true → is_tally (tally_of xs) ≡ true → ⊥)
    → (list_all is_integer_word xs && is_tally (tally_of xs)) ≡ false
spelled_not xs f = elim (cases_Bool (list_all is_integer_word xs && is_tally (tally_of xs))) [
  | inl h ↦ let p = and_parts (list_all is_integer_word xs) (is_tally (tally_of xs)) h in absurd (f p.0 p.1)
  | inr h ↦ h
]

pub integers_behind : (source : Source) (a b : ℕ) → IntegerWords source a b → is_lone_word (terminal_at source a) ≡ false → BehindWords source a b
integers_behind source a b x e = record {
  ahead = x.ahead;
  inside = λ h. elim (cases_lt a b) [
    | inl i ↦ let j : b - 1 < length source.terminals = integer_inside source (b - 1) (x.words (b - 1) (omega (arith, i)) (omega (arith, i))) in
        omega (arith, i, j)
    | inr i ↦ let j = x.ahead in omega (arith, i, j, h)
  ];
  words = λ c h i. integer_is_word (terminal_at source c) (x.words c h i);
  begins = begins;
  spells = spells;
  no_more = no_more;
}
  where
    none_there : a ≡ b → is_integer_word (terminal_at source a) ≡ true → ⊥
    none_there h t = true≢false (back (first_comes (terminal_at source a) t)
        ∙ ap (λ (ys : List Terminal). may_come (tally_of ys) (terminal_at source a)) (back (part_none source.terminals a))
        ∙ ap (λ (n : ℕ). may_come (tally_of (slice_range source.terminals a n)) (terminal_at source n)) h
        ∙ x.no_more)

    begins : is_type_word (terminal_at source a) ≡ true → a < b
    begins t = elim (cases_lt a b) [
      | inl h ↦ h
      | inr h ↦ let i = x.ahead in absurd (none_there (omega (arith, h, i)) (other_word (terminal_at source a) e t))
    ]

    first_there : (n : ℕ) → a < n → a < length source.terminals
        → slice_range source.terminals a n ≡ terminal_at source a ∷ slice_range source.terminals (a + 1) n
    first_there n h i = part_first source.terminals a n h i

    spells : a < b → spells_a_type source a b ≡ true
    spells h =
        let t = x.words a (omega arith) h in
        let f = first_there b h (integer_inside source a t) in
        ap is_spelling f ∙ integer_spelled (terminal_at source a) (slice_range source.terminals (a + 1) b) t
        ∙ ap (λ (ys : List Terminal). list_all is_integer_word ys && is_tally (tally_of ys)) (back f)
        ∙ and_from (list_all is_integer_word (slice_range source.terminals a b)) (is_tally (tally_of (slice_range source.terminals a b)))
        (part_all is_integer_word source.terminals a b refl x.words) x.together

    no_more : (c : ℕ) → b < c → AreTypeWords source a c → spells_a_type source a c ≡ false
    no_more c h w =
        let l = x.ahead in
        let at_a : is_type_word (terminal_at source a) ≡ true = w a (omega arith) (omega (arith, l, h)) in
        let t = other_word (terminal_at source a) e at_a in
        let at_b : b < length source.terminals = token_inside source b is_type_word refl (w b l h) in
        let f = first_there c (omega (arith, l, h)) (integer_inside source a t) in
        let g : slice_range source.terminals a c ≡ slice_range source.terminals a b ++ terminal_at source b ∷ slice_range source.terminals (b + 1) c
        = part_split source.terminals a b c l (omega (arith, h)) ∙ ap (λ (ys : List Terminal). slice_range source.terminals a b ++ ys)
        (part_first source.terminals b c h at_b) in
        ap is_spelling f ∙ integer_spelled (terminal_at source a) (slice_range source.terminals (a + 1) c) t
        ∙ ap (λ (ys : List Terminal). list_all is_integer_word ys && is_tally (tally_of ys)) (back f ∙ g)
        ∙ spelled_not (slice_range source.terminals a b ++ terminal_at source b ∷ slice_range source.terminals (b + 1) c)
        (spoiled (slice_range source.terminals a b) (slice_range source.terminals (b + 1) c) (terminal_at source b) x.no_more)

-- void, bool and auto stand alone

lone_word : (s : Terminal) → is_lone_word s ≡ true → is_type_word s ≡ true
lone_word s e = implied (is_lone_word s) (is_type_word s) (at_each (λ z. implies (is_lone_word z) (is_type_word z)) refl s) e

lone_spelled : (s : Terminal) → is_lone_word s ≡ true → is_spelling (s ∷ []) ≡ true
lone_spelled terminal.Void e = refl
lone_spelled terminal.Bool e = refl
lone_spelled terminal.Auto e = refl
lone_spelled _ e = cc

lone_only : (s t : Terminal) (xs : List Terminal) → is_lone_word s ≡ true → is_spelling (s ∷ t ∷ xs) ≡ false
lone_only terminal.Void t xs e = refl
lone_only terminal.Bool t xs e = refl
lone_only terminal.Auto t xs e = refl
lone_only _ t xs e = cc

pub alone_behind : (source : Source) (a : ℕ) → is_lone_word (terminal_at source a) ≡ true → BehindWords source a (a + 1)
alone_behind source a t = record {
  ahead = omega arith;
  inside = λ h. omega (arith, here);
  words = λ c h i. let e : a ≡ c = omega (arith, h, i) in subst (λ (n : ℕ). is_type_word (terminal_at source n) ≡ true) e (lone_word (terminal_at source a) t);
  begins = λ e. omega arith;
  spells = λ h. ap is_spelling (part_one source.terminals a here) ∙ lone_spelled (terminal_at source a) t;
  no_more = λ c h w.
      let next : a + 1 < length source.terminals = token_inside source (a + 1) is_type_word refl (w (a + 1) (omega arith) h) in
      ap is_spelling (part_first source.terminals a c (omega (arith, h)) here ∙ ap (λ (ys : List Terminal). terminal_at source a ∷ ys)
      (part_first source.terminals (a + 1) c h next)) ∙ lone_only (terminal_at source a) (terminal_at source (a + 1))
      (slice_range source.terminals (a + 1 + 1) c) t;
}
  where
    here : a < length source.terminals
    here = token_inside source a is_lone_word refl t

pub not_alone : (s : Terminal) → (s ≡ terminal.Void → ⊥) → (s ≡ terminal.Bool → ⊥) → (s ≡ terminal.Auto → ⊥) → is_lone_word s ≡ false
not_alone terminal.Void f g h = absurd (f refl)
not_alone terminal.Bool f g h = absurd (g refl)
not_alone terminal.Auto f g h = absurd (h refl)
not_alone _ f g h = refl
