-- The reader, line by line.
use Rattle.std.proofs.Common.{◌≡◌, ◌≢◌, ◌∙◌, inl, inr, ◌<◌, ◌≤◌, ◌+◌, ◌*◌, ◌-◌, ◌++◌, ap, ap₂, sym, subst, refl, arith, ℕ, List, [], ◌∷◌, true, take, drop}
use Rattle.std.proofs.Common.{length, get_or, replicate, append_assoc, leb-true, length-append, append-nil}
use Rattle.std.specs.Prelude.{◌&&◌, ◌^◌, zero, suc}
use Rattle.std.specs.Char.{is_ascii_digit}
use Rattle.std.specs.List.{list_all}
use Rattle.std.specs.Str.{all_ascii_digits}
use Rattle.std.specs.Fmt.{decimal}
use Rattle.std.proofs.lemmas.List.{take_more, take-append-drop}
use Rattle.std.proofs.lemmas.List.Folds.{list_all-append}
use Rattle.schedules.specs.Number.{read_on, BeginsWith, BeginsWithNone}
use Rattle.schedules.specs.Text.{count_text, line_text, is_line, text_of, entries_of, IsCount, IsMany, Keeps}
use Rattle.schedules.specs.declared.Run.{Run}
use Rattle.schedules.specs.declared.Schedule.{Schedule}
use Rattle.schedules.proofs.Lines.{both, Ends, ends, end_behind, in_bounds, line_split, many_text}
use Rattle.schedules.proofs.Numbers.{IsSame, same_number, read_on_append, read_on_grows}

-- ---- digits

pub digit_at : (ds : List ℕ) (i : ℕ) → all_ascii_digits ds ≡ true → i < length ds → is_ascii_digit (get_or ds i 0) ≡ true
digit_at [] i e h = absurd (omega arith)
digit_at (d ∷ ds) zero e h = (both _ _ e).0
digit_at (d ∷ ds) (suc i) e h = digit_at ds i (both _ _ e).1 (omega arith)

pub digit_range : (ds : List ℕ) (i : ℕ) → all_ascii_digits ds ≡ true → i < length ds → (48 ≤ get_or ds i 0) × (get_or ds i 0 ≤ 57)
digit_range ds i e h = let two = both _ _ (digit_at ds i e h) in (leb-true _ _ two.0, leb-true _ _ two.1)

pub read_more : (ds : List ℕ) (i : ℕ) → i < length ds → read_on 0 (take (i + 1) ds) ≡ 10 * read_on 0 (take i ds) + (get_or ds i 0 - 48)
read_more ds i h = ap (read_on 0) (take_more ds i 0 h) ∙ read_on_append 0 (take i ds) (get_or ds i 0 ∷ [])

pub read_at_least : (ds : List ℕ) (i : ℕ) → read_on 0 (take i ds) ≤ read_on 0 ds
read_at_least ds i = subst (λ t. read_on 0 (take i ds) ≤ t) (sym (read_on_append 0 (take i ds) (drop i ds)) ∙ ap (read_on 0) (take-append-drop i ds))
    (read_on_grows (read_on 0 (take i ds)) (drop i ds))

-- ---- lines

-- the lines so far, and the rest
pub record IsSoFar (most : ℕ) (text rest : List ℕ) (number : ℕ) (s : Schedule) : Type 0 where
  pub lines : List Run
  pub in_grammar : list_all is_line lines ≡ true
  pub written : text ≡ text_of lines ++ rest
  pub kept : Keeps most (entries_of lines) s
  pub numbered : number ≡ length lines
  pub bound : number + length rest ≤ length text

text_append : (rs qs : List Run) → text_of (rs ++ qs) ≡ text_of rs ++ text_of qs
text_append [] qs = refl
text_append (r ∷ rs) qs = ap (λ t. line_text r ++ t) (text_append rs qs) ∙ sym (append_assoc (line_text r) (text_of rs) (text_of qs))

entries_append : (rs qs : List Run) → entries_of (rs ++ qs) ≡ entries_of rs ++ entries_of qs
entries_append [] qs = refl
entries_append (r ∷ rs) qs = ap (λ t. replicate r.count r.thread ++ t) (entries_append rs qs)
    ∙ sym (append_assoc (replicate r.count r.thread) (entries_of rs) (entries_of qs))

-- what is left is shorter
pub line_shorter : (r : Run) (rest behind : List ℕ) → rest ≡ line_text r ++ behind → length behind < length rest
line_shorter r rest behind e = subst (λ k. length behind < length k) (sym e)
    (subst (λ k. length behind < length k) (sym (line_split r behind)) (some (decimal r.thread) (count_text r.count) behind))
  where
    some : (xs ys zs : List ℕ) → length zs < length (xs ++ (ys ++ 10 ∷ zs))
    some [] [] zs = omega arith
    some [] (y ∷ ys) zs = let h = some [] ys zs in omega arith
    some (x ∷ xs) ys zs = let h = some xs ys zs in omega arith

-- a line more
pub next_line : (most : ℕ) (text rest behind : List ℕ) (number : ℕ) (s t : Schedule) (r : Run) → IsSoFar most text rest number s → is_line r ≡ true
    → rest ≡ line_text r ++ behind
    → ((entries : List ℕ) → Keeps most entries s → Keeps most (entries ++ replicate r.count r.thread) t) → IsSoFar most text behind (number + 1) t
next_line most text rest behind number s t r so is split keeps = record {
  lines = so.lines ++ r ∷ [];
  in_grammar = list_all-append is_line so.lines (r ∷ []) ∙ ap₂ (λ a b. a && (b && true)) so.in_grammar is;
  written = so.written ∙ (ap (λ x. text_of so.lines ++ x) split ∙ (sym (append_assoc (text_of so.lines) (line_text r) behind)
      ∙ ap (λ x. x ++ behind) (ap (λ x. text_of so.lines ++ x) (sym (append-nil (line_text r))) ∙ sym (text_append so.lines (r ∷ [])))));
  kept = subst (λ es. Keeps most es t) (ap (λ x. entries_of so.lines ++ x) (sym (append-nil (replicate r.count r.thread))) ∙ sym
      (entries_append so.lines (r ∷ []))) (keeps (entries_of so.lines) so.kept);
  numbered = ap (λ n. n + 1) so.numbered ∙ sym (length-append so.lines (r ∷ []));
  bound = let h = line_shorter r rest behind split in omega (arith, so.bound);
}

-- ---- the end of a line

-- a star, a number and a newline are read one way
pub star_read : (digits rest behind : List ℕ) (most n m : ℕ) → most < 2 ^ 32 → BeginsWith digits most m behind → n ≤ 4000000 → digits ≡ decimal n ++ 10 ∷ rest
    → IsSame m n behind (10 ∷ rest)
star_read digits rest behind most n m fits is bound e =
    same_number m n behind (10 ∷ rest) (omega (arith, is.bound)) (omega arith) (sym is.written ∙ e) is.behind refl

abbrev tail_of : List ℕ → List ℕ
tail_of [] = []
tail_of (x ∷ xs) = xs

pub same_tail : (x y : ℕ) (xs ys : List ℕ) → x ∷ xs ≡ y ∷ ys → xs ≡ ys
same_tail x y xs ys e = ap tail_of e

-- where the end of a line is no newline it has a star
pub is_starred : (n : ℕ) (text rest : List ℕ) → ((rest : List ℕ) → text ≢ 10 ∷ rest) → IsCount n → text ≡ count_text n ++ 10 ∷ rest → IsMany n
    × (text ≡ 42 ∷ (decimal n ++ 10 ∷ rest))
is_starred n text rest plain b e = go (ends n text rest e)
  where
    go : Ends n text rest → IsMany n × (text ≡ 42 ∷ (decimal n ++ 10 ∷ rest))
    go (inl h) = absurd (plain rest h.1)
    go (inr h) = ((omega (arith, h.0), b.1), h.1)

pub starred_is : (n : ℕ) (text rest : List ℕ) → 2 ≤ n → text ≡ 42 ∷ (decimal n ++ 10 ∷ rest) → text ≡ count_text n ++ 10 ∷ rest
starred_is n text rest b e = e ∙ ap (λ t. t ++ 10 ∷ rest) (sym (many_text n (λ h. absurd (omega arith))))

-- ---- the front of a line

pub thread_read : (text behind : List ℕ) (t : ℕ) (r : Run) (rest : List ℕ) → BeginsWith text 63 t behind → is_line r ≡ true → text ≡ line_text r ++ rest
    → IsSame t r.thread behind (count_text r.count ++ 10 ∷ rest)
thread_read text behind t r rest is line e =
    let b = in_bounds r line in
    same_number t r.thread behind _ (omega (arith, is.bound)) (omega (arith, b.thread)) (sym is.written ∙ (e ∙ line_split r rest)) is.behind
    (end_behind r.count rest)

pub no_thread : (text : List ℕ) (r : Run) (rest : List ℕ) → BeginsWithNone text 63 → is_line r ≡ true → text ≢ line_text r ++ rest
no_thread text r rest none line e =
    let b = in_bounds r line in
    none r.thread (count_text r.count ++ 10 ∷ rest) (record {
      bound = omega (arith, b.thread);
      written = e ∙ line_split r rest;
      behind =
          end_behind r.count rest;
    })
