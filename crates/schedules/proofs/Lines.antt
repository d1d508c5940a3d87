-- Lines at the front of a text: there is one way to read them.
use Rattle.std.proofs.Common.{◌≡◌, ◌≢◌, ◌∙◌, ◌⊎◌, ◌<◌, ◌≤◌, ◌++◌, inl, inr, ap, ap₂, sym, subst, refl, arith, ℕ, Bool, List, [], ◌∷◌, true, false, true≢false}
use Rattle.std.proofs.Common.{append_assoc, leb-true, ltb-true}
use Rattle.std.specs.Prelude.{◌&&◌, ◌^◌, ◌==◌, if◌then◌else◌}
use Rattle.std.specs.List.{list_all}
use Rattle.std.specs.Fmt.{decimal}
use Rattle.std.proofs.lemmas.Bool.Decides.{Decides-eqb}
use Rattle.schedules.specs.Number.{IsBehind}
use Rattle.schedules.specs.Text.{count_text, line_text, is_line, text_of}
use Rattle.schedules.specs.declared.Run.{Run}
use Rattle.schedules.proofs.Numbers.{IsSame, same_number}

pub both : (a b : Bool) → (a && b) ≡ true → (a ≡ true) × (b ≡ true)
both true b e = (refl, e)
both false b e = absurd (true≢false (sym e))

-- ---- the end of a line

-- the end of a line, by the number of its turns
abbrev pub Ends : ℕ → List ℕ → List ℕ → Type 0
Ends n text rest = ((n ≡ 1) × (text ≡ 10 ∷ rest)) ⊎ ((n ≢ 1) × (text ≡ 42 ∷ (decimal n ++ 10 ∷ rest)))

pub one_text : (n : ℕ) → n ≡ 1 → count_text n ≡ []
one_text n e = ap count_text e

pub many_text : (n : ℕ) → n ≢ 1 → count_text n ≡ 42 ∷ decimal n
many_text n h = go (n == 1) refl
  where
    go : (b : Bool) → (n == 1) ≡ b → (if b then [] else 42 ∷ decimal n) ≡ 42 ∷ decimal n
    go true e = absurd (h ((Decides-eqb n 1).0 e))
    go false e = refl

pub ends : (n : ℕ) (text rest : List ℕ) → text ≡ count_text n ++ 10 ∷ rest → Ends n text rest
ends n text rest e = go (n == 1) refl
  where
    apart : (n == 1) ≡ false → n ≢ 1
    apart e h = true≢false (sym ((Decides-eqb n 1).1 h) ∙ e)

    go : (b : Bool) → (n == 1) ≡ b → Ends n text rest
    go true h = inl ((Decides-eqb n 1).0 h, e ∙ ap (λ t. t ++ 10 ∷ rest) (one_text n ((Decides-eqb n 1).0 h)))
    go false h = inr (apart h, e ∙ ap (λ t. t ++ 10 ∷ rest) (many_text n (apart h)))

-- the first byte of a line's end is no digit
pub end_behind : (n : ℕ) (rest : List ℕ) → IsBehind (count_text n ++ 10 ∷ rest)
end_behind n rest = go (ends n (count_text n ++ 10 ∷ rest) rest refl)
  where
    go : Ends n (count_text n ++ 10 ∷ rest) rest → IsBehind (count_text n ++ 10 ∷ rest)
    go (inl h) = subst IsBehind (sym h.1) refl
    go (inr h) = subst IsBehind (sym h.1) refl

head_of : List ℕ → ℕ
head_of [] = 0
head_of (x ∷ xs) = x

tail_of : List ℕ → List ℕ
tail_of [] = []
tail_of (x ∷ xs) = xs

pub same_end : (m n : ℕ) (x y : List ℕ) → m < 2 ^ 64 → n < 2 ^ 64 → count_text m ++ 10 ∷ x ≡ count_text n ++ 10 ∷ y → IsSame m n x y
same_end m n x y p q e = go (ends m (count_text m ++ 10 ∷ x) x refl) (ends n (count_text m ++ 10 ∷ x) y e)
  where
    text : List ℕ
    text = count_text m ++ 10 ∷ x

    go : Ends m (count_text m ++ 10 ∷ x) x → Ends n (count_text m ++ 10 ∷ x) y → IsSame m n x y
    go (inl h) (inl k) = record { number = h.0 ∙ sym k.0; rest = let s = sym h.1 ∙ k.1 in cc }
    go (inl h) (inr k) = let s = sym h.1 ∙ k.1 in cc
    go (inr h) (inl k) = let s = sym h.1 ∙ k.1 in cc
    go (inr h) (inr k) =
        let s = sym h.1 ∙ k.1 in
        let t : decimal m ++ 10 ∷ x ≡ decimal n ++ 10 ∷ y = cc in
        let same = same_number m n (10 ∷ x) (10 ∷ y) p q t refl refl in
        record { number = same.number; rest = let r = same.rest in cc }

-- ---- whole lines

pub line_split : (r : Run) (rest : List ℕ) → line_text r ++ rest ≡ decimal r.thread ++ (count_text r.count ++ 10 ∷ rest)
line_split r rest = append_assoc (decimal r.thread) (count_text r.count ++ 10 ∷ []) rest
    ∙ ap (λ t. decimal r.thread ++ t) (append_assoc (count_text r.count) (10 ∷ []) rest)

pub record InBounds (r : Run) : Type 0 where
  pub thread : r.thread < 64
  pub some : 1 ≤ r.count
  pub count : r.count ≤ 4000000

pub in_bounds : (r : Run) → is_line r ≡ true → InBounds r
in_bounds r e =
    let one = both _ _ e in
    let two = both _ _ one.1 in
    record { thread = ltb-true _ _ one.0; some = leb-true _ _ two.0; count = leb-true _ _ two.1 }

pub record IsSameLine (r q : Run) (x y : List ℕ) : Type 0 where
  pub line : r ≡ q
  pub rest : x ≡ y

same_run : (r q : Run) → r.thread ≡ q.thread → r.count ≡ q.count → r ≡ q
same_run r q e f = ap₂ (λ t n. record { thread = t; count = n }) e f

pub same_line : (r q : Run) (x y : List ℕ) → is_line r ≡ true → is_line q ≡ true → line_text r ++ x ≡ line_text q ++ y → IsSameLine r q x y
same_line r q x y a b e =
    let ra = in_bounds r a in
    let qb = in_bounds q b in
    let split = sym (line_split r x) ∙ e ∙ line_split q y in
    let front = same_number r.thread q.thread _ _ (omega (arith, ra.thread)) (omega (arith, qb.thread)) split (end_behind r.count x) (end_behind q.count y) in
    let end = same_end r.count q.count x y (omega (arith, ra.count)) (omega (arith, qb.count)) front.rest in
    record { line = same_run r q front.number end.number; rest = end.rest }

-- no line is empty
pub line_some : (r : Run) (rest : List ℕ) → line_text r ++ rest ≢ []
line_some r rest e = nothing (decimal r.thread) (count_text r.count) rest (sym (line_split r rest) ∙ e)
  where
    nothing : (xs ys zs : List ℕ) → xs ++ (ys ++ 10 ∷ zs) ≡ [] → ⊥
    nothing [] [] zs e = cc
    nothing [] (y ∷ ys) zs e = cc
    nothing (x ∷ xs) ys zs e = cc

-- ---- texts

pub same_lines : (rs qs : List Run) → list_all is_line rs ≡ true → list_all is_line qs ≡ true → text_of rs ≡ text_of qs → rs ≡ qs
same_lines [] [] a b e = refl
same_lines [] (q ∷ qs) a b e = absurd (line_some q (text_of qs) (sym e))
same_lines (r ∷ rs) [] a b e = absurd (line_some r (text_of rs) e)
same_lines (r ∷ rs) (q ∷ qs) a b e =
    let one = both _ _ a in
    let two = both _ _ b in
    let same = same_line r q (text_of rs) (text_of qs) one.0 two.0 e in
    ap₂ (λ x xs. x ∷ xs) same.line (same_lines rs qs one.1 two.1 same.rest)

pub no_bad : (rs qs : List Run) (rest : List ℕ) → list_all is_line rs ≡ true → list_all is_line qs ≡ true → text_of rs ≡ text_of qs ++ rest → rest ≢ []
    → ((r : Run) (tail : List ℕ) → is_line r ≡ true → rest ≢ line_text r ++ tail) → ⊥
no_bad [] [] rest a b e more bad = more (sym e)
no_bad (r ∷ rs) [] rest a b e more bad = bad r (text_of rs) (both _ _ a).0 (sym e)
no_bad [] (q ∷ qs) rest a b e more bad = line_some q (text_of qs ++ rest) (sym (e ∙ append_assoc (line_text q) (text_of qs) rest))
no_bad (r ∷ rs) (q ∷ qs) rest a b e more bad =
    let one = both _ _ a in
    let two = both _ _ b in
    let same = same_line r q (text_of rs) (text_of qs ++ rest) one.0 two.0 (e ∙ append_assoc (line_text q) (text_of qs) rest) in
    no_bad rs qs rest one.1 two.1 same.rest more bad

-- the first bad line has one number
pub one_bad : (rs qs : List Run) (x y : List ℕ) → list_all is_line rs ≡ true → list_all is_line qs ≡ true → text_of rs ++ x ≡ text_of qs ++ y
    → ((r : Run) (tail : List ℕ) → is_line r ≡ true → x ≢ line_text r ++ tail) → ((r : Run) (tail : List ℕ) → is_line r ≡ true → y ≢ line_text r ++ tail)
    → rs ≡ qs
one_bad [] [] x y a b e no_x no_y = refl
one_bad [] (q ∷ qs) x y a b e no_x no_y = absurd (no_x q (text_of qs ++ y) (both _ _ b).0 (e ∙ append_assoc (line_text q) (text_of qs) y))
one_bad (r ∷ rs) [] x y a b e no_x no_y = absurd (no_y r (text_of rs ++ x) (both _ _ a).0 (sym e ∙ append_assoc (line_text r) (text_of rs) x))
one_bad (r ∷ rs) (q ∷ qs) x y a b e no_x no_y =
    let one = both _ _ a in
    let two = both _ _ b in
    let same = same_line r q (text_of rs ++ x) (text_of qs ++ y) one.0 two.0
    (sym (append_assoc (line_text r) (text_of rs) x) ∙ e ∙ append_assoc (line_text q) (text_of qs) y) in
    ap₂ (λ z zs. z ∷ zs) same.line (one_bad rs qs x y one.1 two.1 same.rest no_x no_y)
