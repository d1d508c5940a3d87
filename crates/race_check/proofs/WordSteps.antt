-- An ascending list with one word more.
use Rattle.std.proofs.Common.{ℕ, zero, suc, ◌≡◌, ◌<◌, ◌≤◌, ◌⊎◌, inl, inr, refl, ap, sym, ◌∙◌, subst, List, [], ◌∷◌, length, arith}
use Rattle.std.specs.Prelude.{slice_index}
use Rattle.std.specs.List.{insert}
use Rattle.race_check.specs.Races.{Stands, first, later, Ascends, Ascending, word_of_byte}
use Rattle.race_check.specs.Words.{Gap, OneMore, WordsOf}
use Rattle.std.proofs.lemmas.Bool.{cases_lt}

-- a word more at an index, by recursion
abbrev put : ℕ → List ℕ → ℕ → List ℕ
put w ws zero = w ∷ ws
put w [] (suc at) = w ∷ []
put w (v ∷ vs) (suc at) = v ∷ put w vs at

weaken : (n m : ℕ) (zs : List ℕ) → n < m → Ascends m zs → Ascends n zs
weaken n m [] lt h = tt
weaken n m (z ∷ zs) lt h = let a = h.0 in (omega (arith, lt, a), h.1)

pub there_in : (w : ℕ) (ws : List ℕ) (at : ℕ) → Stands w (put w ws at)
there_in w ws zero = first
there_in w [] (suc at) = first
there_in w (v ∷ vs) (suc at) = later (there_in w vs at)

pub kept_in : (w : ℕ) (ws : List ℕ) (at v : ℕ) → Stands v ws → Stands v (put w ws at)
kept_in w ws zero v s = later s
kept_in w [] (suc at) v s = elim s [ ]
kept_in w (u ∷ us) (suc at) v first = first
kept_in w (u ∷ us) (suc at) v (later s) = later (kept_in w us at v s)

pub only_in : (w : ℕ) (ws : List ℕ) (at v : ℕ) → Stands v (put w ws at) → (v ≡ w) ⊎ Stands v ws
only_in w ws zero v first = inl refl
only_in w ws zero v (later s) = inr s
only_in w [] (suc at) v first = inl refl
only_in w [] (suc at) v (later s) = elim s [ ]
only_in w (u ∷ us) (suc at) v first = inr first
only_in w (u ∷ us) (suc at) v (later s) = by (only_in w us at v s)
  where
    by : (v ≡ w) ⊎ Stands v us → (v ≡ w) ⊎ Stands v (u ∷ us)
    by (inl e) = inl e
    by (inr t) = inr (later t)

gap_of_rest : (w v : ℕ) (vs : List ℕ) (at : ℕ) → Gap w (v ∷ vs) (suc at) → Gap w vs at
gap_of_rest w v vs at g = record {
  within = let h = g.within in omega (arith, h);
  below = λ k lt. g.below (suc k) (omega (arith, lt));
  above = λ lt. g.above (omega (arith, lt));
}

put_above : (n w : ℕ) (ws : List ℕ) (at : ℕ) → n < w → Ascends n ws → Gap w ws at → Ascends n (put w ws at)
put_above n w [] zero lt h g = (lt, tt)
put_above n w (v ∷ vs) zero lt h g = let up : w < v = g.above (omega arith) in (lt, (up, h.1))
put_above n w [] (suc at) lt h g = (lt, tt)
put_above n w (v ∷ vs) (suc at) lt h g =
    let low : v < w = g.below 0 (omega arith) in
    (h.0, put_above v w vs at low h.1 (gap_of_rest w v vs at g))

put_ascends : (w : ℕ) (ws : List ℕ) (at : ℕ) → Ascending ws → Gap w ws at → Ascending (put w ws at)
put_ascends w [] zero h g = tt
put_ascends w (v ∷ vs) zero h g = let up : w < v = g.above (omega arith) in (up, h)
put_ascends w [] (suc at) h g = tt
put_ascends w (v ∷ vs) (suc at) h g =
    let low : v < w = g.below 0 (omega arith) in
    put_above v w vs at low h (gap_of_rest w v vs at g)

insert_is : (w : ℕ) (ws : List ℕ) (at : ℕ) → at ≤ length ws → insert ws at w ≡ put w ws at
insert_is w ws zero h = refl
insert_is w [] (suc at) h = absurd (omega (arith, h))
insert_is w (v ∷ vs) (suc at) h = ap (λ z. v ∷ z) (insert_is w vs at (omega (arith, h)))

pub one_more : (w : ℕ) (ws new : List ℕ) (at : ℕ) → Ascending ws → Gap w ws at → new ≡ insert ws at w → OneMore w ws new
one_more w ws new at h g e =
    let same : put w ws at ≡ new = sym (e ∙ insert_is w ws at g.within) in
    subst (λ z. OneMore w ws z) same (record {
      ascending = put_ascends w ws at h g;
      kept = kept_in w ws at;
      there = there_in w ws at;
      only = only_in w ws at;
    })

pub stands_at : (w : ℕ) (ws : List ℕ) (at : ℕ) → at < length ws → slice_index ws at ≡ w → Stands w ws
stands_at w [] at lt e = absurd (omega (arith, lt))
stands_at w (v ∷ vs) zero lt e = subst (λ z. Stands z (v ∷ vs)) e first
stands_at w (v ∷ vs) (suc at) lt e = later (stands_at w vs at (omega (arith, lt)) e)

pub no_more : (w : ℕ) (ws : List ℕ) → Ascending ws → Stands w ws → OneMore w ws ws
no_more w ws h s = record { ascending = h; kept = λ v t. t; there = s; only = λ v t. inr t }

-- the words of bytes

pub words_none : (P : ℕ → Type 0) (ws : List ℕ) → Ascending ws → ((x : ℕ) → P x → ⊥) → WordsOf P ws ws
words_none P ws h none = record { ascending = h; kept = λ v s. s; there = λ x p. absurd (none x p); only = λ v s. inr s }

pub words_one : (P : ℕ → Type 0) (ws new : List ℕ) (x : ℕ) → OneMore (word_of_byte x) ws new → P x → ((y : ℕ) → P y → y ≡ x) → WordsOf P ws new
words_one P ws new x h p same = record {
  ascending = h.ascending;
  kept = h.kept;
  there = λ y q. subst (λ z. Stands (word_of_byte z) new) (sym (same y q)) h.there;
  only = λ v s. by v (h.only v s);
}
  where
    by : (v : ℕ) → (v ≡ word_of_byte x) ⊎ Stands v ws → ((y : ℕ) × P y × (word_of_byte y ≡ v)) ⊎ Stands v ws
    by v (inl e) = inl (x, p, sym e)
    by v (inr s) = inr s

pub words_both : (P Q R : ℕ → Type 0) (ws mid new : List ℕ) → WordsOf P ws mid → WordsOf Q mid new → ((x : ℕ) → R x → P x ⊎ Q x) → ((x : ℕ) → P x → R x)
    → ((x : ℕ) → Q x → R x) → WordsOf R ws new
words_both P Q R ws mid new g h split left right = record {
  ascending = h.ascending;
  kept = λ v s. h.kept v (g.kept v s);
  there = λ x r. there x (split x r);
  only = λ v s. by v (h.only v s);
}
  where
    there : (x : ℕ) → P x ⊎ Q x → Stands (word_of_byte x) new
    there x (inl p) = h.kept (word_of_byte x) (g.there x p)
    there x (inr q) = h.there x q

    before : (v : ℕ) → ((x : ℕ) × P x × (word_of_byte x ≡ v)) ⊎ Stands v ws → ((x : ℕ) × R x × (word_of_byte x ≡ v)) ⊎ Stands v ws
    before v (inl (x, p, e)) = inl (x, left x p, e)
    before v (inr s) = inr s

    by : (v : ℕ) → ((x : ℕ) × Q x × (word_of_byte x ≡ v)) ⊎ Stands v mid → ((x : ℕ) × R x × (word_of_byte x ≡ v)) ⊎ Stands v ws
    by v (inl (x, q, e)) = inl (x, right x q, e)
    by v (inr s) = before v (g.only v s)

pub words_same : (P R : ℕ → Type 0) (ws new : List ℕ) → WordsOf P ws new → ((x : ℕ) → R x → P x) → ((x : ℕ) → P x → R x) → WordsOf R ws new
words_same P R ws new h back on = record {
  ascending = h.ascending;
  kept = h.kept;
  there = λ x r. h.there x (back x r);
  only = λ v s. by v (h.only v s);
}
  where
    by : (v : ℕ) → ((x : ℕ) × P x × (word_of_byte x ≡ v)) ⊎ Stands v ws → ((x : ℕ) × R x × (word_of_byte x ≡ v)) ⊎ Stands v ws
    by v (inl (x, p, e)) = inl (x, on x p, e)
    by v (inr s) = inr s

-- the words of bytes of one word
pub words_same_word : (P : ℕ → Type 0) (w x : ℕ) (ws new : List ℕ) → OneMore w ws new → P x → ((y : ℕ) → P y → word_of_byte y ≡ w) → WordsOf P ws new
words_same_word P w x ws new h p same = record {
  ascending = h.ascending;
  kept = h.kept;
  there = λ y q. subst (λ z. Stands z new) (sym (same y q)) h.there;
  only = λ v s. by v (h.only v s);
}
  where
    by : (v : ℕ) → (v ≡ w) ⊎ Stands v ws → ((y : ℕ) × P y × (word_of_byte y ≡ v)) ⊎ Stands v ws
    by v (inl e) = inl (x, p, same x p ∙ sym e)
    by v (inr s) = inr s

pub words_further : (D : ℕ → Type 0) (from n end : ℕ) (ws mid new : List ℕ) → from ≤ n → n ≤ end → WordsOf (λ x. (from ≤ x) × (x < n) × D x) ws mid
    → WordsOf (λ x. (n ≤ x) × (x < end) × D x) mid new → WordsOf (λ x. (from ≤ x) × (x < end) × D x) ws new
words_further D from n end ws mid new low high g h =
    words_both (λ x. (from ≤ x) × (x < n) × D x) (λ x. (n ≤ x) × (x < end) × D x) (λ x. (from ≤ x) × (x < end) × D x) ws mid new g h
    (λ x r. split x r (cases_lt x n)) (λ x p. let lt = p.1 in (p.0, omega (arith, lt, high), p.2)) (λ x q. let le = q.0 in (omega (arith, low, le), q.1, q.2))
  where
    split : (x : ℕ) → (from ≤ x) × (x < end) × D x → (x < n) ⊎ (n ≤ x) → ((from ≤ x) × (x < n) × D x) ⊎ ((n ≤ x) × (x < end) × D x)
    split x r (inl lt) = inl (r.0, lt, r.2)
    split x r (inr le) = inr (le, r.1, r.2)
