-- The runs of equal entries.
use Rattle.std.proofs.Common.{◌≡◌, ◌≢◌, ◌∙◌, ◌<◌, ◌≤◌, ◌+◌, ◌++◌, ap, sym, subst, refl, arith, ℕ, Bool, List, [], ◌∷◌, true, false, true≢false, drop, length}
use Rattle.std.proofs.Common.{replicate, append_assoc, ltb-true, le-leb, lt-ltb}
use Rattle.std.specs.Prelude.{◌&&◌, ◌==◌, if◌then◌else◌, cond, suc, not, nat_lt}
use Rattle.std.specs.List.{list_all}
use Rattle.std.specs.Fmt.{decimal}
use Rattle.std.proofs.lemmas.Bool.Decides.{Decides-eqb}
use Rattle.schedules.specs.Number.{equal_len}
use Rattle.schedules.specs.Text.{count_text, entries_of, is_line, runs_of, with_turn, text_of, is_tight, begins_apart}
use Rattle.schedules.specs.declared.Run.{Run}
use Rattle.schedules.proofs.Lines.{both}

one_more : (n : ℕ) → suc n ≡ n + 1
one_more n = omega arith

turn_entries : (t : ℕ) (rs : List Run) → entries_of (with_turn t rs) ≡ t ∷ entries_of rs
turn_entries t [] = refl
turn_entries t (r ∷ rs) = go (t == r.thread) refl
  where
    go : (b : Bool) → (t == r.thread) ≡ b → entries_of
        (if b then record { thread = t; count = r.count + 1 } ∷ rs else record { thread = t; count = 1 } ∷ r ∷ rs) ≡ t ∷ entries_of (r ∷ rs)
    go true e = let same = (Decides-eqb t r.thread).0 e in
        subst (λ k. replicate k t ++ entries_of rs ≡ t ∷ (replicate r.count r.thread ++ entries_of rs)) (one_more r.count)
        (ap (λ x. t ∷ (replicate r.count x ++ entries_of rs)) same)
    go false e = refl

-- the runs of a list say its entries
pub entries_runs : (ts : List ℕ) → entries_of (runs_of ts) ≡ ts
entries_runs [] = refl
entries_runs (t ∷ ts) = turn_entries t (runs_of ts) ∙ ap (λ xs. t ∷ xs) (entries_runs ts)

-- ---- runs from the front

turn_same : (t n : ℕ) (rs : List Run) → with_turn t (record { thread = t; count = n } ∷ rs) ≡ record { thread = t; count = n + 1 } ∷ rs
turn_same t n rs = ap (λ (b : Bool). if b then record { thread = t; count = n + 1 } ∷ rs else record { thread = t; count = 1 } ∷
    record { thread = t; count = n } ∷ rs) ((Decides-eqb t t).1 refl)

not_eqb : (t u : ℕ) → t ≢ u → (t == u) ≡ false
not_eqb t u h = go (t == u) refl
  where
    go : (b : Bool) → (t == u) ≡ b → b ≡ false
    go true e = absurd (h ((Decides-eqb t u).0 e))
    go false e = refl

turn_other : (t : ℕ) (r : Run) (rs : List Run) → t ≢ r.thread → with_turn t (r ∷ rs) ≡ record { thread = t; count = 1 } ∷ r ∷ rs
turn_other t r rs h = ap (λ (b : Bool). if b then record { thread = t; count = r.count + 1 } ∷ rs else record { thread = t; count = 1 } ∷ r ∷ rs)
    (not_eqb t r.thread h)

pub record BeginsAt (t : ℕ) (rs : List Run) : Type 0 where
  pub first : Run
  pub others : List Run
  pub is : rs ≡ first ∷ others
  pub thread : first.thread ≡ t

pub turn_begins : (t : ℕ) (rs : List Run) → BeginsAt t (with_turn t rs)
turn_begins t [] = record { first = record { thread = t; count = 1 }; others = []; is = refl; thread = refl }
turn_begins t (r ∷ rs) = go (t == r.thread) refl
  where
    go : (b : Bool) → (t == r.thread) ≡ b → BeginsAt t
        (if b then record { thread = t; count = r.count + 1 } ∷ rs else record { thread = t; count = 1 } ∷ r ∷ rs)
    go true e = record { first = record { thread = t; count = r.count + 1 }; others = rs; is = refl; thread = refl }
    go false e = record { first = record { thread = t; count = 1 }; others = r ∷ rs; is = refl; thread = refl }

-- the run of equal entries at the front, and those behind it
pub runs_front : (t : ℕ) (ts : List ℕ) → runs_of (t ∷ ts) ≡ record { thread = t; count = equal_len t ts + 1 } ∷ runs_of (drop (equal_len t ts) ts)
runs_front t [] = refl
runs_front t (u ∷ us) = go (runs_front t us) (u == t) refl
  where
    Goal : ℕ → Type 0
    Goal k = runs_of (t ∷ u ∷ us) ≡ record { thread = t; count = k + 1 } ∷ runs_of (drop k (u ∷ us))

    go : runs_of (t ∷ us) ≡ record { thread = t; count = equal_len t us + 1 } ∷ runs_of (drop (equal_len t us) us) → (b : Bool) → (u == t) ≡ b
        → Goal (equal_len t (u ∷ us))
    go ih true e =
        let same = (Decides-eqb u t).0 e in
        let k : suc (equal_len t us) ≡ 1 + equal_len t us = omega arith in
        let here : equal_len t (u ∷ us) ≡ 1 + equal_len t us = ap (λ b. cond b (1 + equal_len t us) 0) e in
        let sum : equal_len t us + 1 + 1 ≡ suc (equal_len t us) + 1 = omega arith in
        subst Goal (k ∙ sym here) (ap (λ x. with_turn t (runs_of (x ∷ us))) same ∙
        (ap (with_turn t) ih ∙ (turn_same t (equal_len t us + 1) (runs_of (drop (equal_len t us) us))
        ∙ ap (λ n. record { thread = t; count = n } ∷ runs_of (drop (equal_len t us) us)) sum)))
    go ih false e =
        let here : equal_len t (u ∷ us) ≡ 0 = ap (λ b. cond b (1 + equal_len t us) 0) e in
        let head = turn_begins u (runs_of us) in
        let apart : t ≢ head.first.thread = λ h. true≢false (sym ((Decides-eqb u t).1 (sym head.thread ∙ sym h)) ∙ e) in
        subst Goal (sym here) (ap (with_turn t) head.is ∙
        (turn_other t head.first head.others apart ∙ ap (λ rs. record { thread = t; count = 1 } ∷ rs) (sym head.is)))

-- one step of the writer
pub next_line : (text entries ts : List ℕ) (t k : ℕ) → text ++ text_of (runs_of (t ∷ ts)) ≡ text_of (runs_of entries) → k ≡ equal_len t ts
    → (text ++ (decimal t ++ (count_text (k + 1) ++ 10 ∷ []))) ++ text_of (runs_of (drop k ts)) ≡ text_of (runs_of entries)
next_line text entries ts t k e is =
    append_assoc text (decimal t ++ (count_text (k + 1) ++ 10 ∷ [])) (text_of (runs_of (drop k ts)))
    ∙ (ap (λ n. text ++ text_of (record { thread = t; count = n + 1 } ∷ runs_of (drop n ts))) is ∙ (ap (λ rs. text ++ text_of rs) (sym (runs_front t ts)) ∙ e))

-- ---- the runs of a schedule are lines of the grammar

abbrev pub head_count : List Run → ℕ
head_count [] = 0
head_count (r ∷ rs) = r.count

pub record HeadBound (bound : ℕ) (rs : List Run) : Type 0 where
  pub lines : list_all is_line rs ≡ true
  pub head : head_count rs ≤ bound

all_line : (r : Run) (rs : List Run) → r.thread < 64 → 1 ≤ r.count → r.count ≤ 4000000 → list_all is_line rs ≡ true → list_all is_line (r ∷ rs) ≡ true
all_line r rs a b c e = rw (lt-ltb r.thread 64 a, le-leb 1 r.count b, le-leb r.count 4000000 c) e

pub runs_lines : (ts : List ℕ) → list_all (λ t. nat_lt t 64) ts ≡ true → length ts ≤ 4000000 → HeadBound (length ts) (runs_of ts)
runs_lines [] e b = record { lines = refl; head = omega arith }
runs_lines (t ∷ ts) e b = go (runs_of ts) (runs_lines ts (both _ _ e).1 (omega arith))
  where
    small : t < 64
    small = ltb-true _ _ (both _ _ e).0

    go : (rs : List Run) → HeadBound (length ts) rs → HeadBound (suc (length ts)) (with_turn t rs)
    go [] h = record { lines = all_line (record { thread = t; count = 1 }) [] small (omega arith) (omega arith) refl; head = omega arith }
    go (r ∷ rs) h = pick (t == r.thread)
      where
        pick : (b : Bool) → HeadBound (suc (length ts))
            (if b then record { thread = t; count = r.count + 1 } ∷ rs else record { thread = t; count = 1 } ∷ r ∷ rs)
        pick true = record {
          lines = all_line (record { thread = t; count = r.count + 1 }) rs small (omega arith) (omega (arith, h.head)) (both _ _ h.lines).1;
          head = omega (arith, h.head);
        }
        pick false = record { lines = all_line (record { thread = t; count = 1 }) (r ∷ rs) small (omega arith) (omega arith) h.lines; head = omega arith }

-- no two neighbours are of one thread
pub turn_tight : (t : ℕ) (rs : List Run) → is_tight rs ≡ true → is_tight (with_turn t rs) ≡ true
turn_tight t [] e = refl
turn_tight t (r ∷ rs) e = go (t == r.thread) refl
  where
    go : (b : Bool) → (t == r.thread) ≡ b → is_tight (if b then record { thread = t; count = r.count + 1 } ∷ rs else record { thread = t; count = 1 } ∷ r ∷ rs)
        ≡ true
    go true h = ap (λ x. begins_apart (record { thread = x; count = r.count + 1 }) rs && is_tight rs) ((Decides-eqb t r.thread).0 h) ∙ moved rs e
      where
        moved : (qs : List Run) → (begins_apart r qs && is_tight qs) ≡ true
            → (begins_apart (record { thread = r.thread; count = r.count + 1 }) qs && is_tight qs) ≡ true
        moved [] e = e
        moved (q ∷ qs) e = e
    go false h = ap (λ x. not x && is_tight (r ∷ rs)) h ∙ e

pub runs_tight : (ts : List ℕ) → is_tight (runs_of ts) ≡ true
runs_tight [] = refl
runs_tight (t ∷ ts) = turn_tight t (runs_of ts) (runs_tight ts)
