-- The words of races, item by item.
use Rattle.std.proofs.Common.{ℕ, ◌≡◌, ◌==◌, ◌<◌, ◌≤◌, ◌+◌, ◌⊎◌, inl, inr, refl, ap, sym, ◌∙◌, subst, Bool, true, false, List, [], Some, length, arith}
use Rattle.std.specs.Prelude.{slice_get, slice_index, ◌||◌}
use Rattle.std.proofs.lemmas.Bool.{cases_lt, cases_order, cases_Bool, eq-eqb, eqb-true, ne_eqb, true≢false, false_from_ne_true, or_cases, or_left, or_right}
use Rattle.std.proofs.lemmas.Option.{same_Some}
use Rattle.tx_events.specs.declared.Item.{Item}
use Rattle.race_check.specs.Races.{Conflict, Ordered, Race, Races, Stands, word_of_byte, touches, writes}
use Rattle.race_check.specs.Regular.{Regular}
use Rattle.race_check.specs.Rows.{Right}
use Rattle.race_check.specs.Marks.{mark, late_at, Latest, Marked, Racing}
use Rattle.race_check.specs.declared.marks.Marks.{Marks}
use Rattle.race_check.specs.declared.marks.Seen.{Seen}
use Rattle.race_check.specs.Words.{WordsOf, Listed}
use Rattle.race_check.proofs.Numbers.{below_or_at, index_within}
use Rattle.race_check.proofs.RowSteps.{chain_forward}
use Rattle.race_check.proofs.WordSteps.{words_both}

pub none_listed : (items : List Item) → Listed items [] 0
none_listed items = record {
  ascending = tt;
  each = λ w s. elim s [ ];
  all = λ x m k c lt p o. absurd (omega (arith, p));
}

-- no item is marked at first
pub none_marked : (items : List Item) (seen : Seen) → ((x t : ℕ) → mark seen.reads x t ≡ 0) → ((x t : ℕ) → mark seen.writes x t ≡ 0) → Marked items seen 0
none_marked items seen r w = record {
  reads = λ x t. none false x t (mark seen.reads x t) (r x t);
  writes = λ x t. none true x t (mark seen.writes x t) (w x t);
}
  where
    none : (b : Bool) (x t v : ℕ) → v ≡ 0 → Latest items b x t 0 v
    none b x t v e = record { above = λ k lt a. absurd (omega (arith, lt)); is = λ p. absurd (omega (arith, p, e)) }

-- an item of another thread that is marked, and that the row does not count, is not ordered before
late_item : (items : List Item) → Regular items → (row : List ℕ) (j : ℕ) (item : Item) (b : Bool) (m : Marks) (x : ℕ) → slice_get items j ≡ Some item
    → Right items row j → ((x t : ℕ) → Latest items b x t j (mark m x t)) → touches item.what x ≡ true
    → ((one : Item) → writes one.what ≡ b → (writes one.what || writes item.what) ≡ true) → late_at m row item.t x → Race items x
late_item items r row j item b m x f right latest touched written l =
    let up = l.late in
    let found = (latest x l.thread).is (omega (arith, up)) in
    let k = found.0 in
    let lt = found.2 in
    let a = found.3 in
    let is : mark m x l.thread ≡ k + 1 = found.1 in
    record {
      one = k;
      other = j;
      conflict = record {
        one = a.item;
        other = item;
        at_one = a.there;
        at_other = f;
        apart = ne_eqb a.item.t item.t (λ e. l.other (sym a.owner ∙ e));
        in_one = a.touched;
        in_other = touched;
        written = written a.item a.written;
      };
      not_before = λ o.
          let c : k < slice_index row a.item.t = right.whole k a.item a.there o in
          let d : k < slice_index row l.thread = subst (λ z. k < slice_index row z) a.owner c in
          omega (arith, d, is, up);
      not_after = λ o. let back = chain_forward items r j k o in omega (arith, back, lt);
    }

-- an item that conflicts and is not ordered before is late
late_of : (items : List Item) (row : List ℕ) (j k : ℕ) (one item : Item) (b : Bool) (m : Marks) (x : ℕ) → slice_get items k ≡ Some one → k < j
    → Right items row j → ((x t : ℕ) → Latest items b x t j (mark m x t)) → touches one.what x ≡ true → writes one.what ≡ b → (one.t ≡ item.t → ⊥)
    → (Ordered items k j → ⊥) → late_at m row item.t x
late_of items row j k one item b m x f lt right latest touched written apart none = by (cases_lt (slice_index row one.t) (mark m x one.t))
  where
    by : (slice_index row one.t < mark m x one.t) ⊎ (mark m x one.t ≤ slice_index row one.t) → late_at m row item.t x
    by (inl up) = record { thread = one.t; other = apart; late = up }
    by (inr le) =
        let above : k < mark m x one.t = (latest x one.t).above k lt (record { item = one; there = f; owner = refl; touched = touched; written = written }) in
        absurd (none (right.sound k one f (omega (arith, above, le))))

pub more_listed : (items : List Item) → Regular items → (words new : List ℕ) (row : List ℕ) (seen : Seen) (j : ℕ) (item : Item) → slice_get items j ≡ Some item
    → Right items row j → Marked items seen j → WordsOf (Racing seen row item) words new → Listed items words j → Listed items new (j + 1)
more_listed items r words new row seen j item f right marked w h = record {
  ascending = w.ascending;
  each = λ v s. each v (w.only v s);
  all = λ x m k c lt p o. by x m k c lt o (below_or_at k j p);
}
  where
    race_of : (x : ℕ) → touches item.what x ≡ true → late_at seen.writes row item.t x ⊎ ((writes item.what ≡ true) × late_at seen.reads row item.t x)
        → Race items x
    race_of x t (inl l) = late_item items r row j item true seen.writes x f right marked.writes t (λ one e. or_left _ _ e) l
    race_of x t (inr (e, l)) = late_item items r row j item false seen.reads x f right marked.reads t (λ one g. or_right _ _ e) l

    each : (v : ℕ) → ((x : ℕ) × Racing seen row item x × (word_of_byte x ≡ v)) ⊎ Stands v words → (x : ℕ) × (word_of_byte x ≡ v) × Race items x
    each v (inr s) = h.each v s
    each v (inl (x, g, e)) = (x, e, race_of x g.touched g.late)

    racing : (x m : ℕ) (one other : Item) → slice_get items m ≡ Some one → item ≡ other → m < j → (one.t == other.t) ≡ false → touches one.what x ≡ true
        → touches other.what x ≡ true → (writes one.what || writes other.what) ≡ true → (Ordered items m j → ⊥) → Racing seen row item x
    racing x m one other g e lt apart t u q o =
        let there : touches item.what x ≡ true = subst (λ (z : Item). touches z.what x ≡ true) (sym e) u in
        record { touched = there; late = ways (cases_Bool (writes one.what)) }
      where
        differ : one.t ≡ item.t → ⊥
        differ s = true≢false (sym (eq-eqb one.t other.t (s ∙ ap (λ (z : Item). z.t) e)) ∙ apart)

        wrote : writes one.what ≡ false → (writes one.what ≡ true) ⊎ (writes other.what ≡ true) → writes item.what ≡ true
        wrote s (inl p) = absurd (true≢false (sym p ∙ s))
        wrote s (inr p) = ap (λ (z : Item). writes z.what) e ∙ p

        ways : (writes one.what ≡ true) ⊎ (writes one.what ≡ false) → late_at seen.writes row item.t x
            ⊎ ((writes item.what ≡ true) × late_at seen.reads row item.t x)
        ways (inl s) = inl (late_of items row j m one item true seen.writes x g lt right marked.writes t s differ o)
        ways (inr s) = inr (wrote s (or_cases _ _ q), late_of items row j m one item false seen.reads x g lt right marked.reads t s differ o)

    by : (x m k : ℕ) → Conflict items m k x → m < k → (Ordered items m k → ⊥) → (k < j) ⊎ (k ≡ j) → Stands (word_of_byte x) new
    by x m k c lt o (inl p) = w.kept (word_of_byte x) (h.all x m k c lt p o)
    by x m k c lt o (inr e) =
        let same : item ≡ c.other = same_Some item c.other (sym f ∙ subst (λ z. slice_get items z ≡ Some c.other) e c.at_other) in
        w.there x (racing x m c.one c.other c.at_one same (omega (arith, lt, e)) c.apart c.in_one c.in_other c.written
        (λ p. o (subst (λ z. Ordered items m z) (sym e) p)))

turned : (items : List Item) (i j x : ℕ) → Conflict items i j x → Conflict items j i x
turned items i j x c = record {
  one = c.other;
  other = c.one;
  at_one = c.at_other;
  at_other = c.at_one;
  apart = false_from_ne_true _ (λ e. true≢false (sym (eq-eqb _ _ (sym (eqb-true _ _ e))) ∙ c.apart));
  in_one = c.in_other;
  in_other = c.in_one;
  written = by (or_cases _ _ c.written);
}
  where
    by : (writes c.one.what ≡ true) ⊎ (writes c.other.what ≡ true) → (writes c.other.what || writes c.one.what) ≡ true
    by (inl p) = or_right _ _ p
    by (inr p) = or_left _ _ p

pub all_listed : (items : List Item) (words : List ℕ) (n : ℕ) → length items ≤ n → Listed items words n → Races items words
all_listed items words n le h = record { ascending = h.ascending; each = h.each; all = λ x r. by x r (cases_order r.one r.other) }
  where
    within : (k : ℕ) (b : Item) → slice_get items k ≡ Some b → k < n
    within k b e = let q = index_within items k b e in omega (arith, q, le)

    by : (x : ℕ) (r : Race items x) → (r.one ≡ r.other) ⊎ ((r.one < r.other) ⊎ (r.other < r.one)) → Stands (word_of_byte x) words
    by x r (inr (inl lt)) = h.all x r.one r.other r.conflict lt (within r.other r.conflict.other r.conflict.at_other) r.not_before
    by x r (inr (inr lt)) = h.all x r.other r.one (turned items r.one r.other x r.conflict) lt (within r.one r.conflict.one r.conflict.at_one) r.not_after
    by x r (inl e) =
        let c = r.conflict in
        let same = same_Some c.one c.other (sym c.at_one ∙ subst (λ z. slice_get items z ≡ Some c.other) (sym e) c.at_other) in
        absurd (true≢false (sym (eq-eqb c.one.t c.other.t (ap (λ (z : Item). z.t) same)) ∙ c.apart))

-- the races with writes, and those of a write with reads
pub racing_both : (seen : Seen) (row : List ℕ) (item : Item) (from to : ℕ) (words mid new : List ℕ)
    → ((x : ℕ) → from ≤ x → x < to → touches item.what x ≡ true) → ((x : ℕ) → touches item.what x ≡ true → (from ≤ x) × (x < to)) → writes item.what ≡ true
    → WordsOf (λ x. (from ≤ x) × (x < to) × late_at seen.writes row item.t x) words mid
    → WordsOf (λ x. (from ≤ x) × (x < to) × late_at seen.reads row item.t x) mid new → WordsOf (Racing seen row item) words new
racing_both seen row item from to words mid new inside all w g h =
    words_both (λ x. (from ≤ x) × (x < to) × late_at seen.writes row item.t x) (λ x. (from ≤ x) × (x < to) × late_at seen.reads row item.t x)
    (Racing seen row item) words mid new g h (λ x r. split x (all x r.touched) r.late)
    (λ x p. record { touched = inside x p.0 p.1; late = inl p.2 }) (λ x q. record { touched = inside x q.0 q.1; late = inr (w, q.2) })
  where
    split : (x : ℕ) → (from ≤ x) × (x < to) → late_at seen.writes row item.t x ⊎ ((writes item.what ≡ true) × late_at seen.reads row item.t x)
        → ((from ≤ x) × (x < to) × late_at seen.writes row item.t x) ⊎ ((from ≤ x) × (x < to) × late_at seen.reads row item.t x)
    split x r (inl l) = inl (r.0, r.1, l)
    split x r (inr (e, l)) = inr (r.0, r.1, l)
