-- Blocks that are put in, and the Enter of a block that conflicts with some of them.
use Rattle.std.proofs.Common.{ℕ, ◌≡◌, ◌<◌, ◌≤◌, ◌+◌, ◌⊎◌, inl, inr, refl, ap, sym, ◌∙◌, subst, Bool, true, false, List, Option, Some, None, length, arith}
use Rattle.std.specs.Prelude.{slice_get, slice_index, MatchOption, ◌||◌}
use Rattle.std.proofs.lemmas.Bool.{cases_eq, cases_order, cases_Bool, true≢false, false≢true, and_parts, and_from, or_left, or_right, or_cases, ne_eqb}
use Rattle.std.proofs.lemmas.Option.{same_Some}
use Rattle.tx_events.specs.declared.Item.{Item}
use Rattle.tx_events.specs.declared.What.{What}
use Rattle.tx_events.specs.declared.What.TheVariants.{Enter, Leave}
use Rattle.race_check.specs.Races.{Does, InBlock, Meet, same_thread, blocks, Ordered, at_once, touches, writes}
use Rattle.race_check.specs.Regular.{Regular}
use Rattle.race_check.specs.Rows.{Down, Greater, Right}
use Rattle.race_check.specs.Clocks.{Own}
use Rattle.race_check.specs.Marks.{mark, GathersFrom}
use Rattle.race_check.specs.Blocks.{hits, against, IsBlock, rows_of, Blocked, IsUsed, Putting, Adds, Enters, First, IsMet, Gathers}
use Rattle.race_check.specs.declared.blocks.Blocks.{Blocks}
use Rattle.race_check.proofs.Numbers.{below_or_at, at_or_above, index_within}
use Rattle.race_check.proofs.ItemSteps.{does, same_thread_of, same_what_of}
use Rattle.race_check.proofs.RowSteps.{nothing_down, joined_down, like_down, right_of}
use Rattle.race_check.proofs.ClockSteps.{Into, own, of_child, meets, into_of, own_before, enter_joined}

leave_enter : (w : What) → w ≡ Leave → w ≡ Enter → ⊥
leave_enter w e g = cc

-- ---- where a block begins

abbrev pub Earliest : List Item → (t l k : ℕ) → Option ℕ → Type 0
Earliest items t l k None = (f : ℕ) → k ≤ f → f < l → Does items f t Enter → ⊥
Earliest items t l k (Some e) = Does items e t Enter × (k ≤ e) × (e < l) × ((f : ℕ) → k ≤ f → f < l → Does items f t Enter → e ≤ f)

-- a walk back from index l to k
pub record Back (items : List Item) (t l k : ℕ) (found : Option ℕ) : Type 0 where
  pub within : k ≤ l
  pub still_open : (m : ℕ) → k ≤ m → m < l → Does items m t Leave → ⊥
  pub earliest : Earliest items t l k found

pub back_first : (items : List Item) (t l : ℕ) → Back items t l l None
back_first items t l = record { within = omega arith; still_open = λ m p q d. omega (arith, p, q); earliest = λ f p q d. omega (arith, p, q) }

module _ (items : List Item) (t l k : ℕ) (item : Item) (at : slice_get items k ≡ Some item) (lt : k < l) where
  open_further : (found : Option ℕ) → Back items t l (k + 1) found → (item.t ≡ t → item.what ≡ Leave → ⊥) → (m : ℕ) → k ≤ m → m < l → Does items m t Leave → ⊥
  open_further found h stays m p q d = by (at_or_above m k p)
    where
      by : (k ≡ m) ⊎ (k + 1 ≤ m) → ⊥
      by (inr le) = h.still_open m le q d
      by (inl e) =
          let here : Does items k t Leave = subst (λ z. Does items z t Leave) (sym e) d in
          stays (same_thread_of items k item t Leave at here) (same_what_of items k item t Leave at here)

  none_here : (item.t ≡ t → item.what ≡ Enter → ⊥) → (found : Option ℕ) → Earliest items t l (k + 1) found → Earliest items t l k found
  none_here none None h = λ f p q d. by f q d (at_or_above f k p)
    where
      by : (f : ℕ) → f < l → Does items f t Enter → (k ≡ f) ⊎ (k + 1 ≤ f) → ⊥
      by f q d (inr le) = h f le q d
      by f q d (inl e) =
          let here : Does items k t Enter = subst (λ z. Does items z t Enter) (sym e) d in
          none (same_thread_of items k item t Enter at here) (same_what_of items k item t Enter at here)
  none_here none (Some e) h = let le = h.1 in (h.0, omega (arith, le), h.2, λ f p q d. by f q d (at_or_above f k p))
    where
      by : (f : ℕ) → f < l → Does items f t Enter → (k ≡ f) ⊎ (k + 1 ≤ f) → e ≤ f
      by f q d (inr le) = h.3 f le q d
      by f q d (inl s) =
          let here : Does items k t Enter = subst (λ z. Does items z t Enter) (sym s) d in
          absurd (none (same_thread_of items k item t Enter at here) (same_what_of items k item t Enter at here))

  pub back_further : (found : Option ℕ) → Back items t l (k + 1) found → (item.t ≡ t → item.what ≡ Leave → ⊥) → (item.t ≡ t → item.what ≡ Enter → ⊥)
      → Back items t l k found
  back_further found h stays none = record { within = omega (arith, lt); still_open = open_further found h stays; earliest = none_here none found h.earliest }

  pub back_entered : (found : Option ℕ) → Back items t l (k + 1) found → item.t ≡ t → item.what ≡ Enter → Back items t l k (Some k)
  back_entered found h e g = record {
    within = omega (arith, lt);
    still_open = open_further found h (λ p q. leave_enter item.what q g);
    earliest = (does items k item t Enter at e g, omega arith, lt, λ f p q d. p);
  }

  pub back_left : (found : Option ℕ) → Back items t l (k + 1) found → item.t ≡ t → item.what ≡ Leave
      → MatchOption found ((f : ℕ) → Enters items t l f → ⊥) (First items t l)
  back_left found h e g = by found h.earliest
    where
      here : Does items k t Leave
      here = does items k item t Leave at e g

      behind : (f : ℕ) → Enters items t l f → k + 1 ≤ f
      behind f n = after (cases_order f k)
        where
          after : (f ≡ k) ⊎ ((f < k) ⊎ (k < f)) → k + 1 ≤ f
          after (inl s) = absurd (leave_enter item.what g (same_what_of items k item t Enter at (subst (λ z. Does items z t Enter) s n.item)))
          after (inr (inl p)) = absurd (n.still_open k p lt here)
          after (inr (inr p)) = omega (arith, p)

      by : (o : Option ℕ) → Earliest items t l (k + 1) o → MatchOption o ((f : ℕ) → Enters items t l f → ⊥) (First items t l)
      by None q = λ f n. q f (behind f n) n.earlier n.item
      by (Some x) q = record {
        enters = record { item = q.0; earlier = q.2; still_open = λ m p r d. let le = q.1 in h.still_open m (omega (arith, p, le)) r d };
        first = λ f n. q.3 f (behind f n) n.earlier n.item;
      }

pub back_all : (items : List Item) (t l k : ℕ) (found : Option ℕ) → k ≡ 0 → Back items t l k found
    → MatchOption found ((f : ℕ) → Enters items t l f → ⊥) (First items t l)
back_all items t l k found zero h = by found h.earliest
  where
    by : (o : Option ℕ) → Earliest items t l k o → MatchOption o ((f : ℕ) → Enters items t l f → ⊥) (First items t l)
    by None q = λ f n. q f (omega (arith, zero)) n.earlier n.item
    by (Some x) q = record {
      enters = record { item = q.0; earlier = q.2; still_open = λ m p r d. h.still_open m (omega (arith, zero)) r d };
      first = λ f n. q.3 f (omega (arith, zero)) n.earlier n.item;
    }

-- ---- a block is put in

pub none_blocked : (items : List Item) (b : Blocks) → ((x s : ℕ) → mark b.writers x s ≡ 0) → ((x s : ℕ) → mark b.users x s ≡ 0) → Blocked items b 0
none_blocked items b p q true x = nothing_down items (rows_of b true x) (IsBlock items true x 0) (p x) (λ l h. let lt = h.within in omega (arith, lt))
none_blocked items b p q false x = nothing_down items (rows_of b false x) (IsBlock items false x 0) (q x) (λ l h. let lt = h.within in omega (arith, lt))

block_more : (items : List Item) (w : Bool) (x n p : ℕ) → IsBlock items w x n p → IsBlock items w x (n + 1) p
block_more items w x n p h =
    let lt = h.within in
    record {
      thread = h.thread;
      left = h.left;
      within = omega (arith, lt);
      entry = h.entry;
      whole = h.whole;
      one = h.one;
      what = h.what;
      item = h.item;
      inside = h.inside;
      before = h.before;
      hit = h.hit;
    }

block_before : (items : List Item) (w : Bool) (x n p : ℕ) → IsBlock items w x (n + 1) p → p < n → IsBlock items w x n p
block_before items w x n p h lt = record {
  thread = h.thread;
  left = h.left;
  within = lt;
  entry = h.entry;
  whole = h.whole;
  one = h.one;
  what = h.what;
  item = h.item;
  inside = h.inside;
  before = h.before;
  hit = h.hit;
}

enters_of : (items : List Item) (t l e : ℕ) → InBlock items t e l → Enters items t l e
enters_of items t l e h = record { item = h.enters; earlier = h.later; still_open = h.still_open }

-- no block is left at index n
pub blocked_still : (items : List Item) (b : Blocks) (n : ℕ) → Blocked items b n → ((t f : ℕ) → Does items n t Leave → Enters items t n f → ⊥)
    → Blocked items b (n + 1)
blocked_still items b n h none w x =
    like_down items (rows_of b w x) (rows_of b w x) (IsBlock items w x n) (IsBlock items w x (n + 1)) (h w x) (λ s. refl) (block_more items w x n)
    (λ p q. back p q (below_or_at p n q.within))
  where
    back : (p : ℕ) → IsBlock items w x (n + 1) p → (p < n) ⊎ (p ≡ n) → IsBlock items w x n p
    back p q (inl lt) = block_before items w x n p q lt
    back p q (inr e) =
        absurd (none q.thread q.entry (subst (λ z. Does items z q.thread Leave) e q.left)
        (subst (λ z. Enters items q.thread z q.entry) e (enters_of items q.thread p q.entry q.whole)))

used_more : (items : List Item) (w : Bool) (t from to x : ℕ) → IsUsed items w t from to x → IsUsed items w t from (to + 1) x
used_more items w t from to x u = let lt = u.before in
    record { one = u.one; what = u.what; item = u.item; behind = u.behind; before = omega (arith, lt); hit = u.hit }

pub putting_first : (items : List Item) (b : Blocks) (t l from : ℕ) → Blocked items b l → Putting items b t l from (from + 1)
putting_first items b t l from h w x =
    like_down items (rows_of b w x) (rows_of b w x) (IsBlock items w x l) (λ p. IsBlock items w x l p ⊎ ((p ≡ l) × IsUsed items w t from (from + 1) x)) (h w x)
    (λ s. refl)
    (λ p q. inl q) back
  where
    back : (p : ℕ) → IsBlock items w x l p ⊎ ((p ≡ l) × IsUsed items w t from (from + 1) x) → IsBlock items w x l p
    back p (inl q) = q
    back p (inr q) = let u = q.1 in let f = u.behind in let g = u.before in absurd (omega (arith, f, g))

module _ (items : List Item) (t l from k : ℕ) (item : Item) (at : slice_get items k ≡ Some item) where
  -- the item does not hit the byte for thread t
  unused : (w : Bool) (x : ℕ) → (item.t ≡ t → hits w item.what x ≡ true → ⊥) → IsUsed items w t from (k + 1) x → IsUsed items w t from k x
  unused w x none u = by (below_or_at u.one k u.before)
    where
      by : (u.one < k) ⊎ (u.one ≡ k) → IsUsed items w t from k x
      by (inl lt) = record { one = u.one; what = u.what; item = u.item; behind = u.behind; before = lt; hit = u.hit }
      by (inr e) =
          let here : Does items k t u.what = subst (λ z. Does items z t u.what) e u.item in
          absurd (none (same_thread_of items k item t u.what at here) (ap (λ z. hits w z x) (same_what_of items k item t u.what at here) ∙ u.hit))

  putting_same : (w : Bool) (x : ℕ) (old new : ℕ → ℕ) → (item.t ≡ t → hits w item.what x ≡ true → ⊥) → ((s : ℕ) → new s ≡ old s)
      → Down items old (λ p. IsBlock items w x l p ⊎ ((p ≡ l) × IsUsed items w t from k x))
      → Down items new (λ p. IsBlock items w x l p ⊎ ((p ≡ l) × IsUsed items w t from (k + 1) x))
  putting_same w x old new none e h =
      like_down items old new (λ p. IsBlock items w x l p ⊎ ((p ≡ l) × IsUsed items w t from k x))
      (λ p. IsBlock items w x l p ⊎ ((p ≡ l) × IsUsed items w t from (k + 1) x)) h e to back
    where
      to : (p : ℕ) → IsBlock items w x l p ⊎ ((p ≡ l) × IsUsed items w t from k x) → IsBlock items w x l p ⊎ ((p ≡ l) × IsUsed items w t from (k + 1) x)
      to p (inl q) = inl q
      to p (inr q) = inr (q.0, used_more items w t from k x q.1)

      back : (p : ℕ) → IsBlock items w x l p ⊎ ((p ≡ l) × IsUsed items w t from (k + 1) x) → IsBlock items w x l p ⊎ ((p ≡ l) × IsUsed items w t from k x)
      back p (inl q) = inl q
      back p (inr q) = inr (q.0, unused w x none q.1)

  pub putting_passed : (b : Blocks) → (item.t ≡ t → ⊥) → Putting items b t l from k → Putting items b t l from (k + 1)
  putting_passed b d h w x = putting_same w x (rows_of b w x) (rows_of b w x) (λ e q. d e) (λ s. refl) (h w x)

  pub putting_more : (old new : Blocks) (whole : ℕ → ℕ) → item.t ≡ t → from < k → Down items whole (λ p. p ≡ l)
      → Adds (hits true item.what) whole (mark old.writers) (mark new.writers) → Adds (hits false item.what) whole (mark old.users) (mark new.users)
      → Putting items old t l from k → Putting items new t l from (k + 1)
  putting_more old new whole e lt w a u h = λ b x. by b x (adds b) (cases_Bool (hits b item.what x))
    where
      adds : (b : Bool) → Adds (hits b item.what) whole (rows_of old b) (rows_of new b)
      adds true = a
      adds false = u

      by : (b : Bool) (x : ℕ) → Adds (hits b item.what) whole (rows_of old b) (rows_of new b) → (hits b item.what x ≡ true) ⊎ (hits b item.what x ≡ false)
          → Down items (rows_of new b x) (λ p. IsBlock items b x l p ⊎ ((p ≡ l) × IsUsed items b t from (k + 1) x))
      by b x g (inr not_so) = putting_same b x (rows_of old b x) (rows_of new b x) (λ s so. true≢false (sym so ∙ not_so)) (λ s. g.others x s not_so) (h b x)
      by b x g (inl so) =
          like_down items (rows_of new b x) (rows_of new b x) (λ p. (IsBlock items b x l p ⊎ ((p ≡ l) × IsUsed items b t from k x)) ⊎ (p ≡ l))
          (λ p. IsBlock items b x l p ⊎ ((p ≡ l) × IsUsed items b t from (k + 1) x))
          (joined_down items (rows_of old b x) whole (rows_of new b x) (λ p. IsBlock items b x l p ⊎ ((p ≡ l) × IsUsed items b t from k x)) (λ p. p ≡ l)
          (h b x) w (g.there x so))
          (λ s. refl) to back
        where
          used : IsUsed items b t from (k + 1) x
          used = record { one = k; what = item.what; item = does items k item t item.what at e refl; behind = lt; before = omega arith; hit = so }

          to : (p : ℕ) → (IsBlock items b x l p ⊎ ((p ≡ l) × IsUsed items b t from k x)) ⊎ (p ≡ l) → IsBlock items b x l p
              ⊎ ((p ≡ l) × IsUsed items b t from (k + 1) x)
          to p (inl (inl q)) = inl q
          to p (inl (inr q)) = inr (q.0, used)
          to p (inr s) = inr (s, used)

          back : (p : ℕ) → IsBlock items b x l p ⊎ ((p ≡ l) × IsUsed items b t from (k + 1) x) → (IsBlock items b x l p ⊎ ((p ≡ l) × IsUsed items b t from k x))
              ⊎ (p ≡ l)
          back p (inl q) = inl (inl q)
          back p (inr q) = inr q.0

-- the whole block is put in
pub put_in : (items : List Item) (b : Blocks) (t l from to : ℕ) (item : Item) → slice_get items l ≡ Some item → item.t ≡ t → item.what ≡ Leave → to ≡ l
    → First items t l from
    → Putting items b t l from to → Blocked items b (l + 1)
put_in items b t l from to item at owner leaves end first h w x =
    like_down items (rows_of b w x) (rows_of b w x) (λ p. IsBlock items w x l p ⊎ ((p ≡ l) × IsUsed items w t from to x)) (IsBlock items w x (l + 1)) (h w x)
    (λ s. refl)
    on (λ p q. back p q (below_or_at p l q.within))
  where
    left : Does items l t Leave
    left = does items l item t Leave at owner leaves

    here : IsUsed items w t from to x → IsBlock items w x (l + 1) l
    here u =
        let lt : u.one < l = (let q = u.before in omega (arith, q, end)) in
        record {
          thread = t;
          left = left;
          within = omega arith;
          entry = from;
          whole = record { enters = first.enters.item; later = first.enters.earlier; still_open = first.enters.still_open };
          one = u.one;
          what = u.what;
          item = u.item;
          inside = record { enters = first.enters.item; later = u.behind; still_open = λ m p q d. first.enters.still_open m p (omega (arith, q, lt)) d };
          before = lt;
          hit = u.hit;
        }

    on : (p : ℕ) → IsBlock items w x l p ⊎ ((p ≡ l) × IsUsed items w t from to x) → IsBlock items w x (l + 1) p
    on p (inl q) = block_more items w x l p q
    on p (inr q) = subst (λ z. IsBlock items w x (l + 1) z) (sym q.0) (here q.1)

    used : (q : IsBlock items w x (l + 1) l) → q.thread ≡ t → IsUsed items w t from to x
    used q e =
        let le : from ≤ q.entry = first.first q.entry (subst (λ z. Enters items z l q.entry) e (enters_of items q.thread l q.entry q.whole)) in
        let later = q.inside.later in
        let before = q.before in
        record {
          one = q.one;
          what = q.what;
          item = subst (λ z. Does items q.one z q.what) e q.item;
          behind = omega (arith, le, later);
          before = omega (arith, before, end);
          hit = q.hit;
        }

    back : (p : ℕ) → IsBlock items w x (l + 1) p → (p < l) ⊎ (p ≡ l) → IsBlock items w x l p ⊎ ((p ≡ l) × IsUsed items w t from to x)
    back p q (inl lt) = inl (block_before items w x l p q lt)
    back p q (inr e) =
        let it : IsBlock items w x (l + 1) l = subst (λ z. IsBlock items w x (l + 1) z) e q in
        inr (e, used it (sym (same_thread_of items l item it.thread Leave at it.left) ∙ owner))

-- ---- what an access adds

pub adds_read : (what : What) (whole : ℕ → ℕ) (marks : ℕ → ℕ → ℕ) → writes what ≡ false → Adds (hits true what) whole marks marks
adds_read what whole marks not_so = record {
  there = λ x h. absurd (true≢false (sym (and_parts (touches what x) (writes what) h).1 ∙ not_so));
  others =
      λ x s h. refl;
}

in_range : (what : What) (from to x : ℕ) → ((x : ℕ) → from ≤ x → x < to → touches what x ≡ true) → touches what x ≡ false → from ≤ x → x < to → ⊥
in_range what from to x inside not_so le lt = true≢false (sym (inside x le lt) ∙ not_so)

pub adds_users : (what : What) (whole : ℕ → ℕ) (old new : ℕ → ℕ → ℕ) (from to : ℕ) → ((x : ℕ) → from ≤ x → x < to → touches what x ≡ true)
    → ((x : ℕ) → touches what x ≡ true → (from ≤ x) × (x < to)) → ((x : ℕ) → from ≤ x → x < to → Greater (old x) whole (new x))
    → ((x s : ℕ) → (from ≤ x → x < to → ⊥) → new x s ≡ old x s) → Adds (hits false what) whole old new
adds_users what whole old new from to inside all there others = record {
  there = λ x h. let r = all x h in there x r.0 r.1;
  others = λ x s h. others x s (in_range what from to x inside h);
}

pub adds_writers : (what : What) (whole : ℕ → ℕ) (old new : ℕ → ℕ → ℕ) (from to : ℕ) → ((x : ℕ) → from ≤ x → x < to → touches what x ≡ true)
    → ((x : ℕ) → touches what x ≡ true → (from ≤ x) × (x < to)) → writes what ≡ true → ((x : ℕ) → from ≤ x → x < to → Greater (old x) whole (new x))
    → ((x s : ℕ) → (from ≤ x → x < to → ⊥) → new x s ≡ old x s) → Adds (hits true what) whole old new
adds_writers what whole old new from to inside all so there others = record {
  there = λ x h. let r = all x (and_parts (touches what x) (writes what) h).0 in there x r.0 r.1;
  others = λ x s h. others x s (λ le lt. true≢false (sym (and_from (touches what x) (writes what) (inside x le lt) so) ∙ h));
}

-- ---- what the Enter of a block gathers

pub gathers_one : (b : Blocks) (what : What) (from to : ℕ) (old new : ℕ → ℕ) → ((x : ℕ) → from ≤ x → x < to → touches what x ≡ true)
    → ((x : ℕ) → touches what x ≡ true → (from ≤ x) × (x < to)) → writes what ≡ false → GathersFrom (mark b.writers) from to old new → Gathers b what old new
gathers_one b what from to old new inside all not_so g = record { kept = g.kept; gained = gained; only = λ s. only s (g.only s) }
  where
    gained : (w : Bool) (x s : ℕ) → against w what x ≡ true → rows_of b w x s ≤ new s
    gained true x s h = let r = all x h in g.gained x s r.0 r.1
    gained false x s h = absurd (true≢false (sym (and_parts (touches what x) (writes what) h).1 ∙ not_so))

    only : (s : ℕ) → (new s ≡ old s) ⊎ ((x : ℕ) × (from ≤ x) × (x < to) × (new s ≡ mark b.writers x s))
        → (new s ≡ old s) ⊎ ((w : Bool) × (x : ℕ) × (against w what x ≡ true) × (new s ≡ rows_of b w x s))
    only s (inl e) = inl e
    only s (inr (x, le, lt, e)) = inr (true, x, inside x le lt, e)

pub gathers_two : (b : Blocks) (what : What) (from to : ℕ) (old mid new : ℕ → ℕ) → ((x : ℕ) → from ≤ x → x < to → touches what x ≡ true)
    → ((x : ℕ) → touches what x ≡ true → (from ≤ x) × (x < to)) → writes what ≡ true → GathersFrom (mark b.writers) from to old mid
    → GathersFrom (mark b.users) from to mid new → Gathers b what old new
gathers_two b what from to old mid new inside all so g h = record {
  kept = λ s. let p = g.kept s in let q = h.kept s in omega (arith, p, q);
  gained = gained;
  only = λ s. last s (h.only s);
}
  where
    gained : (w : Bool) (x s : ℕ) → against w what x ≡ true → rows_of b w x s ≤ new s
    gained true x s t = let r = all x t in let p = g.gained x s r.0 r.1 in let q = h.kept s in omega (arith, p, q)
    gained false x s t = let r = all x (and_parts (touches what x) (writes what) t).0 in h.gained x s r.0 r.1

    first : (s : ℕ) → new s ≡ mid s → (mid s ≡ old s) ⊎ ((x : ℕ) × (from ≤ x) × (x < to) × (mid s ≡ mark b.writers x s))
        → (new s ≡ old s) ⊎ ((w : Bool) × (x : ℕ) × (against w what x ≡ true) × (new s ≡ rows_of b w x s))
    first s e (inl f) = inl (e ∙ f)
    first s e (inr (x, le, lt, f)) = inr (true, x, inside x le lt, e ∙ f)

    last : (s : ℕ) → (new s ≡ mid s) ⊎ ((x : ℕ) × (from ≤ x) × (x < to) × (new s ≡ mark b.users x s))
        → (new s ≡ old s) ⊎ ((w : Bool) × (x : ℕ) × (against w what x ≡ true) × (new s ≡ rows_of b w x s))
    last s (inl e) = first s e (g.only s)
    last s (inr (x, le, lt, e)) = inr (false, x, and_from (touches what x) (writes what) (inside x le lt) so, e)

abbrev pub Hit : List Item → What → (j p : ℕ) → Type 0
Hit items what j p = (w : Bool) × (x : ℕ) × (against w what x ≡ true) × IsBlock items w x j p

gathers_down : (items : List Item) (b : Blocks) (what : What) (j : ℕ) (old new : ℕ → ℕ) (P : ℕ → Type 0) → Blocked items b j → Down items old P
    → Gathers b what old new
    → Down items new (λ p. P p ⊎ Hit items what j p)
gathers_down items b what j old new P blocked h g = record { sound = λ k a e lt. sound k a e lt (g.only a.t); whole = λ k p a e r u. whole k p a e u r }
  where
    sound : (k : ℕ) (a : Item) → slice_get items k ≡ Some a → k < new a.t
        → (new a.t ≡ old a.t) ⊎ ((w : Bool) × (x : ℕ) × (against w what x ≡ true) × (new a.t ≡ rows_of b w x a.t))
        → (p : ℕ) × (P p ⊎ Hit items what j p) × ((k ≡ p) ⊎ Ordered items k p)
    sound k a e lt (inl s) = let r = h.sound k a e (omega (arith, lt, s)) in (r.0, inl r.1, r.2)
    sound k a e lt (inr (w, x, t, s)) =
        let here : k < rows_of b w x a.t = omega (arith, lt, s) in
        let r = (blocked w x).sound k a e here in
        (r.0, inr (w, x, t, r.1), r.2)

    whole : (k p : ℕ) (a : Item) → slice_get items k ≡ Some a → (k ≡ p) ⊎ Ordered items k p → P p ⊎ Hit items what j p → k < new a.t
    whole k p a e u (inl r) = let c = h.whole k p a e r u in let le = g.kept a.t in omega (arith, c, le)
    whole k p a e u (inr (w, x, t, r)) =
        let c : k < rows_of b w x a.t = (blocked w x).whole k p a e r u in
        let le : rows_of b w x a.t ≤ new a.t = g.gained w x a.t t in
        omega (arith, c, le)

-- a walk ahead over a block
pub record Ahead (items : List Item) (j u n : ℕ) (row : ℕ → ℕ) : Type 0 where
  pub still_open : (l : ℕ) → j < l → l < n → Does items l u Leave → ⊥
  pub down : Down items row (λ p. Own items j u p ⊎ IsMet items j u n p)

pub ahead_first : (items : List Item) (j u : ℕ) (row : ℕ → ℕ) → Down items row (Own items j u) → Ahead items j u (j + 1) row
ahead_first items j u row h = record {
  still_open = λ l p q d. omega (arith, p, q);
  down = like_down items row row (Own items j u) (λ p. Own items j u p ⊎ IsMet items j u (j + 1) p) h (λ s. refl) (λ p o. inl o) back;
}
  where
    back : (p : ℕ) → Own items j u p ⊎ IsMet items j u (j + 1) p → Own items j u p
    back p (inl o) = o
    back p (inr m) = let f = m.later in let g = m.before in absurd (omega (arith, f, g))

met_within : (items : List Item) (j u n k p : ℕ) → (m : IsMet items j u n p) → m.other < k → IsMet items j u k p
met_within items j u n k p m lt = record {
  other = m.other;
  what = m.what;
  item = m.item;
  later = m.later;
  before = lt;
  still_open = m.still_open;
  write = m.write;
  byte = m.byte;
  hit = m.hit;
  block = m.block;
}

met_more : (items : List Item) (j u n p : ℕ) → IsMet items j u n p → IsMet items j u (n + 1) p
met_more items j u n p m = let lt = m.before in met_within items j u n (n + 1) p m (omega (arith, lt))

module _ (items : List Item) (j u n : ℕ) (item : Item) (at : slice_get items n ≡ Some item) (lt : j < n) where
  stays_open : (row : ℕ → ℕ) → Ahead items j u n row → (item.t ≡ u → item.what ≡ Leave → ⊥) → (l : ℕ) → j < l → l < n + 1 → Does items l u Leave → ⊥
  stays_open row h stays l p q d = by (below_or_at l n q)
    where
      by : (l < n) ⊎ (l ≡ n) → ⊥
      by (inl s) = h.still_open l p s d
      by (inr s) =
          let here : Does items n u Leave = subst (λ z. Does items z u Leave) s d in
          stays (same_thread_of items n item u Leave at here) (same_what_of items n item u Leave at here)

  pub ahead_passed : (row : ℕ → ℕ) → Ahead items j u n row → (item.t ≡ u → ⊥) → Ahead items j u (n + 1) row
  ahead_passed row h d = record {
    still_open = stays_open row h (λ e g. d e);
    down = like_down items row row (λ p. Own items j u p ⊎ IsMet items j u n p) (λ p. Own items j u p ⊎ IsMet items j u (n + 1) p) h.down (λ s. refl) to back;
  }
    where
      to : (p : ℕ) → Own items j u p ⊎ IsMet items j u n p → Own items j u p ⊎ IsMet items j u (n + 1) p
      to p (inl o) = inl o
      to p (inr m) = inr (met_more items j u n p m)

      back : (p : ℕ) → Own items j u p ⊎ IsMet items j u (n + 1) p → Own items j u p ⊎ IsMet items j u n p
      back p (inl o) = inl o
      back p (inr m) = inr (by (below_or_at m.other n m.before))
        where
          by : (m.other < n) ⊎ (m.other ≡ n) → IsMet items j u n p
          by (inl s) = met_within items j u (n + 1) n p m s
          by (inr s) = absurd (d (same_thread_of items n item u m.what at (subst (λ z. Does items z u m.what) s m.item)))

  pub ahead_more : (b : Blocks) (row new : ℕ → ℕ) → Blocked items b j → Ahead items j u n row → item.t ≡ u → (item.what ≡ Leave → ⊥)
      → Gathers b item.what row new
      → Ahead items j u (n + 1) new
  ahead_more b row new blocked h e stays g = record {
    still_open = stays_open row h (λ p q. stays q);
    down =
        like_down items new new (λ p. (Own items j u p ⊎ IsMet items j u n p) ⊎ Hit items item.what j p) (λ p. Own items j u p ⊎ IsMet items j u (n + 1) p)
        (gathers_down items b item.what j row new (λ p. Own items j u p ⊎ IsMet items j u n p) blocked h.down g) (λ s. refl) to back;
  }
    where
      to : (p : ℕ) → (Own items j u p ⊎ IsMet items j u n p) ⊎ Hit items item.what j p → Own items j u p ⊎ IsMet items j u (n + 1) p
      to p (inl (inl o)) = inl o
      to p (inl (inr m)) = inr (met_more items j u n p m)
      to p (inr (w, x, t, r)) =
          inr (record {
            other = n;
            what = item.what;
            item = does items n item u item.what at e refl;
            later = lt;
            before = omega arith;
            still_open = h.still_open;
            write = w;
            byte = x;
            hit = t;
            block = r;
          })

      back : (p : ℕ) → Own items j u p ⊎ IsMet items j u (n + 1) p → (Own items j u p ⊎ IsMet items j u n p) ⊎ Hit items item.what j p
      back p (inl o) = inl (inl o)
      back p (inr m) = by (below_or_at m.other n m.before)
        where
          by : (m.other < n) ⊎ (m.other ≡ n) → (Own items j u p ⊎ IsMet items j u n p) ⊎ Hit items item.what j p
          by (inl s) = inl (inr (met_within items j u (n + 1) n p m s))
          by (inr s) =
              let same : item.what ≡ m.what = same_what_of items n item u m.what at (subst (λ z. Does items z u m.what) s m.item) in
              inr (m.write, m.byte, ap (λ z. against m.write z m.byte) same ∙ m.hit, m.block)

  -- the block is left
  pub ahead_left : (row : ℕ → ℕ) → Ahead items j u n row → item.t ≡ u → item.what ≡ Leave
      → Down items row (λ p. Own items j u p ⊎ IsMet items j u (length items) p)
  ahead_left row h e g =
      like_down items row row (λ p. Own items j u p ⊎ IsMet items j u n p) (λ p. Own items j u p ⊎ IsMet items j u (length items) p) h.down (λ s. refl) to back
    where
      to : (p : ℕ) → Own items j u p ⊎ IsMet items j u n p → Own items j u p ⊎ IsMet items j u (length items) p
      to p (inl o) = inl o
      to p (inr m) = inr (met_within items j u n (length items) p m (index_within items m.other _ m.item))

      none : (w : Bool) (x : ℕ) → against w Leave x ≡ true → ⊥
      none true x h = false≢true h
      none false x h = false≢true h

      back : (p : ℕ) → Own items j u p ⊎ IsMet items j u (length items) p → Own items j u p ⊎ IsMet items j u n p
      back p (inl o) = inl o
      back p (inr m) = inr (by (cases_order m.other n))
        where
          by : (m.other ≡ n) ⊎ ((m.other < n) ⊎ (n < m.other)) → IsMet items j u n p
          by (inr (inl s)) = met_within items j u (length items) n p m s
          by (inr (inr s)) = absurd (m.still_open n lt s (does items n item u Leave at e g))
          by (inl s) =
              let same : item.what ≡ m.what = same_what_of items n item u m.what at (subst (λ z. Does items z u m.what) s m.item) in
              absurd (none m.write m.byte (ap (λ z. against m.write z m.byte) (sym g ∙ same) ∙ m.hit))

pub ahead_all : (items : List Item) (j u n : ℕ) (row : ℕ → ℕ) → length items ≤ n → Ahead items j u n row
    → Down items row (λ p. Own items j u p ⊎ IsMet items j u (length items) p)
ahead_all items j u n row le h =
    like_down items row row (λ p. Own items j u p ⊎ IsMet items j u n p) (λ p. Own items j u p ⊎ IsMet items j u (length items) p) h.down (λ s. refl) to back
  where
    to : (p : ℕ) → Own items j u p ⊎ IsMet items j u n p → Own items j u p ⊎ IsMet items j u (length items) p
    to p (inl o) = inl o
    to p (inr m) = inr (met_within items j u n (length items) p m (index_within items m.other _ m.item))

    back : (p : ℕ) → Own items j u p ⊎ IsMet items j u (length items) p → Own items j u p ⊎ IsMet items j u n p
    back p (inl o) = inl o
    back p (inr m) = let lt = m.before in inr (met_within items j u (length items) n p m (omega (arith, lt, le)))

-- ---- the row of an Enter

clash_parts : (w : Bool) (a b : What) (x : ℕ) → hits w a x ≡ true → against w b x ≡ true
    → (touches a x ≡ true) × (touches b x ≡ true) × ((writes a || writes b) ≡ true)
clash_parts true a b x h g = let p = and_parts (touches a x) (writes a) h in (p.0, g, or_left _ _ p.1)
clash_parts false a b x h g = let p = and_parts (touches b x) (writes b) g in (h, p.0, or_right _ _ p.1)

clash_by : (a b : What) (x : ℕ) → touches a x ≡ true → touches b x ≡ true → (writes a || writes b) ≡ true → (writes a ≡ true) ⊎ (writes a ≡ false)
    → (w : Bool) × (hits w a x ≡ true) × (against w b x ≡ true)
clash_by a b x p q r (inl so) = (true, and_from (touches a x) (writes a) p so, q)
clash_by a b x p q r (inr not_so) = (false, p, and_from (touches b x) (writes b) q (by (or_cases _ _ r)))
  where
    by : (writes a ≡ true) ⊎ (writes b ≡ true) → writes b ≡ true
    by (inl so) = absurd (true≢false (sym so ∙ not_so))
    by (inr so) = so

met_before : (items : List Item) (j u n p : ℕ) → Does items j u Enter → IsMet items j u n p → Ordered items p j
met_before items j u n p enters m = by (cases_eq m.block.thread u)
  where
    by : (m.block.thread ≡ u) ⊎ (m.block.thread ≡ u → ⊥) → Ordered items p j
    by (inl e) = at_once (same_thread u Leave Enter m.block.within (subst (λ z. Does items p z Leave) e m.block.left) enters)
    by (inr d) =
        let b = m.block in
        let c = clash_parts m.write b.what m.what m.byte b.hit m.hit in
        at_once (blocks b.thread u b.within b.left enters (record {
          entry = b.entry;
          whole = b.whole;
          one = b.one;
          other = m.other;
          byte = m.byte;
          inside = b.inside;
          before = b.before;
          there = record { enters = enters; later = m.later; still_open = m.still_open };
          threads = ((b.what, b.item), (m.what, m.item));
          clash = record {
            one = record { t = b.thread; what = b.what };
            other = record { t = u; what = m.what };
            at_one = b.item;
            at_other = m.item;
            apart = ne_eqb b.thread u d;
            in_one = c.0;
            in_other = c.1;
            written = c.2;
          };
        }))

met_of : (items : List Item) (j u t p : ℕ) → p < j → Does items p t Leave → Meet items t p u j → IsMet items j u (length items) p
met_of items j u t p lt left m =
    let c = m.clash in
    let one : Item = record { t = t; what = m.threads.0.0 } in
    let other : Item = record { t = u; what = m.threads.1.0 } in
    let first : c.one ≡ one = same_Some c.one one (sym c.at_one ∙ m.threads.0.1) in
    let second : c.other ≡ other = same_Some c.other other (sym c.at_other ∙ m.threads.1.1) in
    let written : (writes one.what || writes c.other.what) ≡ true = subst (λ (z : Item). (writes z.what || writes c.other.what) ≡ true) first c.written in
    let h =
    clash_by one.what other.what m.byte (subst (λ (z : Item). touches z.what m.byte ≡ true) first c.in_one)
    (subst (λ (z : Item). touches z.what m.byte ≡ true) second c.in_other)
    (subst (λ (z : Item). (writes one.what || writes z.what) ≡ true) second written) (cases_Bool (writes one.what)) in
    record {
      other = m.other;
      what = m.threads.1.0;
      item = m.threads.1.1;
      later = m.there.later;
      before = index_within items m.other other m.threads.1.1;
      still_open = m.there.still_open;
      write = h.0;
      byte = m.byte;
      hit = h.2;
      block = record {
        thread = t;
        left = left;
        within = lt;
        entry = m.entry;
        whole = m.whole;
        one = m.one;
        what = m.threads.0.0;
        item = m.threads.0.1;
        inside = m.inside;
        before = m.before;
        hit = h.1;
      };
    }

pub right_entered : (items : List Item) (j : ℕ) (item : Item) (f : slice_get items j ≡ Some item) → Regular items → (row : List ℕ) → item.what ≡ Enter
    → Down items (slice_index row) (λ p. Own items j item.t p ⊎ IsMet items j item.t (length items) p) → Right items row j
right_entered items j item f r row is h =
    right_of items row j (λ p. Own items j item.t p ⊎ IsMet items j item.t (length items) p) h before (λ p s. onto p (into_of items j item f r p s))
  where
    before : (p : ℕ) → Own items j item.t p ⊎ IsMet items j item.t (length items) p → Ordered items p j
    before p (inl o) = own_before items j item f p o
    before p (inr m) = met_before items j item.t (length items) p (does items j item item.t Enter f refl is) m

    onto : (p : ℕ) → Into items j item f p → (q : ℕ) × (Own items j item.t q ⊎ IsMet items j item.t (length items) q) × ((p ≡ q) ⊎ Ordered items p q)
    onto p (own o) = (p, inl o, inl refl)
    onto p (of_child child e i) = absurd (enter_joined items j item f item.what child is e)
    onto p (meets t e lt d m) = (p, inr (met_of items j item.t t p lt d m), inl refl)
