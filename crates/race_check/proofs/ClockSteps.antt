-- The rows of threads, and the row of an item from them.
use Rattle.std.proofs.Common.{ℕ, ◌≡◌, ◌<◌, ◌≤◌, ◌+◌, ◌⊎◌, inl, inr, refl, ap, sym, ◌∙◌, subst, List, [], Some, length, replicate, set, get_or, arith}
use Rattle.std.specs.Prelude.{slice_get, slice_index, slice_index_or, Bool, true, false}
use Rattle.std.proofs.lemmas.Bool.{cases_lt, cases_eq, true≢false}
use Rattle.std.proofs.lemmas.List.{get_or-replicate, get_or_past, length-replicate, get_or-set_same, get_or-set_other, get_or_read}
use Rattle.std.proofs.Math.ListN.{length-set}
use Rattle.tx_events.specs.declared.Item.{Item}
use Rattle.tx_events.specs.declared.What.{What}
use Rattle.tx_events.specs.declared.What.TheVariants.{Read, Write, Enter, Leave, Spawned, Joined}
use Rattle.race_check.specs.Races.{Does, Leads, same_thread, starts, joins, blocks, Meet, Ordered, at_once}
use Rattle.race_check.specs.Regular.{Regular}
use Rattle.race_check.specs.Rows.{Down, Greater, Right}
use Rattle.race_check.specs.Clocks.{no_row, row_at, row_in, IsOf, IsStart, Own, Begun, Clocked, Reached}
use Rattle.race_check.specs.declared.clocks.Clocks.{Clocks}
use Rattle.race_check.specs.declared.rows.Row.{Row}
use Rattle.race_check.proofs.Numbers.{below_or_at}
use Rattle.race_check.proofs.ItemSteps.{does, same_thread_of, same_what_of}
use Rattle.race_check.proofs.RowSteps.{nothing_down, joined_down, same_down, like_down, right_of, with_item_down}

-- ---- lists of rows

no_counters : (s : ℕ) → slice_index [] s ≡ 0
no_counters s = get_or_past [] s 0 (omega arith)

pub past_rows : (rows : List Row) (t s : ℕ) → length rows ≤ t → row_in rows t s ≡ 0
past_rows rows t s le = ap (λ (z : Row). slice_index z.latest s) (get_or_past rows t no_row le) ∙ no_counters s

pub zero_rows : (row : Row) → ((s : ℕ) → slice_index row.latest s ≡ 0) → (t s : ℕ) → row_in (replicate 64 row) t s ≡ 0
zero_rows row zero t s = by (cases_lt t 64)
  where
    by : (t < 64) ⊎ (64 ≤ t) → row_in (replicate 64 row) t s ≡ 0
    by (inl lt) = ap (λ (z : Row). slice_index z.latest s) (get_or-replicate 64 t row no_row lt) ∙ zero s
    by (inr le) = let size : length (replicate 64 row) ≡ 64 = length-replicate 64 row in past_rows (replicate 64 row) t s (omega (arith, size, le))

pub row_set_same : (rows : List Row) (t s : ℕ) (r : Row) → t < length rows → row_in (set rows t r) t s ≡ slice_index r.latest s
row_set_same rows t s r lt = ap (λ (z : Row). slice_index z.latest s) (get_or-set_same rows t r no_row lt)

pub row_set_other : (rows : List Row) (t u s : ℕ) (r : Row) → (u ≡ t → ⊥) → row_in (set rows t r) u s ≡ row_in rows u s
row_set_other rows t u s r d = ap (λ (z : Row). slice_index z.latest s) (get_or-set_other rows t u r no_row d)

pub none_marked_begun : (t : ℕ) → slice_index_or (replicate 64 false) t false ≡ false
none_marked_begun t = by (cases_lt t 64)
  where
    by : (t < 64) ⊎ (64 ≤ t) → slice_index_or (replicate 64 false) t false ≡ false
    by (inl lt) = get_or-replicate 64 t false false lt
    by (inr le) = let size : length (replicate 64 false) ≡ 64 = length-replicate 64 false in get_or_past (replicate 64 false) t false (omega (arith, size, le))

-- ---- the rows of threads

pub clocked_first : (items : List Item) (clocks : Clocks) → length clocks.rows.items ≡ 64 → length clocks.begun.items ≡ 64
    → ((t s : ℕ) → row_in clocks.rows.items t s ≡ 0) → ((t : ℕ) → slice_index_or clocks.begun.items t false ≡ false) → Clocked items clocks 0
clocked_first items clocks p q f g = record {
  size = p;
  begun_size = q;
  rows = λ t lt. nothing_down items (row_in clocks.rows.items t) (Own items 0 t) (f t) (λ k h. nothing t k h);
  begun = record { marked = λ t e. absurd (true≢false (sym e ∙ g t)); all = λ t k h. let e = h.before in absurd (omega (arith, e)) };
}
  where
    nothing : (t k : ℕ) → Own items 0 t k → ⊥
    nothing t k (inl h) = let e = h.before in omega (arith, e)
    nothing t k (inr h) = let e = h.before in omega (arith, e)

spawned_or_not : (w : What) (t : ℕ) → (w ≡ Spawned t) ⊎ (w ≡ Spawned t → ⊥)
spawned_or_not (Spawned child) t = by (cases_eq child t)
  where
    child_of : What → ℕ
    child_of (Spawned c) = c
    child_of (Joined c) = 0
    child_of (Read addr size) = 0
    child_of (Write addr size) = 0
    child_of Enter = 0
    child_of Leave = 0

    by : (child ≡ t) ⊎ (child ≡ t → ⊥) → (Spawned child ≡ Spawned t) ⊎ (Spawned child ≡ Spawned t → ⊥)
    by (inl e) = inl (ap (λ z. Spawned z) e)
    by (inr d) = inr (λ e. d (ap (λ z. child_of z) e))
spawned_or_not (Joined child) t = inr (λ e. cc)
spawned_or_not (Read addr size) t = inr (λ e. cc)
spawned_or_not (Write addr size) t = inr (λ e. cc)
spawned_or_not Enter t = inr (λ e. cc)
spawned_or_not Leave t = inr (λ e. cc)

module _ (items : List Item) (j : ℕ) (item : Item) (f : slice_get items j ≡ Some item) where
  is_of_more : (t p : ℕ) → IsOf items j t p → IsOf items (j + 1) t p
  is_of_more t p h = let lt = h.before in record { what = h.what; item = h.item; before = omega (arith, lt) }

  is_start_more : (t p : ℕ) → IsStart items j t p → IsStart items (j + 1) t p
  is_start_more t p h = let lt = h.before in record { starter = h.starter; item = h.item; before = omega (arith, lt) }

  own_more : (t p : ℕ) → Own items j t p → Own items (j + 1) t p
  own_more t p (inl h) = inl (is_of_more t p h)
  own_more t p (inr h) = inr (is_start_more t p h)

  own_back : (t p : ℕ) → Own items (j + 1) t p → (p < j) ⊎ (p ≡ j) → Own items j t p ⊎ (p ≡ j)
  own_back t p o (inr e) = inr e
  own_back t p (inl r) (inl lt) = inl (inl (record { what = r.what; item = r.item; before = lt }))
  own_back t p (inr r) (inl lt) = inl (inr (record { starter = r.starter; item = r.item; before = lt }))

  before_next : (t p : ℕ) → Own items (j + 1) t p → p < j + 1
  before_next t p (inl r) = r.before
  before_next t p (inr r) = r.before

  here : IsOf items (j + 1) item.t j
  here = record { what = item.what; item = f; before = omega arith }

  -- the thread of item j: the item and what is ordered before it are its items, what starts it, and what is ordered before those
  whole_here : (new : ℕ → ℕ) → Down items new (λ p. p ≡ j) → Down items new (Own items (j + 1) item.t)
  whole_here new w = same_down items new new (λ p. p ≡ j) (Own items (j + 1) item.t) w (λ s. refl)
      (λ p e. (p, subst (λ z. Own items (j + 1) item.t z) (sym e) (inl here), inl refl)) (λ p o. (j, refl, upto p o (below_or_at p j (before_next item.t p o))))
    where
      upto : (p : ℕ) → Own items (j + 1) item.t p → (p < j) ⊎ (p ≡ j) → (p ≡ j) ⊎ Ordered items p j
      upto p o (inr e) = inl e
      upto p (inl r) (inl lt) = inr (at_once (same_thread item.t r.what item.what lt r.item f))
      upto p (inr r) (inl lt) = inr (at_once (starts r.starter item.t item.what r.item f))

  -- a thread that item j starts
  start_here : (t : ℕ) (old new whole : ℕ → ℕ) → item.what ≡ Spawned t → Down items old (Own items j t) → Down items whole (λ p. p ≡ j) → Greater old whole new
      → Down items new (Own items (j + 1) t)
  start_here t old new whole is h w g =
      like_down items new new (λ p. Own items j t p ⊎ (p ≡ j)) (Own items (j + 1) t) (joined_down items old whole new (Own items j t) (λ p. p ≡ j) h w g)
      (λ s. refl) to (λ p o. own_back t p o (below_or_at p j (before_next t p o)))
    where
      to : (p : ℕ) → Own items j t p ⊎ (p ≡ j) → Own items (j + 1) t p
      to p (inl o) = own_more t p o
      to p (inr e) = subst (λ z. Own items (j + 1) t z) (sym e)
          (inr (record { starter = item.t; item = does items j item item.t (Spawned t) f refl is; before = omega arith }))

  -- another thread
  other_here : (t : ℕ) (old new : ℕ → ℕ) → (t ≡ item.t → ⊥) → (item.what ≡ Spawned t → ⊥) → Down items old (Own items j t) → ((s : ℕ) → new s ≡ old s)
      → Down items new (Own items (j + 1) t)
  other_here t old new d n h e =
      like_down items old new (Own items j t) (Own items (j + 1) t) h e (own_more t) (λ p o. back p o (own_back t p o (below_or_at p j (before_next t p o))))
    where
      back : (p : ℕ) → Own items (j + 1) t p → Own items j t p ⊎ (p ≡ j) → Own items j t p
      back p o (inl h) = h
      back p (inl r) (inr e) = absurd (d (sym (same_thread_of items j item t r.what f (subst (λ z. Does items z t r.what) e r.item))))
      back p (inr r) (inr e) = absurd (n (same_what_of items j item r.starter (Spawned t) f (subst (λ z. Does items z r.starter (Spawned t)) e r.item)))

  no_own_start : Regular items → item.what ≡ Spawned item.t → ⊥
  no_own_start r is =
      let lt = r.starts j j item.t item.t item.what (does items j item item.t (Spawned item.t) f refl is) f in
      omega (arith, lt)

  begun_more : (old new : List Bool) → Begun items old j → slice_index_or new item.t false ≡ true
      → ((u : ℕ) → (u ≡ item.t → ⊥) → slice_index_or new u false ≡ slice_index_or old u false) → Begun items new (j + 1)
  begun_more old new h at others = record { marked = λ t e. marked t e (cases_eq t item.t); all = λ t p r. every t p r (cases_eq t item.t) }
    where
      marked : (t : ℕ) → slice_index_or new t false ≡ true → (t ≡ item.t) ⊎ (t ≡ item.t → ⊥) → (p : ℕ) × IsOf items (j + 1) t p
      marked t e (inl s) = (j, subst (λ z. IsOf items (j + 1) z j) (sym s) here)
      marked t e (inr d) = let q = h.marked t (sym (others t d) ∙ e) in (q.0, is_of_more t q.0 q.1)

      within : (t p : ℕ) → (t ≡ item.t → ⊥) → IsOf items (j + 1) t p → (p < j) ⊎ (p ≡ j) → IsOf items j t p
      within t p d r (inl lt) = record { what = r.what; item = r.item; before = lt }
      within t p d r (inr e) = absurd (d (sym (same_thread_of items j item t r.what f (subst (λ z. Does items z t r.what) e r.item))))

      every : (t p : ℕ) → IsOf items (j + 1) t p → (t ≡ item.t) ⊎ (t ≡ item.t → ⊥) → slice_index_or new t false ≡ true
      every t p r (inl s) = subst (λ z. slice_index_or new z false ≡ true) (sym s) at
      every t p r (inr d) = others t d ∙ h.all t p (within t p d r (below_or_at p j r.before))

  pub clocked_more : (old new : Clocks) (mid : List Row) → Regular items → Reached items old j item.t → Down items (row_in mid item.t) (λ p. p ≡ j)
      → ((u s : ℕ) → (u ≡ item.t → ⊥) → row_in mid u s ≡ row_in old.rows.items u s) → length new.rows.items ≡ 64 → length new.begun.items ≡ 64
      → ((child : ℕ) → item.what ≡ Spawned child → child < 64 → Greater (row_in mid child) (row_in mid item.t) (row_in new.rows.items child))
      → ((u s : ℕ) → (item.what ≡ Spawned u → ⊥) → row_in new.rows.items u s ≡ row_in mid u s) → slice_index_or new.begun.items item.t false ≡ true
      → ((u : ℕ) → (u ≡ item.t → ⊥) → slice_index_or new.begun.items u false ≡ slice_index_or old.begun.items u false) → Clocked items new (j + 1)
  clocked_more old new mid r h w same size begun_size spawned unspawned at others = record {
    size = size;
    begun_size = begun_size;
    rows = λ t lt. by_thread t lt (cases_eq t item.t) (spawned_or_not item.what t);
    begun = begun_more old.begun.items new.begun.items h.begun at others;
  }
    where
      by_thread : (t : ℕ) → t < 64 → (t ≡ item.t) ⊎ (t ≡ item.t → ⊥) → (item.what ≡ Spawned t) ⊎ (item.what ≡ Spawned t → ⊥)
          → Down items (row_in new.rows.items t) (Own items (j + 1) t)
      by_thread t lt (inl e) (inl is) = absurd (no_own_start r (subst (λ z. item.what ≡ Spawned z) e is))
      by_thread t lt (inl e) (inr n) =
          subst (λ z. Down items (row_in new.rows.items z) (Own items (j + 1) z)) (sym e)
          (whole_here (row_in new.rows.items item.t)
          (like_down items (row_in mid item.t) (row_in new.rows.items item.t) (λ p. p ≡ j) (λ p. p ≡ j) w (λ s. unspawned item.t s (no_own_start r)) (λ p q. q)
          (λ p q. q)))
      by_thread t lt (inr d) (inl is) =
          start_here t (row_in mid t) (row_in new.rows.items t) (row_in mid item.t) is
          (like_down items (row_in old.rows.items t) (row_in mid t) (Own items j t) (Own items j t) (h.others t lt d) (λ s. same t s d) (λ p q. q) (λ p q. q)) w
          (spawned t is lt)
      by_thread t lt (inr d) (inr n) =
          other_here t (row_in old.rows.items t) (row_in new.rows.items t) d n (h.others t lt d) (λ s. unspawned t s n ∙ same t s d)

  -- ---- the row of item j

  pub own_before : (p : ℕ) → Own items j item.t p → Ordered items p j
  own_before p (inl r) = at_once (same_thread item.t r.what item.what r.before r.item f)
  own_before p (inr r) = at_once (starts r.starter item.t item.what r.item f)

  -- how an item leads to j
  pub data Into (p : ℕ) : Type 0 where
    own : Own items j item.t p → Into p
    of_child : (child : ℕ) → item.what ≡ Joined child → IsOf items j child p → Into p
    meets : (t : ℕ) → item.what ≡ Enter → p < j → Does items p t Leave → Meet items t p item.t j → Into p

  pub into_of : Regular items → (p : ℕ) → Leads items p j → Into p
  into_of r p (same_thread t x y lt d e) = own (inl (record {
    what = x;
    item = subst (λ z. Does items p z x) (sym (same_thread_of items j item t y f e)) d;
    before = lt;
  }))
  into_of r p (starts t child y d e) =
      own (inr (record {
        starter = t;
        item = subst (λ z. Does items p t (Spawned z)) (sym (same_thread_of items j item child y f e)) d;
        before =
            r.starts p j t child y d e;
      }))
  into_of r p (joins t child x lt d e) = of_child child (same_what_of items j item t (Joined child) f e) (record { what = x; item = d; before = lt })
  into_of r p (blocks t u lt d e m) =
      meets t (same_what_of items j item u Enter f e) lt d (subst (λ z. Meet items t p z j) (sym (same_thread_of items j item u Enter f e)) m)

  pub enter_joined : (w : What) (child : ℕ) → w ≡ Enter → w ≡ Joined child → ⊥
  enter_joined w child e g = cc

  pub right_plain : Regular items → (row : List ℕ) → Down items (slice_index row) (Own items j item.t) → (item.what ≡ Enter → ⊥)
      → ((child : ℕ) → item.what ≡ Joined child → ⊥) → Right items row j
  right_plain r row h enter join = right_of items row j (Own items j item.t) h own_before (λ p s. plain p (into_of r p s))
    where
      plain : (p : ℕ) → Into p → (q : ℕ) × Own items j item.t q × ((p ≡ q) ⊎ Ordered items p q)
      plain p (own o) = (p, o, inl refl)
      plain p (of_child child e i) = absurd (join child e)
      plain p (meets t e lt d m) = absurd (enter e)

  pub right_joined : Regular items → (row : List ℕ) (child : ℕ) → item.what ≡ Joined child
      → Down items (slice_index row) (λ p. Own items j item.t p ⊎ IsOf items j child p) → Right items row j
  right_joined r row child is h = right_of items row j (λ p. Own items j item.t p ⊎ IsOf items j child p) h before (λ p s. onto p (into_of r p s))
    where
      before : (p : ℕ) → Own items j item.t p ⊎ IsOf items j child p → Ordered items p j
      before p (inl o) = own_before p o
      before p (inr i) = at_once (joins item.t child i.what i.before i.item (does items j item item.t (Joined child) f refl is))

      child_of : What → ℕ
      child_of (Joined c) = c
      child_of (Spawned c) = 0
      child_of (Read addr size) = 0
      child_of (Write addr size) = 0
      child_of Enter = 0
      child_of Leave = 0

      onto : (p : ℕ) → Into p → (q : ℕ) × (Own items j item.t q ⊎ IsOf items j child q) × ((p ≡ q) ⊎ Ordered items p q)
      onto p (own o) = (p, inl o, inl refl)
      onto p (of_child c e i) = (p, inr (subst (λ z. IsOf items j z p) (ap (λ z. child_of z) (sym e ∙ is)) i), inl refl)
      onto p (meets t e lt d m) = absurd (enter_joined item.what child e is)

  -- ---- the rows at item j

  own_row : Regular items → (clocks : Clocks) → Clocked items clocks j → Down items (row_in clocks.rows.items item.t) (Own items j item.t)
  own_row r clocks h = h.rows item.t (r.threads j item f)

  pub reached : (old new : Clocks) → Clocked items old j → length new.rows.items ≡ 64 → new.begun.items ≡ old.begun.items
      → ((u s : ℕ) → (u ≡ item.t → ⊥) → row_in new.rows.items u s ≡ row_in old.rows.items u s) → Right items (row_at new.rows.items item.t) j
      → Reached items new j item.t
  reached old new h size begun others right = record {
    size = size;
    begun_size = ap length begun ∙ h.begun_size;
    right = right;
    others = λ u lt d. like_down items (row_in old.rows.items u) (row_in new.rows.items u) (Own items j u) (Own items j u) (h.rows u lt) (λ s. others u s d)
        (λ p q. q) (λ p q. q);
    begun = subst (λ z. Begun items z j) (sym begun) h.begun;
  }

  pub reached_plain : Regular items → (clocks : Clocks) → Clocked items clocks j → (item.what ≡ Enter → ⊥) → ((child : ℕ) → item.what ≡ Joined child → ⊥)
      → Reached items clocks j item.t
  reached_plain r clocks h enter join =
      reached clocks clocks h h.size refl (λ u s d. refl) (right_plain r (row_at clocks.rows.items item.t) (own_row r clocks h) enter join)

  -- a child without items
  pub reached_idle : Regular items → (clocks : Clocks) (child : ℕ) → Clocked items clocks j → item.what ≡ Joined child → ((p : ℕ) → IsOf items j child p → ⊥)
      → Reached items clocks j item.t
  reached_idle r clocks child h is none =
      reached clocks clocks h h.size refl (λ u s d. refl)
      (right_joined r (row_at clocks.rows.items item.t) child is
      (like_down items (row_in clocks.rows.items item.t) (row_in clocks.rows.items item.t) (Own items j item.t)
      (λ p. Own items j item.t p ⊎ IsOf items j child p) (own_row r clocks h)
      (λ s. refl) (λ p o. inl o) back))
    where
      back : (p : ℕ) → Own items j item.t p ⊎ IsOf items j child p → Own items j item.t p
      back p (inl o) = o
      back p (inr i) = absurd (none p i)

  -- a child with items: what starts it is ordered before them
  pub reached_joined : Regular items → (old new : Clocks) (child : ℕ) → Clocked items old j → item.what ≡ Joined child → child < 64
      → ((p : ℕ) × IsOf items j child p)
      → length new.rows.items ≡ 64 → new.begun.items ≡ old.begun.items
      → Greater (row_in old.rows.items item.t) (row_in old.rows.items child) (row_in new.rows.items item.t)
      → ((u s : ℕ) → (u ≡ item.t → ⊥) → row_in new.rows.items u s ≡ row_in old.rows.items u s) → Reached items new j item.t
  reached_joined r old new child h is lt one size begun g others =
      reached old new h size begun others
      (right_joined r (row_at new.rows.items item.t) child is
      (joined_down items (row_in old.rows.items item.t) (row_in old.rows.items child) (row_in new.rows.items item.t) (Own items j item.t) (IsOf items j child)
      (own_row r old h) of_child_down g))
    where
      behind : (p : ℕ) → Own items j child p → (q : ℕ) × IsOf items j child q × ((p ≡ q) ⊎ Ordered items p q)
      behind p (inl i) = (p, i, inl refl)
      behind p (inr s) = (one.0, one.1, inr (at_once (starts s.starter child one.1.what s.item one.1.item)))

      of_child_down : Down items (row_in old.rows.items child) (IsOf items j child)
      of_child_down =
          same_down items (row_in old.rows.items child) (row_in old.rows.items child) (Own items j child) (IsOf items j child) (h.rows child lt)
          (λ s. refl) behind
          (λ p i. (p, inl i, inl refl))

  -- the row that an Enter changes
  pub own_of : Regular items → (clocks : Clocks) → Clocked items clocks j → (t : ℕ) (row : Row) → t ≡ item.t → row ≡ get_or clocks.rows.items t row
      → Down items (slice_index row.latest) (Own items j item.t)
  own_of r clocks h t row e read =
      like_down items (row_in clocks.rows.items item.t) (slice_index row.latest) (Own items j item.t) (Own items j item.t) (own_row r clocks h)
      (λ s. ap (λ (z : Row). slice_index z.latest s) (is ∙ ap (λ z. get_or clocks.rows.items z no_row) e)) (λ p o. o) (λ p o. o)
    where
      is : row ≡ get_or clocks.rows.items t no_row
      is = let size = h.size in let lt = r.threads j item f in get_or_read clocks.rows.items t row (omega (arith, size, lt, e)) read no_row

  pub reached_by_set : Regular items → (old new : Clocks) (t : ℕ) (row : Row) → Clocked items old j → t ≡ item.t → new.rows.items ≡ set old.rows.items t row
      → new.begun.items ≡ old.begun.items → Right items row.latest j → Reached items new j item.t
  reached_by_set r old new t row h e is begun right =
      reached old new h size begun others (subst (λ z. Right items z j) (sym here_is) right)
    where
      within : t < length old.rows.items
      within = let size = h.size in let lt = r.threads j item f in omega (arith, size, lt, e)

      size : length new.rows.items ≡ 64
      size = ap length is ∙ length-set old.rows.items t row ∙ h.size

      others : (u s : ℕ) → (u ≡ item.t → ⊥) → row_in new.rows.items u s ≡ row_in old.rows.items u s
      others u s d = ap (λ z. row_in z u s) is ∙ row_set_other old.rows.items t u s row (λ q. d (q ∙ e))

      here_is : row_at new.rows.items item.t ≡ row.latest
      here_is = ap (λ z. row_at z item.t) is ∙ (ap (λ z. row_at (set old.rows.items t row) z) (sym e) ∙ ap (λ (z : Row). z.latest)
          (get_or-set_same old.rows.items t row no_row within))

  -- ---- item j is done

  pub counted : (old : Clocks) (mid : List Row) → Reached items old j item.t → ((s : ℕ) → row_in old.rows.items item.t s ≤ row_in mid item.t s)
      → j < row_in mid item.t item.t
      → ((s : ℕ) → (row_in mid item.t s ≡ row_in old.rows.items item.t s) ⊎ ((s ≡ item.t) × (row_in mid item.t s ≡ j + 1)))
      → Down items (row_in mid item.t) (λ p. p ≡ j)
  counted old mid h kept gained only = with_item_down items (row_at old.rows.items item.t) (row_at mid item.t) j item f h.right kept gained only

  pub still_counted : Regular items → (mid new : List Row) → Down items (row_in mid item.t) (λ p. p ≡ j)
      → ((u s : ℕ) → (item.what ≡ Spawned u → ⊥) → row_in new u s ≡ row_in mid u s) → Down items (row_in new item.t) (λ p. p ≡ j)
  still_counted r mid new w unspawned =
      like_down items (row_in mid item.t) (row_in new item.t) (λ p. p ≡ j) (λ p. p ≡ j) w (λ s. unspawned item.t s (no_own_start r)) (λ p q. q) (λ p q. q)
