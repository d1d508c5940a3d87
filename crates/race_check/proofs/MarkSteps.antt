-- Marks that grow by an item.
use Rattle.std.proofs.Common.{ℕ, ◌≡◌, ◌<◌, ◌≤◌, ◌+◌, ◌-◌, ◌/◌, max, cond, ◌⊎◌, inl, inr, refl, ap, sym, ◌∙◌, subst, Bool, true, List, Some, length, arith}
use Rattle.std.specs.Prelude.{slice_get, slice_index}
use Rattle.std.proofs.lemmas.Bool.{cases_lt, cases_eq, eq-eqb, ne_eqb}
use Rattle.std.proofs.lemmas.List.{get_or_past}
use Rattle.std.proofs.lemmas.Option.{same_Some}
use Rattle.tx_events.specs.declared.Item.{Item}
use Rattle.race_check.specs.Races.{touches, writes}
use Rattle.race_check.specs.Marks.{Accesses, GathersFrom, IsPiece, Late, Latest, Raised, cell, lone, mark}
use Rattle.race_check.specs.declared.marks.Marks.{Marks}
use Rattle.race_check.specs.Rows.{Greater}
use Rattle.race_check.proofs.Numbers.{below_or_at}

pub none_late : (marks row : List ℕ) (t n : ℕ) → length marks ≡ length row → length row ≤ n
    → ((k : ℕ) → k < n → (k ≡ t → ⊥) → slice_index marks k ≤ slice_index row k) → Late (slice_index marks) row t → ⊥
none_late marks row t n size past h l = by (cases_lt l.thread n)
  where
    by : (l.thread < n) ⊎ (n ≤ l.thread) → ⊥
    by (inl lt) = let le = h l.thread lt l.other in let up = l.late in omega (arith, le, up)
    by (inr le) =
        let out : length marks ≤ l.thread = omega (arith, size, past, le) in
        let zero : slice_index marks l.thread ≡ 0 = get_or_past marks l.thread 0 out in
        let up = l.late in
        omega (arith, zero, up)

pub end_bound : (from to n x : ℕ) → (from ≤ to → n ≤ to) → (to ≤ from → n ≡ from) → from ≤ x → x < n → x < to
end_bound from to n x most none le lt = by (cases_lt from to)
  where
    by : (from < to) ⊎ (to ≤ from) → x < to
    by (inl p) = let q = most (omega (arith, p)) in omega (arith, lt, q)
    by (inr p) = let q = none p in absurd (omega (arith, le, lt, q))

pub latest_other : (items : List Item) (w : Bool) (x t n v : ℕ) → Latest items w x t n v → (Accesses items w x t n → ⊥) → Latest items w x t (n + 1) v
latest_other items w x t n v h none = record {
  above = λ k lt a. by k a (below_or_at k n lt);
  is = λ p. let q = h.is p in let le = q.2 in (q.0, q.1, omega (arith, le), q.3);
}
  where
    by : (k : ℕ) → Accesses items w x t k → (k < n) ⊎ (k ≡ n) → k < v
    by k a (inl lt) = h.above k lt a
    by k a (inr e) = absurd (none (subst (λ z. Accesses items w x t z) e a))

latest_here : (items : List Item) (w : Bool) (x t n v : ℕ) → v ≡ n + 1 → Accesses items w x t n → Latest items w x t (n + 1) v
latest_here items w x t n v e a = record {
  above = λ k lt b. omega (arith, lt, e);
  is = λ p. (n, e, omega arith, a);
}

lone_here : (t v s : ℕ) → s ≡ t → lone t v s ≡ v
lone_here t v s e = ap (λ b. cond b v 0) (eq-eqb s t e)

lone_other : (t v s : ℕ) → (s ≡ t → ⊥) → lone t v s ≡ 0
lone_other t v s d = ap (λ b. cond b v 0) (ne_eqb s t d)

-- the counter of one thread is raised
pub raised_lone : (t v : ℕ) (old new : ℕ → ℕ) → Raised t v old new → Greater old (lone t v) new
raised_lone t v old new r = record { kept = λ s. kept s (cases_eq s t); gained = λ s. gained s (cases_eq s t); only = λ s. only s (cases_eq s t) }
  where
    kept : (s : ℕ) → (s ≡ t) ⊎ (s ≡ t → ⊥) → old s ≤ new s
    kept s (inl e) = subst (λ z. old z ≤ new z) (sym e) r.kept
    kept s (inr d) = let same = r.others s d in omega (arith, same)

    gained : (s : ℕ) → (s ≡ t) ⊎ (s ≡ t → ⊥) → lone t v s ≤ new s
    gained s (inl e) = let is = lone_here t v s e in let le : v ≤ new s = subst (λ z. v ≤ new z) (sym e) r.gained in omega (arith, is, le)
    gained s (inr d) = let is = lone_other t v s d in omega (arith, is)

    by : (new t ≡ old t) ⊎ (new t ≡ v) → (new t ≡ old t) ⊎ (new t ≡ lone t v t)
    by (inl e) = inl e
    by (inr e) = inr (e ∙ sym (lone_here t v t refl))

    only : (s : ℕ) → (s ≡ t) ⊎ (s ≡ t → ⊥) → (new s ≡ old s) ⊎ (new s ≡ lone t v s)
    only s (inl e) = subst (λ z. (new z ≡ old z) ⊎ (new z ≡ lone t v z)) (sym e) (by r.only)
    only s (inr d) = inl (r.others s d)

-- the marks of reads or of writes, once such an item is marked at its bytes
pub latest_more : (items : List Item) (w : Bool) (item : Item) (n from to : ℕ) (old new : ℕ → ℕ → ℕ) → slice_get items n ≡ Some item → writes item.what ≡ w
    → ((x : ℕ) → from ≤ x → x < to → touches item.what x ≡ true) → ((x : ℕ) → touches item.what x ≡ true → (from ≤ x) × (x < to))
    → ((x : ℕ) → from ≤ x → x < to → Greater (old x) (lone item.t (n + 1)) (new x)) → ((x s : ℕ) → (from ≤ x → x < to → ⊥) → new x s ≡ old x s)
    → ((x t : ℕ) → Latest items w x t n (old x t)) → (x t : ℕ) → Latest items w x t (n + 1) (new x t)
latest_more items w item n from to old new f e inside all there others h x t = by (cases_eq t item.t) (cases_lt x from) (cases_lt x to)
  where
    same : (Accesses items w x t n → ⊥) → new x t ≡ old x t → Latest items w x t (n + 1) (new x t)
    same none is = subst (λ z. Latest items w x t (n + 1) z) (sym is) (latest_other items w x t n (old x t) (h x t) none)

    owner_of : Accesses items w x t n → t ≡ item.t
    owner_of a = sym a.owner ∙ ap (λ (z : Item). z.t) (same_Some a.item item (sym a.there ∙ f))

    range_of : Accesses items w x t n → (from ≤ x) × (x < to)
    range_of a = all x (subst (λ (z : Item). touches z.what x ≡ true) (same_Some a.item item (sym a.there ∙ f)) a.touched)

    -- what is marked lies before n
    most : (v : ℕ) → Latest items w x t n v → v ≤ n
    most v l = within (cases_lt 0 v)
      where
        within : (0 < v) ⊎ (v ≤ 0) → v ≤ n
        within (inl lt) = let q = l.is lt in let is = q.1 in let le = q.2 in omega (arith, is, le)
        within (inr le) = omega (arith, le)

    apart : (t ≡ item.t → ⊥) → Greater (old x) (lone item.t (n + 1)) (new x) → new x t ≡ old x t
    apart d g = either (g.only t)
      where
        either : (new x t ≡ old x t) ⊎ (new x t ≡ lone item.t (n + 1) t) → new x t ≡ old x t
        either (inl q) = q
        either (inr q) = let z = lone_other item.t (n + 1) t d in let le = g.kept t in omega (arith, q, z, le)

    here : t ≡ item.t → Greater (old x) (lone item.t (n + 1)) (new x) → new x t ≡ n + 1
    here s g = either (g.only t)
      where
        is : lone item.t (n + 1) t ≡ n + 1
        is = lone_here item.t (n + 1) t s

        either : (new x t ≡ old x t) ⊎ (new x t ≡ lone item.t (n + 1) t) → new x t ≡ n + 1
        either (inl q) = let le = g.gained t in let up = most (old x t) (h x t) in absurd (omega (arith, q, is, le, up))
        either (inr q) = q ∙ is

    by : (t ≡ item.t) ⊎ (t ≡ item.t → ⊥) → (x < from) ⊎ (from ≤ x) → (x < to) ⊎ (to ≤ x) → Latest items w x t (n + 1) (new x t)
    by p (inl below) q = same (λ a. let r = (range_of a).0 in omega (arith, r, below)) (others x t (λ le lt. omega (arith, le, below)))
    by p (inr le) (inr past) = same (λ a. let r = (range_of a).1 in omega (arith, r, past)) (others x t (λ ge lt. omega (arith, lt, past)))
    by (inr d) (inr le) (inl lt) = same (λ a. d (owner_of a)) (apart d (there x le lt))
    by (inl s) (inr le) (inl lt) =
        latest_here items w x t n (new x t) (here s (there x le lt)) (record { item = item; there = f; owner = sym s; touched = inside x le lt; written = e })

-- the other marks stay
pub latest_stays : (items : List Item) (w : Bool) (item : Item) (n : ℕ) (old : ℕ → ℕ → ℕ) → slice_get items n ≡ Some item → (writes item.what ≡ w → ⊥)
    → ((x t : ℕ) → Latest items w x t n (old x t)) → (x t : ℕ) → Latest items w x t (n + 1) (old x t)
latest_stays items w item n old f none h x t =
    latest_other items w x t n (old x t) (h x t)
    (λ a. none (sym (ap (λ (z : Item). writes z.what) (same_Some a.item item (sym a.there ∙ f))) ∙ a.written))

-- rows of bytes that gain the counters of one, byte by byte

greater_to : (f g h k : ℕ → ℕ) → Greater f g h → ((s : ℕ) → k s ≡ h s) → Greater f g k
greater_to f g h k w e = record {
  kept = λ s. let le = w.kept s in let q = e s in omega (arith, le, q);
  gained = λ s. let le = w.gained s in let q = e s in omega (arith, le, q);
  only = λ s. by s (w.only s);
}
  where
    by : (s : ℕ) → (h s ≡ f s) ⊎ (h s ≡ g s) → (k s ≡ f s) ⊎ (k s ≡ g s)
    by s (inl q) = inl (e s ∙ q)
    by s (inr q) = inr (e s ∙ q)

greater_from : (f g h k : ℕ → ℕ) → Greater f g h → ((s : ℕ) → f s ≡ k s) → Greater k g h
greater_from f g h k w e = record {
  kept = λ s. let le = w.kept s in let q = e s in omega (arith, le, q);
  gained = w.gained;
  only = λ s. by s (w.only s);
}
  where
    by : (s : ℕ) → (h s ≡ f s) ⊎ (h s ≡ g s) → (h s ≡ k s) ⊎ (h s ≡ g s)
    by s (inl q) = inl (q ∙ e s)
    by s (inr q) = inr q

-- bytes up to n have gained them, and those of one more piece do
pub added_there : (old mid new : ℕ → ℕ → ℕ) (whole : ℕ → ℕ) (from n end : ℕ) → ((x : ℕ) → from ≤ x → x < n → Greater (old x) whole (mid x))
    → ((x s : ℕ) → (from ≤ x → x < n → ⊥) → mid x s ≡ old x s) → ((x : ℕ) → n ≤ x → x < end → Greater (mid x) whole (new x))
    → ((x s : ℕ) → (n ≤ x → x < end → ⊥) → new x s ≡ mid x s) → (x : ℕ) → from ≤ x → x < end → Greater (old x) whole (new x)
added_there old mid new whole from n end there others here same x le lt = by (cases_lt x n)
  where
    by : (x < n) ⊎ (n ≤ x) → Greater (old x) whole (new x)
    by (inl p) = greater_to (old x) whole (mid x) (new x) (there x le p) (λ s. same x s (λ q r. omega (arith, p, q)))
    by (inr p) = greater_from (mid x) whole (new x) (old x) (here x p lt) (λ s. others x s (λ q r. omega (arith, p, r)))

pub added_others : (old mid new : ℕ → ℕ → ℕ) (from n end : ℕ) → from ≤ n → n ≤ end → ((x s : ℕ) → (from ≤ x → x < n → ⊥) → mid x s ≡ old x s)
    → ((x s : ℕ) → (n ≤ x → x < end → ⊥) → new x s ≡ mid x s) → (x s : ℕ) → (from ≤ x → x < end → ⊥) → new x s ≡ old x s
added_others old mid new from n end low high others same x s apart =
    same x s (λ le lt. apart (omega (arith, low, le)) lt) ∙ others x s (λ le lt. apart le (omega (arith, high, lt)))

-- ---- pieces

pub piece_up : (at end : ℕ) → IsPiece at end → at < end
piece_up at end (inl e) = omega (arith, e)
piece_up at end (inr p) = let e = p.0 in omega (arith, e)

-- the bytes of a piece are of one group, and of one word
pub piece_group : (at end x : ℕ) → IsPiece at end → at ≤ x → x < end → x / 4 ≡ at / 4
piece_group at end x (inl e) le lt = omega (arith, e, le, lt)
piece_group at end x (inr p) le lt = let e = p.0 in let m = p.1 in omega (arith, e, m, le, lt)

-- a group is whole in a piece of four
pub piece_whole : (at end x : ℕ) → IsPiece at end → end - at ≡ 4 → x / 4 ≡ at / 4 → (at ≤ x) × (x < end)
piece_whole at end x (inl e) four same = absurd (omega (arith, e, four))
piece_whole at end x (inr p) four same = let e = p.0 in let m = p.1 in (omega (arith, e, m, same), omega (arith, e, m, same))

pub piece_single : (at end x : ℕ) → IsPiece at end → (end - at ≡ 4 → ⊥) → at ≤ x → x < end → x ≡ at
piece_single at end x (inl e) other le lt = omega (arith, e, le, lt)
piece_single at end x (inr p) other le lt = let e = p.0 in absurd (other (omega (arith, e)))

pub piece_one : (at end : ℕ) → IsPiece at end → (end - at ≡ 4 → ⊥) → end ≡ at + 1
piece_one at end (inl e) other = e
piece_one at end (inr p) other = let e = p.0 in absurd (other (omega (arith, e)))

-- one of two gains them, so the greater of both does
pub greater_left : (f g h b : ℕ → ℕ) → Greater f g h → Greater (λ s. max (f s) (b s)) g (λ s. max (h s) (b s))
greater_left f g h b w = record {
  kept = λ s. let le = w.kept s in omega (arith, le);
  gained = λ s. let le = w.gained s in omega (arith, le);
  only = λ s. by s (w.only s) (cases_lt (h s) (b s));
}
  where
    by : (s : ℕ) → (h s ≡ f s) ⊎ (h s ≡ g s) → (h s < b s) ⊎ (b s ≤ h s) → (max (h s) (b s) ≡ max (f s) (b s)) ⊎ (max (h s) (b s) ≡ g s)
    by s (inl e) q = inl (ap (λ z. max z (b s)) e)
    by s (inr e) (inl lt) = let le = w.kept s in inl (omega (arith, le, lt))
    by s (inr e) (inr le) = inr (omega (arith, e, le))

pub greater_right : (f g h b : ℕ → ℕ) → Greater f g h → Greater (λ s. max (b s) (f s)) g (λ s. max (b s) (h s))
greater_right f g h b w = record {
  kept = λ s. let le = w.kept s in omega (arith, le);
  gained = λ s. let le = w.gained s in omega (arith, le);
  only = λ s. by s (w.only s) (cases_lt (h s) (b s));
}
  where
    by : (s : ℕ) → (h s ≡ f s) ⊎ (h s ≡ g s) → (h s < b s) ⊎ (b s ≤ h s) → (max (b s) (h s) ≡ max (b s) (f s)) ⊎ (max (b s) (h s) ≡ g s)
    by s (inl e) q = inl (ap (λ z. max (b s) z) e)
    by s (inr e) (inl lt) = let le = w.kept s in inl (omega (arith, le, lt))
    by s (inr e) (inr le) = inr (omega (arith, e, le))

-- a group is given them: the bytes of a piece that is one
pub group_there : (old new : Marks) (whole : ℕ → ℕ) (at end : ℕ) → IsPiece at end → Greater (cell old.groups (at / 4)) whole (cell new.groups (at / 4))
    → new.bytes ≡ old.bytes
    → (x : ℕ) → at ≤ x → x < end → Greater (mark old x) whole (mark new x)
group_there old new whole at end p g same x le lt =
    subst (λ b. Greater (mark old x) whole (λ s. max (cell new.groups (x / 4) s) (cell b x s))) (sym same)
    (subst (λ k. Greater (λ s. max (cell old.groups k s) (cell old.bytes x s)) whole (λ s. max (cell new.groups k s) (cell old.bytes x s)))
    (sym (piece_group at end x p le lt))
    (greater_left (cell old.groups (at / 4)) whole (cell new.groups (at / 4)) (cell old.bytes x) g))

pub group_others : (old new : Marks) (at end : ℕ) → IsPiece at end → end - at ≡ 4 → ((k s : ℕ) → (k ≡ at / 4 → ⊥) → cell new.groups k s ≡ cell old.groups k s)
    → new.bytes ≡ old.bytes → (x s : ℕ) → (at ≤ x → x < end → ⊥) → mark new x s ≡ mark old x s
group_others old new at end p four others same x s apart =
    ap (λ b. max (cell new.groups (x / 4) s) (cell b x s)) same
    ∙ ap (λ z. max z (cell old.bytes x s)) (others (x / 4) s (λ e. let r = piece_whole at end x p four e in apart r.0 r.1))

-- a byte is given them
pub byte_there : (old new : Marks) (whole : ℕ → ℕ) (at end : ℕ) → IsPiece at end → (end - at ≡ 4 → ⊥) → Greater (cell old.bytes at) whole (cell new.bytes at)
    → new.groups ≡ old.groups → (x : ℕ) → at ≤ x → x < end → Greater (mark old x) whole (mark new x)
byte_there old new whole at end p other g same x le lt =
    subst (λ z. Greater (mark old z) whole (mark new z)) (sym (piece_single at end x p other le lt))
    (subst (λ k. Greater (mark old at) whole (λ s. max (cell k (at / 4) s) (cell new.bytes at s))) (sym same)
    (greater_right (cell old.bytes at) whole (cell new.bytes at) (cell old.groups (at / 4)) g))

pub byte_others : (old new : Marks) (at end : ℕ) → IsPiece at end → (end - at ≡ 4 → ⊥) → ((k s : ℕ) → (k ≡ at → ⊥) → cell new.bytes k s ≡ cell old.bytes k s)
    → new.groups ≡ old.groups → (x s : ℕ) → (at ≤ x → x < end → ⊥) → mark new x s ≡ mark old x s
byte_others old new at end p other others same x s apart =
    ap (λ k. max (cell k (x / 4) s) (cell new.bytes x s)) same
    ∙ ap (λ z. max (cell old.groups (x / 4) s) z)
    (others x s (λ e. let one = piece_one at end p other in apart (omega (arith, e)) (omega (arith, e, one))))

-- ---- rows that gain those of bytes

pub gathers_none : (marks : ℕ → ℕ → ℕ) (from : ℕ) (row : ℕ → ℕ) → GathersFrom marks from from row row
gathers_none marks from row = record { kept = λ s. omega arith; gained = λ x s le lt. absurd (omega (arith, le, lt)); only = λ s. inl refl }

pub gathers_both : (marks : ℕ → ℕ → ℕ) (from n end : ℕ) (old mid new : ℕ → ℕ) → from ≤ n → n ≤ end → GathersFrom marks from n old mid
    → GathersFrom marks n end mid new
    → GathersFrom marks from end old new
gathers_both marks from n end old mid new low high g h = record {
  kept = λ s. let a = g.kept s in let b = h.kept s in omega (arith, a, b);
  gained = λ x s le lt. gained x s le lt (cases_lt x n);
  only = λ s. last s (h.only s);
}
  where
    gained : (x s : ℕ) → from ≤ x → x < end → (x < n) ⊎ (n ≤ x) → marks x s ≤ new s
    gained x s le lt (inl p) = let a = g.gained x s le p in let b = h.kept s in omega (arith, a, b)
    gained x s le lt (inr p) = h.gained x s p lt

    first : (s : ℕ) → new s ≡ mid s → (mid s ≡ old s) ⊎ ((x : ℕ) × (from ≤ x) × (x < n) × (mid s ≡ marks x s))
        → (new s ≡ old s) ⊎ ((x : ℕ) × (from ≤ x) × (x < end) × (new s ≡ marks x s))
    first s e (inl q) = inl (e ∙ q)
    first s e (inr (x, le, lt, q)) = inr (x, le, omega (arith, lt, high), e ∙ q)

    last : (s : ℕ) → (new s ≡ mid s) ⊎ ((x : ℕ) × (n ≤ x) × (x < end) × (new s ≡ marks x s))
        → (new s ≡ old s) ⊎ ((x : ℕ) × (from ≤ x) × (x < end) × (new s ≡ marks x s))
    last s (inl e) = first s e (g.only s)
    last s (inr (x, le, lt, q)) = inr (x, omega (arith, low, le), lt, q)

-- the row of the group first, and then those of its bytes
pub gathers_piece : (m : Marks) (at end : ℕ) (old mid new : ℕ → ℕ) → IsPiece at end → Greater old (cell m.groups (at / 4)) mid
    → GathersFrom (cell m.bytes) at end mid new
    → GathersFrom (mark m) at end old new
gathers_piece m at end old mid new p g h = record {
  kept = λ s. let a = g.kept s in let b = h.kept s in omega (arith, a, b);
  gained = gained;
  only = λ s. only s (h.only s);
}
  where
    group : (x s : ℕ) → at ≤ x → x < end → cell m.groups (x / 4) s ≡ cell m.groups (at / 4) s
    group x s le lt = ap (λ k. cell m.groups k s) (piece_group at end x p le lt)

    gained : (x s : ℕ) → at ≤ x → x < end → mark m x s ≤ new s
    gained x s le lt =
        let a = g.gained s in
        let b = h.kept s in
        let c = h.gained x s le lt in
        let e = group x s le lt in
        omega (arith, a, b, c, e)

    of_group : (s : ℕ) → new s ≡ mid s → (mid s ≡ old s) ⊎ (mid s ≡ cell m.groups (at / 4) s) → (new s ≡ old s)
        ⊎ ((x : ℕ) × (at ≤ x) × (x < end) × (new s ≡ mark m x s))
    of_group s e (inl q) = inl (e ∙ q)
    of_group s e (inr q) =
        let up = piece_up at end p in
        let c = h.gained at s (omega arith) up in
        inr (at, omega arith, up, omega (arith, e, q, c))

    only : (s : ℕ) → (new s ≡ mid s) ⊎ ((x : ℕ) × (at ≤ x) × (x < end) × (new s ≡ cell m.bytes x s)) → (new s ≡ old s)
        ⊎ ((x : ℕ) × (at ≤ x) × (x < end) × (new s ≡ mark m x s))
    only s (inl e) = of_group s e (g.only s)
    only s (inr (x, le, lt, q)) =
        let a = g.gained s in
        let b = h.kept s in
        let e = group x s le lt in
        inr (x, le, lt, omega (arith, a, b, e, q))

-- ---- marks that a row does not count

pub late_left : (f b : ℕ → ℕ) (row : List ℕ) (u : ℕ) → Late f row u → Late (λ s. max (f s) (b s)) row u
late_left f b row u l = record { thread = l.thread; other = l.other; late = let lt = l.late in omega (arith, lt) }

pub late_right : (f b : ℕ → ℕ) (row : List ℕ) (u : ℕ) → Late b row u → Late (λ s. max (f s) (b s)) row u
late_right f b row u l = record { thread = l.thread; other = l.other; late = let lt = l.late in omega (arith, lt) }

pub late_either : (f b : ℕ → ℕ) (row : List ℕ) (u : ℕ) → Late (λ s. max (f s) (b s)) row u → Late f row u ⊎ Late b row u
late_either f b row u l = by (cases_lt (f l.thread) (b l.thread))
  where
    by : (f l.thread < b l.thread) ⊎ (b l.thread ≤ f l.thread) → Late f row u ⊎ Late b row u
    by (inl lt) = inr (record { thread = l.thread; other = l.other; late = let up = l.late in omega (arith, lt, up) })
    by (inr le) = inl (record { thread = l.thread; other = l.other; late = let up = l.late in omega (arith, le, up) })
