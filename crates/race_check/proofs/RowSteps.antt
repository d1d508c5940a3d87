-- Rows that count some items and what is ordered before them.
use Rattle.std.proofs.Common.{ℕ, ◌≡◌, ◌<◌, ◌≤◌, ◌+◌, ◌⊎◌, inl, inr, refl, sym, ◌∙◌, subst, List, Some, arith}
use Rattle.std.specs.Prelude.{slice_get, slice_index}
use Rattle.std.proofs.lemmas.Option.{same_Some}
use Rattle.tx_events.specs.declared.Item.{Item}
use Rattle.race_check.specs.Races.{Leads, same_thread, starts, joins, blocks, Ordered, at_once, and_then}
use Rattle.race_check.specs.Regular.{Regular}
use Rattle.race_check.specs.Rows.{counts, Right, Upto, Down, Greater}
use Rattle.race_check.proofs.Numbers.{below_or_at}
use Rattle.race_check.proofs.ItemSteps.{does}

-- the steps go forward in a regular trace

pub forward : (items : List Item) → Regular items → (i j : ℕ) → Leads items i j → i < j
forward items r i j (same_thread t x y lt d e) = lt
forward items r i j (starts t child y d e) = r.starts i j t child y d e
forward items r i j (joins t child x lt d e) = lt
forward items r i j (blocks t u lt d e m) = lt

pub chain_forward : (items : List Item) → Regular items → (i j : ℕ) → Ordered items i j → i < j
chain_forward items r i j (at_once s) = forward items r i j s
chain_forward items r i k (and_then {j} o s) = let p = chain_forward items r i j o in let q = forward items r j k s in omega (arith, p, q)

pub chains_join : (items : List Item) (i j k : ℕ) → Ordered items i j → Ordered items j k → Ordered items i k
chains_join items i j k o (at_once s) = and_then o s
chains_join items i j k o (and_then {j = m} p s) = and_then (chains_join items i j m o p) s

pub upto_join : (items : List Item) (k p q : ℕ) → Upto items k p → Upto items p q → Upto items k q
upto_join items k p q (inl e) v = subst (λ z. Upto items z q) (sym e) v
upto_join items k p q (inr o) (inl e) = inr (subst (λ z. Ordered items k z) e o)
upto_join items k p q (inr o) (inr u) = inr (chains_join items k p q o u)

-- ---- rows that count sets of items

pub nothing_down : (items : List Item) (f : ℕ → ℕ) (P : ℕ → Type 0) → ((s : ℕ) → f s ≡ 0) → ((p : ℕ) → P p → ⊥) → Down items f P
nothing_down items f P zero none = record {
  sound = λ k a g h. absurd (let e = zero a.t in omega (arith, h, e));
  whole = λ k p a g h u. absurd (none p h);
}

pub joined_down : (items : List Item) (f g h : ℕ → ℕ) (P Q : ℕ → Type 0) → Down items f P → Down items g Q → Greater f g h → Down items h (λ p. P p ⊎ Q p)
joined_down items f g h P Q x y w = record { sound = λ k a e lt. sound k a e lt (w.only a.t); whole = λ k p a e r u. whole k p a e u r }
  where
    sound : (k : ℕ) (a : Item) → slice_get items k ≡ Some a → k < h a.t → (h a.t ≡ f a.t) ⊎ (h a.t ≡ g a.t) → (p : ℕ) × (P p ⊎ Q p) × Upto items k p
    sound k a e lt (inl s) = let r = x.sound k a e (omega (arith, lt, s)) in (r.0, inl r.1, r.2)
    sound k a e lt (inr s) = let r = y.sound k a e (omega (arith, lt, s)) in (r.0, inr r.1, r.2)

    whole : (k p : ℕ) (a : Item) → slice_get items k ≡ Some a → Upto items k p → P p ⊎ Q p → k < h a.t
    whole k p a e u (inl r) = let c = x.whole k p a e r u in let le = w.kept a.t in omega (arith, c, le)
    whole k p a e u (inr r) = let c = y.whole k p a e r u in let le = w.gained a.t in omega (arith, c, le)

-- the same counters, for a set with the same items or later ones behind which they are ordered
pub same_down : (items : List Item) (f g : ℕ → ℕ) (P Q : ℕ → Type 0) → Down items f P → ((s : ℕ) → g s ≡ f s)
    → ((p : ℕ) → P p → (q : ℕ) × Q q × Upto items p q) → ((p : ℕ) → Q p → (q : ℕ) × P q × Upto items p q) → Down items g Q
same_down items f g P Q h e to from = record {
  sound = λ k a i lt. let same = e a.t in onward k (h.sound k a i (omega (arith, lt, same)));
  whole = λ k p a i q u.
      let r = from p q in
      let same = e a.t in
      let lt = h.whole k r.0 a i r.1 (upto_join items k p r.0 u r.2) in
      omega (arith, lt, same);
}
  where
    onward : (k : ℕ) → ((p : ℕ) × P p × Upto items k p) → (q : ℕ) × Q q × Upto items k q
    onward k (p, h, u) = let r = to p h in (r.0, r.1, upto_join items k p r.0 u r.2)

-- the same counters, for the same set
pub like_down : (items : List Item) (f g : ℕ → ℕ) (P Q : ℕ → Type 0) → Down items f P → ((s : ℕ) → g s ≡ f s) → ((p : ℕ) → P p → Q p) → ((p : ℕ) → Q p → P p)
    → Down items g Q
like_down items f g P Q h e to from = same_down items f g P Q h e (λ p r. (p, to p r, inl refl)) (λ p r. (p, from p r, inl refl))

-- a row that counts what leads to item j is the row of j
pub right_of : (items : List Item) (row : List ℕ) (j : ℕ) (P : ℕ → Type 0) → Down items (slice_index row) P → ((p : ℕ) → P p → Ordered items p j)
    → ((p : ℕ) → Leads items p j → (q : ℕ) × P q × Upto items p q) → Right items row j
right_of items row j P h before onto = record { sound = λ k a f c. sound k (h.sound k a f c); whole = λ k a f o. whole k a f o }
  where
    sound : (k : ℕ) → ((p : ℕ) × P p × Upto items k p) → Ordered items k j
    sound k (p, r, inl e) = subst (λ z. Ordered items z j) (sym e) (before p r)
    sound k (p, r, inr o) = chains_join items k p j o (before p r)

    whole : (k : ℕ) (a : Item) → slice_get items k ≡ Some a → Ordered items k j → counts row a.t k
    whole k a f (at_once s) = let r = onto k s in h.whole k r.0 a f r.1 r.2
    whole k a f (and_then {j = m} o s) = let r = onto m s in h.whole k r.0 a f r.1 (upto_join items k m r.0 (inr o) r.2)

-- the row of item j, and the item itself
pub with_item_down : (items : List Item) (row new : List ℕ) (j : ℕ) (item : Item) → slice_get items j ≡ Some item → Right items row j
    → ((s : ℕ) → slice_index row s ≤ slice_index new s) → j < slice_index new item.t
    → ((s : ℕ) → (slice_index new s ≡ slice_index row s) ⊎ ((s ≡ item.t) × (slice_index new s ≡ j + 1))) → Down items (slice_index new) (λ p. p ≡ j)
with_item_down items row new j item f right kept here only = record {
  sound = λ k a g lt. sound k a g lt (only a.t);
  whole = λ k p a g e u. whole k a g (subst (λ z. Upto items k z) e u);
}
  where
    up_to : (k : ℕ) (a : Item) → slice_get items k ≡ Some a → a.t ≡ item.t → (k < j) ⊎ (k ≡ j) → Upto items k j
    up_to k a g e (inl lt) = inr (at_once (same_thread item.t a.what item.what lt (does items k a item.t a.what g e refl) f))
    up_to k a g e (inr s) = inl s

    sound : (k : ℕ) (a : Item) → slice_get items k ≡ Some a → k < slice_index new a.t
        → (slice_index new a.t ≡ slice_index row a.t) ⊎ ((a.t ≡ item.t) × (slice_index new a.t ≡ j + 1)) → (p : ℕ) × (p ≡ j) × Upto items k p
    sound k a g lt (inl s) = (j, refl, inr (right.sound k a g (omega (arith, lt, s))))
    sound k a g lt (inr s) = let q = s.1 in (j, refl, up_to k a g s.0 (below_or_at k j (omega (arith, lt, q))))

    whole : (k : ℕ) (a : Item) → slice_get items k ≡ Some a → Upto items k j → k < slice_index new a.t
    whole k a g (inr o) = let c = right.whole k a g o in let le = kept a.t in omega (arith, c, le)
    whole k a g (inl e) =
        let same : item ≡ a = same_Some item a (sym f ∙ subst (λ z. slice_get items z ≡ Some a) e g) in
        subst (λ z. z < slice_index new a.t) (sym e) (subst (λ (z : Item). j < slice_index new z.t) same here)
