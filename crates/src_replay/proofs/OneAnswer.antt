-- An order has one answer.
use Rattle.std.proofs.Common.{ℕ, zero, suc, ◌≡◌, ◌<◌, ◌≤◌, ◌+◌, Some, List, [], ◌∷◌, take, refl, ap, ◌∙◌, subst, arith}
use Rattle.std.specs.Prelude.{slice_get}
use Rattle.std.proofs.lemmas.Option.{same_Some}
use Rattle.tx_events.specs.Memory.{MemoryLayout}
use Rattle.tx_events.specs.Thread.{Thread}
use Rattle.tx_events.specs.World.{World, Step, Replays}
use Rattle.tx_events.proofs.OneReplay.{same_step, same_replays}
use Rattle.src_mean.specs.Cost.{step_cost, cost}
use Rattle.src_replay.specs.declared.replaying.Replayed.{Replayed}
use Rattle.src_replay.specs.Orders.{IsReplay, IsNotARun, IsSpent, IsOnly}
use Rattle.src_replay.proofs.OneEntry.{one_step_cost}

module _ {S : Type 0} (a : Thread S) (p : MemoryLayout) where
  -- a replay that costs so much, and a step
  record Costs (w : World S) (order : List ℕ) (v : World S) (n : ℕ) : Type 0 where
    pub replays : Replays a p w order v
    pub is : cost a p w order v replays ≡ n

  record Steps (t : ℕ) (w v : World S) (n : ℕ) : Type 0 where
    pub step : Step a p t w v
    pub is : step_cost a p t w v step ≡ n

  -- two replays of one order cost the same
  pub one_cost : (order : List ℕ) (w v u : World S) (h : Replays a p w order v) (k : Replays a p w order u) → cost a p w order v h ≡ cost a p w order u k
  one_cost [] w v u h k = refl
  one_cost (t ∷ ts) w v u h k =
      let first = one_step_cost a p t w h.0 k.0 h.1 k.1 in
      let n = cost a p h.0 ts v h.2 in
      let rest : Costs h.0 ts v n = record { replays = h.2; is = refl } in
      let there : Costs k.0 ts v n = subst (λ (z : World S). Costs z ts v n) (same_step a p t w h.0 k.0 h.1 k.1) rest in
      let others = one_cost ts k.0 v u there.replays k.2 in
      omega (arith, first, there.is, others)

  -- an order up to one of its entries, and that entry
  record Parted (w : World S) (order : List ℕ) (index t n : ℕ) : Type 0 where
    pub world : World S
    pub replays : Replays a p w (take index order) world
    pub next : World S
    pub step : Step a p t world next
    pub part : cost a p w (take index order) world replays + step_cost a p t world next step ≤ n

  part_first : (x t : ℕ) (xs : List ℕ) (w v : World S) (h : Replays a p w (x ∷ xs) v) → x ≡ t → Parted w (x ∷ xs) 0 t (cost a p w (x ∷ xs) v h)
  part_first x t xs w v h e =
      let n = step_cost a p x w h.0 h.1 in
      let own : Steps x w h.0 n = record { step = h.1; is = refl } in
      let there : Steps t w h.0 n = subst (λ (z : ℕ). Steps z w h.0 n) e own in
      record { world = w; replays = refl; next = h.0; step = there.step; part = omega (arith, there.is) }

  part_at : (order : List ℕ) (index t : ℕ) (w v : World S) (h : Replays a p w order v) → slice_get order index ≡ Some t
      → Parted w order index t (cost a p w order v h)
  part_at [] index t w v h e = absurd cc
  part_at (x ∷ xs) zero t w v h e = part_first x t xs w v h (same_Some x t e)
  part_at (x ∷ xs) (suc i) t w v h e =
      let r = part_at xs i t h.0 v h.2 e in
      record { world = r.world; replays = (h.0, h.1, r.replays); next = r.next; step = r.step; part = omega (arith, r.part) }

  -- the entry, in the world that the entries before it lead to
  entry_there : (first : World S) (order : List ℕ) (index t : ℕ) (w v : World S) (h : Replays a p first (take index order) w) (k : Replays a p first order v)
      → slice_get order index ≡ Some t
      → (u : World S) × (n : ℕ) × Steps t w u n × (cost a p first (take index order) w h + n ≤ cost a p first order v k)
  entry_there first order index t w v h k e =
      let r = part_at order index t first v k e in
      let n = step_cost a p t r.world r.next r.step in
      let own : Steps t r.world r.next n = record { step = r.step; is = refl } in
      let one = one_cost (take index order) first w r.world h r.replays in
      (r.next, n, subst (λ (z : World S). Steps t z r.next n) (same_replays a p (take index order) first r.world w r.replays h) own, omega (arith, one, r.part))

  pub only_replay : (first : World S) (order : List ℕ) (most : ℕ) (r : Replayed) (v : World S) → IsReplay a p first order most r
      → (k : Replays a p first order v) → IsOnly a p first order r v k
  only_replay first order most r v h k =
      let same = same_replays a p order first h.world v h.replays k in
      let one = one_cost order first h.world v h.replays k in
      record {
        out_is = h.out_is ∙ ap (λ (z : World S). z.out) same;
        end_is = h.end_is ∙ ap (λ (z : World S). z.end) same;
        started_is = h.started_is ∙ ap (λ (z : World S). z.started) same;
        cost_is =
            omega (arith, h.cost_is, one);
      }

  pub no_replay : (first : World S) (order : List ℕ) (most index : ℕ) (v : World S) → IsNotARun a p first order most index → Replays a p first order v → ⊥
  no_replay first order most index v h k =
      let b = h.begun in
      let there = entry_there first order index b.thread b.world v b.replays k b.entry in
      h.no_step there.0 (there.2).step

  pub more_cost : (first : World S) (order : List ℕ) (most index : ℕ) (v : World S) → IsSpent a p first order most index → (k : Replays a p first order v)
      → most < cost a p first order v k
  more_cost first order most index v h k =
      let b = h.begun in
      let there = entry_there first order index b.thread b.world v b.replays k b.entry in
      let more = h.costs_more there.0 (there.2).step in
      omega (arith, more, (there.2).is, there.3, b.paid)
