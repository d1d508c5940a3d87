-- An order has one trace.
use Rattle.std.proofs.Common.{ℕ, ◌≡◌, true, false, refl, ap, sym, ◌∙◌, subst, List, [], ◌∷◌, ◌++◌, append_assoc, append-nil}
use Rattle.std.proofs.lemmas.Bool.{false≢true}
use Rattle.tx_events.specs.declared.Event.{Event}
use Rattle.tx_events.specs.declared.Event.TheVariants.{
  Silent,
  Load,
  Store,
  Out,
  Inp,
  Spawn,
  Join,
  BeginAtomic,
  EndAtomic,
  Raise,
  BeginSync,
  EndSync,
  Done,
  Stop,
}
use Rattle.tx_events.specs.declared.Item.{Item}
use Rattle.tx_events.specs.declared.Reply.TheVariants.{Nothing}
use Rattle.tx_events.specs.declared.What.TheVariants.{Enter}
use Rattle.tx_events.specs.Thread.{Thread, is_empty}
use Rattle.tx_events.specs.Memory.{MemoryLayout}
use Rattle.tx_events.specs.Alone.{Inner, inner_by, Inside, at_start, goes_on, is_over, Alone, outcome}
use Rattle.tx_events.specs.World.{World, Alive, alive, Step, Replays, EventStep, SilentSteps}
use Rattle.tx_events.proofs.OneReplay.{From, at, then, inner_or, same_before, same_outcome, same_step, loud}
use Rattle.tx_serial.specs.Trace.{access_items, inside_items, leave_items, item_if, step_items, items_of, TraceOf, OneStepMore}

module _ {S : Type 0} (a : Thread S) (p : MemoryLayout) (t : ℕ) where
  -- the accesses of a run, from its front
  abbrev from_items : {i j : Inner S} → From a p i j → List Item
  from_items at = []
  from_items {i} (then e f) = access_items p t (a.next i.state) ++ from_items f

  front : {i j k : Inner S} (h : Inside a p i j) (f : From a p j k) → (g : From a p i k) × (from_items g ≡ (inside_items t h ++ from_items f))
  front at_start f = (f, refl)
  front (goes_on {j = q} h e) f =
      let r = front h (then e f) in (r.0, r.1 ∙ sym (append_assoc (inside_items t h) (access_items p t (a.next q.state)) (from_items f)))

  -- from one state there is one way to the end of the block
  same_from : {i i' j k : Inner S} (f : From a p i j) (g : From a p i' k) → i ≡ i' → is_over (inner_by a p j (a.next j.state)) ≡ true
      → is_over (inner_by a p k (a.next k.state)) ≡ true → from_items f ≡ from_items g
  same_from at at e x y = refl
  same_from at (then {i = i'} e' g) e x y = absurd (false≢true (sym (ap is_over e') ∙ (ap (λ z. is_over (inner_by a p z (a.next z.state))) (sym e) ∙ x)))
  same_from (then e' f) at e x y = absurd (false≢true (sym (ap is_over e') ∙ (ap (λ z. is_over (inner_by a p z (a.next z.state))) e ∙ y)))
  same_from {i} {i'} (then {k = c} e' f) (then {k = d} e'' g) e x y =
      let next : c ≡ d = ap (inner_or a p i) (sym e' ∙ (ap (λ z. inner_by a p z (a.next z.state)) e ∙ e'')) in
      ap (λ z. access_items p t (a.next z.state) ++ from_items f) e ∙ ap (λ zs. access_items p t (a.next i'.state) ++ zs) (same_from f g next x y)

  -- a block has one list of accesses
  same_block : (s : S) (m : ℕ → ℕ) (run other : Alone a p s m) → inside_items t run.run ≡ inside_items t other.run
  same_block s m run other =
      let f = front run.run at in
      let g = front other.run at in
      sym (append-nil (inside_items t run.run)) ∙ (sym f.1 ∙ (same_from f.0 g.0 refl run.over other.over ∙ (g.1 ∙ append-nil (inside_items t other.run))))

  module _ (w v u : World S) where
    same_at : (s : S) (e : Event) (d : EventStep a p t w s e v) (c : EventStep a p t w s e u) → step_items a p t w s e v d ≡ step_items a p t w s e u c
    same_at s (BeginAtomic kind) d c =
        ap (λ zs. item_if (is_empty (a.blocks s)) t Enter ++ (zs ++ leave_items (is_empty (a.blocks s)) t (outcome d.1)))
        (same_block (a.after s Nothing) w.memory d.1 c.1)
        ∙ ap (λ z. item_if (is_empty (a.blocks s)) t Enter ++ (inside_items t c.1.run ++ leave_items (is_empty (a.blocks s)) t z))
        (same_outcome a p (a.after s Nothing) w.memory d.1 c.1)
    same_at s (Load addr size vol) d c = refl
    same_at s (Store addr size value vol) d c = refl
    same_at s (Spawn f x) d c = refl
    same_at s (Join id) d c = refl
    same_at s BeginSync d c = refl
    same_at s EndSync d c = refl
    same_at s Silent d c = refl
    same_at s EndAtomic d c = refl
    same_at s (Raise kind can) d c = refl
    same_at s (Out b) d c = refl
    same_at s Inp d c = refl
    same_at s Done d c = refl
    same_at s (Stop e) d c = refl

    same_items : (h : Step a p t w v) (g : Step a p t w u) → step_items a p t w h.before (a.next h.before) v h.does
        ≡ step_items a p t w g.before (a.next g.before) u g.does
    same_items h g =
        let from : h.from ≡ g.from = one_state h.from g.from (sym h.is ∙ g.is) in
        let before = same_before a p g.from h.before g.before (subst (λ z. SilentSteps a z h.before) from h.silents) g.silents
        (loud a p t w v h.before (a.next h.before) h.does) (loud a p t w u g.before (a.next g.before) g.does) in
        subst (λ z. (d : EventStep a p t w z (a.next z) v) → step_items a p t w z (a.next z) v d ≡ step_items a p t w g.before (a.next g.before) u g.does)
        (sym before) (λ d. same_at g.before (a.next g.before) d g.does) h.does
      where
        one_state : (s r : S) → alive s ≡ alive r → s ≡ r
        one_state s r e = let i : ◌≡◌ {A = Alive S} (record { state = s; ended = false }) (record { state = r; ended = false }) = cc in ap (λ z. z.state) i

module _ {S : Type 0} (a : Thread S) (p : MemoryLayout) where
  same_trace : (order : List ℕ) (w v u : World S) (h : Replays a p w order v) (g : Replays a p w order u) → items_of a p w order v h ≡ items_of a p w order u g
  same_trace [] w v u h g = refl
  same_trace (t ∷ order) w v u h g =
      ap (λ zs. zs ++ items_of a p h.0 order v h.2) (same_items a p t w h.0 g.0 h.1 g.1)
      ∙ ap (λ zs. step_items a p t w g.1.before (a.next g.1.before) g.0 g.1.does ++ zs)
      (subst (λ z. (r : Replays a p z order v) → items_of a p z order v r ≡ items_of a p g.0 order u g.2) (sym (same_step a p t w h.0 g.0 h.1 g.1))
      (λ r. same_trace order g.0 v u r g.2) h.2)

  pub one_trace : (start : World S) (order : List ℕ) (items other : List Item) → TraceOf a p start order items → TraceOf a p start order other → other ≡ items
  one_trace start order items other h g = g.is ∙ (same_trace order start g.world h.world g.replays h.replays ∙ sym h.is)

  -- the last step of a replay, and its items behind those of the steps before it
  pub split : (t : ℕ) (order : List ℕ) (w v : World S) (h : Replays a p w (order ++ t ∷ []) v)
      → (u : World S) × (r : Replays a p w order u) × (s : Step a p t u v)
      × (items_of a p w (order ++ t ∷ []) v h ≡ (items_of a p w order u r ++ step_items a p t u s.before (a.next s.before) v s.does))
  split t [] w v h = subst
      (λ z. (u : World S) × (r : Replays a p w [] u) × (s : Step a p t u z) ×
      ((step_items a p t w h.1.before (a.next h.1.before) h.0 h.1.does ++ []) ≡
      (items_of a p w [] u r ++ step_items a p t u s.before (a.next s.before) z s.does)))
      (sym h.2) (w, refl, h.1, append-nil (step_items a p t w h.1.before (a.next h.1.before) h.0 h.1.does))
  split t (q ∷ order) w v h =
      let rest = split t order h.0 v h.2 in
      let first = step_items a p q w h.1.before (a.next h.1.before) h.0 h.1.does in (
        rest.0,
        (h.0, h.1, rest.1),
        rest.2,
        ap (λ zs. first ++ zs) rest.3
            ∙ sym (append_assoc first (items_of a p h.0 order rest.0 rest.1) (step_items a p t rest.0 rest.2.before (a.next rest.2.before) v rest.2.does)),
      )

  pub trace_grows : (start : World S) (order : List ℕ) (t : ℕ) (items more : List Item) → TraceOf a p start order items
      → TraceOf a p start (order ++ t ∷ []) more → OneStepMore a p start order t items more
  trace_grows start order t items more h g =
      let last = split t order start g.world g.replays in
      let same = one_trace start order (items_of a p start order last.0 last.1) items (record { world = last.0; replays = last.1; is = refl }) h in
      record {
        before = last.0;
        after = g.world;
        replayed = last.1;
        step = last.2;
        replays = g.replays;
        is = g.is ∙ (last.3 ∙ ap (λ zs. zs ++ step_items a p t last.0 last.2.before (a.next last.2.before) g.world last.2.does) (sym same));
      }
