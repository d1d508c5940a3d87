-- Two replays of one order agree.
use Rattle.std.proofs.Common.{ℕ, ◌≡◌, true, false, refl, ap, sym, ◌∙◌, subst, List, [], ◌∷◌, Option, Some, None}
use Rattle.std.proofs.lemmas.Bool.{true≢false, false≢true}
use Rattle.tx_events.specs.declared.End.{End}
use Rattle.tx_events.specs.declared.Event.{Event}
use Rattle.tx_events.specs.declared.Event.TheVariants.{Silent, Load, Store, Out, Inp, Spawn, Join, BeginAtomic, EndAtomic, Raise, BeginSync, EndSync, Done}
use Rattle.tx_events.specs.declared.Event.TheVariants.{Stop}
use Rattle.tx_events.specs.declared.Reply.TheVariants.{Nothing}
use Rattle.tx_events.specs.Thread.{Thread, is_silent}
use Rattle.tx_events.specs.Memory.{MemoryLayout}
use Rattle.tx_events.specs.Alone.{Inner, inner_by, BlockStep, Goes, Leaves, Halts, Never, Inside, at_start, goes_on, is_over, Alone, outcome}
use Rattle.tx_events.specs.World.{Alive, alive, World, Step, Replays, EventStep, BlockEffect, Joins, target, SilentSteps, none}
use Rattle.tx_events.specs.Same.{Reaches, at_once, silently, answered}
use Rattle.tx_events.proofs.ReachingLemmas.{silents_reach, after_silents}

module _ {S : Type 0} (a : Thread S) (p : MemoryLayout) where
  stays_put : {q u : S} {rs : List _} → is_silent (a.next q) ≡ false → Reaches a q rs u → rs ≡ [] → q ≡ u
  stays_put i at_once e = refl
  stays_put i (silently j h) e = absurd (true≢false (sym (ap is_silent j) ∙ i))
  stays_put i (answered j k h) e = absurd (cc)

  pub same_before : (s q u : S) → SilentSteps a s q → SilentSteps a s u → is_silent (a.next q) ≡ false → is_silent (a.next u) ≡ false → q ≡ u
  same_before s q u f g i j = stays_put i (after_silents a (silents_reach a f) refl i (silents_reach a g) j) refl

  -- the run of a block, from its front
  pub data From : Inner S → Inner S → Type 0 where
    at : {i : Inner S} → From i i
    then : {i j k : Inner S} → inner_by a p i (a.next i.state) ≡ Goes k → From k j → From i j

  pub inside_from : {i j k : Inner S} → Inside a p i j → From j k → From i k
  inside_from at_start f = f
  inside_from (goes_on h e) f = inside_from h (then e f)

  abbrev pub inner_or : Inner S → BlockStep S → Inner S
  inner_or i (Goes j) = j
  inner_or i (Leaves s m) = i
  inner_or i (Halts e) = i
  inner_or i Never = i

  pub same_last : {i j k : Inner S} → From i j → From i k → is_over (inner_by a p j (a.next j.state)) ≡ true → is_over (inner_by a p k (a.next k.state)) ≡ true
      → j ≡ k
  same_last at at g h = refl
  same_last at (then e f) g h = absurd (false≢true (sym (ap is_over e) ∙ g))
  same_last (then e f) at g h = absurd (false≢true (sym (ap is_over e) ∙ h))
  same_last {i} {j} {k} (then {k = x} e f) (then {k = y} e' f') g h = same_last f (subst (λ z. From z k) (sym (ap (inner_or i) (sym e ∙ e'))) f') g h

  same_landing : (t : ℕ) (w v u : World S) (y : BlockStep S) → BlockEffect t w y v → BlockEffect t w y u → v ≡ u
  same_landing t w v u (Goes i) h g = absurd h
  same_landing t w v u (Leaves s m) h g = h ∙ sym g
  same_landing t w v u (Halts e) h g = h ∙ sym g
  same_landing t w v u Never h g = absurd h

  same_join : (t : ℕ) (w v u : World S) (s : S) (o : Option (Alive S)) → Joins t w s o v → Joins t w s o u → v ≡ u
  same_join t w v u s None h g = h ∙ sym g
  same_join t w v u s (Some x) h g = h.1 ∙ sym g.1

  same_does : (t : ℕ) (w v u : World S) (r : S) (e : Event) → EventStep a p t w r e v → EventStep a p t w r e u → v ≡ u
  same_does t w v u r Silent h g = absurd h
  same_does t w v u r EndAtomic h g = absurd h
  same_does t w v u r (Raise kind can) h g = absurd h
  same_does t w v u r (Load addr size vol) h g = h ∙ sym g
  same_does t w v u r (Store addr size value vol) h g = h ∙ sym g
  same_does t w v u r (Out c) h g = h ∙ sym g
  same_does t w v u r Inp h g = h ∙ sym g
  same_does t w v u r (Spawn f x) h g = h ∙ sym g
  same_does t w v u r (Join id) h g = same_join t w v u (a.after r Nothing) (target t id w.threads) h g
  same_does t w v u r BeginSync h g = h.1 ∙ sym g.1
  same_does t w v u r EndSync h g = h ∙ sym g
  same_does t w v u r Done h g = h ∙ sym g
  same_does t w v u r (Stop e) h g = h ∙ sym g
  same_does t w v u r (BeginAtomic kind) h g =
      let i = same_last (inside_from h.1.run at) (inside_from g.1.run at) h.1.over g.1.over in
      same_landing t w v u (outcome g.1) (subst (λ z. BlockEffect t w (inner_by a p z (a.next z.state)) v) i h.2) g.2

  pub loud : (t : ℕ) (w v : World S) (r : S) (e : Event) → EventStep a p t w r e v → is_silent e ≡ false
  loud t w v r Silent d = absurd d
  loud t w v r EndAtomic d = refl
  loud t w v r (Raise kind can) d = refl
  loud t w v r (BeginAtomic kind) d = refl
  loud t w v r (Load addr size vol) d = refl
  loud t w v r (Store addr size value vol) d = refl
  loud t w v r (Out c) d = refl
  loud t w v r Inp d = refl
  loud t w v r (Spawn g x) d = refl
  loud t w v r (Join id) d = refl
  loud t w v r BeginSync d = refl
  loud t w v r EndSync d = refl
  loud t w v r Done d = refl
  loud t w v r (Stop e) d = refl

  one_state : (s r : S) → alive s ≡ alive r → s ≡ r
  one_state s r e = let i : ◌≡◌ {A = Alive S} (record { state = s; ended = false }) (record { state = r; ended = false }) = cc in ap (λ z. z.state) i

  pub same_step : (t : ℕ) (w v u : World S) → Step a p t w v → Step a p t w u → v ≡ u
  same_step t w v u h g =
      let from : h.from ≡ g.from = one_state h.from g.from (sym h.is ∙ g.is) in
      let before = same_before g.from h.before g.before (subst (λ z. SilentSteps a z h.before) from h.silents) g.silents
      (loud t w v h.before (a.next h.before) h.does) (loud t w u g.before (a.next g.before) g.does) in
      same_does t w v u g.before (a.next g.before) (subst (λ z. EventStep a p t w z (a.next z) v) before h.does) g.does

  pub same_replays : (order : List ℕ) (w v u : World S) → Replays a p w order v → Replays a p w order u → v ≡ u
  same_replays [] w v u h g = h ∙ sym g
  same_replays (t ∷ order) w v u h g =
      same_replays order g.0 v u (subst (λ z. Replays a p z order v) (same_step t w h.0 g.0 h.1 g.1) h.2) g.2

  pub same_run : (s : S) (m : ℕ → ℕ) (run other : Alone a p s m) → run.last ≡ other.last
  same_run s m run other = same_last (inside_from run.run at) (inside_from other.run at) run.over other.over

  pub same_outcome : (s : S) (m : ℕ → ℕ) (run other : Alone a p s m) → outcome run ≡ outcome other
  same_outcome s m run other = ap (λ z. inner_by a p z (a.next z.state)) (same_run s m run other)

  pub ended_no_step : (t : ℕ) (w v : World S) (end : End) → w.end ≡ Some end → Step a p t w v → ⊥
  ended_no_step t w v end e d = let going = d.going in let no : None ≡ Some end = sym going ∙ e in cc

  -- where the event of a thread is not enabled, it has no step
  pub refused : (t : ℕ) (w v : World S) (s : S) → w.threads t ≡ alive s → is_silent (a.next s) ≡ false → (EventStep a p t w s (a.next s) v → ⊥) → Step a p t w v
      → ⊥
  refused t w v s is loud_next never d =
      let from : d.from ≡ s = one_state d.from s (sym d.is ∙ is) in
      let before = same_before s d.before s (subst (λ z. SilentSteps a z d.before) from d.silents) none
      (loud t w v d.before (a.next d.before) d.does) loud_next in
      never (subst (λ z. EventStep a p t w z (a.next z) v) before d.does)

  -- a thread that has ended takes no step
  pub ended_thread : (t : ℕ) (w v : World S) (x : Alive S) → w.threads t ≡ Some x → x.ended ≡ true → Step a p t w v → ⊥
  ended_thread t w v x is over d =
      let same : x ≡ record { state = d.from; ended = false } = one_alive x (record { state = d.from; ended = false }) (sym is ∙ d.is) in
      true≢false (sym over ∙ ap (λ z. z.ended) same)
    where
      one_alive : (x y : Alive S) → ◌≡◌ {A = Option (Alive S)} (Some x) (Some y) → x ≡ y
      one_alive x y e = cc
