-- What a thread accesses in a block is what its notes have gained.
use Rattle.std.proofs.Common.{ℕ, ◌≡◌, Bool, true, false, cond, refl, ap, sym, ◌∙◌, subst, List, [], ◌∷◌, ◌++◌, append_assoc, append-nil}
use Rattle.tx_events.specs.declared.BlockKind.{BlockKind}
use Rattle.tx_events.specs.declared.BlockKind.TheVariants.{NoExcept, Commit, Cancel}
use Rattle.tx_events.specs.declared.End.{End}
use Rattle.tx_events.specs.declared.End.TheVariants.{Trapped}
use Rattle.tx_events.specs.declared.Trap.TheVariants.{BadAddress}
use Rattle.tx_events.specs.declared.Event.{Event}
use Rattle.tx_events.specs.declared.Event.TheVariants.{
  Silent,
  Load,
  Store,
  Out,
  Inp,
  Spawn,
  Join,
  BeginAtomic,
  EndAtomic,
  Raise,
  BeginSync,
  EndSync,
  Done,
  Stop,
}
use Rattle.tx_events.specs.declared.What.{What}
use Rattle.tx_events.specs.declared.What.TheVariants.{Read, Write}
use Rattle.tx_events.specs.Thread.{Thread}
use Rattle.tx_events.specs.Memory.{MemoryLayout, can_access}
use Rattle.tx_events.specs.Alone.{Inner, inner_by, inner_load, inner_store, leave, raise, newest, BlockStep, Goes, Leaves, Halts, Never, Inside, at_start}
use Rattle.tx_events.specs.Alone.{goes_on}
use Rattle.tx_serial.specs.Trace.{item_if, access_items, inside_items}
use Rattle.turn_traces.specs.Keeping.{named}
use Rattle.turn_traces.proofs.Notes.{Note, note_in, whats_of, noted}

pub named_append : (t : ℕ) (ws vs : List What) → named t (ws ++ vs) ≡ (named t ws ++ named t vs)
named_append t [] vs = refl
named_append t (w ∷ ws) vs = ap (λ z. record { t = t; what = w } ∷ z) (named_append t ws vs)

module _ {S : Type 0} (a : Thread S) (p : MemoryLayout) (t : ℕ) where
  abbrev C : Thread (S × Note)
  C = noted a

  abbrev pub bare_inner : Inner (S × Note) → Inner S
  bare_inner i = record { state = i.state.0; memory = i.memory; accessed = i.accessed; stored = i.stored; copies = i.copies }

  abbrev bare_step : BlockStep (S × Note) → BlockStep S
  bare_step (Goes i) = Goes (bare_inner i)
  bare_step (Leaves s m) = Leaves s.0 m
  bare_step (Halts e) = Halts e
  bare_step Never = Never

  either_bare : (b : Bool) (i : Inner (S × Note)) (e : End) → bare_step (cond b (Goes i) (Halts e)) ≡ cond b (Goes (bare_inner i)) (Halts e)
  either_bare true i e = refl
  either_bare false i e = refl

  leave_bare : (i : Inner (S × Note)) (m : ℕ → ℕ) (cs : List (ℕ → ℕ)) → bare_step (leave C i m cs) ≡ leave a (bare_inner i) m cs
  leave_bare i m [] = refl
  leave_bare i m (c ∷ []) = refl
  leave_bare i m (c ∷ d ∷ cs) = refl

  raise_bare : (i : Inner (S × Note)) (kind : BlockKind) (can : Bool) → bare_step (raise C i kind can) ≡ raise a (bare_inner i) kind can
  raise_bare i NoExcept can = refl
  raise_bare i Commit can = leave_bare i i.memory i.copies
  raise_bare i Cancel true = leave_bare i (newest i.copies i.memory) i.copies
  raise_bare i Cancel false = refl

  step_bare : (i : Inner (S × Note)) (e : Event) → bare_step (inner_by C p i e) ≡ inner_by a p (bare_inner i) e
  step_bare i Silent = refl
  step_bare i (Load addr size vol) = either_bare (can_access p addr size) (inner_load C i addr size) (Trapped BadAddress)
  step_bare i (Store addr size value vol) = either_bare (can_access p addr size) (inner_store C i addr size value) (Trapped BadAddress)
  step_bare i (BeginAtomic kind) = refl
  step_bare i EndAtomic = leave_bare i i.memory i.copies
  step_bare i (Raise kind can) = raise_bare i kind can
  step_bare i BeginSync = refl
  step_bare i EndSync = refl
  step_bare i (Stop e) = refl
  step_bare i (Out c) = refl
  step_bare i Inp = refl
  step_bare i (Spawn f x) = refl
  step_bare i (Join id) = refl
  step_bare i Done = refl

  -- where a step goes on, its access was one, and is noted
  abbrev Went : Inner (S × Note) → Event → BlockStep (S × Note) → Type 0
  Went i e (Goes k) = (k.state.1 ≡ note_in (a.next i.state.0) i.state.1) × (access_items p t e ≡ named t (whats_of e))
  Went i e (Leaves s m) = Unit {0}
  Went i e (Halts end) = Unit {0}
  Went i e Never = Unit {0}

  went_either : (i : Inner (S × Note)) (e : Event) (w : What) (b : Bool) (k : Inner (S × Note)) (end : End) → access_items p t e ≡ item_if b t w
      → whats_of e ≡ w ∷ [] → k.state.1 ≡ note_in (a.next i.state.0) i.state.1 → Went i e (cond b (Goes k) (Halts end))
  went_either i e w true k end f g s = (s, f ∙ sym (ap (named t) g))
  went_either i e w false k end f g s = tt

  went_leave : (i : Inner (S × Note)) (e : Event) (m : ℕ → ℕ) (cs : List (ℕ → ℕ)) → access_items p t e ≡ named t (whats_of e) → Went i e (leave C i m cs)
  went_leave i e m [] f = tt
  went_leave i e m (c ∷ []) f = tt
  went_leave i e m (c ∷ d ∷ cs) f = (refl, f)

  went_raise : (i : Inner (S × Note)) (e : Event) (kind : BlockKind) (can : Bool) → access_items p t e ≡ named t (whats_of e) → Went i e (raise C i kind can)
  went_raise i e NoExcept can f = tt
  went_raise i e Commit can f = went_leave i e i.memory i.copies f
  went_raise i e Cancel true f = went_leave i e (newest i.copies i.memory) i.copies f
  went_raise i e Cancel false f = tt

  went : (i : Inner (S × Note)) (e : Event) → Went i e (inner_by C p i e)
  went i Silent = (refl, refl)
  went i (Load addr size vol) = went_either i (Load addr size vol) (Read addr size) (can_access p addr size) (inner_load C i addr size) (Trapped BadAddress)
      refl refl refl
  went i (Store addr size value vol) = went_either i (Store addr size value vol) (Write addr size) (can_access p addr size)
      (inner_store C i addr size value) (Trapped BadAddress) refl refl refl
  went i (BeginAtomic kind) = (refl, refl)
  went i EndAtomic = went_leave i EndAtomic i.memory i.copies refl
  went i (Raise kind can) = went_raise i (Raise kind can) kind can refl
  went i BeginSync = (refl, refl)
  went i EndSync = (refl, refl)
  went i (Stop e) = tt
  went i (Out c) = tt
  went i Inp = tt
  went i (Spawn f x) = tt
  went i (Join id) = tt
  went i Done = tt

  -- The run of a block without notes, and what it accessed.
  pub record Bare (i j : Inner (S × Note)) : Type 0 where
    pub run : Inside a p (bare_inner i) (bare_inner j)
    pub whats : List What
    pub grows : j.state.1.whats ≡ i.state.1.whats ++ whats
    pub items : inside_items t run ≡ named t whats

  pub bare_run : {i j : Inner (S × Note)} → Inside C p i j → Bare i j
  bare_run {i} at_start = record { run = at_start; whats = []; grows = sym (append-nil i.state.1.whats); items = refl }
  bare_run {i} (goes_on {j = q} {k} f e) =
      let r = bare_run f in
      let w = subst (Went q (a.next q.state.0)) e (went q (a.next q.state.0)) in
      record {
        run = goes_on r.run (sym (step_bare q (a.next q.state.0)) ∙ ap bare_step e);
        whats = r.whats ++ whats_of (a.next q.state.0);
        grows = ap (λ n. n.whats) w.0 ∙ (ap (λ ws. ws ++ whats_of (a.next q.state.0)) r.grows
            ∙ append_assoc i.state.1.whats r.whats (whats_of (a.next q.state.0)));
        items = ap (λ zs. inside_items t r.run ++ zs) w.1 ∙ (ap (λ zs. zs ++ named t (whats_of (a.next q.state.0))) r.items
            ∙ sym (named_append t r.whats (whats_of (a.next q.state.0))));
      }
