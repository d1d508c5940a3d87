-- An event of an entry, with what is written down of it.
use Rattle.std.proofs.Common.{ℕ, ◌≡◌, true, false, List, [], ◌∷◌, ◌++◌, refl, ap, sym, ◌∙◌}
use Rattle.std.proofs.lemmas.Bool.{true≢false}
use Rattle.tx_events.specs.declared.BlockKind.{BlockKind}
use Rattle.tx_events.specs.declared.Event.{Event}
use Rattle.tx_events.specs.declared.Event.TheVariants.{Silent, Load, Store, Out, Inp, Spawn, Join, BeginAtomic, EndAtomic, Raise, BeginSync, EndSync, Done}
use Rattle.tx_events.specs.declared.Event.TheVariants.{Stop}
use Rattle.tx_events.specs.Memory.{MemoryLayout}
use Rattle.tx_events.specs.Thread.{Thread}
use Rattle.tx_events.specs.World.{World as Worlds, EventStep}
use Rattle.src_mean.specs.Frames.{State}
use Rattle.src_mean.specs.Linked.{Program}
use Rattle.src_mean.specs.Source.{source}
use Rattle.src_replay.specs.declared.world.Entry.{Entry}
use Rattle.src_replay.specs.declared.world.Entry.TheVariants.{Taken, Refused, Spent}
use Rattle.src_replay.specs.declared.world.World.{World}
use Rattle.src_replay.specs.LoneRuns.{event_events}
use Rattle.src_replay.specs.Seen.{is_begin, SeenAct}
use Rattle.src_replay.specs.Shown.{Acted}

-- an event that begins no block comes alone
one_event : {S : Type 0} (a : Thread S) (p : MemoryLayout) (t : ℕ) (w : Worlds S) (s : S) (e : Event) (v : Worlds S) (d : EventStep a p t w s e v)
    → is_begin e ≡ false → event_events a p t w s e v d ≡ e ∷ []
one_event a p t w s (BeginAtomic kind) v d h = absurd (true≢false h)
one_event a p t w s Silent v d h = refl
one_event a p t w s (Load addr size volatile) v d h = refl
one_event a p t w s (Store addr size value volatile) v d h = refl
one_event a p t w s (Out byte) v d h = refl
one_event a p t w s Inp v d h = refl
one_event a p t w s (Spawn func arg) v d h = refl
one_event a p t w s (Join id) v d h = refl
one_event a p t w s EndAtomic v d h = refl
one_event a p t w s (Raise kind cancels) v d h = refl
one_event a p t w s BeginSync v d h = refl
one_event a p t w s EndSync v d h = refl
one_event a p t w s Done v d h = refl
one_event a p t w s (Stop end) v d h = refl

-- one that begins a block has its kind
pub begin_kind : (e : Event) → is_begin e ≡ true → (kind : BlockKind) × (e ≡ BeginAtomic kind)
begin_kind (BeginAtomic kind) h = (kind, refl)
begin_kind Silent h = absurd (true≢false (sym h))
begin_kind (Load addr size volatile) h = absurd (true≢false (sym h))
begin_kind (Store addr size value volatile) h = absurd (true≢false (sym h))
begin_kind (Out byte) h = absurd (true≢false (sym h))
begin_kind Inp h = absurd (true≢false (sym h))
begin_kind (Spawn func arg) h = absurd (true≢false (sym h))
begin_kind (Join id) h = absurd (true≢false (sym h))
begin_kind EndAtomic h = absurd (true≢false (sym h))
begin_kind (Raise kind cancels) h = absurd (true≢false (sym h))
begin_kind BeginSync h = absurd (true≢false (sym h))
begin_kind EndSync h = absurd (true≢false (sym h))
begin_kind Done h = absurd (true≢false (sym h))
begin_kind (Stop end) h = absurd (true≢false (sym h))

not_begin : (e : Event) (kind : BlockKind) → is_begin e ≡ false → e ≡ BeginAtomic kind → ⊥
not_begin e kind h is = true≢false (sym (ap is_begin is) ∙ h)

module _ (program : Program) (p : MemoryLayout) (t : ℕ) (w : Worlds State) (s : State) (left : ℕ) (new : World) (before after : List Event) where
  pub seen_once : (event : Event) (r : Entry) → is_begin event ≡ false → s.event ≡ event → after ≡ before ++ event ∷ [] → Acted program p t w s left new r
      → SeenAct program p t w s left new before after r
  seen_once event Taken once e told h = record {
    taken = h;
    seen = told ∙ (ap (λ (z : Event). before ++ z ∷ []) (sym e) ∙ ap (λ (z : List Event). before ++ z)
        (sym (one_event (source program) p t w s s.event h.world h.done.does (ap is_begin e ∙ once))));
  }
  seen_once event Refused once e told h = absurd (not_begin s.event h.at.kind (ap is_begin e ∙ once) h.at.begins)
  seen_once event Spent once e told h = absurd (not_begin s.event h.at.kind (ap is_begin e ∙ once) h.at.begins)
