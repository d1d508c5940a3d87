use Rattle.std.proofs.Common.{◌≡◌, sym, subst, refl}
use Rattle.tx_events.specs.declared.TurnKind.TheVariants.{Waited, BlockWait, JoinWait, Undone, Released, Idle}
use Rattle.turn_traces.specs.Keeper.{keeping_of}
use Rattle.turn_traces.specs.Keeping.{told_of}
use Rattle.turn_traces.proofs.Keepers.{still_told}
use Rattle.turn_traces.proofs.keeper.TraceKeeper.tell_event.Goals as goal

pub returns-in-Waited : goal.returns-in-Waited
returns-in-Waited c = subst (λ k. keeping_of c.args.self.now ≡ told_of (keeping_of c.args.self.now) c.args.event k c.args.end) (sym c.in-Waited.is)
    (still_told c.args.self.now c.args.event (Waited c.in-Waited.word c.in-Waited.holder) c.args.end refl refl refl)

pub returns-in-BlockWait : goal.returns-in-BlockWait
returns-in-BlockWait c = subst (λ k. keeping_of c.args.self.now ≡ told_of (keeping_of c.args.self.now) c.args.event k c.args.end) (sym c.in-BlockWait.is)
    (still_told c.args.self.now c.args.event (BlockWait c.in-BlockWait.holder) c.args.end refl refl refl)

pub returns-in-JoinWait : goal.returns-in-JoinWait
returns-in-JoinWait c = subst (λ k. keeping_of c.args.self.now ≡ told_of (keeping_of c.args.self.now) c.args.event k c.args.end) (sym c.in-JoinWait.is)
    (still_told c.args.self.now c.args.event (JoinWait c.in-JoinWait.id) c.args.end refl refl refl)

pub returns-in-Undone : goal.returns-in-Undone
returns-in-Undone c = subst (λ k. keeping_of c.args.self.now ≡ told_of (keeping_of c.args.self.now) c.args.event k c.args.end) (sym c.in-Undone.is)
    (still_told c.args.self.now c.args.event (Undone c.in-Undone.word) c.args.end refl refl refl)

pub returns-in-Released : goal.returns-in-Released
returns-in-Released c = subst (λ k. keeping_of c.args.self.now ≡ told_of (keeping_of c.args.self.now) c.args.event k c.args.end) (sym c.in-Released.is)
    (still_told c.args.self.now c.args.event (Released c.in-Released.word) c.args.end refl refl refl)

pub returns-in-Idle : goal.returns-in-Idle
returns-in-Idle c = subst (λ k. keeping_of c.args.self.now ≡ told_of (keeping_of c.args.self.now) c.args.event k c.args.end) (sym c.in-Idle.is)
    (still_told c.args.self.now c.args.event Idle c.args.end refl refl refl)
