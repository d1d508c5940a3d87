use Rattle.std.proofs.Common.{◌≡◌, ap, ◌∙◌, [], ◌∷◌}
use Rattle.tx_events.specs.declared.Reply.TheVariants.{Nothing}
use Rattle.tx_runtime.specs.Saves.{saves_of}
use Rattle.tx_runtime.specs.Threads.{local_of}
use Rattle.tx_serial.specs.Machine.{OpenTx, no_save}
use Rattle.tx_runtime.proofs.LogSavepoints.{log_marked, no_saves}
use Rattle.tx_runtime.proofs.thread.ThreadSlot+A+A+Saved.begin.Goals as goal

pub returns-in-Ok-clause-local : goal.returns-in-Ok-clause-local
returns-in-Ok-clause-local g c = λ holders t.
    let l = local_of g.A.Actor.state g.A.Actor.saved_state holders t c.args.self.now in
    let after = g.A.Actor.thread.after (g.A.Actor.state c.args.self.now.actor) Nothing in
    let saves : saves_of c.mark.new.self ≡ no_save ∷ [] = log_marked c.args.self.now.log c.mark.new.self c.mark.ensures.notes c.mark.ensures.marks
    ∙ ap (λ ss. no_save ∷ ss) (no_saves c.args.self.now.log c.requires.marks) in
    ap (λ s. record l { state = s; tx = OpenTx c.args.birth (g.A.Actor.saved_state c.in-Ok.kept) (saves_of c.mark.new.self) }) c.take.ensures
    ∙ (ap (λ s. record l { state = after; tx = OpenTx c.args.birth s (saves_of c.mark.new.self) }) (c.in-Ok.ensures ∙ c.take.ensures)
    ∙ ap (λ ss. record l { state = after; tx = OpenTx c.args.birth after ss }) saves)
