use Rattle.std.proofs.Common.{ap, ◌∙◌}
use Rattle.tx_events.specs.declared.Reply.TheVariants.{Nothing}
use Rattle.tx_serial.specs.Machine.{Local}
use Rattle.tx_runtime.specs.Threads.{local_of}
use Rattle.tx_runtime.proofs.thread.ThreadSlot+A+A+Saved.enter.Goals as goal

pub returns-clause-local : goal.returns-clause-local
returns-clause-local g c = λ holders t.
    let after = g.A.Actor.thread.after in
    let middle = local_of g.A.Actor.state g.A.Actor.saved_state holders t c.mark.new.self in
    c.go_on.ensures.local holders t
    ∙ (ap (λ v. record middle { state = after (g.A.Actor.state v) Nothing }) c.mark.ensures.actor
    ∙ ap (λ (l : Local g.A.Actor.State). record l { state = after (g.A.Actor.state c.args.self.now.actor) Nothing }) (c.mark.ensures.local holders t))
