use Rattle.std.proofs.Common.{ap, sym, ◌∙◌}
use Rattle.std.proofs.lemmas.Bool.{false≢true}
use Rattle.tx_events.specs.declared.Event.TheVariants.{Stop}
use Rattle.tx_events.specs.Thread.{may_come}
use Rattle.tx_events.proofs.laws.a_thread_never_stops_with_steps_out.Goals as goal

pub returns : goal.returns
returns g c = λ s end reached next out.
    let blocks = g.A.Actor.thread.blocks s in
    false≢true (sym (ap (λ e. may_come e blocks) (next ∙ ap Stop out)) ∙ g.met.A.Actor.laws.comes s reached)
