use Rattle.std.proofs.Common.{refl}
use Rattle.std.proofs.lemmas.Result.{IfOk-weaker}
use Rattle.tx_events.specs.declared.Event.TheVariants.{Stop}
use Rattle.src_replay.proofs.Arms.{took_halted}
use Rattle.src_replay.proofs.world.World.stop.Goals as goal

pub returns-clause-took : goal.returns-clause-took
returns-clause-took c = λ program t w s stand going e.
    let self = c.args.self.now in
    IfOk-weaker c.halt.result _ _ (λ r h. took_halted t w s program
    (Stop c.args.end) c.args.end self self c.halt.new.self r e refl refl refl refl stand refl h) c.halt.ensures.halted
