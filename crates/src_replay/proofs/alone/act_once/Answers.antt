use Rattle.std.proofs.lemmas.Result.{IfOk-weaker}
use Rattle.tx_memory.specs.View.{layout_of}
use Rattle.src_replay.proofs.SeenEntries.{seen_once}
use Rattle.src_replay.proofs.alone.act_once.Goals as goal

pub returns-clause-seen : goal.returns-clause-seen
returns-clause-seen c = λ program w s stand going e event once enabled.
    let world = c.args.world.now in
    IfOk-weaker c.act.result _ _
    (λ r h. seen_once program (layout_of world.memory) c.args.t w s world.left c.act.new.self c.args.events.now.items c.push.new.self.items c.args.event r once
    event c.in_ok-push.ensures.items h)
    (c.act.ensures.acted program w s stand going e event enabled)
