use Rattle.std.proofs.Common.{ap}
use Rattle.tx_memory.specs.View.{layout_of, words_of}
use Rattle.src_replay.specs.declared.block.Effect.{Effect}
use Rattle.src_replay.proofs.Undone.{cancelled_nested}
use Rattle.src_replay.proofs.Came.{cancelled_comes}
use Rattle.src_replay.proofs.block.cancel.Goals as goal

pub returns-clause-nested : goal.returns-clause-nested
returns-clause-nested c = cancelled_nested (layout_of c.args.memory.now) c.args.nested.now c.cancel.new.self (words_of c.args.memory.now)
    (words_of c.cancel.new.memory) (c.cancel.ensures.cancelled c.requires.open) c.requires.nested

pub returns-clause-came : goal.returns-clause-came
returns-clause-came c = cancelled_comes (layout_of c.args.memory.now) c.args.nested.now c.cancel.new.self (words_of c.args.memory.now)
    (words_of c.cancel.new.memory) c.left.result.step (ap (λ (z : Effect). z.step) c.left.ensures)
    (c.cancel.ensures.cancelled c.requires.open) c.requires.nested
