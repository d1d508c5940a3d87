use Rattle.tx_memory.specs.View.{layout_of}
use Rattle.src_replay.proofs.Undone.{ended_nested}
use Rattle.src_replay.proofs.block.raise.Goals as goal

pub returns-in-Commit-clause-nested : goal.returns-in-Commit-clause-nested
returns-in-Commit-clause-nested c = ended_nested (layout_of c.args.memory.now) c.args.nested.now c.end.new.nested
    (c.end.ensures.ended c.requires.open) c.requires.nested
