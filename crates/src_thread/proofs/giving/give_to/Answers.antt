use Rattle.src_thread.proofs.giving.give_to.Goals as goal

pub returns-in-Block : goal.returns-in-Block
returns-in-Block c = rw c.in-Block.is (c.give_block.ensures c.args.value)
