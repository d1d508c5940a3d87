use Rattle.src_thread.proofs.throwing.give_exception.Goals as goal

pub returns-in-Fills : goal.returns-in-Fills
returns-in-Fills c = rw c.in-Fills.is (c.fill.ensures c.args.value)

pub returns-in-Trying : goal.returns-in-Trying
returns-in-Trying c = rw c.in-Trying.is (c.try_handler.ensures c.args.value)

pub returns-in-Takes : goal.returns-in-Takes
returns-in-Takes c = rw c.in-Takes.is (c.take.ensures c.args.value)
