use Rattle.src_thread.proofs.statements.give_statement.Goals as goal

pub returns-in-Items : goal.returns-in-Items
returns-in-Items c = rw c.in-Items.is (c.run_item.ensures c.args.value)
