use Rattle.tx_machine.proofs.run.run_actor.Given as goal

abbrev pub ghost-play : goal.ghost-play
ghost-play g a = g.read
