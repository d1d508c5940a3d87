use Rattle.tx_machine.proofs.image.run.Given as goal

abbrev pub ghost-run_actor : goal.ghost-run_actor
ghost-run_actor g a = λ s. tt
