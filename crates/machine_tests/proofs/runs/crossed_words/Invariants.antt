use Rattle.machine_tests.proofs.runs.crossed_words.Given as goal

abbrev pub ghost-run_actor : goal.ghost-run_actor
ghost-run_actor a = λ _. tt
