use Rattle.symbolic_steps.proofs.steps.+advanced.Given as goal

abbrev pub decreases-advanced : goal.decreases-advanced
decreases-advanced l = l.steps
