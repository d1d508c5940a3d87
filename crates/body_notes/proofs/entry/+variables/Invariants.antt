use Rattle.body_notes.proofs.entry.+variables.Given as goal

abbrev pub decreases-variables : goal.decreases-variables
decreases-variables l = l.count
