use Rattle.note_landing.proofs.cases.+classes_fit.Given as goal

abbrev pub decreases-classes_fit : goal.decreases-classes_fit
decreases-classes_fit l = l.count
