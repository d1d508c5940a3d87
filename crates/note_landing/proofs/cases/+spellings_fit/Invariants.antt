use Rattle.note_landing.proofs.cases.+spellings_fit.Given as goal

abbrev pub decreases-spellings_fit : goal.decreases-spellings_fit
decreases-spellings_fit l = l.count
