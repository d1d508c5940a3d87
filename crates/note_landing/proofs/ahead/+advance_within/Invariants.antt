use Rattle.note_landing.proofs.ahead.+advance_within.Given as goal

abbrev pub decreases-advance_within : goal.decreases-advance_within
decreases-advance_within l = l.most
