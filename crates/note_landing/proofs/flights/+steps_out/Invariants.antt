use Rattle.note_landing.proofs.flights.+steps_out.Given as goal

abbrev pub decreases-steps_out : goal.decreases-steps_out
decreases-steps_out l = l.most
