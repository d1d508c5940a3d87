use Rattle.code_walk.proofs.rows.+note_rows.Given as goal

abbrev pub decreases-note_rows : goal.decreases-note_rows
decreases-note_rows l = goal.size-note_rows l
