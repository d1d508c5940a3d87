use Rattle.unit_entries.proofs.classes.+pointer_from.Given as goal

abbrev pub decreases-pointer_from : goal.decreases-pointer_from
decreases-pointer_from l = l.most
