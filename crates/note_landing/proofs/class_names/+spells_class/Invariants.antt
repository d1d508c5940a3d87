use Rattle.note_landing.proofs.class_names.+spells_class.Given as goal

abbrev pub decreases-spells_class : goal.decreases-spells_class
decreases-spells_class l = l.count
