use Rattle.object_file.proofs.object.classes_of.Goals as goal

pub returns : goal.returns
returns c = rw (← c.count_of.ensures) c.classes_at.ensures
