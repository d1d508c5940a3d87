use Rattle.object_file.proofs.object.globals_of.Goals as goal

pub returns : goal.returns
returns c = rw (← c.count_of.ensures) c.globals_at.ensures
