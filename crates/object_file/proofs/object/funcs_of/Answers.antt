use Rattle.object_file.proofs.object.funcs_of.Goals as goal

pub returns : goal.returns
returns c = rw (← c.count_of.ensures) c.funcs_at.ensures
