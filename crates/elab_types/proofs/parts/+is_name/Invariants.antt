use Rattle.elab_types.proofs.parts.+is_name.Given as goal

abbrev pub decreases-is_name : goal.decreases-is_name
decreases-is_name l = l.id.0
