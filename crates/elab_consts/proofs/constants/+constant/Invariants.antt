use Rattle.elab_consts.proofs.constants.+constant.Given as goal

abbrev pub decreases-constant : goal.decreases-constant
decreases-constant l = l.id.0
