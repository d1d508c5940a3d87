use Rattle.elab_consts.proofs.addresses.+address.Given as goal

abbrev pub decreases-address : goal.decreases-address
decreases-address l = l.id.0
