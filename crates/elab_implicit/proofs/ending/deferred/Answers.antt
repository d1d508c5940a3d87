use Rattle.elab_implicit.proofs.Deferring.{deferred_listed}
use Rattle.elab_implicit.proofs.ending.deferred.Goals as goal

pub returns : goal.returns
returns c = deferred_listed _ _ c.args.at c.args.object c.in_ok-made.made c.args.ends.now _ _ c.in_ok-kids.ensures c.in_ok-made.ensures c.one_of.ensures
