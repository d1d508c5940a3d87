use Rattle.elab_implicit.proofs.Deferring.{object_listed}
use Rattle.elab_implicit.proofs.ending.base_behind.Goals as goal

pub returns : goal.returns
returns c = object_listed _ _ _ c.args.at _ _ c.args.ends.now _ c.in_ok-all_stand.ensures c.in_ok-object.ensures c.deferred.ensures
