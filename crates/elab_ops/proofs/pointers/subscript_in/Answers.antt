use Rattle.elab_ops.specs.Forms.{object_at}
use Rattle.elab_ops.proofs.Steps.{gives_then}
use Rattle.elab_ops.proofs.pointers.subscript_in.Goals as goal

pub returns : goal.returns
returns c = gives_then _ _ _ _ _ _ (object_at c.args.at) c.in_ok-sum.ensures c.object_at.ensures
