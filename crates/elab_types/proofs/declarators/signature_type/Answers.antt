use Rattle.elab_types.proofs.FunctionTypes.{made_view}
use Rattle.elab_types.proofs.declarators.signature_type.Goals as goal

pub returns : goal.returns
returns c = made_view c.args.params c.args.ret c.args.safe
