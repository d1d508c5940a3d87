use Rattle.std.proofs.Common.{false}
use Rattle.elab_entry.proofs.elab_types.FunctionTypes.{made_view}
use Rattle.elab_units.proofs.beginning.function_type.Goals as goal

pub returns : goal.returns
returns c = made_view c.args.params c.args.ret false
