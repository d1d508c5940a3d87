use Rattle.std.proofs.Common.{false}
use Rattle.elab_types.proofs.FunctionTypes.{made_view}
use Rattle.class_specials.proofs.implicit.function_type.Goals as goal

pub returns : goal.returns
returns c = made_view c.args.params c.args.ret false
