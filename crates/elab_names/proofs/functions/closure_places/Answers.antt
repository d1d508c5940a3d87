use Rattle.elab_names.proofs.MethodPlaces.{calls_copied}
use Rattle.elab_names.proofs.functions.closure_places.Goals as goal

pub returns : goal.returns
returns c = calls_copied c.args.class c.args.funcs.now c.of_class.result.now c.from_slice.result c.of_class.ensures c.from_slice.ensures.items
