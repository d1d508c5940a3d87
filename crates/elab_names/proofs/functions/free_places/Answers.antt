use Rattle.std.proofs.Common.{◌≡◌, ◌∙◌, Ok, Err}
use Rattle.elab_names.proofs.MethodPlaces.{free_copied}
use Rattle.elab_names.proofs.functions.free_places.Goals as goal

pub returns : goal.returns
returns c = free_copied c.args.name.now c.args.funcs.now c.of_name.result.now c.from_slice.result c.of_name.ensures c.from_slice.ensures.items
