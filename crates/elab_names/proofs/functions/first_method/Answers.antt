use Rattle.std.proofs.Common.{ap}
use Rattle.elab_conv.specs.elab_rules.Names.{first_place}
use Rattle.elab_names.proofs.MethodPlaces.{methods_kept}
use Rattle.elab_names.proofs.functions.first_method.Goals as goal

pub loop-place-init : goal.loop-place-init
loop-place-init c = ap first_place (methods_kept c.args.class c.args.name.now c.args.funcs.now c.of_class-members.result.now c.of_class-members.ensures)
