use Rattle.class_members.proofs.SameFunctions.{named_any}
use Rattle.class_members.proofs.data_members.is_among.Goals as goal

pub loop-place-init : goal.loop-place-init
loop-place-init c = named_any c.args.class c.args.name.now c.args.funcs.now c.of_class-members.result.now c.of_class-members.ensures
