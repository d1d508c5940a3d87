use Rattle.std.proofs.Common.{◌&&◌}
use Rattle.elab_init.specs.elab_ctx.Ctx.{Func}
use Rattle.elab_init.specs.elab_rules.Initialising.{same_number}
use Rattle.elab_init.proofs.elab_rules.Found.{class_any, asks_first}
use Rattle.class_specials.proofs.part_tests.has_no_virtual.Goals as goal

pub loop-place-init : goal.loop-place-init
loop-place-init c = class_any c.args.class (λ (f : Func). same_number c.args.class f.class && f.declared.is_virtual)
    (λ f h. asks_first (same_number c.args.class f.class) f.declared.is_virtual h) c.args.funcs.now c.of_class-members.result.now c.of_class-members.ensures
