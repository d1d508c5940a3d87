use Rattle.std.proofs.Common.{◌∙◌, ◌++◌, List, ℕ, ap}
use Rattle.elab_conv.specs.elab_ctx.Ctx.{func_of}
use Rattle.elab_conv.specs.elab_ctx.Places.{kept_among}
use Rattle.elab_conv.specs.elab_rules.Initialising.{is_constructor, same_number, makes}
use Rattle.elab_conv.proofs.elab_rules.Found.{class_kept, asks_first}
use Rattle.elab_init.proofs.overloads.places_of_constructors.Goals as goal

pub loop-place-init : goal.loop-place-init
loop-place-init c =
    ap (λ (z : List ℕ). z ++ kept_among (λ f. is_constructor c.args.class (func_of f)) c.args.funcs.now c.of_class-members.result.now) c.new-list.ensures.items
    ∙ class_kept c.args.class (is_constructor c.args.class)
    (λ f h. asks_first (same_number c.args.class f.class) (makes f.kind) h) c.args.funcs.now c.of_class-members.result.now c.of_class-members.ensures
