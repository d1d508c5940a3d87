use Rattle.std.proofs.Common.{◌≡◌, ◌∙◌, ◌++◌, [], List, ℕ, ap, rules}
use Rattle.elab_conv.specs.elab_ctx.Ctx.{func_of}
use Rattle.elab_conv.specs.elab_ctx.Places.{kept_among}
use Rattle.elab_conv.specs.elab_rules.Names.{is_method}
use Rattle.elab_names.proofs.MethodPlaces.{methods_kept}
use Rattle.elab_names.proofs.functions.method_places.Goals as goal

pub loop-place-init : goal.loop-place-init
loop-place-init c = ap (λ (z : List ℕ). z ++ kept_among
    (λ f. is_method c.args.class c.args.name.now (func_of f)) c.args.funcs.now c.of_class-members.result.now) c.new-places.ensures.items
    ∙ methods_kept c.args.class c.args.name.now c.args.funcs.now c.of_class-members.result.now c.of_class-members.ensures
