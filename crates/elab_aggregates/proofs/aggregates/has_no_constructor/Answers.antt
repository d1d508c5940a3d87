use Rattle.std.proofs.Common.{◌∙◌, ap, not, map}
use Rattle.elab_make.specs.elab_ctx.Ctx.{func_of}
use Rattle.elab_make.specs.elab_rules.Initialising.{same_number, is_constructor, makes}
use Rattle.elab_make.specs.elab_rules.Braces.{is_written_constructor}
use Rattle.elab_make.proofs.elab_rules.Found.{class_any, asks_first}
use Rattle.elab_aggregates.proofs.NoneFound.{none_from}
use Rattle.elab_aggregates.proofs.aggregates.has_no_constructor.Goals as goal

pub loop-place-init : goal.loop-place-init
loop-place-init c = ap not (class_any c.args.class (is_written_constructor c.args.class)
    (λ f h. asks_first (same_number c.args.class f.class) (makes f.kind)
    (asks_first (is_constructor c.args.class f) (not f.implicit) h)) c.args.funcs.now c.of_class-members.result.now c.of_class-members.ensures)
    ∙ none_from (is_written_constructor c.args.class) 0 (map func_of c.args.funcs.now)
