use Rattle.std.proofs.Common.{map, option_map, ap, sym, ◌∙◌}
use Rattle.std.proofs.lemmas.List.{take-map}
use Rattle.elab_stmt.specs.elab_ctx.Ctx.{variable_of}
use Rattle.elab_entry.specs.Round.{variables_by}
use Rattle.elab_entry.proofs.around.put_variables.Goals as goal

pub returns-in-None : goal.returns-in-None
returns-in-None c = ap (map variable_of) c.truncate.ensures.items ∙ sym (take-map variable_of c.args.count c.args.list.now.items)
    ∙ ap (λ z. variables_by (option_map (λ vs. map variable_of vs.items) z) c.args.count (map variable_of c.args.list.now.items)) (sym c.in-None.is)
