use Rattle.std.proofs.Common.{List, map, ap, sym, ◌∙◌}
use Rattle.std.proofs.lemmas.List.{take-map}
use Rattle.elab_entry.specs.elab_ctx.Ctx.{Func, ctx_of, func_of}
use Rattle.elab_lambdas.proofs.undoing.undo_functions.Goals as goal

pub returns : goal.returns
returns c = ap (λ (z : List Func). record (ctx_of c.args.env.now) { funcs = z })
    (ap (map func_of) c.truncate.ensures ∙ sym (take-map func_of c.args.count c.args.env.now.funcs))
