use Rattle.std.proofs.Common.{List, map, ap, sym, ◌∙◌}
use Rattle.std.proofs.lemmas.List.{take-map}
use Rattle.elab_entry.specs.elab_ctx.Ctx.{Traits, ctx_of, traits_of}
use Rattle.elab_lambdas.proofs.undoing.undo_traits.Goals as goal

pub returns : goal.returns
returns c = ap (λ (z : List Traits). record (ctx_of c.args.env.now) { traits = z })
    (ap (map traits_of) c.truncate.ensures.items ∙ sym (take-map traits_of c.args.count c.args.env.now.traits.items))
