use Rattle.std.proofs.Common.{List, ap}
use Rattle.std.proofs.lemmas.List.{map-set}
use Rattle.elab_init.specs.elab_ctx.Ctx.{ctx_of, traits_of, Traits}
use Rattle.class_records.proofs.closing.put_traits.Goals as goal

pub returns : goal.returns
returns c = ap (λ (z : List Traits). record (ctx_of c.args.env.now) { traits = z }) (map-set traits_of c.args.env.now.traits.items c.args.class c.args.traits)
