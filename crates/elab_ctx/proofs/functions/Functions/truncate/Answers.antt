use Rattle.std.proofs.Common.{◌≡◌, ◌∙◌, ◌-◌, length, rules, arith}
use Rattle.elab_ctx.proofs.PlaceLists.{cut_to}
use Rattle.elab_ctx.proofs.functions.Functions.truncate.Goals as goal

pub returns : goal.returns
returns c =
    let past : c.loop.counter ≡ length c.args.self.now - c.args.count = search (rules, arith) in
    c.loop.invariant ∙ cut_to c.args.self.now c.args.count c.loop.counter past
