use Rattle.std.proofs.Common.{arith, ◌∙◌}
use Rattle.link_parts.proofs.MarkedTypes.{adds_one}
use Rattle.link_parts.proofs.types.mark.Goals as goal

pub returns-then-rank-len : goal.returns-then-rank-len
returns-then-rank-len c = adds_one c.args.marks.now.items c.args.rank (let e = c.len.ensures ∙ c.args.marks.now.ok.0 in omega (arith, e, c.if-rank-len.true))
