use Rattle.std.proofs.Common.{arith, codes}
use Rattle.image_links.proofs.Spellings.{stripped, whole}
use Rattle.image_links.proofs.lookups.without_safety.Goals as goal

pub returns-in-Some : goal.returns-in-Some
returns-in-Some c = stripped (codes " transaction_safe") c.args.ty.now c.in-Some.front.now (omega arith) c.in-Some.ensures.cases.0 c.in-Some.ensures.cases.1

pub returns-in-None : goal.returns-in-None
returns-in-None c = whole (codes " transaction_safe") c.args.ty.now c.in-None.ensures.cases
