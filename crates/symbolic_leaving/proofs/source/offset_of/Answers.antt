use Rattle.symbolic_leaving.proofs.Plain.{offset_found, offset_none}
use Rattle.symbolic_leaving.proofs.source.offset_of.Goals as goal

pub returns-in-Some : goal.returns-in-Some
returns-in-Some c = offset_found c.args.source.now c.deref.result.now c.args.place c.in-Some.offset.now c.deref.ensures.value ((c.in-Some.ensures.lookup).3).0 (c.in-Some.ensures.lookup).1

pub returns-in-None : goal.returns-in-None
returns-in-None c = offset_none c.args.source.now c.deref.result.now c.args.place c.deref.ensures.value (c.in-None.ensures.lookup).3
