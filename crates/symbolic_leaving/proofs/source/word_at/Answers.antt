use Rattle.symbolic_leaving.proofs.Plain.{word_found, word_none}
use Rattle.symbolic_leaving.proofs.source.word_at.Goals as goal

pub returns-in-Some-clause-found : goal.returns-in-Some-clause-found
returns-in-Some-clause-found c = word_found c.args.source.now c.deref.result.now c.args.index c.in-Some.word.now c.deref.ensures.value ((c.in-Some.ensures.lookup).3).0 (c.in-Some.ensures.lookup).1

pub returns-in-None-clause-found : goal.returns-in-None-clause-found
returns-in-None-clause-found c = word_none c.args.source.now c.deref.result.now c.args.index c.deref.ensures.value (c.in-None.ensures.lookup).3
