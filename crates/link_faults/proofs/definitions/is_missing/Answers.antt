use Rattle.link_faults.proofs.KeptDefinitions.{missing_none, missing_some}
use Rattle.link_faults.proofs.definitions.is_missing.Goals as goal

pub returns-in-None : goal.returns-in-None
returns-in-None c = λ entries h. missing_none entries c.args.entry c.args.definition c.if-entry.false c.if-entry-eq1.false c.in-None.is h

pub returns-in-Some : goal.returns-in-Some
returns-in-Some c = λ entries h. missing_some entries c.args.entry c.args.definition c.in-Some.field-0 c.if-entry.false c.if-entry-eq1.false c.in-Some.is h
