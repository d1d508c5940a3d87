use Rattle.body_notes.proofs.checked.pointed.Goals as goal

pub returns-clause-is : goal.returns-clause-is
returns-clause-is c m a all types = c.in_ok-calling_found.ensures.is m a all types
