use Rattle.std.proofs.Common.{rules}
use Rattle.body_notes.proofs.checked.named.Goals as goal

pub returns-clause-is : goal.returns-clause-is
returns-clause-is c m a all types = (c.in_ok-calling.ensures.is m a c.args.func all types (search rules)).calling
