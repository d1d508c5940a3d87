use Rattle.elab_laws.proofs.Calling.{calls_law}
use Rattle.elab_laws.proofs.call_laws.calls.Goals as goal

pub returns : goal.returns
returns c = calls_law
