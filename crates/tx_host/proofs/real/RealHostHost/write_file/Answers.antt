use Rattle.std.proofs.Common.{rules}
use Rattle.tx_host.proofs.Parts.{untold_set, one_more_counts}
use Rattle.tx_host.proofs.real.RealHostHost.write_file.Goals as goal

pub returns-clause-failed : goal.returns-clause-failed
returns-clause-failed g c = search (rules, untold_set, one_more_counts)
