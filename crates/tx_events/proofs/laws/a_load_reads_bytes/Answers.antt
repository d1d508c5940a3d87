use Rattle.tx_events.proofs.ByteLemmas.{load_bytes}
use Rattle.tx_events.proofs.laws.a_load_reads_bytes.Goals as goal

pub returns : goal.returns
returns c = load_bytes
