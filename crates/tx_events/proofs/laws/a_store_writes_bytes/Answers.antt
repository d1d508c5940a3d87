use Rattle.tx_events.proofs.ByteLemmas.{store_bytes, store_others, store_fits}
use Rattle.tx_events.proofs.laws.a_store_writes_bytes.Goals as goal

pub returns-clause-written : goal.returns-clause-written
returns-clause-written c = store_bytes

pub returns-clause-others : goal.returns-clause-others
returns-clause-others c = store_others

pub returns-clause-fits : goal.returns-clause-fits
returns-clause-fits c = store_fits
