use Rattle.tx_events.proofs.Locality.{rest_kept, stored_accessed}
use Rattle.tx_events.proofs.laws.stores_only.Goals as goal

pub returns-clause-rest : goal.returns-clause-rest
returns-clause-rest g c = λ p s m alone. rest_kept g.A.Actor.thread p s m alone

pub returns-clause-accessed : goal.returns-clause-accessed
returns-clause-accessed g c = λ p s m alone. stored_accessed g.A.Actor.thread p s m alone.run
