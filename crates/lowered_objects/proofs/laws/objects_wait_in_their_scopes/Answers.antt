use Rattle.lowered_objects.proofs.Received.{received}
use Rattle.lowered_objects.proofs.laws.objects_wait_in_their_scopes.Goals as goal

pub returns : goal.returns
returns c = λ g number owner always address id first placed m items d chain receiving es ts.
    (received g number always address id first placed owner d chain receiving).put es ts
