use Rattle.lowered_frames.proofs.Matching.{block_matches, call_matches}
use Rattle.lowered_frames.proofs.laws.scopes_match_still.Goals as goal

pub returns-clause-blocks : goal.returns-clause-blocks
returns-clause-blocks c = λ g always address id first m items d chain e w. block_matches g always address id first d chain e w

pub returns-clause-calls : goal.returns-clause-calls
returns-clause-calls c = λ g address id first m items d chain e w. call_matches g address id first d chain e w
