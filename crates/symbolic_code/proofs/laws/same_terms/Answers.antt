use Rattle.symbolic_code.proofs.SameTerms.{term_same}
use Rattle.symbolic_code.proofs.laws.same_terms.Goals as goal

pub returns : goal.returns
returns c = λ a b e. term_same a b e
