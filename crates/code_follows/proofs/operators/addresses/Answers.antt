use Rattle.std.proofs.lemmas.Result.{IfOk-weaker}
use Rattle.symbolic_terms.specs.Shown.{facts_of}
use Rattle.code_follows.proofs.operators.addresses.Goals as goal

pub returns-in-Add-ULong : goal.returns-in-Add-ULong
returns-in-Add-ULong c = rw c.in-Add-ULong.is-0 (rw c.in-Add-ULong.is-1 (IfOk-weaker c.added.result _ _ (λ t h types m a. h types m (facts_of types m c.args.facts) a) c.added.ensures))

pub returns-in-Mul-ULong : goal.returns-in-Mul-ULong
returns-in-Mul-ULong c = rw c.in-Mul-ULong.is-0 (rw c.in-Mul-ULong.is-1 (IfOk-weaker c.multiplied.result _ _ (λ t h types m a. h types m (facts_of types m c.args.facts) a) c.multiplied.ensures))

pub returns-in-Eq-ULong : goal.returns-in-Eq-ULong
returns-in-Eq-ULong c = rw c.in-Eq-ULong.is-0 (rw c.in-Eq-ULong.is-1 (IfOk-weaker c.compared.result _ _ (λ t h types m a. h types m (facts_of types m c.args.facts) a) c.compared.ensures))
