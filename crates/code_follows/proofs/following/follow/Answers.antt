use Rattle.std.proofs.lemmas.Result.{IfOk-weaker}
use Rattle.code_follows.proofs.following.follow.Goals as goal

pub returns-in-Bin-clause-is : goal.returns-in-Bin-clause-is
returns-in-Bin-clause-is c = rw c.in-Bin.is (IfOk-weaker c.operates_kind.result _ _ (λ n h types m p f sigs slots a. h types m p f a) c.operates_kind.ensures.is)
