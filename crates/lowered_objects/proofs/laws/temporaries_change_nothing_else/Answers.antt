use Rattle.std.proofs.Common.{true}
use Rattle.lowered_objects.proofs.Temporaries.{wider}
use Rattle.lowered_objects.proofs.laws.temporaries_change_nothing_else.Goals as goal

pub returns-clause-frames : goal.returns-clause-frames
returns-clause-frames c = λ g number offset id first m items d chain within es ts. (wider g number true offset id first d chain within).frames_so es ts

pub returns-clause-operands : goal.returns-clause-operands
returns-clause-operands c = λ g offset id first m items d chain within ts. (wider g (λ n. n) true offset id first d chain within).alike.lying ts

pub returns-clause-temporaries : goal.returns-clause-temporaries
returns-clause-temporaries c = λ g offset id first m items d chain within ts. (wider g (λ n. n) true offset id first d chain within).more ts
