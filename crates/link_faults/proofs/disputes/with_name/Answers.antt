use Rattle.std.proofs.Common.{nat_eq, ◌&&◌, ◌||◌, sym, ap}
use Rattle.link_faults.proofs.FirstClaims.{same_least, one_symbol, and_true}
use Rattle.link_faults.proofs.disputes.with_name.Goals as goal

pub returns-then-passes-clause-least : goal.returns-then-passes-clause-least
returns-then-passes-clause-least c = λ p h.
    same_least (λ k. p k || nat_eq c.args.name k) (λ k. p k || (nat_eq c.args.name k && c.args.passes))
    (λ k. rw c.if-passes.true (ap (λ b. p k || b) (sym (and_true (nat_eq c.args.name k))))) c.lesser.result
    (c.lesser.ensures.least p (λ k. nat_eq c.args.name k) h (one_symbol c.args.name))
