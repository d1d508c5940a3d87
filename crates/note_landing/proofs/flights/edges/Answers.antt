use Rattle.std.proofs.Common.{rules, ap, ◌∙◌}
use Rattle.symbolic_terms.specs.declared.outcomes.Outcome.TheVariants.{Goes}
use Rattle.symbolic_leaving.specs.Source.{units_of}
use Rattle.note_landing.specs.Shown.{types_by, func_by, outcome_by}
use Rattle.note_landing.proofs.Flown.{edges_as}
use Rattle.note_landing.proofs.flights.edges.Goals as goal

pub returns-in_ok-land_behind-in-Goes-Does-default-clause-is : goal.returns-in_ok-land_behind-in-Goes-Does-default-clause-is
returns-in_ok-land_behind-in-Goes-Does-default-clause-is c m a =
    let there = c.in_ok-land_behind-in-Goes-Does-default.ensures.grows _ m a in
    let left = c.in_ok-place-in-Goes-Does-default.ensures.grows _ m there in
    edges_as c.args.body.now m c.args.notes.now _ _ _ _ _ _ _ _ _ _ _ _ _ _ (c.in_ok-ahead.ensures.is m left) (ap (λ z. outcome_by c.args.body.now m z) (c.in-Goes-Does-default.is ∙ ap (λ z. Goes z c.in-Goes-Does-default.rest) (rw c.in-Goes-Does-default.is at c.in-Goes-Does-default.field-0-is))) (c.is_left.ensures (search rules) (types_by c.args.body.now) m (units_of c.args.body.now.source) (func_by c.args.body.now) left) c.in_ok-_short.ensures.sum c.in_ok-_short.ensures.short (c.in_ok-place-in-Goes-Does-default.ensures.is c.args.body.now m there) (c.in_ok-land_behind-in-Goes-Does-default.ensures.is m a)
