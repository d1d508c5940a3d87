use Rattle.std.proofs.Common.{ap, ◌∙◌}
use Rattle.symbolic_terms.specs.Meanings.{words_of}
use Rattle.symbolic_terms.specs.declared.outcomes.Outcome.TheVariants.{Goes}
use Rattle.symbolic_leaving.specs.Source.{units_of}
use Rattle.note_landing.specs.Shown.{types_by, place_by, outcome_by}
use Rattle.body_notes.proofs.Called.{calls_at, calls_from}
use Rattle.body_notes.proofs.callees.calling.Goals as goal

pub returns-clause-is : goal.returns-clause-is
returns-clause-is c m a name all types named =
    let b = c.args.body.now in
    let n = c.number_of-number.result in
    let there = c.in-Goes-Calls-default in
    let before = c.in_ok-behind.ensures.grows (types_by b) m a in
    calls_at b m c.args.notes.now _ _ (place_by b m c.args.place) all types (outcome_by b m c.args.outcome) name c.args.count c.args.callee n c.func_takes.result
    (words_of m c.in-Some.taken.words) (words_of m there.own) (words_of m c.in-Some.taken.under) c.ends_of-ends.result there.rest (place_by b m c.with_operands-under.result)
    c.number_of-number.ensures
    (calls_from b m c.args.outcome there.called there.own there.rest n (there.is ∙ ap (λ z. Goes z there.rest) (rw there.is at there.field-0-is)) (c.is_known.ensures c.if-not-is_known.false (types_by b) m (units_of b.source)))
    (c.equal_lists.ensures.shows c.if-not-equal_lists.false (types_by b) m before)
    ((rw c.in-Some.is at c.in_ok-taken.ensures) (types_by b) m)
    c.func_takes.ensures c.if-func_takes-count.false c.ends_of-ends.ensures.gives c.ends_of-ends.ensures.stops
    (c.with_operands-under.ensures (types_by b) m) (c.in_ok-behind.ensures.is m a) named
