use Rattle.std.proofs.Common.{refl, ap, ◌∙◌}
use Rattle.symbolic_terms.specs.Meanings.{word_of, words_of}
use Rattle.symbolic_terms.specs.Shown.{callee_of}
use Rattle.symbolic_terms.specs.declared.outcomes.Outcome.TheVariants.{Goes}
use Rattle.symbolic_leaving.specs.Source.{units_of}
use Rattle.note_landing.specs.Shown.{types_by, place_by, outcome_by}
use Rattle.body_notes.proofs.Called.{found_at}
use Rattle.body_notes.proofs.callees.calling_found.Goals as goal

pub returns-clause-is : goal.returns-clause-is
returns-clause-is c m a all types =
    let b = c.args.body.now in
    let there = c.in-Goes-Calls-default in
    let found = c.in_ok-behind.ensures.grows (types_by b) m a in
    let before = c.in_ok-finds.ensures.grows (types_by b) m found in
    found_at b m c.args.notes.now _ _ (place_by b m c.args.place) all types (outcome_by b m c.args.outcome) c.args.name c.args.count (callee_of (types_by b) m (units_of b.source) there.callee) _ (word_of m c.in-More.address)
    (words_of m c.in-Some.taken.words) (words_of m there.own) (words_of m c.in-More.others.now) (words_of m c.in-Some.taken.under) _ there.rest (place_by b m c.with_operands-under.result)
    (ap (λ z. outcome_by b m z) (there.is ∙ ap (λ z. Goes z there.rest) (rw there.is at there.field-0-is)))
    (c.equal_lists.ensures.shows c.if-not-equal_lists.false (types_by b) m before)
    ((rw c.in-Some.is at c.in_ok-taken.ensures) (types_by b) m)
    (ap (λ z. words_of m z) c.in-More.is) (c.in_ok-finds.ensures.is c.if-not-branch.false m found c.args.notes.now) refl
    (c.with_operands-under.ensures (types_by b) m) (c.in_ok-behind.ensures.is m a)
