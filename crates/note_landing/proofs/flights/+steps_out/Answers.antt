use Rattle.symbolic_terms.specs.Meanings.{thrown_of}
use Rattle.symbolic_leaving.specs.Answers.{answers_at}
use Rattle.note_landing.specs.Shown.{linked_by, func_by, outcome_by}
use Rattle.note_landing.proofs.Landed.{out_further}
use Rattle.note_landing.proofs.flights.+steps_out.Goals as goal

pub returns-clause-is : goal.returns-clause-is
returns-clause-is t c m a =
    let b = c.args.body.now in
    out_further (linked_by b) (func_by b) (answers_at b.source c.args.answers) c.in_ok-steps.steps c.in_ok-more.more (outcome_by b m c.args.outcome) (outcome_by b m c.in_ok-next.next) (thrown_of m c.args.exception) c.in_ok-more.ensures (c.in_ok-next.ensures.is m (c.in_ok-steps.ensures.grows _ m a)) (c.in_ok-steps.ensures.is m a)
