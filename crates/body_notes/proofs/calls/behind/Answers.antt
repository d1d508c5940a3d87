use Rattle.symbolic_leaving.specs.Source.{units_of}
use Rattle.note_landing.specs.Shown.{types_by, func_by}
use Rattle.std.proofs.Common.{rules, arith, sym, ◌∙◌}
use Rattle.std.proofs.lemmas.Bool.{true≢false}
use Rattle.body_notes.proofs.Behind.{left_behind}
use Rattle.body_notes.proofs.calls.behind.Goals as goal

pub returns-then-ends-clause-is : goal.returns-then-ends-clause-is
returns-then-ends-clause-is c m back =
    let before = c.in_ok-back_with.ensures.grows _ m back in
    left_behind c.args.body.now m c.args.notes.now _ _ _ _ _ _ (omega arith) (c.in_ok-back_with.ensures.is m back) (λ e. absurd (true≢false (sym c.if-ends.true ∙ e))) (c.in_ok-has_blocks.ensures (search rules) (types_by c.args.body.now) m (units_of c.args.body.now.source) (func_by c.args.body.now)) (c.has_caught.ensures (search rules) (types_by c.args.body.now) m (units_of c.args.body.now.source) (func_by c.args.body.now) before) (c.in_ok-has_thrown.ensures (search rules) m before)

pub returns-clause-is : goal.returns-clause-is
returns-clause-is c m a =
    let back = c.in_ok-rises.ensures.grows _ m a in
    let before = c.in_ok-back_with.ensures.grows _ m back in
    left_behind c.args.body.now m c.args.notes.now _ _ _ _ _ _ (omega arith) (c.in_ok-back_with.ensures.is m back) (λ e. c.in_ok-rises.ensures.is m a) (c.in_ok-has_blocks.ensures (search rules) (types_by c.args.body.now) m (units_of c.args.body.now.source) (func_by c.args.body.now)) (c.has_caught.ensures (search rules) (types_by c.args.body.now) m (units_of c.args.body.now.source) (func_by c.args.body.now) before) (c.in_ok-has_thrown.ensures (search rules) m before)
