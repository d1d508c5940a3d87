use Rattle.std.proofs.lemmas.Result.{err_from_is_err_and}
use Rattle.object_bytes.specs.Fields.{line_row}
use Rattle.object_file.proofs.Loop.{begins, goes_on, ends, is_done}
use Rattle.object_file.proofs.bodies.lines_at.Goals as goal

pub loop-init : goal.loop-init
loop-init c = rw c.new-lines.ensures.items (begins (λ x. x) (line_row c.args.instrs) _ _ _ c.in_ok-count.ensures)

pub returns-in_err-line : goal.returns-in_err-line
returns-in_err-line c =
    let p = err_from_is_err_and c.from_residual-in_err-line.result c.from_residual-in_err-line.ensures.1 in
    rw (p.1, p.2)
    (ends (λ x. x) (line_row c.args.instrs) c.in_err-line.field-0.0 _ c.loop.before _ _ _ _ c.loop-test.true c.in_err-line.ensures c.loop.invariant)

pub loop-preserved : goal.loop-preserved
loop-preserved c = rw c.in_ok-push.ensures.items (goes_on (λ x. x)
    (line_row c.args.instrs) _ c.loop.before _ _ _ _ _ _ c.loop-test.true c.in_ok-line.ensures c.loop.invariant)

pub returns : goal.returns
returns c = is_done (λ x. x) (line_row c.args.instrs) _ c.loop.before _ _ _ _ c.loop-test.false c.loop.invariant
