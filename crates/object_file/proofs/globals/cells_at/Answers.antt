use Rattle.std.proofs.lemmas.Result.{err_from_is_err_and}
use Rattle.object_bytes.specs.Fields.{cell}
use Rattle.object_file.proofs.Loop.{starts, goes_on, ends, is_done}
use Rattle.object_file.proofs.globals.cells_at.Goals as goal

pub loop-init : goal.loop-init
loop-init c = rw c.new-cells.ensures.items (starts (λ x. x) (cell c.args.names c.args.global_size) _ _)

pub returns-in_err-cell : goal.returns-in_err-cell
returns-in_err-cell c =
    let p = err_from_is_err_and c.from_residual.result c.from_residual.ensures.1 in
    rw (p.1, p.2)
    (ends (λ x. x)
    (cell c.args.names c.args.global_size) c.in_err-cell.field-0.0 _ c.loop.before _ _ _ _ c.loop-test.true c.in_err-cell.ensures c.loop.invariant)

pub loop-preserved : goal.loop-preserved
loop-preserved c = rw c.in_ok-push.ensures.items (goes_on (λ x. x)
    (cell c.args.names c.args.global_size) _ c.loop.before _ _ _ _ _ _ c.loop-test.true c.in_ok-cell.ensures c.loop.invariant)

pub returns : goal.returns
returns c = is_done (λ x. x) (cell c.args.names c.args.global_size) _ c.loop.before _ _ _ _ c.loop-test.false c.loop.invariant
