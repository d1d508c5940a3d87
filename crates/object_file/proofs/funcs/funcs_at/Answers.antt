use Rattle.std.proofs.lemmas.Result.{err_from_is_err_and}
use Rattle.std.proofs.lemmas.List.{map_push}
use Rattle.std.proofs.Common.{map}
use Rattle.tx_code.specs.Objects.{func_view}
use Rattle.tx_code.specs.Objects.{FuncView}
use Rattle.object_bytes.specs.Fields.{func}
use Rattle.object_file.proofs.Loop.{begins, goes_on, ends, is_done}
use Rattle.object_file.proofs.funcs.funcs_at.Goals as goal

pub loop-init : goal.loop-init
loop-init c = rw c.new-funcs.ensures.items (begins (λ (x : FuncView). x.symbol) (func c.args.version c.args.names) _ _ _ c.in_ok-count.ensures)

pub returns-in_err-func : goal.returns-in_err-func
returns-in_err-func c =
    let p = err_from_is_err_and c.from_residual-in_err-func.result c.from_residual-in_err-func.ensures.1 in
    rw (p.1, p.2) (ends (λ (x : FuncView). x.symbol) (func c.args.version c.args.names) c.in_err-func.field-0.0
    (map func_view c.loop.funcs.items) c.loop.before _ _ _ _ c.loop-test.true c.in_err-func.ensures c.loop.invariant)

pub loop-preserved : goal.loop-preserved
loop-preserved c =
    rw (c.in_ok-push.ensures.items, map_push func_view c.loop.funcs.items c.in_ok-func.func)
    (goes_on (λ (x : FuncView). x.symbol) (func c.args.version c.args.names) (map func_view c.loop.funcs.items) c.loop.before _ _ _
    (func_view c.in_ok-func.func) _ _ c.loop-test.true c.in_ok-func.ensures c.loop.invariant)

pub returns : goal.returns
returns c = is_done (λ (x : FuncView). x.symbol) (func c.args.version c.args.names)
    (map func_view c.loop.funcs.items) c.loop.before _ _ _ _ c.loop-test.false c.loop.invariant
