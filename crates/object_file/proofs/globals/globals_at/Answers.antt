use Rattle.std.proofs.lemmas.Result.{err_from_is_err_and}
use Rattle.std.proofs.lemmas.List.{map_push}
use Rattle.std.proofs.Common.{map}
use Rattle.tx_code.specs.Objects.{global_view}
use Rattle.tx_code.specs.Objects.{GlobalView}
use Rattle.object_bytes.specs.Fields.{global}
use Rattle.object_file.proofs.Loop.{begins, goes_on, ends, is_done}
use Rattle.object_file.proofs.globals.globals_at.Goals as goal

pub loop-init : goal.loop-init
loop-init c = rw c.new-globals.ensures.items (begins (λ (x : GlobalView). x.symbol) (global c.args.names) _ _ _ c.in_ok-count.ensures)

pub returns-in_err-global : goal.returns-in_err-global
returns-in_err-global c =
    let p = err_from_is_err_and c.from_residual-in_err-global.result c.from_residual-in_err-global.ensures.1 in
    rw (p.1, p.2) (ends (λ (x : GlobalView). x.symbol) (global c.args.names) c.in_err-global.field-0.0
    (map global_view c.loop.globals.items) c.loop.before _ _ _ _ c.loop-test.true c.in_err-global.ensures c.loop.invariant)

pub loop-preserved : goal.loop-preserved
loop-preserved c =
    rw (c.in_ok-push.ensures.items, map_push global_view c.loop.globals.items c.in_ok-global.global)
    (goes_on (λ (x : GlobalView). x.symbol) (global c.args.names) (map global_view c.loop.globals.items) c.loop.before _ _ _
    (global_view c.in_ok-global.global) _ _ c.loop-test.true c.in_ok-global.ensures c.loop.invariant)

pub returns : goal.returns
returns c = is_done (λ (x : GlobalView). x.symbol) (global c.args.names)
    (map global_view c.loop.globals.items) c.loop.before _ _ _ _ c.loop-test.false c.loop.invariant
