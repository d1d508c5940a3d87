use Rattle.std.proofs.lemmas.Result.{err_from_is_err_and}
use Rattle.std.proofs.lemmas.List.{map_push}
use Rattle.std.proofs.Common.{map}
use Rattle.tx_code.specs.Objects.{class_view}
use Rattle.tx_code.specs.Objects.{ClassView}
use Rattle.object_bytes.specs.Fields.{class}
use Rattle.object_file.proofs.Loop.{begins, goes_on, ends, is_done}
use Rattle.object_file.proofs.classes.classes_at.Goals as goal

pub loop-init : goal.loop-init
loop-init c = rw c.new-classes.ensures.items (begins (λ (x : ClassView). x.name) (class c.args.names) _ _ _ c.in_ok-count.ensures)

pub returns-in_err-class : goal.returns-in_err-class
returns-in_err-class c =
    let p = err_from_is_err_and c.from_residual-in_err-class.result c.from_residual-in_err-class.ensures.1 in
    rw (p.1, p.2) (ends (λ (x : ClassView). x.name) (class c.args.names) c.in_err-class.field-0.0
    (map class_view c.loop.classes.items) c.loop.before _ _ _ _ c.loop-test.true c.in_err-class.ensures c.loop.invariant)

pub loop-preserved : goal.loop-preserved
loop-preserved c =
    rw (c.in_ok-push.ensures.items, map_push class_view c.loop.classes.items c.in_ok-class.class)
    (goes_on (λ (x : ClassView). x.name) (class c.args.names) (map class_view c.loop.classes.items) c.loop.before _ _ _
    (class_view c.in_ok-class.class) _ _ c.loop-test.true c.in_ok-class.ensures c.loop.invariant)

pub returns : goal.returns
returns c = is_done (λ (x : ClassView). x.name) (class c.args.names)
    (map class_view c.loop.classes.items) c.loop.before _ _ _ _ c.loop-test.false c.loop.invariant
