use Rattle.std.proofs.lemmas.Result.{err_from_is_err_and}
use Rattle.object_bytes.specs.Fields.{name_or_none}
use Rattle.object_file.proofs.Loop.{each_begins, each_goes_on, each_ends, each_is_done}
use Rattle.object_file.proofs.classes.slots_at.Goals as goal

pub loop-init : goal.loop-init
loop-init c = rw c.new-slots.ensures.items (each_begins (name_or_none c.args.names) _ _ _ c.in_ok-count.ensures)

pub returns-in_err-slot : goal.returns-in_err-slot
returns-in_err-slot c =
    let p = err_from_is_err_and c.from_residual-in_err-slot.result c.from_residual-in_err-slot.ensures.1 in
    rw (p.1, p.2) (each_ends (name_or_none c.args.names) c.in_err-slot.field-0.0 _ _ _ _ _ c.loop-test.true c.in_err-slot.ensures c.loop.invariant)

pub loop-preserved : goal.loop-preserved
loop-preserved c = rw c.in_ok-push.ensures.items (each_goes_on (name_or_none c.args.names) _ _ _ _ _ _ _ c.loop-test.true c.in_ok-slot.ensures c.loop.invariant)

pub returns : goal.returns
returns c = each_is_done (name_or_none c.args.names) _ _ _ _ _ c.loop-test.false c.loop.invariant
