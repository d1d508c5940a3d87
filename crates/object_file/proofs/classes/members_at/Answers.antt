use Rattle.std.proofs.lemmas.Result.{err_from_is_err_and}
use Rattle.object_bytes.specs.Fields.{member}
use Rattle.object_file.proofs.Loop.{each_begins, each_goes_on, each_ends, each_is_done}
use Rattle.object_file.proofs.classes.members_at.Goals as goal

pub loop-init : goal.loop-init
loop-init c = rw c.new-members.ensures.items (each_begins (member c.args.names) _ _ _ c.in_ok-count.ensures)

pub returns-in_err-member : goal.returns-in_err-member
returns-in_err-member c =
    let p = err_from_is_err_and c.from_residual-in_err-member.result c.from_residual-in_err-member.ensures.1 in
    rw (p.1, p.2) (each_ends (member c.args.names) c.in_err-member.field-0.0 _ _ _ _ _ c.loop-test.true c.in_err-member.ensures c.loop.invariant)

pub loop-preserved : goal.loop-preserved
loop-preserved c = rw c.in_ok-push.ensures.items (each_goes_on (member c.args.names) _ _ _ _ _ _ _ c.loop-test.true c.in_ok-member.ensures c.loop.invariant)

pub returns : goal.returns
returns c = each_is_done (member c.args.names) _ _ _ _ _ c.loop-test.false c.loop.invariant
