use Rattle.std.proofs.Common.{None}
use Rattle.src_replay.proofs.ThreadLists.{found_at, none_at, joined}
use Rattle.src_replay.proofs.threads.Threads.target_number.Goals as goal

pub returns-in-Some : goal.returns-in-Some
returns-in-Some c =
    let found = c.in-Some.ensures.lookup in
    joined c.args.self.now.alive.items c.args.t c.args.number _ c.if-number-eq0.false c.if-number-t.false
    (found_at c.args.self.now.alive.items c.deref.result.now c.args.number c.in-Some.alive.now c.deref.ensures.value found.3.0 found.1)

pub returns-in-None : goal.returns-in-None
returns-in-None c = joined c.args.self.now.alive.items c.args.t c.args.number None c.if-number-eq0.false c.if-number-t.false
    (none_at c.args.self.now.alive.items c.deref.result.now c.args.number c.deref.ensures.value c.in-None.ensures.lookup.3)
