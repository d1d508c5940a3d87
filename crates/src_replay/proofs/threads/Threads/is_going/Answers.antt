use Rattle.std.proofs.Common.{ap, sym}
use Rattle.src_replay.specs.Entries.{is_going}
use Rattle.src_replay.proofs.ThreadLists.{found_at, none_at}
use Rattle.src_replay.proofs.threads.Threads.is_going.Goals as goal

pub returns-in-Some : goal.returns-in-Some
returns-in-Some c = let found = c.in-Some.ensures.lookup in
    sym (ap is_going (found_at c.args.self.now.alive.items c.deref.result.now c.args.t c.in-Some.alive.now c.deref.ensures.value found.3.0 found.1))

pub returns-in-None : goal.returns-in-None
returns-in-None c = sym (ap is_going (none_at c.args.self.now.alive.items c.deref.result.now c.args.t c.deref.ensures.value c.in-None.ensures.lookup.3))
