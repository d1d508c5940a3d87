use Rattle.src_replay.proofs.ThreadLists.{next_event}
use Rattle.src_replay.proofs.threads.Threads.next.Goals as goal

pub returns : goal.returns
returns c = λ s at. next_event c.args.self.now.alive.items c.args.t c.index-alive.result.now s c.next.result c.requires c.index-alive.ensures at c.next.ensures
