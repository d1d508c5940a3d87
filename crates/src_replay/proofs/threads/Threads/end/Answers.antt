use Rattle.src_replay.proofs.ThreadLists.{over}
use Rattle.src_replay.proofs.threads.Threads.end.Goals as goal

pub returns : goal.returns
returns c = λ program p s stand at. over program p c.args.self.now.alive.items c.args.t c.index_mut-alive.result.now s c.requires
    c.index_mut-alive.ensures.value stand at
