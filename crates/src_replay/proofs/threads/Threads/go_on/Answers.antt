use Rattle.src_replay.proofs.Results.{on_ok}
use Rattle.src_replay.proofs.ThreadLists.{gone_on}
use Rattle.src_replay.proofs.threads.Threads.go_on.Goals as goal

pub returns-clause-set : goal.returns-clause-set
returns-clause-set c = λ program p s stand at.
    on_ok c.go_on.result (gone_on program p c.args.self.now.alive.items c.args.t c.index_mut-alive.result.now s c.go_on.new.self c.args.reply c.requires
    c.index_mut-alive.ensures.value stand at c.go_on.ensures.program) c.go_on.ensures.state
