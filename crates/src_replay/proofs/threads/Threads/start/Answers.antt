use Rattle.std.proofs.Common.{◌∙◌, ap, subst, sym, w64}
use Rattle.std.proofs.lemmas.Int.{to_z-of_z}
use Rattle.src_mean.specs.Source.{source}
use Rattle.src_thread.specs.Thread.{program_of, shown}
use Rattle.src_replay.specs.Shown.{IsMore}
use Rattle.src_replay.proofs.ThreadLists.{begun}
use Rattle.src_replay.proofs.threads.Threads.start.Goals as goal

pub returns-clause-more : goal.returns-clause-more
returns-clause-more c = λ program p s stand at.
    let x = c.index-alive.result.now in
    subst (IsMore program ((source program).child s c.args.number c.args.func c.args.arg) c.args.self.now.alive.items) (sym c.in_ok-push.ensures.items)
    (begun program p c.args.self.now.alive.items c.args.t x s c.in_ok-thread.thread c.args.number c.args.func c.args.arg c.requires c.index-alive.ensures stand
    at c.in_ok-thread.ensures.program
    (c.in_ok-thread.ensures.state ∙ ap (λ z. (source (program_of x.thread)).child (shown x.thread) c.args.number c.args.func z)
    (to_z-of_z w64 c.args.arg c.ranges.arg)))
