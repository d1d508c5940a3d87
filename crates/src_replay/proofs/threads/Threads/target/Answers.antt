use Rattle.std.proofs.Common.{subst, sym, w32}
use Rattle.std.specs.Int.{FitsUnsignedBits}
use Rattle.std.proofs.lemmas.Int.{to_z-of_z}
use Rattle.src_replay.proofs.ThreadLists.{no_target}
use Rattle.src_replay.proofs.threads.Threads.target.Goals as goal

pub returns-in-Err : goal.returns-in-Err
returns-in-Err c = λ few. no_target c.args.self.now.alive.items c.args.t c.args.id few
    (λ f. c.in-Err.ensures (subst (FitsUnsignedBits 8) (sym (to_z-of_z w32 c.args.id c.ranges.id)) f))
