use Rattle.std.proofs.Common.{refl}
use Rattle.tx_memory.specs.View.{layout_of}
use Rattle.src_replay.specs.Shown.{world_of}
use Rattle.src_mean.specs.Source.{source}
use Rattle.src_replay.proofs.Arms.{set_world}
use Rattle.src_replay.proofs.world.World.goes.Goals as goal

pub returns-clause-went : goal.returns-clause-went
returns-clause-went c = λ program s stand at.
    let self = c.args.self.now in
    let set = c.in_ok-go_on.ensures.set program (layout_of self.memory) s stand at in
    record {
      taken = refl;
      world = set_world (world_of self) program (layout_of self.memory) c.args.t
          (record { state = (source program).after s c.args.reply; ended = _ }) self.threads.alive.items c.go_on.new.self.alive.items set;
      stays = record { stands = set.stand; layout = refl };
      left = refl;
    }
