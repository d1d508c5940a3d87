use Rattle.std.proofs.Common.{refl, ap, Some, ◌∙◌}
use Rattle.tx_events.specs.declared.Reply.TheVariants.{Nothing}
use Rattle.tx_events.specs.Memory.{update}
use Rattle.tx_events.specs.World.{alive}
use Rattle.tx_memory.specs.View.{layout_of}
use Rattle.src_mean.specs.Source.{source}
use Rattle.src_replay.specs.Shown.{world_of, threads_of}
use Rattle.src_replay.proofs.Moves.{update_at}
use Rattle.src_replay.proofs.Arms.{stands_in, shows_going, finished}
use Rattle.src_replay.proofs.world.World.finish.Goals as goal

pub returns-clause-took : goal.returns-clause-took
returns-clause-took c = λ program w s stand going e.
    let self = c.args.self.now in
    let t = c.args.t in
    let p = layout_of self.memory in
    let r = (source program).after s Nothing in
    let new = record self { threads = c.end.new.self } in
    let first = c.in_ok-go_on.ensures.set program p s stand (stands_in t w s (world_of self) e) in
    let second = c.end.ensures program p r first.stand (ap (λ f. f t) first.threads ∙ update_at (threads_of self.threads.alive.items) t (alive r)) in
    record {
      taken = refl;
      world = record w { threads = update w.threads t (Some (record { state = r; ended = _ })) };
      does = refl;
      shows = shows_going t w s program new _ (finished program p t w s r self new c.go_on.new.self.alive.items e first second refl);
      stays = record { stands = second.stand; layout = refl };
      left = refl;
    }
