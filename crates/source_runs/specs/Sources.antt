-- A run of a program's source.
use Rattle.std.specs.Prelude.{◌≡◌, ◌≤◌, ℕ, List, Option, Some, None}
use Rattle.src_bind.specs.Tables.{Given}
use Rattle.src_mean.specs.Cost.{cost}
use Rattle.src_mean.specs.Frames.{State}
use Rattle.src_mean.specs.Source.{source}
use Rattle.src_replay.specs.Orders.{program_in, layout_in, first_in}
use Rattle.tx_events.specs.World.{World, Replays}
use Rattle.tx_events.specs.declared.End.{End}
use Rattle.tx_events.specs.declared.End.TheVariants.{StepsOut}

-- the end that a world has, or StepsOut where it has none
abbrev pub end_in : Option End → End
end_in None = StepsOut
end_in (Some end) = end

-- Run in this order, each entry one step of a thread of the source or one whole outermost atomic block, the linked program writes this and ends so.
pub record RunsTo (g : Given) (input order out : List ℕ) (end : End) : Type 0 where
  pub world : World State
  pub replays : Replays (source (program_in g)) (layout_in g) (first_in g input) order world
  pub out_is : out ≡ world.out
  pub end_is : end ≡ end_in world.end

-- and the threads take no more than so many steps, each silent one and each event counted as one
pub record RunsWithin (most : ℕ) (g : Given) (input order out : List ℕ) (end : End) : Type 0 where
  pub runs : RunsTo g input order out end
  pub within : cost (source (program_in g)) (layout_in g) (first_in g input) order runs.world runs.replays ≤ most

-- and so many threads are started in it, thread 0 among them
pub record RunsWith (started most : ℕ) (g : Given) (input order out : List ℕ) (end : End) : Type 0 where
  pub run : RunsWithin most g input order out end
  pub started_is : started ≡ run.runs.world.started
