-- The runs of an image are runs of a linked program's source.
use Rattle.std.specs.Prelude.{ℕ, List}
use Rattle.tx_code.specs.Images.{ImageView}
use Rattle.tx_machine.specs.ImageRuns.{layout_of_image, first_words}
use Rattle.tx_machine.specs.declared.run.Ran.{Ran}
use Rattle.tx_serial.specs.Laws.{Replayed}
use Rattle.tx_serial.specs.Run.{Outcome}
use Rattle.tx_events.specs.World.{first_world}
use Rattle.choosers.specs.Answers as policies
use Rattle.choosers.specs.Picks as pickers
use Rattle.named_runs.specs.NamedRuns.{IsNamedRun}
use Rattle.source_runs.specs.Sources.{RunsTo}
use Rattle.src_bind.specs.Tables.{Given}
use Rattle.vm_thread.specs.Threads.{Running, running, at_main}
use Rattle.vm_thread.specs.declared.thread.Here.{Here}

-- What a run of the image comes to is what a run of the source does, in the order that the run answers: the same output and the same end. So it is of each run
-- whose order replays, and of the record of a run under a picker and a policy that have names.
pub record RunsAsSource (g : Given) (i : ImageView) : Type 0 where
  pub replayed : (input : List ℕ) (outcome : Outcome Running) → Replayed running (layout_of_image i) (first_world (first_words i) input (at_main i)) outcome
      → RunsTo g input outcome.order outcome.out outcome.end
  pub named : (picker : pickers.PickerName) (policy : policies.PolicyName) (bound : ℕ) (input : List ℕ) (ran : Ran Here)
      → IsNamedRun i picker policy bound input ran → RunsTo g input ran.order.items ran.out.items ran.end
