-- What a run of an image comes to, its source comes to.
use Rattle.std.proofs.Common.{ℕ, ◌≡◌, ◌≤◌, ap, sym, subst, List, Option, Some, None, arith}
use Rattle.std.proofs.Math.Path.{fun_ext}
use Rattle.body_check.specs.Notes.{Bounds}
use Rattle.body_check.specs.Calls.{Book}
use Rattle.linked_runs.proofs.OneImage.{running_runs}
use Rattle.choosers.specs.Answers as policies
use Rattle.choosers.specs.Picks as pickers
use Rattle.linked_images.specs.LinkedImages.{IsLinkedFrom}
use Rattle.linked_runs.specs.SourceRuns.{RunsAsSource}
use Rattle.named_runs.specs.NamedRuns.{IsNamedRun}
use Rattle.source_runs.specs.Sources.{RunsTo, end_in}
use Rattle.src_bind.specs.Tables.{Given, typed}
use Rattle.src_mean.specs.Frames.{State as SourceState}
use Rattle.src_mean.specs.Links.{first_cells}
use Rattle.src_mean.specs.Source.{source, main_state}
use Rattle.src_replay.specs.Orders.{program_in, layout_in}
use Rattle.tx_code.specs.Images.{ImageView}
use Rattle.tx_events.specs.declared.End.{End}
use Rattle.tx_events.specs.declared.TheConstants.{THREAD_LIMIT}
use Rattle.tx_events.specs.Memory.{MemoryLayout, no_bytes, with_cells}
use Rattle.tx_events.specs.Same.{with_threads}
use Rattle.tx_events.specs.World.{World, Replays, first_world}
use Rattle.tx_machine.specs.ImageRuns.{layout_of_image, first_words}
use Rattle.tx_machine.specs.declared.run.Ran.{Ran}
use Rattle.tx_serial.specs.Laws.{Replayed, EndsAs}
use Rattle.tx_serial.specs.Run.{Outcome}
use Rattle.vm_thread.specs.Threads.{Running, running, at_main}
use Rattle.vm_thread.specs.declared.thread.Here.{Here}

end_of : (o : Option End) (e : End) → EndsAs o e → e ≡ end_in o
end_of None e h = h
end_of (Some end) e h = h

module _ (g : Given) (i : ImageView) (b : Bounds) (book : Book) (is : IsLinkedFrom g i b book) where
  same_layout : layout_of_image i ≡ layout_in g
  same_layout = ap (λ z. record { globals = z; limit = THREAD_LIMIT }) is.globals.size

  same_memory : first_words i ≡ with_cells no_bytes (first_cells (typed g) (program_in g))
  same_memory = fun_ext is.globals.words

  few : THREAD_LIMIT ≤ THREAD_LIMIT
  few = omega arith

  abbrev Comes : MemoryLayout → (ℕ → ℕ) → List ℕ → List ℕ → World SourceState → Type 0
  Comes layout memory input order world = Replays (source (program_in g)) layout (first_world memory input (main_state (program_in g))) order world

  pub runs_to : (input : List ℕ) (outcome : Outcome Running) → Replayed running (layout_of_image i) (first_world (first_words i) input (at_main i)) outcome
      → RunsTo g input outcome.order outcome.out outcome.end
  runs_to input outcome r =
      let l = running_runs (program_in g) i b book is.code (layout_of_image i) few (first_words i) input outcome.order r.world r.replays in
      record {
        world = with_threads r.world l.0;
        replays = subst (λ z. Comes (layout_in g) z input outcome.order (with_threads r.world l.0)) same_memory
            (subst (λ z. Comes z (first_words i) input outcome.order (with_threads r.world l.0)) same_layout l.1);
        out_is = r.out;
        end_is = end_of r.world.end outcome.end r.end;
      }

  module _ (picker : pickers.PickerName) (policy : policies.PolicyName) (bound : ℕ) (input : List ℕ) (ran : Ran Here)
      (run : IsNamedRun i picker policy bound input ran) where
    pub named_runs_to : RunsTo g input ran.order.items ran.out.items ran.end
    named_runs_to = subst (λ z. RunsTo g input ran.order.items ran.out.items z) (sym run.is.end)
        (subst (λ z. RunsTo g input ran.order.items z run.outcome.end) (sym run.is.out)
        (subst (λ z. RunsTo g input z run.outcome.out run.outcome.end) (sym run.is.order) (runs_to input run.outcome run.replayed)))

  pub runs_as_source : RunsAsSource g i
  runs_as_source = record {
    replayed = λ input outcome r. runs_to input outcome r;
    named = λ picker policy bound input ran run. named_runs_to picker policy bound input ran run;
  }
