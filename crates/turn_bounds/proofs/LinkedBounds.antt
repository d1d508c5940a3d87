-- The turns of linked images, told by the cost of their source.
use Rattle.std.proofs.Common.{ℕ, ◌≡◌, ◌≤◌, true, refl, ap, sym, ◌∙◌, subst, List, arith}
use Rattle.std.proofs.Math.Path.{fun_ext}
use Rattle.std.proofs.lemmas.Bool.{false≢true}
use Rattle.body_check.specs.Notes.{Bounds}
use Rattle.body_check.specs.Calls.{Book}
use Rattle.checked_runs.proofs.ImageCode.{image_begins}
use Rattle.choosers.specs.Answers as policies
use Rattle.choosers.specs.Picks as pickers
use Rattle.linked_images.specs.LinkedImages.{IsLinkedFrom}
use Rattle.named_runs.specs.NamedRuns.{IsNamedRun}
use Rattle.src_bind.specs.Tables.{Given, typed}
use Rattle.src_mean.specs.Links.{first_cells}
use Rattle.src_mean.specs.Source.{source, main_state}
use Rattle.src_replay.specs.Orders.{program_in, layout_in}
use Rattle.tx_code.specs.Images.{ImageView, IsImage}
use Rattle.tx_code.specs.Sound.{Sound}
use Rattle.tx_events.specs.declared.End.{End}
use Rattle.tx_events.specs.declared.End.TheVariants.{StepsOut}
use Rattle.tx_events.specs.declared.TheConstants.{THREAD_LIMIT}
use Rattle.tx_events.specs.Memory.{MemoryLayout, no_bytes, with_cells}
use Rattle.tx_events.specs.World.{first_world}
use Rattle.tx_machine.specs.ImageRuns.{layout_of_image, first_words}
use Rattle.tx_machine.specs.declared.run.Ran.{Ran}
use Rattle.tx_serial.specs.Run.{turns_within}
use Rattle.vm_thread.specs.declared.thread.Here.{Here}
use Rattle.turn_bounds.specs.Alone.{EndsAlone, zeros_in, picks_started}
use Rattle.turn_bounds.specs.Checked.{IsChecked, enough_for}
use Rattle.turn_bounds.specs.Linked.{EndsAloneIn, RanSo}
use Rattle.turn_bounds.proofs.LoneRuns.{zeros_picked}
use Rattle.turn_bounds.proofs.CheckedBounds as checked

within_all : (picker : pickers.PickerName) (bound : ℕ) → picks_started picker ≡ true → turns_within bound picker ≡ bound
within_all (pickers.Round slot) bound e = refl
within_all pickers.Clashing bound e = refl
within_all (pickers.Listed schedule) bound e = absurd (false≢true e)

pub few_threads : THREAD_LIMIT ≤ THREAD_LIMIT
few_threads = omega arith

module _ (g : Given) (i : ImageView) (b : Bounds) (book : Book) (is : IsLinkedFrom g i b book) where
  -- an image that is linked from a program and sound is checked against it
  pub is_checked : IsImage i → Sound i → IsChecked (program_in g) i b book
  is_checked image sound = record {
    links = is.code.links;
    small = is.code.small;
    begins = (image_begins (program_in g) i b book is.code).main;
    main_is = is.code.main_is;
    image = image;
    sound = sound;
  }

  same_layout : layout_of_image i ≡ layout_in g
  same_layout = ap (λ z. record { globals = z; limit = THREAD_LIMIT }) is.globals.size

  same_memory : first_words i ≡ with_cells no_bytes (first_cells (typed g) (program_in g))
  same_memory = fun_ext is.globals.words

  module _ (input : List ℕ) (n : ℕ) (out : List ℕ) (end : End) where
    abbrev Alone : MemoryLayout → (ℕ → ℕ) → Type 0
    Alone layout memory = EndsAlone (source (program_in g)) layout (first_world memory input (main_state (program_in g))) n out end

    -- the source runs so with the layout and memory of the image
    pub with_image : EndsAloneIn g input n out end → Alone (layout_of_image i) (first_words i)
    with_image run = subst (λ z. Alone z (first_words i)) (sym same_layout) (subst (λ z. Alone (layout_in g) z) (sym same_memory) run)

    module _ (image : IsImage i) (sound : Sound i) (run : EndsAloneIn g input n out end) (picker : pickers.PickerName) (policy : policies.PolicyName) (bound : ℕ)
        (ran : Ran Here) (named : IsNamedRun i picker policy bound input ran) where
      recorded : (named.outcome.end ≡ end) × (named.outcome.out ≡ out) → RanSo ran out end
      recorded t = record { end_is = named.is.end ∙ t.0; out_is = named.is.out ∙ t.1 }

      pub ran_not_out : (ran.end ≡ StepsOut → ⊥) → RanSo ran out end
      ran_not_out other = recorded (checked.run_not_out (program_in g) i b book (is_checked image sound) (layout_of_image i) few_threads (first_words i) input n
          out end (with_image run) (turns_within bound picker) named.slots named.outcome named.run (λ e. other (named.is.end ∙ e)))

      pub ran_in_time : enough_for b n ≤ zeros_in ran.picked.items → RanSo ran out end
      ran_in_time many = recorded (checked.run_in_time (program_in g) i b book (is_checked image sound) (layout_of_image i) few_threads (first_words i) input n
          out end (with_image run) (turns_within bound picker) named.slots named.outcome named.run
          (subst (λ z. enough_for b n ≤ z) (ap zeros_in (named.is.picked ∙ named.run.picked) ∙ zeros_picked named.slots) many))

      pub ran_picked : picks_started picker ≡ true → enough_for b n ≤ bound → RanSo ran out end
      ran_picked started many = recorded (checked.run_picked (program_in g) i b book (is_checked image sound) (layout_of_image i) few_threads (first_words i)
          input n out end (with_image run) (turns_within bound picker) named.slots named.outcome named.run picker started named.picked
          (subst (λ z. enough_for b n ≤ z) (sym (within_all picker bound started)) many))

      pub ran_quiet : (ran.waited ≡ 0) × (ran.rolled ≡ 0)
      ran_quiet =
          let t = checked.run_quiet (program_in g) i b book (is_checked image sound) (layout_of_image i) few_threads (first_words i) input n out end
          (with_image run) (turns_within bound picker) named.slots named.outcome named.run in
          (ap (λ z. z.waited) named.is.counts ∙ t.0, ap (λ z. z.rolled) named.is.counts ∙ t.1)
