-- Runs of a linked program under a picker and a policy that have names.
use Rattle.std.specs.Prelude.{ℕ, ◌≡◌, ◌<◌, true, nat_lt, length, List, Option, Some, None}
use Rattle.std.specs.List.{list_all}
use Rattle.std.specs.Option.{option_map}
use Rattle.choosers.specs.Answers as answers
use Rattle.choosers.specs.Answers.{answer}
use Rattle.choosers.specs.Picks as picks
use Rattle.choosers.specs.Picks.{pick}
use Rattle.tx_code.specs.Images.{ImageView}
use Rattle.tx_events.specs.declared.End.TheVariants.{StepsOut}
use Rattle.tx_events.specs.declared.TheConstants.{THREAD_LIMIT}
use Rattle.tx_events.specs.World.{first_world}
use Rattle.tx_serial.specs.Laws.{Replayed}
use Rattle.tx_serial.specs.Run.{Outcome, RunOf, PickedBy, AnsweredBy, is_answer, not_begun, turns_within, sum_of}
use Rattle.tx_serial.specs.Turn.{Slot}
use Rattle.tx_machine.specs.ImageRuns.{layout_of_image, first_words, machine_at_main, here_of}
use Rattle.tx_machine.specs.Ran.{IsRan}
use Rattle.tx_machine.specs.declared.run.Ran.{Ran}
use Rattle.tx_words.specs.declared.command.PickerName.{PickerName}
use Rattle.tx_words.specs.declared.command.PickerName.TheVariants.{Round, Clash, File}
use Rattle.tx_words.specs.declared.command.PolicyName.{PolicyName}
use Rattle.tx_words.specs.declared.command.PolicyName.TheVariants.{Older, Yield, Polite}
use Rattle.vm_thread.specs.Threads.{Running, running, at_main}
use Rattle.vm_thread.specs.declared.thread.Here.{Here}

-- what the words of the command line stand for

abbrev pub policy_of : PolicyName → answers.PolicyName
policy_of Older = answers.Older
policy_of Yield = answers.Yielding
policy_of Polite = answers.Polite

abbrev pub picker_of : PickerName → (schedule : List ℕ) → picks.PickerName
picker_of (Round slot) schedule = picks.Round slot
picker_of Clash schedule = picks.Clashing
picker_of (File name) schedule = picks.Listed schedule

-- a picker that picks threads: a slot has a turn, and a schedule has threads below the limit
abbrev pub CanPick : PickerName → (schedule : List ℕ) → Type 0
CanPick (Round slot) schedule = 0 < slot
CanPick Clash schedule = Unit {0}
CanPick (File name) schedule = list_all (λ t. nat_lt t THREAD_LIMIT) schedule ≡ true

abbrev pub IsBelow : Option ℕ → Type 0
IsBelow None = Unit {0}
IsBelow (Some t) = t < THREAD_LIMIT

-- A run of the image on this input: each turn is of the thread that the picker picks, and at each clash the policy's answer is
-- given. It stops at the program's end, or with StepsOut after the bound's number of turns, or the schedule's if that is smaller.
-- Its order replays to the same output and end. The record has each part of it.
pub record IsNamedRun (image : ImageView) (picker : picks.PickerName) (policy : answers.PolicyName) (bound : ℕ) (input : List ℕ) (ran : Ran Here) : Type 0 where
  pub slots : List Slot
  pub outcome : Outcome Running
  pub run : RunOf running (layout_of_image image) (turns_within bound picker) (machine_at_main image input) slots outcome
  pub picked : PickedBy (λ seen before. pick picker seen.turn seen before) running (layout_of_image image) slots (not_begun (machine_at_main image input))
  pub answered : AnsweredBy (is_answer (answer policy)) running (layout_of_image image) slots (not_begun (machine_at_main image input))
  pub replayed : Replayed running (layout_of_image image) (first_world (first_words image) input (at_main image)) outcome
  pub counted : sum_of outcome.counts ≡ length outcome.picked
  pub out_at_bound : outcome.end ≡ StepsOut → length outcome.picked ≡ turns_within bound picker
  pub is : IsRan outcome (option_map here_of outcome.place) ran

-- two records with the same parts
pub record IsSameRan (a b : Ran Here) : Type 0 where
  pub out : a.out.items ≡ b.out.items
  pub end : a.end ≡ b.end
  pub order : a.order.items ≡ b.order.items
  pub picked : a.picked.items ≡ b.picked.items
  pub ran : a.ran ≡ b.ran
  pub waited : a.waited ≡ b.waited
  pub rolled : a.rolled ≡ b.rolled
  pub idle : a.idle ≡ b.idle
  pub place : a.place ≡ b.place
