-- Runs that are runs of the source, within its turn bound.
use Rattle.std.specs.Prelude.{ℕ, ◌≡◌, ◌<◌, List, Option, Some, None, Bool, true, false}
use Rattle.cpp_tree.specs.Units.{program_of}
use Rattle.cpp_tree.specs.declared.program.Program.{Program}
use Rattle.source_runs.specs.Sources.{RunsTo, RunsWithin, RunsWith}
use Rattle.src_bind.specs.Tables.{Given}
use Rattle.src_bind.specs.declared.choices.Choices.{Choices}
use Rattle.src_link.specs.Slots.{AreChoices}
use Rattle.src_replay.specs.declared.alone.AloneEnd.{AloneEnd}
use Rattle.src_replay.specs.declared.alone.AloneEnd.TheVariants.{Ended, NotEnabled, InBlock, Spent}
use Rattle.turn_bounds.specs.Alone.{zeros_in}
use Rattle.turn_bounds.specs.Linked.{KeepsTurnBound}
use Rattle.tx_answers.specs.declared.answer.Answer.{Answer}
use Rattle.tx_events.specs.declared.End.TheVariants.{StepsOut}
use Rattle.tx_machine.specs.declared.run.Ran.{Ran}
use Rattle.vm_thread.specs.declared.thread.Here.{Here}

-- the program has ended
abbrev pub has_ended : AloneEnd → Bool
has_ended (Ended end) = true
has_ended NotEnabled = false
has_ended InBlock = false
has_ended Spent = false

-- The run is one of the linked program's source, in the order that is answered; and where that spawns nothing, it does not wait and ends within the turn bound.
pub record IsRunOf (g : Given) (input : List ℕ) (ran : Ran Here) : Type 0 where
  pub source : RunsTo g input ran.order.items ran.out.items ran.end
  pub turns : KeepsTurnBound g input ran

-- A run that is never refused: it is one of the source within 4,294,967,295 steps, and started another thread, or did not wait, and has ended or had fewer than
-- 64 turns of thread 0.
pub data IsPlain (g : Given) (input : List ℕ) (ran : Ran Here) : Type 0 where
  starts : (started : ℕ) → RunsWith started 4294967295 g input ran.order.items ran.out.items ran.end → (started ≡ 1 → ⊥) → IsPlain g input ran
  never_waits : RunsWithin 4294967295 g input ran.order.items ran.out.items ran.end → ran.waited ≡ 0 → ran.rolled ≡ 0
      → (ran.end ≡ StepsOut → zeros_in ran.picked.items < 64) → IsPlain g input ran

-- So it is of what was run, if anything was.
abbrev pub OfLinked : Given → List ℕ → Option (Ran Here) → Type 0
OfLinked g input None = Unit {0}
OfLinked g input (Some ran) = IsRunOf g input ran

abbrev pub IsOfLinked : Given → List ℕ → Answer → Type 0
IsOfLinked g input a = OfLinked g input a.ran

-- The same of a program, linked by its own choices: its safe functions have safe bodies, slots name the final overriders, and thread 0 starts in `main`.
pub record IsSourceRun (p : Program) (input : List ℕ) (ran : Ran Here) : Type 0 where
  pub choices : Choices
  pub are_choices : AreChoices (program_of p) choices
  pub run : IsRunOf (record { program = p; choices = choices }) input ran

abbrev pub OfSource : Program → List ℕ → Option (Ran Here) → Type 0
OfSource p input None = Unit {0}
OfSource p input (Some ran) = IsSourceRun p input ran

abbrev pub IsOfSource : Program → List ℕ → Answer → Type 0
IsOfSource p input a = OfSource p input a.ran
