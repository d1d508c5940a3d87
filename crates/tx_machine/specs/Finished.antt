-- What a run came to.
use Rattle.std.specs.Prelude.{ℕ, ◌≡◌, ◌*◌, ◌+◌, ◌≤◌, true, length, List, [], ◌∷◌, Option, Some, None, is_some, zero, suc}
use Rattle.choosers.specs.Answers.{is_older}
use Rattle.choosers.specs.declared.Clash.{Clash}
use Rattle.choosers.specs.declared.Choice.{Choice}
use Rattle.choosers.specs.declared.Seen.{Seen}
use Rattle.tx_events.specs.declared.actor.Actor.{Ghosts}
use Rattle.tx_events.specs.declared.End.{End}
use Rattle.tx_events.specs.declared.End.TheVariants.{StepsOut}
use Rattle.tx_events.specs.Memory.{MemoryLayout}
use Rattle.tx_events.specs.Thread.{Thread}
use Rattle.tx_events.specs.World.{World, Replays, first_world}
use Rattle.tx_serial.specs.Bound.{Tally, no_tally, tallied, AtMost}
use Rattle.tx_serial.specs.Circle.{OlderTurn}
use Rattle.tx_serial.specs.Laws.{Replayed}
use Rattle.tx_serial.specs.Machine.{Machine}
use Rattle.tx_serial.specs.Run.{
  Outcome,
  RunOf,
  AnsweredBy,
  PicksTo,
  EachTurn,
  advance,
  not_begun,
  state_in,
  trap_place,
  is_trapped,
  is_answer,
  sum_of,
  Together,
}
use Rattle.tx_serial.specs.Shows.{ShownByReplay}
use Rattle.tx_serial.specs.Turn.{Slot, first_machine}
use Rattle.tx_runtime.specs.Runtime.{machine_of}
use Rattle.tx_machine.specs.declared.run.Finished.{Finished}
use Rattle.tx_machine.specs.Course.{counts_of}
use Rattle.tx_machine.specs.Watch.{Sight, watched}

-- the program's end, or else the end of its steps
abbrev pub end_or_out : Option End → End
end_or_out None = StepsOut
end_or_out (Some e) = e

-- where this thread stands, if it is there and was started
abbrev pub stands_at : {S : Type 0} → Machine S → Option ℕ → Option S
stands_at m None = None
stands_at m (Some t) = state_in (m.threads t)

abbrev pub outcome_of : {A K : Type 0} {g : Ghosts A K} → Finished A K g → Outcome g.State
outcome_of f = record {
  out = (machine_of f.course.runtime).out;
  input = (machine_of f.course.runtime).input;
  end = f.end;
  order = (machine_of f.course.runtime).order;
  picked = f.course.picked.items;
  counts = counts_of f.course.counts;
  place = trap_place f.end (stands_at (machine_of f.course.runtime) f.course.thread);
}

-- how many of the turns are thread 0's
abbrev pub zeros_in : List ℕ → ℕ
zeros_in [] = 0
zeros_in (zero ∷ ts) = suc (zeros_in ts)
zeros_in (suc t ∷ ts) = zeros_in ts

-- A run of the threads that begin with `main`, of at most `bound` turns: it is `RunOf` under the picks and the answers, one
-- of each in a turn, and the observer has seen its turns. What the laws say of each such run stands beside it.
pub record RunsTo {S G P W : Type 0} (a : Thread S) (p : MemoryLayout) (policy : Clash → Choice → Type 0) (step : G → Seen → ℕ → G → Type 0)
    (sight : Sight S P W) (bound : ℕ) (memory : ℕ → ℕ) (input : List ℕ) (main : S)
    (before after : G) (saw sees : W) (result : Outcome S) : Type 0 where
  pub slots : List Slot
  pub run : RunOf a p bound (first_machine memory input main) slots result
  pub answered : AnsweredBy policy a p slots (not_begun (first_machine memory input main))
  pub picked : PicksTo step a p slots (not_begun (first_machine memory input main)) before after
  pub watched : sees ≡ watched sight a p slots (not_begun (first_machine memory input main)) saw
  -- the order replays, with the same output, input left and end; and after each turn the machine is shown by the replay of its order
  pub replayed : Replayed a p (first_world memory input main) result
  pub shows : EachTurn (λ q r. ShownByReplay a p (first_world memory input main) (advance a p q r).machine) a p slots
      (not_begun (first_machine memory input main))
  -- each turn is counted once; StepsOut comes at the bound alone; a place is there exactly after a trap
  pub counted : sum_of result.counts ≡ length result.picked
  pub out_at_bound : result.end ≡ StepsOut → length result.picked ≡ bound
  pub place : is_some result.place ≡ is_trapped result.end
  -- under the rule of the older no circle of waits stands
  pub older : ((c : Clash) (choice : Choice) → policy c choice → is_older c choice ≡ true)
      → EachTurn (OlderTurn a p) a p slots (not_begun (first_machine memory input main))
  -- the recorded picks give it again, where the policy's answer is a function of the clash
  pub again : (answer : Clash → Choice) → ((c : Clash) (choice : Choice) → policy c choice → choice ≡ answer c) → (others : List Slot) (other : Outcome S)
      → RunOf a p bound (first_machine memory input main) others other → AnsweredBy (is_answer answer) a p others (not_begun (first_machine memory input main))
      → Together result.picked other.picked → other ≡ result
  -- a program that spawns nothing comes to its end within so many turns of its thread
  pub within : (instructions accesses : ℕ) (order : List ℕ) (v : World (S × Tally)) (e : End)
      → (replay : Replays (tallied a) p (first_world memory input (main, no_tally)) order v)
      → AtMost a p instructions accesses (first_world memory input (main, no_tally)) order v replay → v.end ≡ Some e
      → instructions + 2 * accesses ≤ zeros_in result.picked → (result.end ≡ e) × (result.out ≡ v.out)
