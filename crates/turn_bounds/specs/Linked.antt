-- Runs of linked programs in which the first thread stays alone.
use Rattle.std.specs.Prelude.{ℕ, ◌≡◌, ◌≤◌, ◌+◌, ◌*◌, List}
use Rattle.src_bind.specs.Tables.{Given}
use Rattle.src_mean.specs.Source.{source}
use Rattle.src_replay.specs.Orders.{program_in, layout_in, first_in}
use Rattle.tx_events.specs.declared.End.{End}
use Rattle.tx_events.specs.declared.End.TheVariants.{StepsOut}
use Rattle.tx_machine.specs.declared.run.Ran.{Ran}
use Rattle.vm_thread.specs.declared.thread.Here.{Here}
use Rattle.turn_bounds.specs.Alone.{EndsAlone, zeros_in}

-- The linked program's source spawns nothing on this input, costs at most n, and comes to this end with this output.
abbrev pub EndsAloneIn : Given → List ℕ → (n : ℕ) → (out : List ℕ) → End → Type 0
EndsAloneIn g input n out end = EndsAlone (source (program_in g)) (layout_in g) (first_in g input) n out end

-- the record of a run has this end and output
pub record RanSo (ran : Ran Here) (out : List ℕ) (end : End) : Type 0 where
  pub end_is : ran.end ≡ end
  pub out_is : ran.out.items ≡ out

-- Beside a source that spawns nothing and comes to this end at cost n: no turn of the run waits or rolls back; and where the run has ended, or 66 * n + 64 of its
-- turns were thread 0's, it has the end and output of the source.
pub record IsLoneRun (n : ℕ) (out : List ℕ) (end : End) (ran : Ran Here) : Type 0 where
  pub never_waits : (ran.waited ≡ 0) × (ran.rolled ≡ 0)
  pub ended : (ran.end ≡ StepsOut → ⊥) → RanSo ran out end
  pub in_time : 66 * n + 64 ≤ zeros_in ran.picked.items → RanSo ran out end

-- The turn bound of the record of a run: so it is whatever the linked program's source comes to, where that spawns nothing.
abbrev pub KeepsTurnBound : Given → List ℕ → Ran Here → Type 0
KeepsTurnBound g input ran = (n : ℕ) (out : List ℕ) (end : End) → EndsAloneIn g input n out end → IsLoneRun n out end ran
