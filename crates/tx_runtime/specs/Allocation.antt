-- Where a turn may fail for want of memory.
use Rattle.std.specs.Prelude.{ℕ, ◌≡◌, Bool, true, false, List, Some}
use Rattle.choosers.specs.declared.Clash.{Clash}
use Rattle.choosers.specs.declared.Choice.{Choice}
use Rattle.tx_events.specs.declared.TurnKind.{TurnKind}
use Rattle.tx_events.specs.declared.TurnKind.TheVariants.{Ran, Waited, BlockWait, JoinWait, Rolled, Undone, Released, Idle}
use Rattle.tx_events.specs.Memory.{MemoryLayout}
use Rattle.tx_events.specs.Thread.{Thread}
use Rattle.tx_serial.specs.Machine.{Machine, Local, Save, GivingUp}
use Rattle.tx_serial.specs.Turn.{again, turn}

abbrev pub is_undone_or_released : TurnKind → Bool
is_undone_or_released (Undone x) = true
is_undone_or_released (Released x) = true
is_undone_or_released Ran = false
is_undone_or_released (Waited x u) = false
is_undone_or_released (BlockWait u) = false
is_undone_or_released (JoinWait n) = false
is_undone_or_released (Rolled x u) = false
is_undone_or_released Idle = false

-- From old to new thread t, whose transaction gave up, is put back: it stands again just after its outermost BeginAtomic
-- and holds no word.
pub record PutsBack {S : Type 0} (t : ℕ) (old new : Machine S) : Type 0 where
  pub local : Local S
  pub birth : ℕ
  pub kept : S
  pub saves : List Save
  pub was : old.threads t ≡ Some local
  pub giving : local.tx ≡ GivingUp birth kept saves
  pub stands : new.threads t ≡ Some (again local birth kept)

-- The turn of thread t may take memory: whatever the policy answers, it is of no kind Undone or Released but at the last
-- word of a transaction that gives up, where it puts the thread back.
abbrev pub MayAllocate : {S : Type 0} → Thread S → MemoryLayout → ℕ → Machine S → Type 0
MayAllocate a p t m = (answer : Clash → Choice) → is_undone_or_released (turn a p answer t m).kind ≡ true → PutsBack t m (turn a p answer t m).machine
