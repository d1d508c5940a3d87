-- Which thread the pickers pick.
use Rattle.std.specs.Prelude.{ℕ, ◌<◌, ◌^◌, ◌+◌, ◌/◌, ◌%◌, ◌&&◌, Bool, true, false, not, if◌then◌else◌, Option, Some, None, List, slice_get}
use Rattle.tx_events.specs.declared.TurnKind.{TurnKind}
use Rattle.tx_events.specs.declared.TurnKind.TheVariants.{Ran}
use Rattle.choosers.specs.declared.Seen.{Seen}

-- the pickers that have a name: `round:K`, `clash` and `file:NAME`, the last with the entries of its schedule
pub data PickerName : Type 0 where
  Round : ℕ → PickerName
  Clashing : PickerName
  Listed : List ℕ → PickerName

abbrev pub is_ran : Option TurnKind → Bool
is_ran None = false
is_ran (Some Ran) = true
is_ran (Some _) = false

-- whether the last thread goes on: its turn was done, and was no access in a transaction
abbrev pub goes_on : Seen → Bool
goes_on seen = is_ran seen.last && not seen.inside

abbrev pub pick_clash : Seen → Option ℕ → ℕ
pick_clash seen None = 0
pick_clash seen (Some before) = if goes_on seen then before else (before + 1) % seen.started

-- the thread of turn n, where `before` is the thread of the turn before, if there was one; none past a schedule's end
abbrev pub pick : PickerName → ℕ → Seen → Option ℕ → Option ℕ
pick (Round slot) n seen before = Some (n / slot % seen.started)
pick Clashing n seen before = Some (pick_clash seen before)
pick (Listed schedule) n seen before = slice_get schedule n

-- the numbers of what is seen fit their types
pub record IsSeen (s : Seen) : Type 0 where
  pub turn : s.turn < 2 ^ 32
  pub started : s.started < 2 ^ 8
