-- A picker with a name has a pick for each of its turns.
use Rattle.std.proofs.Common.{ℕ, zero, suc, ◌≡◌, ◌<◌, true, refl, length, List, [], ◌∷◌, Option, Some, None, arith}
use Rattle.std.specs.Prelude.{is_some, slice_get, min}
use Rattle.choosers.specs.declared.Seen.{Seen}
use Rattle.choosers.specs.Picks.{PickerName, pick}
use Rattle.choosers.specs.Picks.PickerName.{Round, Clashing, Listed}
use Rattle.tx_serial.specs.Run.{turns_within}

abbrev pub picks_by : PickerName → Seen → Option ℕ → Option ℕ
picks_by name seen before = pick name seen.turn seen before

listed : (schedule : List ℕ) (n : ℕ) → n < length schedule → is_some (slice_get schedule n) ≡ true
listed [] n h = absurd (omega (arith, h))
listed (t ∷ ts) zero h = refl
listed (t ∷ ts) (suc n) h = listed ts n (omega (arith, h))

pub can_pick : (bound : ℕ) (name : PickerName) (seen : Seen) (before : Option ℕ) → seen.turn < turns_within bound name
    → is_some (picks_by name seen before) ≡ true
can_pick bound (Round slot) seen before h = refl
can_pick bound Clashing seen before h = refl
can_pick bound (Listed schedule) seen before h = listed schedule seen.turn (omega (arith, h))
