-- A run grows by a turn at its end.
use Rattle.std.proofs.Common.{ℕ, ◌≡◌, ◌+◌, refl, ap, sym, ◌∙◌, subst, length, List, [], ◌∷◌, ◌++◌, None, arith}
use Rattle.choosers.specs.declared.Clash.{Clash}
use Rattle.choosers.specs.declared.Choice.{Choice}
use Rattle.choosers.specs.declared.Seen.{Seen}
use Rattle.tx_events.specs.Thread.{Thread}
use Rattle.tx_events.specs.Memory.{MemoryLayout}
use Rattle.tx_serial.specs.Turn.{Slot}
use Rattle.tx_serial.specs.Kinds.{Asked}
use Rattle.tx_serial.specs.Run.{Progress, advance, advances, seen, picks, AnsweredBy, PicksTo, NoEndBefore, EachTurn}

pub picks_grow : (qs : List Slot) (q : Slot) → picks (qs ++ q ∷ []) ≡ picks qs ++ q.thread ∷ []
picks_grow [] q = refl
picks_grow (k ∷ qs) q = ap (λ ts. k.thread ∷ ts) (picks_grow qs q)

pub length_grows : (qs : List Slot) (q : Slot) → length (qs ++ q ∷ []) ≡ length qs + 1
length_grows [] q = refl
length_grows (k ∷ qs) q = let rest = length_grows qs q in omega (arith, rest)

module _ {S : Type 0} (a : Thread S) (p : MemoryLayout) where
  pub advances_grow : (qs : List Slot) (q : Slot) (r : Progress S) → advances a p (qs ++ q ∷ []) r ≡ advance a p q (advances a p qs r)
  advances_grow [] q r = refl
  advances_grow (k ∷ qs) q r = advances_grow qs q (advance a p k r)

  pub going_grows : (qs : List Slot) (q : Slot) (r : Progress S) → NoEndBefore a p qs r → (advances a p qs r).machine.end ≡ None
      → NoEndBefore a p (qs ++ q ∷ []) r
  going_grows [] q r h none = (none, tt)
  going_grows (k ∷ qs) q r h none = (h.0, going_grows qs q (advance a p k r) h.1 none)

  pub answered_grows : (policy : Clash → Choice → Type 0) (qs : List Slot) (q : Slot) (r : Progress S) → AnsweredBy policy a p qs r
      → ((c : Clash) → Asked a p q.thread (advances a p qs r).machine c → policy c (q.answer c)) → AnsweredBy policy a p (qs ++ q ∷ []) r
  answered_grows policy [] q r h said = (said, tt)
  answered_grows policy (k ∷ qs) q r h said = (h.0, answered_grows policy qs q (advance a p k r) h.1 said)

  pub picks_to_grow : {G : Type 0} (step : G → Seen → ℕ → G → Type 0) (qs : List Slot) (q : Slot) (r : Progress S) (old mid new : G)
      → PicksTo step a p qs r old mid
      → step mid (seen (advances a p qs r)) q.thread new → PicksTo step a p (qs ++ q ∷ []) r old new
  picks_to_grow step [] q r old mid new h picked = (new, subst (λ g. step g (seen r) q.thread new) h picked, refl)
  picks_to_grow step (k ∷ qs) q r old mid new h picked = (h.0, h.1, picks_to_grow step qs q (advance a p k r) h.0 mid new h.2 picked)
