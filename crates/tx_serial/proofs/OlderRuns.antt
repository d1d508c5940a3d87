-- In each turn of a run under the rule of the older no circle of waits stands.
use Rattle.std.proofs.Common.{ℕ, ◌≡◌, ◌≤◌, true, List, [], ◌∷◌}
use Rattle.choosers.specs.Answers.{is_older}
use Rattle.tx_events.specs.declared.TheConstants.{THREAD_LIMIT}
use Rattle.tx_events.specs.Thread.{Thread, Lawful}
use Rattle.tx_events.specs.Memory.{MemoryLayout}
use Rattle.tx_serial.specs.Turn.{Slot, turn}
use Rattle.tx_serial.specs.Sound.{Sound}
use Rattle.tx_serial.specs.Circle.{OlderTurn}
use Rattle.tx_serial.specs.Run.{Progress, advance, AnsweredBy, EachTurn}
use Rattle.tx_serial.proofs.SoundKept.{turn_sound}
use Rattle.tx_serial.proofs.WaitCircles.{rolled_by, waited_by, eldest_stays, youngest_goes, no_circle}

module _ {S : Type 0} (R : S → Type 0) (a : Thread S) (laws : Lawful S R a) (p : MemoryLayout) (small : p.limit ≤ THREAD_LIMIT) where
  pub older_each : (qs : List Slot) (r : Progress S) → Sound R a p r.machine → AnsweredBy (λ clash choice. is_older clash choice ≡ true) a p qs r
      → EachTurn (OlderTurn a p) a p qs r
  older_each [] r sound rule = tt
  older_each (q ∷ qs) r sound rule = (
    record {
      rolled = λ word holder is. rolled_by R a p r.machine sound laws small q.answer q.thread rule.0 word holder is;
      waited = λ word holder inside is u blocks. waited_by R a p r.machine sound laws small q.answer q.thread rule.0 word holder inside is u blocks;
      eldest = λ word holder first is. eldest_stays R a p r.machine sound laws small q.answer q.thread rule.0 word holder first is;
      youngest = λ word holder last is. youngest_goes R a p r.machine sound laws small q.answer q.thread rule.0 word holder last is;
      circle = λ answer t by circle. no_circle R a p r.machine sound laws small answer by t circle;
    },
    older_each qs (advance a p q r) (turn_sound R a laws p small q.answer q.thread r.machine sound) rule.1,
  )
