-- Each turn keeps the machine shown by the world.
use Rattle.std.proofs.Common.{ℕ, zero, suc, ◌≡◌, ◌≤◌, false, refl, ◌∙◌, subst, List, [], ◌∷◌, Option, Some, None, arith}
use Rattle.std.proofs.lemmas.Bool.{false≢true}
use Rattle.tx_events.specs.declared.End.{End}
use Rattle.choosers.specs.declared.Clash.{Clash}
use Rattle.choosers.specs.declared.Choice.{Choice}
use Rattle.tx_events.specs.Thread.{Thread}
use Rattle.tx_events.specs.Memory.{MemoryLayout, word_bound}
use Rattle.tx_events.specs.World.{World, Alive, first_world, only_first, none}
use Rattle.tx_serial.specs.Machine.{Machine, Local, Tx, NoTx, OpenTx, GivingUp, Closing, held_by, wrote_by, live_in, least}
use Rattle.tx_serial.specs.Turn.{Slot, turn_in, turn_of, turn_at, turn, turns, first_machine, first_thread}
use Rattle.tx_serial.specs.Shows.{ShowsTx, ShowsLocal, ShowsThread}
use Rattle.tx_serial.proofs.WorldAgreement.{Agreed}
use Rattle.tx_serial.proofs.TurnContext.{Known, either}
use Rattle.tx_serial.proofs.OutsideTurns.{out_kept_all}
use Rattle.tx_serial.proofs.InsideTurns.{in_kept_all, gives_back_kept, lets_go_kept}

module _ {S : Type 0} (a : Thread S) (p : MemoryLayout) (start : World S) where
  by_tx : (answer : Clash → Choice) (t : ℕ) (m : Machine S) (l : Local S) (k : Known a p start t m l) (tx : Tx S) → l.tx ≡ tx
      → ShowsTx a p m.memory k.w.memory k.here.s.state l tx → Agreed a p start (turn_in a p answer t m l tx).machine
  by_tx answer t m l k NoTx e f = out_kept_all a p start t m l k e f (a.next l.state) refl
  by_tx answer t m l k (OpenTx b kk ss) e f = in_kept_all a p start t m l k b kk ss e f answer (a.next l.state) refl
  by_tx answer t m l k (GivingUp b kk ss) e f = gives_back_kept a p start t m l k b kk ss e f (least l.held (word_bound p)) refl
  by_tx answer t m l k (Closing b) e f = lets_go_kept a p start t m l k b e f (least l.held (word_bound p)) refl

  alive_of : (t : ℕ) (m : Machine S) (w : World S) (l : Local S) (y : Option (Alive S)) → ShowsThread a p m.memory w.memory (Some l) y
      → (s : Alive S) × (y ≡ Some s) × ShowsLocal a p m.memory w.memory l s
  alive_of t m w l None f = absurd f
  alive_of t m w l (Some s) f = (s, refl, f)

  by_thread : (answer : Clash → Choice) (t : ℕ) (m : Machine S) → Agreed a p start m → m.end ≡ None → (o : Option (Local S)) → m.threads t ≡ o
      → Agreed a p start (turn_of a p answer t m o).machine
  by_thread answer t m f goes None is = f
  by_thread answer t m f goes (Some l) is =
      let g = f.2.going goes in
      let q = alive_of t m f.0 l (f.0.threads t) (subst (λ y. ShowsThread a p m.memory f.0.memory y (f.0.threads t)) is (g.shown t)) in
      either a p start l.ended _ _ (λ e. f) (λ e.
      let k : Known a p start t m l = record {
        w = f.0;
        replays = f.1;
        out = f.2.out;
        input = f.2.input;
        goes = goes;
        going = f.2.end ∙ goes;
        here = record { g = g; is = is; s = q.0; was = q.1; live = q.2; up = q.2.ended ∙ e };
      } in
      by_tx answer t m l k l.tx refl q.2.tx)

  by_end : (answer : Clash → Choice) (t : ℕ) (m : Machine S) → Agreed a p start m → (o : Option End) → m.end ≡ o
      → Agreed a p start (turn_at a p answer t m o).machine
  by_end answer t m f None e = by_thread answer t m f e (m.threads t) refl
  by_end answer t m f (Some x) e = f

  -- a turn keeps it
  pub turn_kept : (answer : Clash → Choice) (t : ℕ) (m : Machine S) → Agreed a p start m → Agreed a p start (turn a p answer t m).machine
  turn_kept answer t m f = by_end answer t m f m.end refl

  -- and so does any list of turns
  pub turns_kept : (qs : List Slot) (m : Machine S) → Agreed a p start m → Agreed a p start (turns a p qs m)
  turns_kept [] m f = f
  turns_kept (q ∷ qs) m f = turns_kept qs (turn a p q.answer q.thread m).machine (turn_kept q.answer q.thread m f)

-- at the start the machine is shown
first_fresh : {S : Type 0} (main : S) (u : ℕ) → 1 ≤ u → first_thread main u ≡ None
first_fresh main zero h = absurd (omega (arith, h))
first_fresh main (suc u) h = refl

first_apart : {S : Type 0} (main : S) (u x : ℕ) → held_by (first_thread main u) x ≡ false
first_apart main zero x = refl
first_apart main (suc u) x = refl

first_wrote : {S : Type 0} (main : S) (u x : ℕ) → wrote_by (first_thread main u) x ≡ false
first_wrote main zero x = refl
first_wrote main (suc u) x = refl

first_live : {S : Type 0} (main : S) (u : ℕ) → live_in (first_thread main u) ≡ false
first_live main zero = refl
first_live main (suc u) = refl

first_shown : {S : Type 0} (a : Thread S) (p : MemoryLayout) (memory : ℕ → ℕ) (main : S) (u : ℕ)
    → ShowsThread a p memory memory (first_thread main u) (only_first main u)
first_shown a p memory main zero = record {
  ended = refl;
  holds = λ x h. absurd (false≢true h);
  bounded = λ x h. absurd (false≢true h);
  tx = (none, λ x. refl);
}
first_shown a p memory main (suc u) = tt

pub start_shown : {S : Type 0} (a : Thread S) (p : MemoryLayout) (memory : ℕ → ℕ) (input : List ℕ) (main : S)
    → Agreed a p (first_world memory input main) (first_machine memory input main)
start_shown a p memory input main = (
  first_world memory input main,
  refl,
  record {
    out = refl;
    input = refl;
    end = refl;
    going = λ e. record {
      started_is = refl;
      lock_is = refl;
      fresh = first_fresh main;
      free = λ x h. refl;
      apart = λ v u x d h. first_apart main u x;
      alone = λ o u h d. first_live main u;
      shown = first_shown a p memory main;
    };
  },
)
