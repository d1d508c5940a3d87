-- After every list of turns the machine stands for the world to which its order leads.
use Rattle.std.proofs.Common.{ℕ, ◌≡◌, ◌≤◌, List, []}
use Rattle.tx_events.specs.declared.TheConstants.{THREAD_LIMIT}
use Rattle.tx_events.specs.Thread.{Thread, Lawful}
use Rattle.tx_events.specs.Memory.{MemoryLayout}
use Rattle.tx_events.specs.World.{World, first_world}
use Rattle.tx_serial.specs.Machine.{Machine}
use Rattle.tx_serial.specs.Turn.{Slot, turns, first_machine}
use Rattle.tx_serial.specs.Sound.{Sound}
use Rattle.tx_serial.specs.Shows.{ShownByReplay}
use Rattle.tx_serial.proofs.WorldAgreement.{Agreed}
use Rattle.tx_serial.proofs.PutBack.{memory_put_back}
use Rattle.tx_serial.proofs.WorldKept.{turns_kept, start_shown}
use Rattle.tx_serial.proofs.SoundKept.{turns_sound, start_sound}

module _ {S : Type 0} (R : S → Type 0) (a : Thread S) (p : MemoryLayout) where
  pub shown_of : (start : World S) (m : Machine S) → Agreed a p start m → Sound R a p m → ShownByReplay a p start m
  shown_of start m f h = record {
    world = f.0;
    replays = f.1;
    shows = record {
      out = f.2.out;
      input = f.2.input;
      end = f.2.end;
      going = λ e. let g = f.2.going e in record {
        lock = g.lock_is;
        started = g.started_is;
        fresh = g.fresh;
        memory = memory_put_back a p m.memory m.threads m.started m.lock f.0 g;
        threads = g.shown;
        apart = g.apart;
        drawn = h.drawn;
        distinct = h.distinct;
        alone = g.alone;
      };
    };
  }

  pub turns_shown : Lawful S R a → p.limit ≤ THREAD_LIMIT → (memory : ℕ → ℕ) (input : List ℕ) (main : S) (slots : List Slot) → R main → a.blocks main ≡ []
      → ShownByReplay a p (first_world memory input main) (turns a p slots (first_machine memory input main))
  turns_shown laws small memory input main slots reached free =
      let start = first_machine memory input main in
      shown_of (first_world memory input main) (turns a p slots start)
      (turns_kept a p (first_world memory input main) slots start (start_shown a p memory input main))
      (turns_sound R a laws p small slots start (start_sound R a laws p small memory input main reached free))
