-- An entry of an order: how far its thread has come before its step is over, and what shows that it has no step, or that its step takes more units.
use Rattle.std.specs.Prelude.{◌≡◌, ◌≤◌, ◌+◌, ℕ, Bool, true, false, not, ◌||◌, Option, Some, None, is_some}
use Rattle.tx_events.specs.declared.BlockKind.{BlockKind}
use Rattle.tx_events.specs.declared.Event.{Event}
use Rattle.tx_events.specs.declared.Event.TheVariants.{Silent, Load, Store, Out, Inp, Spawn, Join, BeginAtomic, EndAtomic, Raise, BeginSync, EndSync, Done}
use Rattle.tx_events.specs.declared.Event.TheVariants.{Stop}
use Rattle.tx_events.specs.declared.Reply.TheVariants.{Nothing}
use Rattle.tx_events.specs.Memory.{MemoryLayout}
use Rattle.tx_events.specs.Thread.{Thread, is_silent}
use Rattle.tx_events.specs.Alone.{Inner, Inside, BlockStep, Goes, Leaves, Halts, Never, begin, inner_by}
use Rattle.tx_events.specs.World.{World, Alive, alive, SilentSteps, lock_free, target}
use Rattle.src_mean.specs.Cost.{silent_cost, inside_cost}

-- the thread was started and has not ended
abbrev pub is_going : {S : Type 0} → Option (Alive S) → Bool
is_going None = false
is_going (Some x) = not x.ended

abbrev pub has_ended : {S : Type 0} → Alive S → Bool
has_ended x = x.ended

-- a join of that thread may come: it has ended, or there is none that may be joined
abbrev pub is_joinable : {S : Type 0} → Option (Alive S) → Bool
is_joinable None = true
is_joinable (Some x) = x.ended

-- the event of thread t is enabled; that an atomic block that begins comes to its end is not asked
abbrev pub is_enabled : {S : Type 0} → ℕ → World S → Event → Bool
is_enabled t w (BeginAtomic kind) = lock_free t w.lock
is_enabled t w BeginSync = lock_free t w.lock
is_enabled t w (Join id) = is_joinable (target t id w.threads)
is_enabled t w (Load addr size volatile) = true
is_enabled t w (Store addr size value volatile) = true
is_enabled t w (Out byte) = true
is_enabled t w Inp = true
is_enabled t w (Spawn func arg) = true
is_enabled t w EndSync = true
is_enabled t w Done = true
is_enabled t w (Stop end) = true
is_enabled t w Silent = false
is_enabled t w EndAtomic = false
is_enabled t w (Raise kind cancels) = false

-- the event may come inside an atomic block
abbrev pub comes : {S : Type 0} → BlockStep S → Bool
comes (Goes i) = true
comes (Leaves s memory) = true
comes (Halts end) = true
comes Never = false

-- Where thread t is in its step from the world w, before that is over: behind some silent steps, or inside its outermost atomic block.
pub data Moment {S : Type 0} (a : Thread S) (p : MemoryLayout) (t : ℕ) (w : World S) : Type 0 where
  outside : (from here : S) → w.threads t ≡ alive from → SilentSteps a from here → Moment a p t w
  within : (from before : S) (kind : BlockKind) (last : Inner S) → w.threads t ≡ alive from → SilentSteps a from before → a.next before ≡ BeginAtomic kind
      → lock_free t w.lock ≡ true
      → Inside a p (begin (a.after before Nothing) w.memory) last → Moment a p t w

-- the units of Cost up to there
abbrev pub units : {S : Type 0} (a : Thread S) (p : MemoryLayout) (t : ℕ) (w : World S) → Moment a p t w → ℕ
units a p t w (outside from here is silents) = silent_cost silents
units a p t w (within from before kind last is silents begins free run) = silent_cost silents + 1 + inside_cost run

-- there is another unit
abbrev pub goes_further : {S : Type 0} (a : Thread S) (p : MemoryLayout) (t : ℕ) (w : World S) → Moment a p t w → Bool
goes_further a p t w (outside from here is silents) = is_silent (a.next here) || is_enabled t w (a.next here)
goes_further a p t w (within from before kind last is silents begins free run) = comes (inner_by a p last (a.next last.state))

-- Thread t has no step, and at most so many units show it: the program has ended, the thread was not started or has ended, or it comes to where it stays.
pub data Refused {S : Type 0} (a : Thread S) (p : MemoryLayout) (t : ℕ) (w : World S) (most : ℕ) : Type 0 where
  over : is_some w.end ≡ true → Refused a p t w most
  absent : is_going (w.threads t) ≡ false → Refused a p t w most
  stays : (m : Moment a p t w) → units a p t w m ≤ most → goes_further a p t w m ≡ false → Refused a p t w most

-- Behind so many units the step of thread t is not over, and there is another unit.
pub record Unfinished {S : Type 0} (a : Thread S) (p : MemoryLayout) (t : ℕ) (w : World S) (most : ℕ) : Type 0 where
  pub going : w.end ≡ None
  pub moment : Moment a p t w
  pub all : units a p t w moment ≡ most
  pub further : goes_further a p t w moment ≡ true
