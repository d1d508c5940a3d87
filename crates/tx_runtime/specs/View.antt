-- The machine that a runtime shows.
use Rattle.std.specs.Prelude.{ℕ, List, length, drop}
use Rattle.tx_events.specs.Memory.{MemoryLayout}
use Rattle.tx_events.specs.World.{Lock}
use Rattle.tx_memory.specs.View.{layout_of, words_of}
use Rattle.tx_serial.specs.Machine.{Machine}
use Rattle.tx_runtime.specs.declared.engine.Engine.{Engine}
use Rattle.tx_runtime.specs.declared.lock.SyncLock.{SyncLock}
use Rattle.tx_runtime.specs.declared.input.Input.{Input}
use Rattle.tx_runtime.specs.Threads.{threads_of, waits_by}

abbrev pub lock_of : SyncLock → Lock
lock_of lock = record { holder = lock.holder; depth = lock.depth }

abbrev pub left_of : Input → List ℕ
left_of input = drop input.taken input.bytes.items

abbrev pub machine_in : {A K S : Type 0} → (A → S) → (K → S) → Engine A K → Machine S
machine_in state saved e = record {
  memory = words_of e.memory;
  threads = threads_of state saved e.holders e.threads.items;
  started = length e.threads.items;
  lock = lock_of e.lock;
  births = e.births;
  waits = waits_by e.threads.items;
  out = e.out.items;
  input = left_of e.input;
  order = e.order.items;
  end = e.end;
}

-- what is mapped, and how many threads may be started
abbrev pub layout_in : {A K : Type 0} → Engine A K → MemoryLayout
layout_in e = layout_of e.memory
