-- What a keeper keeps.
use Rattle.std.specs.Prelude.{ℕ, List, Option, Some, None, slice_get}
use Rattle.turn_traces.specs.declared.keeper.TraceKeeper.{TraceKeeper}
use Rattle.turn_traces.specs.declared.thread_trace.ThreadTrace.{ThreadTrace}
use Rattle.turn_traces.specs.Keeping.{Kept, nothing_kept, Keeping}

abbrev pub kept_of : ThreadTrace → Kept
kept_of x = record { open_blocks = x.open_blocks; atomic_blocks = x.atomic_blocks; at_entry = x.at_entry; accesses = x.accesses.items }

abbrev pub kept_in : Option ThreadTrace → Kept
kept_in None = nothing_kept
kept_in (Some x) = kept_of x

abbrev pub kept_at : List ThreadTrace → ℕ → Kept
kept_at xs t = kept_in (slice_get xs t)

abbrev pub keeping_of : TraceKeeper → Keeping
keeping_of k = record { items = k.items.items; threads = kept_at k.threads.items; started = k.started; thread = k.thread; event = k.event }
