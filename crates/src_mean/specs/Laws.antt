-- What the laws say of the source thread: which events come, and what they do to the open blocks.
use Rattle.std.specs.Prelude.{◌≡◌, ℕ, ℤ, ◌^◌, ◌*◌, nat_lt, Bool, true, false, not, ◌&&◌, ◌||◌, List, [], ◌∷◌}
use Rattle.cpp_tree.specs.tx_events.declared.Event.{Event}
use Rattle.cpp_tree.specs.tx_events.declared.Event.TheVariants.{Load, Store, Out, Inp, Spawn, Join, BeginAtomic, EndAtomic, Raise, BeginSync, EndSync, Done}
use Rattle.cpp_tree.specs.tx_events.declared.Event.TheVariants.{Stop}
use Rattle.cpp_tree.specs.tx_events.declared.Reply.{Reply}
use Rattle.cpp_tree.specs.tx_events.Thread.{Open, Atomic, Sync, same_kind, blocks_after, is_own_end, is_silent, is_size, is_empty, no_atomic, in_atomic}
use Rattle.cpp_tree.specs.tx_events.Thread.{in_kind, in_sync}
use Rattle.src_mean.specs.Linked.{Program}
use Rattle.src_mean.specs.Frames.{Frame, Run, Opens, Closes, Scope, Full, Within, Called, Tries, Starts, Halted, Ended, State, blocks_of}
use Rattle.src_mean.specs.Source.{source}

abbrev pub is_last : List Frame → Bool
is_last [] = true
is_last (f ∷ k) = false

-- no block's first or last event is being made, the thread ends behind its function, and it stops with an end of its own
abbrev pub quiet : List Frame → Bool
quiet [] = true
quiet (Opens block body ∷ k) = false
quiet (Closes block ∷ k) = false
quiet (Starts main ∷ k) = is_last k
quiet (Ended ∷ k) = is_last k
quiet (Halted end ∷ k) = is_own_end end && quiet k
quiet (f ∷ k) = quiet k

abbrev pub opens : Event → Open → Bool
opens (BeginAtomic kind) (Atomic k) = same_kind kind k
opens BeginSync Sync = true
opens e block = false

abbrev pub closes : Event → Open → Bool
closes EndAtomic (Atomic k) = true
closes (Raise kind cancels) (Atomic k) = same_kind kind k
closes EndSync Sync = true
closes e block = false

-- an event that neither opens nor closes a block nor ends the thread, with a size and a value as events have them
abbrev pub is_plain : Event → Bool
is_plain (BeginAtomic kind) = false
is_plain BeginSync = false
is_plain EndAtomic = false
is_plain (Raise kind cancels) = false
is_plain EndSync = false
is_plain Done = false
is_plain (Load addr size volatile) = is_size size
is_plain (Store addr size value volatile) = is_size size && nat_lt value (2 ^ (8 * size))
is_plain (Stop end) = is_own_end end
is_plain e = true

abbrev pub is_done : Event → Bool
is_done Done = true
is_done e = false

-- the event and what is left to do with its reply go together: a node is entered by a silent step
abbrev pub settled : Event → List Frame → Bool
settled e (Opens block body ∷ k) = opens e block && quiet k
settled e (Closes block ∷ k) = closes e block && quiet k
settled e (Run way tree ∷ k) = is_silent e && quiet k
settled e (Ended ∷ k) = is_done e && is_last k
settled e k = is_plain e && quiet k

abbrev pub IsSettled : State → Type 0
IsSettled s = settled s.event s.frames ≡ true

-- the event may come where these blocks are open, safety aside
abbrev pub follows : Event → List Open → Bool
follows EndAtomic bs = in_atomic bs
follows (Raise kind cancels) bs = in_kind kind bs
follows EndSync bs = in_sync bs
follows Done bs = is_empty bs
follows (Load addr size volatile) bs = is_size size
follows (Store addr size value volatile) bs = is_size size && nat_lt value (2 ^ (8 * size))
follows (Stop end) bs = is_own_end end
follows e bs = true

-- what safety adds: nothing that someone else could see comes inside an atomic block
abbrev pub is_hidden : Event → List Open → Bool
is_hidden (Out byte) bs = no_atomic bs
is_hidden Inp bs = no_atomic bs
is_hidden (Spawn func arg) bs = no_atomic bs
is_hidden (Join id) bs = no_atomic bs
is_hidden (Load addr size volatile) bs = not volatile || no_atomic bs
is_hidden (Store addr size value volatile) bs = not volatile || no_atomic bs
is_hidden e bs = true

-- a thread stays settled, and its events say which blocks are open
pub record GoesOn (p : Program) (s : State) (reply : Reply) : Type 0 where
  pub settled : IsSettled ((source p).after s reply)
  pub blocks : (source p).blocks ((source p).after s reply) ≡ blocks_after ((source p).next s) ((source p).blocks s)

-- a thread begins settled, with no open block
pub record Begins (p : Program) (s : State) : Type 0 where
  pub settled : IsSettled s
  pub free : (source p).blocks s ≡ []

-- a test of states that stays true as the threads go on and start others, and under which no event comes that safety rules out
pub record StaysSafe (p : Program) (test : State → Bool) : Type 0 where
  pub goes_on : (s : State) (reply : Reply) → test s ≡ true → test ((source p).after s reply) ≡ true
  pub starts : (s : State) (number func : ℕ) (arg : ℤ) → test s ≡ true → (source p).next s ≡ Spawn func arg → test ((source p).child s number func arg) ≡ true
  pub safe : (s : State) → test s ≡ true → is_hidden ((source p).next s) ((source p).blocks s) ≡ true

-- settled, and such a test is true
pub record IsSafeState (test : State → Bool) (s : State) : Type 0 where
  pub settled : IsSettled s
  pub tested : test s ≡ true

-- the last event of a block
abbrev pub closes_block : Event → Bool
closes_block EndAtomic = true
closes_block (Raise kind cancels) = true
closes_block EndSync = true
closes_block e = false

-- the innermost block, whose frame is first, is left: it is open before the event and not after it
pub record LeftOnce (p : Program) (s : State) (reply : Reply) : Type 0 where
  pub block : Open
  pub others : List Frame
  pub first : s.frames ≡ Closes block ∷ others
  pub before : (source p).blocks s ≡ block ∷ blocks_of others
  pub after : (source p).blocks ((source p).after s reply) ≡ blocks_of others

-- an exception passes a frame that neither destroys, nor catches, nor ends a block, a function or the thread
abbrev pub is_passed : Frame → Bool
is_passed (Scope owner always ws) = false
is_passed (Full outer) = false
is_passed (Within block) = false
is_passed (Called caller stops) = false
is_passed (Tries handlers) = false
is_passed (Starts main) = false
is_passed f = true
