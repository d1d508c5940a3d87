-- How a thread goes on, and the laws of its blocks, sizes and values.
use Rattle.std.specs.Prelude.{ℕ, ℤ, pos, negsuc, suc, ◌≡◌, ◌<◌, ◌^◌, ◌*◌, Bool, true, false, not, nat_lt, ◌==◌, ◌&&◌, ◌||◌, List, [], ◌∷◌}
use Rattle.tx_events.specs.declared.BlockKind.{BlockKind}
use Rattle.tx_events.specs.declared.BlockKind.TheVariants.{NoExcept, Commit, Cancel}
use Rattle.tx_events.specs.declared.End.{End}
use Rattle.tx_events.specs.declared.End.TheVariants.{Exit, Abort, Terminate, Trapped, StepsOut}
use Rattle.tx_events.specs.declared.Event.{Event}
use Rattle.tx_events.specs.declared.Event.TheVariants.{Silent, Load, Store, Out, Inp, Spawn, Join, BeginAtomic, EndAtomic, Raise, BeginSync, EndSync, Done}
use Rattle.tx_events.specs.declared.Event.TheVariants.{Stop}
use Rattle.tx_events.specs.declared.Reply.{Reply}
use Rattle.tx_events.specs.declared.Reply.TheVariants.{Nothing, Loaded, Byte, Id}

-- an open block
pub data Open : Type 0 where
  Atomic : BlockKind → Open
  Sync : Open

-- how a thread goes on: its next event, the state after a reply, the first state of a thread that it starts (of this number, function and argument), and its
-- open blocks, the innermost first
pub record Thread (S : Type 0) : Type 0 where
  pub next : S → Event
  pub after : S → Reply → S
  pub child : S → ℕ → ℕ → ℤ → S
  pub blocks : S → List Open

-- a number of 32 bits with a sign
abbrev pub IsInt : ℤ → Type 0
IsInt (pos n) = n < 2 ^ 31
IsInt (negsuc n) = n < 2 ^ 31

-- a reply of the form that the event asks for
abbrev pub Answers : Event → Reply → Type 0
Answers (Load addr size volatile) (Loaded value) = value < 2 ^ (8 * size)
Answers (Load addr size volatile) Nothing = ⊥
Answers (Load addr size volatile) (Byte value) = ⊥
Answers (Load addr size volatile) (Id id) = ⊥
Answers Inp (Byte value) = IsInt value
Answers Inp (Loaded value) = ⊥
Answers Inp Nothing = ⊥
Answers Inp (Id id) = ⊥
Answers (Spawn func arg) (Id id) = IsInt id
Answers (Spawn func arg) (Loaded value) = ⊥
Answers (Spawn func arg) Nothing = ⊥
Answers (Spawn func arg) (Byte value) = ⊥
Answers Silent reply = reply ≡ Nothing
Answers (Store addr size value volatile) reply = reply ≡ Nothing
Answers (Out byte) reply = reply ≡ Nothing
Answers (Join id) reply = reply ≡ Nothing
Answers (BeginAtomic kind) reply = reply ≡ Nothing
Answers EndAtomic reply = reply ≡ Nothing
Answers (Raise kind cancels) reply = reply ≡ Nothing
Answers BeginSync reply = reply ≡ Nothing
Answers EndSync reply = reply ≡ Nothing
Answers Done reply = reply ≡ Nothing
Answers (Stop end) reply = reply ≡ Nothing

-- an event that no one else sees
abbrev pub is_silent : Event → Bool
is_silent Silent = true
is_silent (Load addr size volatile) = false
is_silent (Store addr size value volatile) = false
is_silent (Out byte) = false
is_silent Inp = false
is_silent (Spawn func arg) = false
is_silent (Join id) = false
is_silent (BeginAtomic kind) = false
is_silent EndAtomic = false
is_silent (Raise kind cancels) = false
is_silent BeginSync = false
is_silent EndSync = false
is_silent Done = false
is_silent (Stop end) = false

abbrev pub rest_of : List Open → List Open
rest_of [] = []
rest_of (b ∷ bs) = bs

-- the open blocks after an event
abbrev pub blocks_after : Event → List Open → List Open
blocks_after (BeginAtomic kind) bs = Atomic kind ∷ bs
blocks_after BeginSync bs = Sync ∷ bs
blocks_after EndAtomic bs = rest_of bs
blocks_after (Raise kind cancels) bs = rest_of bs
blocks_after EndSync bs = rest_of bs
blocks_after Silent bs = bs
blocks_after (Load addr size volatile) bs = bs
blocks_after (Store addr size value volatile) bs = bs
blocks_after (Out byte) bs = bs
blocks_after Inp bs = bs
blocks_after (Spawn func arg) bs = bs
blocks_after (Join id) bs = bs
blocks_after Done bs = bs
blocks_after (Stop end) bs = bs

-- how many of them are atomic
abbrev pub atomics : List Open → ℕ
atomics [] = 0
atomics (Atomic kind ∷ bs) = suc (atomics bs)
atomics (Sync ∷ bs) = atomics bs

-- none of them is atomic
abbrev pub no_atomic : List Open → Bool
no_atomic [] = true
no_atomic (Atomic kind ∷ bs) = false
no_atomic (Sync ∷ bs) = no_atomic bs

abbrev pub same_kind : BlockKind → BlockKind → Bool
same_kind NoExcept NoExcept = true
same_kind NoExcept Commit = false
same_kind NoExcept Cancel = false
same_kind Commit Commit = true
same_kind Commit NoExcept = false
same_kind Commit Cancel = false
same_kind Cancel Cancel = true
same_kind Cancel Commit = false
same_kind Cancel NoExcept = false

-- the innermost is atomic
abbrev pub in_atomic : List Open → Bool
in_atomic [] = false
in_atomic (Atomic kind ∷ bs) = true
in_atomic (Sync ∷ bs) = false

-- the innermost is atomic, of this kind
abbrev pub in_kind : BlockKind → List Open → Bool
in_kind kind [] = false
in_kind kind (Atomic k ∷ bs) = same_kind kind k
in_kind kind (Sync ∷ bs) = false

-- the innermost is synchronized
abbrev pub in_sync : List Open → Bool
in_sync [] = false
in_sync (Atomic kind ∷ bs) = false
in_sync (Sync ∷ bs) = true

abbrev pub is_empty : List Open → Bool
is_empty [] = true
is_empty (b ∷ bs) = false

-- the sizes of an access
abbrev pub is_size : ℕ → Bool
is_size size = (size == 1) || (size == 2) || (size == 4) || (size == 8)

-- an end that the program itself comes to: StepsOut is no thread's
abbrev pub is_own_end : End → Bool
is_own_end (Exit code) = true
is_own_end Abort = true
is_own_end Terminate = true
is_own_end (Trapped trap) = true
is_own_end StepsOut = false

-- the events that may come where these blocks are open
abbrev pub may_come : Event → List Open → Bool
may_come EndAtomic bs = in_atomic bs
may_come (Raise kind cancels) bs = in_kind kind bs
may_come EndSync bs = in_sync bs
may_come Done bs = is_empty bs
may_come (Out byte) bs = no_atomic bs
may_come Inp bs = no_atomic bs
may_come (Spawn func arg) bs = no_atomic bs
may_come (Join id) bs = no_atomic bs
may_come (Load addr size volatile) bs = is_size size && (not volatile || no_atomic bs)
may_come (Store addr size value volatile) bs = is_size size && nat_lt value (2 ^ (8 * size)) && (not volatile || no_atomic bs)
may_come (BeginAtomic kind) bs = true
may_come BeginSync bs = true
may_come Silent bs = true
may_come (Stop end) bs = is_own_end end

-- the laws, of the states in Reached: which events come, what they do to the open blocks, and that a thread starts with none
pub record Lawful (S : Type 0) (Reached : S → Type 0) (a : Thread S) : Type 0 where
  pub goes_on : (s : S) (reply : Reply) → Reached s → Answers (a.next s) reply → Reached (a.after s reply)
  pub starts : (s : S) (number func : ℕ) (arg : ℤ) → Reached s → a.next s ≡ Spawn func arg → Reached (a.child s number func arg)
  pub starts_free : (s : S) (number func : ℕ) (arg : ℤ) → Reached s → a.next s ≡ Spawn func arg → a.blocks (a.child s number func arg) ≡ []
  pub comes : (s : S) → Reached s → may_come (a.next s) (a.blocks s) ≡ true
  pub blocks : (s : S) (reply : Reply) → Reached s → Answers (a.next s) reply → a.blocks (a.after s reply) ≡ blocks_after (a.next s) (a.blocks s)
