-- The state of the machine: what each thread holds, its transaction and its savepoints.
use Rattle.std.specs.Prelude.{ℕ, zero, suc, ◌==◌, ◌+◌, min, max, Bool, true, false, cond, not, nat_lt, ◌&&◌, List, [], ◌∷◌, Option, Some, None, is_some}
use Rattle.choosers.specs.declared.Clash.{Clash}
use Rattle.tx_events.specs.declared.End.{End}
use Rattle.tx_events.specs.Memory.{update}
use Rattle.tx_events.specs.World.{Lock}

-- A savepoint: for each word that it notes, what the word held when it was first stored to since.
abbrev pub Save : Type 0
Save = ℕ → Option ℕ

-- The transaction of a thread. While it is open or giving up it has its birth, the thread's state just after the
-- outermost BeginAtomic, and one savepoint for each open atomic block, the newest first.
pub data Tx (S : Type 0) : Type 0 where
  NoTx : Tx S
  OpenTx : ℕ → S → List Save → Tx S
  GivingUp : ℕ → S → List Save → Tx S
  Closing : ℕ → Tx S

-- A started thread: its state, whether it has ended, the words that it holds, those that it holds for writing, and
-- its transaction.
pub record Local (S : Type 0) : Type 0 where
  pub state : S
  pub ended : Bool
  pub held : ℕ → Bool
  pub wrote : ℕ → Bool
  pub tx : Tx S

-- The Waited turns that a thread has taken without another turn of its own between: at which word, against which
-- least birth, and how many.
pub record Waits : Type 0 where
  pub word : ℕ
  pub least : ℕ
  pub count : ℕ

-- The machine: memory by words, the started threads by their numbers and how many there are, the synchronized lock,
-- the next birth, the waits of each thread number, output, input left, the order, and the program's end.
pub record Machine (S : Type 0) : Type 0 where
  pub memory : ℕ → ℕ
  pub threads : ℕ → Option (Local S)
  pub started : ℕ
  pub lock : Lock
  pub births : ℕ
  pub waits : ℕ → Waits
  pub out : List ℕ
  pub input : List ℕ
  pub order : List ℕ
  pub end : Option End

-- Searches over the numbers below n.

abbrev pub elder : (ℕ → ℕ) → ℕ → Option ℕ → Option ℕ
elder f n None = Some n
elder f n (Some k) = cond (nat_lt (f n) (f k)) (Some n) (Some k)

-- of those for which p holds, the one whose f is least
abbrev pub eldest : (ℕ → Bool) → (ℕ → ℕ) → ℕ → Option ℕ
eldest p f zero = None
eldest p f (suc n) = cond (p n) (elder f n (eldest p f n)) (eldest p f n)

-- the least for which p holds
abbrev pub least : (ℕ → Bool) → ℕ → Option ℕ
least p n = eldest p (λ k. k) n

-- the greatest f of those for which p holds
abbrev pub greatest : (ℕ → Bool) → (ℕ → ℕ) → ℕ → ℕ
greatest p f zero = 0
greatest p f (suc n) = cond (p n) (max (f n) (greatest p f n)) (greatest p f n)

-- how many there are for which p holds
abbrev pub count : (ℕ → Bool) → ℕ → ℕ
count p zero = 0
count p (suc n) = cond (p n) (suc (count p n)) (count p n)

-- What a thread number holds, and its transaction.

abbrev pub held_by : {S : Type 0} → Option (Local S) → ℕ → Bool
held_by None x = false
held_by (Some l) x = l.held x

abbrev pub wrote_by : {S : Type 0} → Option (Local S) → ℕ → Bool
wrote_by None x = false
wrote_by (Some l) x = l.wrote x

-- open, giving up or closing
abbrev pub has_tx : {S : Type 0} → Tx S → Bool
has_tx NoTx = false
has_tx (OpenTx b k ss) = true
has_tx (GivingUp b k ss) = true
has_tx (Closing b) = true

abbrev pub tx_in : {S : Type 0} → Option (Local S) → Bool
tx_in None = false
tx_in (Some l) = has_tx l.tx

-- open or giving up
abbrev pub is_live : {S : Type 0} → Tx S → Bool
is_live NoTx = false
is_live (OpenTx b k ss) = true
is_live (GivingUp b k ss) = true
is_live (Closing b) = false

abbrev pub live_in : {S : Type 0} → Option (Local S) → Bool
live_in None = false
live_in (Some l) = is_live l.tx

abbrev pub birth : {S : Type 0} → Tx S → ℕ
birth NoTx = 0
birth (OpenTx b k ss) = b
birth (GivingUp b k ss) = b
birth (Closing b) = b

abbrev pub birth_of : {S : Type 0} → Option (Local S) → ℕ
birth_of None = 0
birth_of (Some l) = birth l.tx

-- Who keeps whom off.

-- Thread u blocks this access of thread t: it holds the word for writing, or it holds it and the access is a store.
abbrev pub conflicts_with : {S : Type 0} → ℕ → Bool → ℕ → (ℕ → Option (Local S)) → ℕ → Bool
conflicts_with t store x threads u = not (u == t) && cond store (held_by (threads u) x) (wrote_by (threads u) x)

-- the blocking thread whose birth is least
abbrev pub blocker : {S : Type 0} → ℕ → Bool → ℕ → Machine S → Option ℕ
blocker t store x m = eldest (conflicts_with t store x m.threads) (λ u. birth_of (m.threads u)) m.started

-- the thread other than t that holds the lock
abbrev pub lock_owner : ℕ → Option ℕ → Option ℕ
lock_owner t None = None
lock_owner t (Some u) = cond (u == t) None (Some u)

-- the least thread other than t whose transaction is open or giving up
abbrev pub busy : {S : Type 0} → ℕ → Machine S → Option ℕ
busy t m = least (λ u. not (u == t) && live_in (m.threads u)) m.started

-- Waits.

abbrev pub no_waits : Waits
no_waits = record { word = 0; least = 0; count = 0 }

-- how many of them were at this word, against this least birth
abbrev pub waits_at : Waits → ℕ → ℕ → ℕ
waits_at ws x b = cond ((ws.word == x) && (ws.least == b)) ws.count 0

-- the greatest count of them
abbrev pub most_waits : ℕ
most_waits = 4294967295

-- one more, up to the greatest count
abbrev pub wait_more : Waits → ℕ → ℕ → Waits
wait_more ws x b = record { word = x; least = b; count = min (waits_at ws x b + 1) most_waits }

-- The clash that thread t, whose transaction has the birth b, shows its policy, where u is the blocking thread whose
-- birth is least.
abbrev pub clash_of : {S : Type 0} → ℕ → Bool → ℕ → Machine S → ℕ → ℕ → Clash
clash_of t store x m b u = record {
  mine = b;
  least = birth_of (m.threads u);
  greatest = greatest (conflicts_with t store x m.threads) (λ v. birth_of (m.threads v)) m.started;
  count = count (conflicts_with t store x m.threads) m.started;
  waits = waits_at (m.waits t) x (birth_of (m.threads u));
}

-- Savepoints.

abbrev pub kept_or : Option ℕ → ℕ → ℕ
kept_or None v = v
kept_or (Some old) v = old

abbrev pub or_else : Option ℕ → Option ℕ → Option ℕ
or_else None o = o
or_else (Some v) o = Some v

-- what the oldest savepoint that notes the word has: the bytes to which all of them together put it back
abbrev pub oldest : List Save → ℕ → Option ℕ
oldest [] x = None
oldest (s ∷ ss) x = or_else (oldest ss x) (s x)

-- the note of the word is dropped
abbrev pub forget : Save → ℕ → Save
forget s x = update s x None

abbrev pub forget_all : List Save → ℕ → List Save
forget_all [] x = []
forget_all (s ∷ ss) x = forget s x ∷ forget_all ss x

-- a dropped savepoint hands its notes to the one below, for the words that that one does not note
abbrev pub hand : Save → Save → Save
hand s older x = or_else (older x) (s x)

-- the newest savepoint notes the word's bytes, where it does not note that word
abbrev pub note : List Save → ℕ → ℕ → List Save
note [] x v = []
note (s ∷ ss) x v = update s x (Some (kept_or (s x) v)) ∷ ss

abbrev pub no_save : Save
no_save x = None

abbrev pub is_noted : Save → ℕ → Bool
is_noted s x = is_some (s x)
