-- Moves of two threads: the second takes one silent step, the first some, or both take the same event.
use Rattle.std.specs.Prelude.{ℕ, ◌≡◌, ◌+◌, ◌≤◌, Bool, true, false}
use Rattle.tx_events.specs.declared.Event.TheVariants.{Silent}
use Rattle.tx_events.specs.declared.Reply.{Reply}
use Rattle.tx_events.specs.declared.Reply.TheVariants.{Nothing}
use Rattle.tx_events.specs.Thread.{Thread, Answers, is_silent}
use Rattle.tx_events.specs.Simulation.{Path}

-- related, with a rank of at most `most`
pub record Ranked {S T : Type 0} (most : ℕ) (Related : ℕ → S → T → Type 0) (s : S) (t : T) : Type 0 where
  pub rank : ℕ
  pub low : rank ≤ most
  pub related : Related rank s t

-- the same event of both, which is not silent, and after each reply to it related states again
pub record Meeting {S T : Type 0} (a : Thread S) (b : Thread T) (most : ℕ) (Related : ℕ → S → T → Type 0) (s : S) (t : T) : Type 0 where
  pub loud : is_silent (a.next s) ≡ false
  pub same : b.next t ≡ a.next s
  pub on : (reply : Reply) → Answers (a.next s) reply → Ranked most Related (a.after s reply) (b.after t reply)

-- a silent step of the second, and silent steps of the first: at least one, at most `longest`
pub record Striding {S T : Type 0} (a : Thread S) (b : Thread T) (most longest : ℕ) (Related : ℕ → S → T → Type 0) (s : S) (t : T) : Type 0 where
  pub steps : ℕ
  pub few : steps ≤ longest
  pub to : S
  pub path : Path a (steps + 1) s to
  pub silent : b.next t ≡ Silent
  pub goes : Ranked most Related to (b.after t Nothing)

-- a silent step of the second alone: the rank falls
pub record Waiting {S T : Type 0} (b : Thread T) (Related : ℕ → S → T → Type 0) (rank : ℕ) (s : S) (t : T) : Type 0 where
  pub lower : ℕ
  pub falls : lower + 1 ≤ rank
  pub silent : b.next t ≡ Silent
  pub goes : Related lower s (b.after t Nothing)

pub data Move {S T : Type 0} (a : Thread S) (b : Thread T) (most longest : ℕ) (Related : ℕ → S → T → Type 0) (rank : ℕ) (s : S) (t : T) : Type 0 where
  meets : Meeting a b most Related s t → Move a b most longest Related rank s t
  strides : Striding a b most longest Related s t → Move a b most longest Related rank s t
  waits : Waiting b Related rank s t → Move a b most longest Related rank s t
  -- silent steps of the first, at most `longest`, and then one of these moves
  leads : {q : S} {n : ℕ} → n ≤ longest → Path a n s q → Meeting a b most Related q t → Move a b most longest Related rank s t

-- the relation of a test
abbrev pub Kept : {S T : Type 0} → (ℕ → S → T → Bool) → ℕ → S → T → Type 0
Kept related rank s t = related rank s t ≡ true
