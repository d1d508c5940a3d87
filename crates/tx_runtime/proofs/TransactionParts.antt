-- The parts of a transaction, by what it shows.
use Rattle.std.proofs.Common.{ℕ, ◌≡◌, true, Option, Some, None, List, length, refl, ap, sym, ◌∙◌}
use Rattle.std.specs.Prelude.{is_some}
use Rattle.tx_serial.specs.Machine.{Save, OpenTx, GivingUp, Closing, Local}
use Rattle.tx_runtime.specs.declared.thread.Stage.{Stage}
use Rattle.tx_runtime.specs.declared.thread.Stage.TheVariants.{Open, Undoing, Releasing}
use Rattle.tx_runtime.specs.declared.thread.Transaction.{Transaction}
use Rattle.own_table.specs.declared.table.Holders.{Holders}
use Rattle.undo_log.specs.View.{marks_of}
use Rattle.tx_runtime.specs.declared.thread.ThreadSlot.{ThreadSlot}
use Rattle.tx_runtime.specs.Saves.{saves_of}
use Rattle.tx_runtime.proofs.LogSavepoints.{saves_count}
use Rattle.tx_runtime.specs.Threads.{local_of, tx_by, tx_of, birth_in, has_saves, undoes}

-- a transaction that is there, with its parts
pub record Parts {K S : Type 0} (saved : K → S) (o : Option (Transaction K)) (g : Stage) (b : ℕ) (k : S) : Type 0 where
  pub tx : Transaction K
  pub is : o ≡ Some tx
  pub stage : tx.stage ≡ g
  pub birth : tx.birth ≡ b
  pub kept : saved tx.kept ≡ k

record ByParts {S : Type 0} (g h : Stage) (b c : ℕ) (k j : S) (ss rs : List Save) : Type 0 where
  pub stage : g ≡ h
  pub birth : b ≡ c
  pub kept : k ≡ j
  pub saves : ss ≡ rs

open_by : {S : Type 0} (g : Stage) (b c : ℕ) (k j : S) (ss rs : List Save) → tx_by g b k ss ≡ OpenTx c j rs → ByParts g Open b c k j ss rs
open_by Open b c k j ss rs e = record { stage = refl; birth = cc; kept = cc; saves = cc }
open_by Undoing b c k j ss rs e = absurd (cc)
open_by Releasing b c k j ss rs e = absurd (cc)

giving_by : {S : Type 0} (g : Stage) (b c : ℕ) (k j : S) (ss rs : List Save) → tx_by g b k ss ≡ GivingUp c j rs → ByParts g Undoing b c k j ss rs
giving_by Undoing b c k j ss rs e = record { stage = refl; birth = cc; kept = cc; saves = cc }
giving_by Open b c k j ss rs e = absurd (cc)
giving_by Releasing b c k j ss rs e = absurd (cc)

closing_by : {S : Type 0} (g : Stage) (b c : ℕ) (k : S) (ss : List Save) → tx_by g b k ss ≡ Closing c → (g ≡ Releasing) × (b ≡ c)
closing_by Releasing b c k ss e = (refl, cc)
closing_by Open b c k ss e = absurd (cc)
closing_by Undoing b c k ss e = absurd (cc)

pub open_parts : {K S : Type 0} (saved : K → S) (o : Option (Transaction K)) (ss rs : List Save) (b : ℕ) (k : S) → tx_of saved o ss ≡ OpenTx b k rs
    → Parts saved o Open b k × (ss ≡ rs)
open_parts saved None ss rs b k e = absurd (cc)
open_parts saved (Some x) ss rs b k e = let p = open_by x.stage x.birth b (saved x.kept) k ss rs e in
    (record { tx = x; is = refl; stage = p.stage; birth = p.birth; kept = p.kept }, p.saves)

pub giving_parts : {K S : Type 0} (saved : K → S) (o : Option (Transaction K)) (ss rs : List Save) (b : ℕ) (k : S) → tx_of saved o ss ≡ GivingUp b k rs
    → Parts saved o Undoing b k × (ss ≡ rs)
giving_parts saved None ss rs b k e = absurd (cc)
giving_parts saved (Some x) ss rs b k e = let p = giving_by x.stage x.birth b (saved x.kept) k ss rs e in
    (record { tx = x; is = refl; stage = p.stage; birth = p.birth; kept = p.kept }, p.saves)

pub closing_parts : {K S : Type 0} (saved : K → S) (o : Option (Transaction K)) (ss : List Save) (b : ℕ) → tx_of saved o ss ≡ Closing b → (is_some o ≡ true)
    × (birth_in o ≡ b)
closing_parts saved None ss b e = absurd (cc)
closing_parts saved (Some x) ss b e = let p = closing_by x.stage x.birth b (saved x.kept) ss e in (refl, p.1)

module _ {K S : Type 0} (saved : K → S) (o : Option (Transaction K)) (b : ℕ) (k : S) where
  -- with other savepoints
  pub open_with : Parts saved o Open b k → (ss : List Save) → tx_of saved o ss ≡ OpenTx b k ss
  open_with p ss =
      ap (λ z. tx_of saved z ss) p.is
      ∙ (ap (λ g. tx_by g p.tx.birth (saved p.tx.kept) ss) p.stage
      ∙ (ap (λ z. OpenTx z (saved p.tx.kept) ss) p.birth ∙ ap (λ z. OpenTx b z ss) p.kept))

  pub giving_with : Parts saved o Undoing b k → (ss : List Save) → tx_of saved o ss ≡ GivingUp b k ss
  giving_with p ss =
      ap (λ z. tx_of saved z ss) p.is
      ∙ (ap (λ g. tx_by g p.tx.birth (saved p.tx.kept) ss) p.stage
      ∙ (ap (λ z. GivingUp z (saved p.tx.kept) ss) p.birth ∙ ap (λ z. GivingUp b z ss) p.kept))

  pub open_live : Parts saved o Open b k → has_saves o ≡ true
  open_live p = ap has_saves p.is ∙ ap undoes p.stage

  pub giving_live : Parts saved o Undoing b k → has_saves o ≡ true
  giving_live p = ap has_saves p.is ∙ ap undoes p.stage

  pub part_some : {g : Stage} → Parts saved o g b k → is_some o ≡ true
  part_some p = ap is_some p.is

  pub part_birth : {g : Stage} → Parts saved o g b k → birth_in o ≡ b
  part_birth p = ap birth_in p.is ∙ p.birth

-- as many savepoints as marks
pub saves_long : {A K S : Type 0} (state : A → S) (saved : K → S) (holders : Holders) (t : ℕ) (s : ThreadSlot A K) (l : Local S) (b : ℕ) (k : S)
    (ss : List Save) → local_of state saved holders t s ≡ l → l.tx ≡ OpenTx b k ss → length ss ≡ length (marks_of s.log)
saves_long {A} {K} {S} state saved holders t s l b k ss one tx =
    sym (ap length (open_parts saved s.tx (saves_of s.log) ss b k (ap (λ (v : Local S). v.tx) one ∙ tx)).1) ∙ saves_count s.log
