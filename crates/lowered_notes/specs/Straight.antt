-- Straight code: instructions that only move operands, while the source does nothing.
use Rattle.std.specs.Prelude.{ℕ, ◌≡◌, ◌+◌, ◌-◌, ◌≤◌, ◌^◌, Bool, true, false, nat_lt, List, [], ◌∷◌, Some, slice_get}
use Rattle.tx_ints.specs.declared.kinds.BinOp.{BinOp}
use Rattle.tx_ints.specs.declared.kinds.IntKind.TheVariants.{ULong}
use Rattle.tx_code.specs.declared.instr.Instr.{Instr}
use Rattle.tx_code.specs.declared.instr.Instr.TheVariants.{Push, Dup, Pop, Swap, Over, FrameAddr, Bin}
use Rattle.low_code.specs.Numbers.{kind_number, operator_number}
use Rattle.symbolic_source.specs.Terms.{Term, number, local}
use Rattle.symbolic_source.specs.Outcomes.{Outcome, results}
use Rattle.symbolic_code.specs.Facts.{Fact}
use Rattle.symbolic_code.specs.Places.{Place, with_operands}
use Rattle.symbolic_code.specs.Following.{addresses}
use Rattle.src_mean.specs.Linked.{Program}
use Rattle.body_check.specs.Notes.{Note, Bounds, LandsOn}
use Rattle.body_check.specs.Calls.{Book, NoteFits}
use Rattle.body_check.specs.Linked.{Held}

-- the instruction turns these operands into others
pub data Moved (known : List Fact) : Instr → List Term → List Term → Type 0 where
  pushed : {ws : List Term} (n : ℕ) → nat_lt n (2 ^ 64) ≡ true → Moved known (Push n) ws (number n ∷ ws)
  doubled : {ws : List Term} (w : Term) → Moved known Dup (w ∷ ws) (w ∷ w ∷ ws)
  dropped : {ws : List Term} (w : Term) → Moved known Pop (w ∷ ws) ws
  swapped : {ws : List Term} (a b : Term) → Moved known Swap (b ∷ a ∷ ws) (a ∷ b ∷ ws)
  copied : {ws : List Term} (a b : Term) → Moved known Over (b ∷ a ∷ ws) (a ∷ b ∷ a ∷ ws)
  placed : {ws : List Term} (offset : ℕ) → Moved known (FrameAddr offset) ws (local offset ∷ ws)
  computed : {ws : List Term} (op : BinOp) (a b w : Term) → addresses known op ULong a b ≡ Some w
      → Moved known (Bin (operator_number op) (kind_number ULong)) (b ∷ a ∷ ws) (w ∷ ws)

pub data Straight (known : List Fact) : List Instr → List Term → List Term → Type 0 where
  done : {ws : List Term} → Straight known [] ws ws
  moves : {ws us vs : List Term} {instr : Instr} {instrs : List Instr} → Moved known instr ws us → Straight known instrs us vs → Straight known (instr ∷ instrs) ws vs

-- no operator of the source comes next
abbrev pub is_operator : Outcome → Bool
is_operator (results op kind a b o) = true
is_operator o = false

-- the instructions stand there, from an index on
abbrev pub Stand : List Instr → ℕ → List Instr → Type 0
Stand code index [] = Unit {0}
Stand code index (instr ∷ instrs) = (slice_get code index ≡ Some instr) × Stand code (index + 1) instrs

module _ (b : Bounds) (notes : List Note) (q : Place) (known : List Fact) (o : Outcome) where
  -- the note in front of such an instruction: ranks fall as indexes rise
  abbrev pub moved_note : (index rank : ℕ) → List Term → Note
  moved_note index rank ws = record { index = index; place = with_operands q ws; facts = known; outcome = o; lead = 0; rank = rank }

  pub record IsNoted (index rank : ℕ) (ws : List Term) : Type 0 where
    pub at : ℕ
    pub is : slice_get notes at ≡ Some (moved_note index rank ws)
    pub low : rank ≤ b.most

  -- there is one in front of each but the first
  abbrev pub AreNoted : {instrs : List Instr} {ws vs : List Term} → Straight known instrs ws vs → (index rank : ℕ) → Type 0
  AreNoted done index rank = Unit {0}
  AreNoted (moves {us = us} m done) index rank = Unit {0}
  AreNoted (moves {us = us} m (moves n s)) index rank = IsNoted (index + 1) (rank - 1) us × (1 ≤ rank) × AreNoted (moves n s) (index + 1) (rank - 1)

module _ (p : Program) (b : Bounds) (book : Book) (h : Held) (q : Place) (known : List Fact) (o : Outcome) where
  -- what comes behind the last instruction has come to a note
  abbrev pub Ends : {instrs : List Instr} {ws vs : List Term} → Straight known instrs ws vs → (index rank : ℕ) → Type 0
  Ends done index rank = Unit {0}
  Ends (moves {us = us} m done) index rank = LandsOn p h.func b h.notes book.thrown known 0 rank (index + 1) (with_operands q us) o
  Ends (moves m (moves n s)) index rank = Ends (moves n s) (index + 1) (rank - 1)

  -- the notes of all of it fit
  abbrev pub AllFit : {instrs : List Instr} {ws vs : List Term} → Straight known instrs ws vs → (index rank : ℕ) → Type 0
  AllFit done index rank = Unit {0}
  AllFit (moves {ws = ws} m s) index rank = NoteFits p b book h (moved_note b h.notes q known o index rank ws) × AllFit s (index + 1) (rank - 1)
