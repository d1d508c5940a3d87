-- Where clauses are broken, and which is broken first.
use Rattle.std.specs.Prelude.{Bool, true, false, ◌≡◌, ◌<◌, ◌≤◌, ◌⊎◌, ℕ, ◌+◌, ◌-◌, List, [], ◌∷◌, length, min, Some, not, ◌&&◌, ◌||◌, nat_eq, slice_get}
use Rattle.tx_code.specs.declared.instr.Instr.{Instr}
use Rattle.tx_code.specs.declared.body.Row.{Row}
use Rattle.tx_code.specs.Objects.{BodyView}
use Rattle.tx_code.specs.Images.{ImageFuncView, ImageView}
use Rattle.tx_code.specs.Shapes.{Shape, Table, Among}
use Rattle.tx_code.specs.Sound.{Signature, signature, table_of, frame_right}
use Rattle.code_walk.specs.Walk.{Slot, slot_at, walked}
use Rattle.code_walk.specs.Bodies.{space}
use Rattle.code_verify.specs.Rules.{alone_right, shaped_right, row_alone, row_over}

-- the test of this clause fails, where the first test is that of clause n
abbrev pub fails : (n rule : ℕ) → List Bool → Bool
fails n rule [] = false
fails n rule (ok ∷ oks) = (nat_eq n rule && not ok) || fails (n + 1) rule oks

-- the index breaks the clause itself
abbrev pub index_breaks : Table → (own : ℕ) → (safe : Bool) → BodyView → ℕ → Instr → Slot Shape → (rule : ℕ) → Bool
index_breaks x own safe b i a s rule = fails 1 rule (alone_right x (length b.code) i a)
    || ((nat_eq 4 rule && s.clash) || fails 5 rule (shaped_right x own safe b.rows i a s.shape))

-- the row breaks it
abbrev pub row_breaks : Table → BodyView → List (Slot Shape) → Row → (rule : ℕ) → Bool
row_breaks x b slots r rule = fails 1 rule (row_alone x (length b.code) r) || fails 10 rule (row_over b.code slots r)

-- a body breaks a clause at an index: an empty one clause 1; a row's breach stands at its `from` or at the last index
pub data BodyBreaks (x : Table) (g : Signature) (safe : Bool) (b : BodyView) : (index rule : ℕ) → Type 0 where
  is_empty : length b.code ≡ 0 → BodyBreaks x g safe b 0 1
  at_index : {i rule : ℕ} {a : Instr} → slice_get b.code i ≡ Some a → index_breaks x g.gives safe b i a (slot_at (walked (space x g b)) i) rule ≡ true
      → BodyBreaks x g safe b i rule
  by_row : {rule : ℕ} {r : Row} → Among r b.rows → row_breaks x b (walked (space x g b)) r rule ≡ true
      → BodyBreaks x g safe b (min r.from (length b.code - 1)) rule

-- a function does: the instructions of its safe body are counted behind those of the plain one
pub data FuncBreaks (x : Table) (f : ImageFuncView) : (index rule : ℕ) → Type 0 where
  by_frame : frame_right f.frame ≡ false → FuncBreaks x f 0 11
  in_plain : {i rule : ℕ} → BodyBreaks x (signature f.ty) false f.plain i rule → FuncBreaks x f i rule
  in_safe : {i rule : ℕ} {b : BodyView} → f.safe ≡ Some b → BodyBreaks x (signature f.ty) true b i rule → FuncBreaks x f (length f.plain.code + i) rule

pub record Breaks (i : ImageView) (func index rule : ℕ) : Type 0 where
  pub body : ImageFuncView
  pub is : slice_get i.funcs func ≡ Some body
  pub breaks : FuncBreaks (table_of i) body index rule

-- the one place does not stand behind the other: it has the lower index, or at one index no higher clause
abbrev pub Precedes : (index rule : ℕ) → (other_index other_rule : ℕ) → Type 0
Precedes i r j s = (i < j) ⊎ ((i ≡ j) × (r ≤ s))

abbrev pub PrecedesIn : (func index rule : ℕ) → (other_func other_index other_rule : ℕ) → Type 0
PrecedesIn f i r g j s = (f < g) ⊎ ((f ≡ g) × Precedes i r j s)

-- the clause is broken there, and none at a lower function, or index, or at this index a lower one
pub record FirstBroken (i : ImageView) (func index rule : ℕ) : Type 0 where
  pub breaks : Breaks i func index rule
  pub first : (g j s : ℕ) → Breaks i g j s → PrecedesIn func index rule g j s
