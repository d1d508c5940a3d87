-- A body in which the walk finds no broken clause: the clauses of sound code, of the shapes that the walk gives.
use Rattle.std.specs.Prelude.{Bool, true, false, ◌≡◌, ◌<◌, ℕ, ◌-◌, length, Some, is_some, ◌||◌, nat_lt, nat_le, slice_get}
use Rattle.std.specs.List.{list_all}
use Rattle.std.specs.Option.{option_map_or}
use Rattle.tx_events.specs.Thread.{is_empty}
use Rattle.tx_code.specs.declared.instr.Instr.{Instr}
use Rattle.tx_code.specs.declared.body.Row.{Row}
use Rattle.tx_code.specs.Objects.{BodyView}
use Rattle.tx_code.specs.Meaning.{covers}
use Rattle.tx_code.specs.Shapes.{Shape, Table, Among, outgoing}
use Rattle.tx_code.specs.Sound.{Signature, target_lies, row_lies, is_last, is_known, row_is_known, names_right, row_names_right, passes, exception_right}
use Rattle.tx_code.specs.Sound.{is_inside, inside_right, outside_right, closes_right, edge_right, has_edge, left_at}
use Rattle.code_walk.specs.Walk.{slot_at, walked}
use Rattle.code_walk.specs.Bodies.{space}

-- the walk gives an index this shape
abbrev pub Found : Table → Signature → BodyView → ℕ → Shape → Type 0
Found x g b i s = (slot_at (walked (space x g b)) i).shape ≡ Some s

pub record Clean (x : Table) (g : Signature) (safe : Bool) (b : BodyView) : Type 0 where
  pub filled : nat_lt 0 (length b.code) ≡ true
  pub targets : list_all (target_lies (length b.code)) b.code ≡ true
  pub rows : list_all (row_lies (length b.code)) b.rows ≡ true
  pub last : option_map_or is_last (slice_get b.code (length b.code - 1)) false ≡ true
  pub known : list_all is_known b.code ≡ true
  pub rows_known : list_all row_is_known b.rows ≡ true
  pub names : list_all (names_right x) b.code ≡ true
  pub rows_names : list_all (row_names_right x) b.rows ≡ true
  pub one_shape : (i : ℕ) → i < length b.code → (slot_at (walked (space x g b)) i).clash ≡ false
  pub operands : (i : ℕ) (s : Shape) (a : Instr) → Found x g b i s → slice_get b.code i ≡ Some a → is_some (outgoing x g.gives a s) ≡ true
  pub words : (i : ℕ) (s : Shape) (a : Instr) → Found x g b i s → slice_get b.code i ≡ Some a → passes x a ≡ true
  pub exceptions : (i : ℕ) (s : Shape) (a : Instr) → Found x g b i s → slice_get b.code i ≡ Some a → exception_right a s ≡ true
  pub inside : (i : ℕ) (s : Shape) (a : Instr) → Found x g b i s → slice_get b.code i ≡ Some a → is_inside safe s.opens ≡ true → inside_right x a ≡ true
  pub outside : (i : ℕ) (s : Shape) (a : Instr) → Found x g b i s → slice_get b.code i ≡ Some a → is_inside safe s.opens ≡ false → outside_right a ≡ true
  pub closes : (i : ℕ) (s : Shape) (a : Instr) → Found x g b i s → slice_get b.code i ≡ Some a → closes_right a s ≡ true
  pub edges : (i : ℕ) (s : Shape) (r : Row) → Found x g b i s → Among r b.rows → covers r i ≡ true → edge_right r.what s.opens ≡ true
  pub covered : (i : ℕ) (s : Shape) → Found x g b i s → (is_empty s.opens || has_edge b.rows i) ≡ true
  pub depths : (i : ℕ) (s : Shape) (a : Instr) (r : Row) → Found x g b i s → slice_get b.code i ≡ Some a → Among r b.rows → covers r i ≡ true
      → nat_le r.depth (left_at a s.depth) ≡ true
