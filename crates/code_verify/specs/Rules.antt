-- The clauses of sound code as numbered tests of an index and of a row.
use Rattle.std.specs.Prelude.{Bool, true, ℕ, zero, suc, ◌+◌, ◌-◌, List, [], ◌∷◌, length, Option, Some, None, is_some, not, ◌&&◌, ◌||◌, nat_le, nat_eq}
use Rattle.std.specs.Prelude.{slice_get, if◌then◌else◌}
use Rattle.std.specs.Option.{option_map_or}
use Rattle.tx_events.specs.Thread.{is_empty}
use Rattle.tx_code.specs.declared.instr.Instr.{Instr}
use Rattle.tx_code.specs.declared.body.Row.{Row}
use Rattle.tx_code.specs.Objects.{BodyView}
use Rattle.tx_code.specs.Shapes.{Shape, Table, outgoing}
use Rattle.tx_code.specs.Sound.{target_lies, row_lies, is_last, is_known, row_is_known, names_right, row_names_right, passes, exception_right, is_inside}
use Rattle.tx_code.specs.Sound.{inside_right, outside_right, closes_right, edge_right, has_edge, left_at}
use Rattle.code_walk.specs.Walk.{Slot, slot_at}

-- the number of the first test that fails
abbrev pub first_broken : ℕ → List Bool → Option ℕ
first_broken n [] = None
first_broken n (ok ∷ oks) = if ok then first_broken (n + 1) oks else Some n

-- a test of an index's shape, if it has one
abbrev pub of_shape : (Shape → Bool) → Option Shape → Bool
of_shape test o = option_map_or test o true

-- the clauses that speak of the instruction alone: 1 to 3
abbrev pub alone_right : Table → (instrs index : ℕ) → Instr → List Bool
alone_right x n i a = (target_lies n a && (not (nat_eq (i + 1) n) || is_last a)) ∷ is_known a ∷ names_right x a ∷ []

abbrev pub place_right : Table → (safe : Bool) → Instr → Shape → Bool
place_right x safe a s = not (is_inside safe s.opens) || inside_right x a

abbrev pub outer_right : (safe : Bool) → Instr → Shape → Bool
outer_right safe a s = is_inside safe s.opens || outside_right a

abbrev pub blocks_right : List Row → ℕ → Instr → Shape → Bool
blocks_right rows i a s = closes_right a s && (is_empty s.opens || has_edge rows i)

-- those that speak of its shape: 5 to 10
abbrev pub shape_right : Table → (own : ℕ) → (safe : Bool) → List Row → ℕ → Instr → Shape → List Bool
shape_right x own safe rows i a s = is_some (outgoing x own a s) ∷ passes x a ∷ exception_right a s ∷ place_right x safe a s ∷ outer_right safe a s
    ∷ blocks_right rows i a s ∷ []

abbrev pub shaped_right : Table → (own : ℕ) → (safe : Bool) → List Row → ℕ → Instr → Option Shape → List Bool
shaped_right x own safe rows i a None = []
shaped_right x own safe rows i a (Some s) = shape_right x own safe rows i a s

abbrev pub or_then : Option ℕ → Option ℕ → Option ℕ
or_then None o = o
or_then (Some n) o = Some n

-- the lowest clause that an index breaks itself
abbrev pub index_rule : Table → (own : ℕ) → (safe : Bool) → BodyView → ℕ → Instr → Slot Shape → Option ℕ
index_rule x own safe b i a s = or_then (first_broken 1 (alone_right x (length b.code) i a))
    (if s.clash then Some 4 else first_broken 5 (shaped_right x own safe b.rows i a s.shape))

-- ---- rows

abbrev pub row_alone : Table → (instrs : ℕ) → Row → List Bool
row_alone x n r = row_lies n r ∷ row_is_known r ∷ row_names_right x r ∷ []

-- a test of each index from here on, so many
abbrev pub holds_over : (ℕ → Shape → Bool) → List (Slot Shape) → (from count : ℕ) → Bool
holds_over test slots from zero = true
holds_over test slots from (suc n) = of_shape (test from) (slot_at slots from).shape && holds_over test slots (from + 1) n

abbrev pub edge_test : Row → ℕ → Shape → Bool
edge_test r i s = edge_right r.what s.opens

abbrev pub depth_test : List Instr → Row → ℕ → Shape → Bool
depth_test code r i s = option_map_or (λ a. nat_le r.depth (left_at a s.depth)) (slice_get code i) true

abbrev pub row_over : List Instr → List (Slot Shape) → Row → List Bool
row_over code slots r = holds_over (edge_test r) slots r.from (r.to - r.from) ∷ holds_over (depth_test code r) slots r.from (r.to - r.from) ∷ []

-- the lowest clause that a row breaks
abbrev pub row_rule : Table → BodyView → List (Slot Shape) → Row → Option ℕ
row_rule x b slots r = or_then (first_broken 1 (row_alone x (length b.code) r)) (first_broken 10 (row_over b.code slots r))
