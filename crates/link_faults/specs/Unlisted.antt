-- Slots and cells that name what their object has no entry of, by ranks.
use Rattle.std.specs.Prelude.{Bool, false, ◌≡◌, ◌<◌, ℕ, zero, suc, List, Some, map, length, slice_get, not, ◌&&◌, ◌||◌, nat_eq, if◌then◌else◌}
use Rattle.std.specs.List.{list_any}
use Rattle.tx_code.specs.declared.object.ObjCell.{ObjCell}
use Rattle.tx_code.specs.Objects.{ClassView, GlobalView, FuncView, ObjectView}
use Rattle.tx_code.specs.Linked.{name_in}
use Rattle.tx_code.specs.WellFormed.{is_name_or_none}
use Rattle.link_faults.specs.declared.unlisted.Listed.{Listed}
use Rattle.link_faults.specs.Ranks.{rank_of}

-- of each name of an object whether it is among the symbols
abbrev pub is_symbol : List ℕ → ℕ → Bool
is_symbol symbols name = list_any (λ s. nat_eq s name) symbols

abbrev pub AreMarks : List ℕ → List Bool → Type 0
AreMarks symbols marks = (n : ℕ) → n < length marks → slice_get marks n ≡ Some (is_symbol symbols n)

abbrev pub func_symbols : ObjectView → List ℕ
func_symbols o = map (λ (f : FuncView). f.symbol) o.funcs

abbrev pub global_symbols : ObjectView → List ℕ
global_symbols o = map (λ (g : GlobalView). g.symbol) o.globals

-- a name that may be there, of which the symbols have none
abbrev pub is_unlisted : (symbols : List ℕ) → ℕ → Bool
is_unlisted symbols zero = false
is_unlisted symbols (suc name) = not (is_symbol symbols name)

abbrev pub rank_below : List (List ℕ) → ObjectView → ℕ → ℕ
rank_below all o zero = 0
rank_below all o (suc name) = rank_of all (name_in o name)

abbrev pub misses_slot : List (List ℕ) → ObjectView → (rank : ℕ) → ℕ → Bool
misses_slot all o rank name = nat_eq (rank_below all o name) rank && is_unlisted (func_symbols o) name

abbrev pub misses_slots : List (List ℕ) → ObjectView → (rank : ℕ) → ClassView → Bool
misses_slots all o rank c = list_any (misses_slot all o rank) c.slots

abbrev pub misses_cell : List (List ℕ) → ObjectView → (rank : ℕ) → ObjCell → Bool
misses_cell all o rank c = nat_eq (rank_below all o c.symbol) rank
    && (if nat_eq c.what 2 then is_unlisted (func_symbols o) c.symbol else is_unlisted (global_symbols o) c.symbol)

abbrev pub misses_cells : List (List ℕ) → ObjectView → (rank : ℕ) → GlobalView → Bool
misses_cells all o rank g = list_any (misses_cell all o rank) g.cells

abbrev pub misses_in : List (List ℕ) → (rank : ℕ) → ObjectView → Bool
misses_in all rank o = list_any (misses_slots all o rank) o.classes || list_any (misses_cells all o rank) o.globals

abbrev pub misses_any : List (List ℕ) → List ObjectView → (rank : ℕ) → Bool
misses_any all os rank = list_any (misses_in all rank) os

abbrev pub is_cell_name : (names : ℕ) → ObjCell → Bool
is_cell_name names c = is_name_or_none names c.symbol

-- the marks of an object's functions and globals
pub record AreListed (o : ObjectView) (listed : Listed) : Type 0 where
  pub funcs : AreMarks (func_symbols o) listed.funcs.items
  pub globals : AreMarks (global_symbols o) listed.globals.items
  pub func_names : length listed.funcs.items ≡ length o.names
  pub global_names : length listed.globals.items ≡ length o.names
