-- The parts of an image by tables of numbers.
use Rattle.std.specs.Prelude.{Bool, true, ◌≡◌, ℕ, zero, suc, ◌+◌, ◌-◌, ◌%◌, ◌^◌, List, [], ◌∷◌, ◌++◌, map, unwrap_or, length}
use Rattle.std.specs.Option.{option_map}
use Rattle.tx_events.specs.declared.GlobalCell.{GlobalCell}
use Rattle.tx_code.specs.declared.object.ObjCell.{ObjCell}
use Rattle.tx_code.specs.Objects.{global_view}
use Rattle.tx_code.specs.WellFormed.{global_fits, is_no_except}
use Rattle.tx_code.specs.Images.{ImageClassView, ImageFuncView}
use Rattle.tx_code.specs.Linked.{absent, is_main_def, name_in, or_none, plain_body, rounded}
use Rattle.tx_code.specs.Program.{func_address, global_address}
use Rattle.tx_code.specs.Renaming.{renamed_body}
use Rattle.link_tables.specs.declared.found.FoundGlobal.{FoundGlobal}
use Rattle.link_tables.specs.declared.renamed.Numbers.{Numbers}
use Rattle.link_tables.specs.Found.{ClassRow, FuncRow, GlobalRow, func_of_row}
use Rattle.link_tables.specs.Renamed.{numbering_in, told}

abbrev pub func_told : Numbers → FuncRow → ImageFuncView
func_told x r = record {
  symbol = name_in r.home.object r.func.symbol;
  ty = name_in r.home.object r.func.ty;
  frame = r.func.frame;
  no_except = is_no_except r.func;
  plain = renamed_body (numbering_in x r.home.start) (plain_body r.func);
  safe = option_map (renamed_body (numbering_in x r.home.start)) r.func.safe;
  source = r.home.object.source;
}

abbrev pub class_told : Numbers → ClassRow → ImageClassView
class_told x r = record {
  name = name_in r.home.object r.class.name;
  base = or_none (λ n. told x.classes.items (r.home.start + n)) r.class.base;
  slots = map (or_none (λ n. told x.funcs.items (r.home.start + n))) r.class.slots;
}

abbrev pub cell_number : Numbers → (start : ℕ) → ObjCell → (what : ℕ) → ℕ
cell_number x start c zero = c.value
cell_number x start c (suc zero) = (global_address (unwrap_or (told x.globals.items (start + (c.symbol - 1))) absent) + c.value) % 2 ^ 64
cell_number x start c (suc (suc n)) = func_address (unwrap_or (told x.funcs.items (start + (c.symbol - 1))) absent)

abbrev pub cell_told : Numbers → (start place : ℕ) → ObjCell → GlobalCell
cell_told x start place c = record { offset = place + c.offset; size = c.size; value = cell_number x start c c.what }

abbrev pub cells_told : Numbers → (place : ℕ) → List GlobalRow → List GlobalCell
cells_told x place [] = []
cells_told x place (r ∷ rs) = map (cell_told x r.home.start place) r.global.cells ++ cells_told x (place + rounded r.global.size) rs

-- a global as an object has it
pub record IsPlacedGlobal (g : FoundGlobal) : Type 0 where
  pub fits : global_fits (length g.home.object.now.names.items) (global_view g.global.now) ≡ true

abbrev pub is_main_row : FuncRow → Bool
is_main_row r = is_main_def (func_of_row r)
