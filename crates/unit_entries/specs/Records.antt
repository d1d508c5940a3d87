-- What an object says by its entries, with its names resolved; the code of bodies is left out.
use Rattle.std.specs.Prelude.{ℕ, Bool, List, [], map, Option, None}
use Rattle.tx_code.specs.declared.object.ObjCell.{ObjCell}
use Rattle.tx_code.specs.Objects.{GlobalView, FuncView, ObjectView}
use Rattle.tx_code.specs.WellFormed.{is_no_except}
use Rattle.link_faults.specs.Faults.{Entry, func_entry, global_entry, text_in}

pub record FuncRecord : Type 0 where
  pub entry : Entry
  pub no_except : Bool
  -- the size of its frame in bytes
  pub frame : ℕ

pub record CellRecord : Type 0 where
  pub offset : ℕ
  pub size : ℕ
  pub what : ℕ
  pub value : ℕ
  pub symbol : Option (List ℕ)

pub record GlobalRecord : Type 0 where
  pub entry : Entry
  pub size : ℕ
  pub cells : List CellRecord

abbrev pub func_record : ObjectView → FuncView → FuncRecord
func_record o f = record { entry = func_entry o f; no_except = is_no_except f; frame = f.frame }

abbrev pub cell_record : ObjectView → ObjCell → CellRecord
cell_record o c = record { offset = c.offset; size = c.size; what = c.what; value = c.value; symbol = text_in o c.symbol }

abbrev pub global_record : ObjectView → GlobalView → GlobalRecord
global_record o g = record { entry = global_entry o g; size = g.size; cells = map (cell_record o) g.cells }

-- an object with these names: entries speak of names alone
abbrev pub naming : List (List ℕ) → ObjectView
naming names = record { version = 2; names = names; source = None; classes = []; globals = []; funcs = [] }
