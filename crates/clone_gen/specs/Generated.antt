-- The object of a unit, but for the code of its bodies.
use Rattle.std.specs.Prelude.{◌≡◌, ℕ, Bool, ◌&&◌, nat_lt, nat_le, cond, List, map, length, Option, Some, None}
use Rattle.std.specs.List.Sorted.{IsPermutation}
use Rattle.cpp_tree.specs.Units.{Unit, TypedProgram}
use Rattle.tx_code.specs.Objects.{ObjectView}
use Rattle.tx_code.specs.declared.object.TheConstants.{LONGEST_NAME}
use Rattle.link_faults.specs.Faults.{classes_of}
use Rattle.unit_entries.specs.Records.{func_record, global_record}
use Rattle.unit_entries.specs.Entries.{unit_funcs, unit_globals, unit_classes}

-- a source whose name is empty or too long is not named
abbrev pub is_source_name : List ℕ → Bool
is_source_name source = nat_lt 0 (length source) && nat_le (length source) LONGEST_NAME

abbrev pub source_name : List ℕ → Option (List ℕ)
source_name source = cond (is_source_name source) (Some source) None

-- The entries are those of the unit, in some order: that of their names where the object is one. These of its functions are safe, and this is the name of its
-- source.
pub record IsObjectOf (p : TypedProgram) (u : Unit) (safe : List Bool) (name : List ℕ) (o : ObjectView) : Type 0 where
  pub version : o.version ≡ 2
  pub source : o.source ≡ source_name name
  pub classes : IsPermutation (unit_classes p u) (classes_of o)
  pub globals : IsPermutation (unit_globals p u safe) (map (global_record o) o.globals)
  pub funcs : IsPermutation (unit_funcs p u safe) (map (func_record o) o.funcs)
