-- How many bytes globals take.
use Rattle.std.specs.Prelude.{ℕ, length, if◌then◌else◌}
use Rattle.std.specs.List.{sum_by}
use Rattle.tx_code.specs.declared.object.Object.{Object}
use Rattle.tx_code.specs.declared.object.ObjGlobal.{ObjGlobal}
use Rattle.tx_code.specs.Objects.{global_view}
use Rattle.tx_code.specs.Linked.{is_defined_global, rounded}

-- what a global takes where it is defined
abbrev pub placed_size : ObjGlobal → ℕ
placed_size g = if is_defined_global (global_view g) then rounded g.size else 0

abbrev pub size_in : Object → ℕ
size_in o = sum_by placed_size o.globals.items

abbrev pub name_count : Object → ℕ
name_count o = length o.names.items
