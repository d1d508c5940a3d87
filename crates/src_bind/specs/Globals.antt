-- Where globals lie, in tables.
use Rattle.std.specs.Prelude.{◌≡◌, ◌≤◌, ℕ, ◌+◌, Bool, List, Some, slice_get, unwrap_or}
use Rattle.cpp_tree.specs.cpp_types.Conversion.{form_of}
use Rattle.cpp_tree.specs.cpp_layout.Layout.{extent_of}
use Rattle.cpp_tree.specs.cpp_layout.Measured.{HoldsComplete}
use Rattle.cpp_tree.specs.cpp_layout.declared.extents.TheConstants.{GREATEST_SIZE}
use Rattle.cpp_tree.specs.Typing.{passes}
use Rattle.cpp_tree.specs.Units.{Global, Unit as TypedUnit, TypedProgram}
use Rattle.cpp_tree.specs.tx_events.Memory.{globals_start}
use Rattle.src_bind.specs.Numbers.{indexed}
use Rattle.src_mean.specs.Links.{Def, global_at, def_of_global, number_in}

-- the global is defined
abbrev pub has_definition : TypedProgram → Def → Bool
has_definition t d = passes (λ (g : Global). g.defined) (global_at t d.unit d.place)

-- a global's type has a size, which is not too large
pub record HasSize (t : TypedProgram) (d : Def) : Type 0 where
  pub complete : (g : Global) → global_at t d.unit d.place ≡ Some g → HoldsComplete t.classes (form_of g.typ)
  pub within : (g : Global) → global_at t d.unit d.place ≡ Some g → (extent_of t.classes g.typ).size ≤ GREATEST_SIZE

pub record HaveSizes (t : TypedProgram) (ds : List Def) : Type 0 where
  pub each : (i : ℕ) (d : Def) → slice_get ds i ≡ Some d → HasSize t d

-- the address of the definition with this number, where globals lie at these offsets
abbrev pub address_in : List ℕ → ℕ → ℕ
address_in offsets number = globals_start + unwrap_or (slice_get offsets number) 0

abbrev pub global_addresses : List Def → List ℕ → ℕ → ℕ → List Global → List ℕ
global_addresses kept offsets u n gs = indexed (λ n g. address_in offsets (number_in (def_of_global u n g) kept)) n gs

abbrev pub unit_addresses : List Def → List ℕ → ℕ → List TypedUnit → List (List ℕ)
unit_addresses kept offsets u xs = indexed (λ u x. global_addresses kept offsets u 0 x.globals) u xs
