-- What a global begins with.
use Rattle.std.specs.Prelude.{ℕ, List, [], option_map, unwrap_or}
use Rattle.cpp_tree.specs.Units.{Global, Cell, TypedProgram}
use Rattle.src_mean.specs.Links.{global_at}

-- the cells of the global with these indexes, none where there is no such global
abbrev pub init_at : TypedProgram → (unit place : ℕ) → List Cell
init_at t u n = unwrap_or (option_map (λ (g : Global). g.init) (global_at t u n)) []
