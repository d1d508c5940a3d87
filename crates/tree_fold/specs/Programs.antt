-- Programs whose bodies are folded; all else stays.
use Rattle.std.specs.Prelude.{◌≡◌, ℕ, Bool, true, map, Some, slice_get, option_map}
use Rattle.cpp_tree.specs.Trees.{Tree}
use Rattle.cpp_tree.specs.Units.{Func, Unit as TypedUnit, TypedProgram}
use Rattle.tx_unsafe.specs.Volatile.{has_volatile_part}
use Rattle.tree_fold.specs.Folding.{folded}
use Rattle.tree_fold.specs.Folded.{is_folded}

abbrev pub folded_func : (volatile : ℕ → Bool) → Func → Func
folded_func volatile f = record f { body = option_map (folded volatile) f.body }

abbrev pub folded_unit : (volatile : ℕ → Bool) → TypedUnit → TypedUnit
folded_unit volatile u = record u { funcs = map (folded_func volatile) u.funcs }

abbrev pub folded_program : TypedProgram → TypedProgram
folded_program p = record p { units = map (folded_unit (has_volatile_part p.classes)) p.units }

-- no body of the program has anything left to fold
pub record IsFolded (p : TypedProgram) : Type 0 where
  pub bodies : (i n : ℕ) (u : TypedUnit) (f : Func) (body : Tree) → slice_get p.units i ≡ Some u → slice_get u.funcs n ≡ Some f → f.body ≡ Some body
      → is_folded (has_volatile_part p.classes) body ≡ true
