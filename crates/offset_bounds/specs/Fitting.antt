-- Offsets are numbers of 32 bits: the one behind the definition of each function.
use Rattle.std.specs.Prelude.{◌≡◌, ℕ, nat_le, Bool, true, Some}
use Rattle.std.specs.List.{list_all}
use Rattle.cpp_tree.specs.Units.{Func, Unit as TypedUnit, TypedProgram}
use Rattle.src_mean.specs.Links.{func_at}
use Rattle.tx_safety.specs.Safe.{unit_end}

abbrev pub is_offset : ℕ → Bool
is_offset n = nat_le n unit_end

abbrev pub has_offset : Func → Bool
has_offset f = is_offset f.closed_at

abbrev pub have_offsets : TypedUnit → Bool
have_offsets u = list_all has_offset u.funcs

pub record OffsetsFit (t : TypedProgram) : Type 0 where
  pub each : (unit n : ℕ) (f : Func) → func_at t unit n ≡ Some f → nat_le f.closed_at unit_end ≡ true
