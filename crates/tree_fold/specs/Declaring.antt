-- Declarations whose object is told before the run.
use Rattle.std.specs.Prelude.{◌≡◌, ℕ, Bool, true, false, not, ◌&&◌, Some, slice_get}
use Rattle.cpp_tree.specs.declared.kinds.TKind.{TKind}
use Rattle.cpp_tree.specs.declared.kinds.TKind.TheVariants.{Conditional, Init}
use Rattle.cpp_tree.specs.Trees.{Tree, node, Trees, none, more, kind_of, first}
use Rattle.cpp_tree.specs.Units.{Func, Unit as TypedUnit, TypedProgram}

abbrev pub is_init : TKind → Bool
is_init Init = true
is_init kind = false

abbrev pub is_choice : TKind → Bool
is_choice Conditional = true
is_choice kind = false

-- the address of what a declaration declares is no choice
abbrev mutual
  pub declares_plainly : Tree → Bool
  declares_plainly (node kind t cat at kids) = not (is_init kind && is_choice (kind_of (first kids))) && all_declare_plainly kids

  pub all_declare_plainly : Trees → Bool
  all_declare_plainly none = true
  all_declare_plainly (more t ts) = declares_plainly t && all_declare_plainly ts

-- so in all bodies of a program
pub record DeclaresPlainly (p : TypedProgram) : Type 0 where
  pub bodies : (u n : ℕ) (x : TypedUnit) (f : Func) (body : Tree) → slice_get p.units u ≡ Some x → slice_get x.funcs n ≡ Some f → f.body ≡ Some body
      → declares_plainly body ≡ true
