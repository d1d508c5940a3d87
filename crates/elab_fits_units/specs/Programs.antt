-- The law: the nodes of each body of each unit of a program fit.
use Rattle.std.specs.Prelude.{◌≡◌, ℕ, true, List, Some, Ok, slice_get}
use Rattle.elab_rules.specs.cpp_tree.declared.roles.Role.TheVariants.{Statement}
use Rattle.elab_rules.specs.cpp_tree.Trees.{Tree}
use Rattle.elab_rules.specs.cpp_tree.Units.{Func, Unit, TypedProgram}
use Rattle.elab_rules.specs.cpp_tree.WellFormed.{fits, outermost}
use Rattle.elab_rules.specs.Programs.{Source, program_of}
use Rattle.state_growth.specs.Programs.{unit_setting}
use Rattle.elab_fits_units.specs.Named.{AreNamedTexts}

-- sources as the parser makes them: each token is spelled, each `try` has a handler, and members and functions have names of no type
abbrev pub AreSources : List Source → Type 0
AreSources xs = (i : ℕ) (x : Source) → slice_get xs i ≡ Some x → AreNamedTexts x.tokens x.decls

-- a unit whose bodies fit in a program
abbrev pub UnitFits : TypedProgram → Unit → Type 0
UnitFits p u = (k : ℕ) (f : Func) (tree : Tree) → slice_get u.funcs k ≡ Some f → f.body ≡ Some tree → fits (unit_setting p u f) outermost Statement tree ≡ true

abbrev pub AllUnitsFit : TypedProgram → Type 0
AllUnitsFit p = (i : ℕ) (u : Unit) → slice_get p.units i ≡ Some u → UnitFits p u

abbrev pub ProgramsFit : Type 0
ProgramsFit = (xs : List Source) (p : TypedProgram) → AreSources xs → program_of xs ≡ Ok p → AllUnitsFit p
