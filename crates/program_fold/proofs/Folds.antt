-- A folded program is well formed and safe as the program is.
use Rattle.std.proofs.Common.{◌≡◌, sym, subst}
use Rattle.cpp_tree.specs.declared.program.Program.{Program}
use Rattle.cpp_tree.specs.Units.{TypedProgram, program_of}
use Rattle.cpp_tree.specs.WellFormed.{WellFormed}
use Rattle.tree_forests.specs.Forests.{HaveForests}
use Rattle.tree_fold.specs.Declaring.{DeclaresPlainly}
use Rattle.tree_fold.specs.Programs.{folded_program}
use Rattle.tx_safety.specs.Safe.{IsSafe}
use Rattle.fold_fits.specs.Laws.{ProgramsFit}

-- `p` is the program that was given, and `q` shows what it folds to
module _ (p given q : Program) (is : p ≡ given) (well : WellFormed given) (same : program_of q ≡ folded_program (program_of p)) where
  pub well_folded : ProgramsFit → DeclaresPlainly (program_of given) → HaveForests q.units.items → WellFormed q
  well_folded law plain own = law p q (subst (λ (z : Program). WellFormed z) (sym is) well)
      (subst (λ (z : Program). DeclaresPlainly (program_of z)) (sym is) plain) same own

  pub safely_folded : ((x : Program) → WellFormed x → IsSafe (program_of x) → IsSafe (folded_program (program_of x))) → IsSafe (program_of p)
      → IsSafe (program_of q)
  safely_folded law safe = subst (λ (z : TypedProgram). IsSafe z) (sym same) (law p (subst (λ (z : Program). WellFormed z) (sym is) well) safe)
