-- What the laws say.
use Rattle.std.specs.Prelude.{◌≡◌, ℕ, Bool, true}
use Rattle.cpp_tree.specs.declared.program.Program.{Program}
use Rattle.cpp_tree.specs.Trees.{Tree}
use Rattle.cpp_tree.specs.Units.{program_of}
use Rattle.cpp_tree.specs.Rows.{Setting}
use Rattle.cpp_tree.specs.WellFormed.{WellFormedBody, WellFormed}
use Rattle.tree_fold.specs.Declaring.{DeclaresPlainly, declares_plainly}
use Rattle.tree_fold.specs.Folding.{folded}
use Rattle.tree_fold.specs.Programs.{folded_program}
use Rattle.tree_forests.specs.Forests.{HaveForests}

-- a well-formed body that declares plainly is folded to a well-formed one
abbrev pub BodiesFit : Type 0
BodiesFit = (volatile : ℕ → Bool) (s : Setting) (body : Tree) → WellFormedBody s body → declares_plainly body ≡ true → WellFormedBody s (folded volatile body)

-- a program that shows the folded program, and whose lists of nodes are forests, is well-formed where the unfolded one is
abbrev pub ProgramsFit : Type 0
ProgramsFit = (p q : Program) → WellFormed p → DeclaresPlainly (program_of p) → program_of q ≡ folded_program (program_of p) → HaveForests q.units.items
    → WellFormed q
