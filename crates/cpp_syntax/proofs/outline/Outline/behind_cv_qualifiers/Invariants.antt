use Rattle.std.proofs.Common.{◌≡◌, ℕ, ◌-◌, length}
use Rattle.cpp_ast.specs.declared.kinds.NodeKind.TheVariants.{CvQualifier}
use Rattle.cpp_syntax.specs.Terminals.{is_cv}
use Rattle.cpp_syntax.specs.Grammar.{leaf}
use Rattle.cpp_syntax.specs.Derivations.{no_read}
use Rattle.cpp_syntax.proofs.Recognisers.{SpansMany}
use Rattle.cpp_syntax.proofs.outline.Outline.behind_cv_qualifiers.Given as goal

abbrev pub invariant-words : goal.invariant-words
invariant-words l = SpansMany l.self (leaf CvQualifier is_cv) no_read l.at l.next

abbrev pub decreases-words : goal.decreases-words
decreases-words l = length l.self.terminals - l.next
