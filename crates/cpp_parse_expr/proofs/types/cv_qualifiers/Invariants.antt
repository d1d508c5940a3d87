use Rattle.std.proofs.Common.{◌≡◌, ◌-◌, length, None}
use Rattle.cpp_ast.specs.declared.kinds.NodeKind.TheVariants.{CvQualifier}
use Rattle.cpp_syntax.specs.Terminals.{is_cv}
use Rattle.cpp_syntax.specs.Grammar.{leaf}
use Rattle.cpp_syntax.specs.Derivations.{no_read}
use Rattle.cpp_syntax.proofs.ReaderLoops.{ReadsMany}
use Rattle.cpp_parse_expr.proofs.types.cv_qualifiers.Given as goal

abbrev pub invariant-words : goal.invariant-words
invariant-words l = (x : ReadsMany l.text (leaf CvQualifier is_cv) l.fn.out no_read l.at l.next l.out) × (x.marked ≡ None)

abbrev pub decreases-words : goal.decreases-words
decreases-words l = length l.text.terminals - l.next
