use Rattle.std.proofs.Common.{◌≡◌, ◌-◌, None, length}
use Rattle.cpp_ast.specs.declared.kinds.NodeKind.TheVariants.{VirtSpecifier}
use Rattle.cpp_syntax.specs.Terminals.{is_virt}
use Rattle.cpp_syntax.specs.Grammar.{leaf}
use Rattle.cpp_syntax.specs.Derivations.{no_read}
use Rattle.cpp_syntax.proofs.ReaderLoops.{ReadsMany}
use Rattle.cpp_parse.proofs.specifiers.virt_specifiers.Given as goal

abbrev pub invariant-words : goal.invariant-words
invariant-words l = (x : ReadsMany l.text (leaf VirtSpecifier is_virt) l.fn.out no_read l.at l.next l.out) × (x.marked ≡ None)

abbrev pub decreases-words : goal.decreases-words
decreases-words l = length l.text.terminals - l.next
