use Rattle.std.proofs.Common.{◌≡◌, ◌≤◌, ◌-◌, None}
use Rattle.cpp_ast.specs.declared.kinds.NodeKind.TheVariants.{SimpleTypeSpecifier}
use Rattle.cpp_syntax.specs.Terminals.{is_type_word}
use Rattle.cpp_syntax.specs.Grammar.{leaf}
use Rattle.cpp_syntax.proofs.ReaderLoops.{ReadsChain}
use Rattle.cpp_parse_expr.proofs.types.type_words.Given as goal

abbrev pub invariant-words : goal.invariant-words
invariant-words l =
    (x : ReadsChain l.text (leaf SimpleTypeSpecifier is_type_word) (leaf SimpleTypeSpecifier is_type_word) l.at l.next l.fn.out l.out) ×
    (x.marked ≡ None) × (l.next ≤ l.end)

abbrev pub decreases-words : goal.decreases-words
decreases-words l = l.end - l.next
