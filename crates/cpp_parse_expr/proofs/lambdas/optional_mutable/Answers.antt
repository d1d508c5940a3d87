use Rattle.std.proofs.Common.{refl}
use Rattle.cpp_ast.specs.declared.kinds.NodeKind.TheVariants.{Mutable}
use Rattle.cpp_syntax.specs.declared.terminal.Terminal.TheVariants as terminal
use Rattle.cpp_syntax.specs.Terminals.{mutable_word}
use Rattle.cpp_syntax.proofs.SingleTerminals.{refused, passed}
use Rattle.cpp_syntax.proofs.LongestMatches.{mark_none}
use Rattle.cpp_syntax.proofs.Readers.{reads_left_out, none_node}
use Rattle.cpp_syntax.proofs.LeafReaders.{always_leaf, always_taken}
use Rattle.cpp_parse_expr.proofs.lambdas.optional_mutable.Goals as goal

pub returns-then-not-is_at : goal.returns-then-not-is_at
returns-then-not-is_at c =
    reads_left_out (none_node (mark_none (refused mutable_word terminal.Mutable refl _ (c.if-not-is_at.ensures.no refl)))) c.requires.here refl

pub returns : goal.returns
returns c =
    always_taken _ _ _ _ _ _ _ refl (always_leaf _ Mutable mutable_word _ _ _ _ (passed mutable_word terminal.Mutable refl _
    (c.if-not-is_at.ensures.yes refl)) (c.if-not-is_at.ensures.inside refl refl) c.leaf.ensures)
