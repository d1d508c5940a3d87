use Rattle.std.proofs.Common.{refl}
use Rattle.cpp_syntax.specs.declared.terminal.Terminal.TheVariants as terminal
use Rattle.cpp_ast.specs.declared.kinds.NodeKind.TheVariants.{DeclSpecifier}
use Rattle.cpp_syntax.specs.Terminals.{virtual_word}
use Rattle.cpp_syntax.proofs.SingleTerminals.{passed, refused}
use Rattle.cpp_syntax.proofs.LongestMatches.{mark_none}
use Rattle.cpp_syntax.proofs.Readers.{reads_left_out, none_node}
use Rattle.cpp_syntax.proofs.LeafReaders.{always_leaf, always_taken}
use Rattle.cpp_parse.proofs.specifiers.optional_virtual.Goals as goal

pub returns-then-not-is_at : goal.returns-then-not-is_at
returns-then-not-is_at c =
    reads_left_out (none_node (mark_none (refused virtual_word terminal.Virtual refl _ (c.if-not-is_at.ensures.no refl)))) c.requires.here refl

pub returns : goal.returns
returns c =
    always_taken _ _ _ _ _ _ _ refl (always_leaf _ DeclSpecifier virtual_word _ _ _ _
    (passed virtual_word terminal.Virtual refl _ (c.if-not-is_at.ensures.yes refl)) (c.if-not-is_at.ensures.inside refl refl) c.leaf.ensures)
