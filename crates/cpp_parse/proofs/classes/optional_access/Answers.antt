use Rattle.std.proofs.Common.{refl, sym as back}
use Rattle.cpp_ast.specs.declared.kinds.NodeKind.TheVariants.{AccessSpecifier}
use Rattle.cpp_syntax.specs.Terminals.{is_access}
use Rattle.cpp_syntax.proofs.LongestMatches.{mark_none}
use Rattle.cpp_syntax.proofs.Readers.{reads_left_out, none_node}
use Rattle.cpp_syntax.proofs.LeafReaders.{always_leaf, always_taken}
use Rattle.cpp_parse.proofs.classes.optional_access.Goals as goal

pub returns-then-not-is_access_at : goal.returns-then-not-is_access_at
returns-then-not-is_access_at c = reads_left_out (none_node (mark_none (back c.if-not-is_access_at.ensures.test))) c.requires.here refl

pub returns : goal.returns
returns c =
    always_taken _ _ _ _ _ _ _ refl (always_leaf _ AccessSpecifier is_access _ _ _ _ (back c.if-not-is_access_at.ensures.test)
    (c.if-not-is_access_at.ensures.inside refl) c.leaf.ensures)
