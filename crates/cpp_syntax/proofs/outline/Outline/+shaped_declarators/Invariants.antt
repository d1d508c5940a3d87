use Rattle.std.proofs.Common.{ℕ, ◌+◌, ◌*◌}
use Rattle.cpp_syntax.proofs.outline.Outline.+shaped_declarators.Given as goal

abbrev pub decreases-shaped_declarator : goal.decreases-shaped_declarator
decreases-shaped_declarator l = l.depth_left * 64 + 4

abbrev pub decreases-shaped_direct_declarator : goal.decreases-shaped_direct_declarator
decreases-shaped_direct_declarator l = l.depth_left * 64 + 3

abbrev pub decreases-shaped_declarator_head : goal.decreases-shaped_declarator_head
decreases-shaped_declarator_head l = l.depth_left * 64 + 2

abbrev pub decreases-shaped_group : goal.decreases-shaped_group
decreases-shaped_group l = l.depth_left * 64 + 1
