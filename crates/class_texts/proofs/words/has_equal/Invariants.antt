use Rattle.std.proofs.Common.{◌≡◌, drop}
use Rattle.elab_init.specs.elab_rules.Classes.{has_equal}
use Rattle.elab_types.specs.Syntax.{syntax_of, trees_at}
use Rattle.class_texts.proofs.words.has_equal.Given as goal

abbrev pub invariant-loop-kid : goal.invariant-loop-kid
invariant-loop-kid l = has_equal (trees_at (syntax_of l.nodes) l.kids) ≡ has_equal (trees_at (syntax_of l.nodes) (drop l.kid-index l.kids))
