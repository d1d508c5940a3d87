use Rattle.std.proofs.Common.{◌≡◌, drop}
use Rattle.elab_init.specs.elab_rules.Classes.{class_brace}
use Rattle.elab_types.specs.Syntax.{syntax_of, trees_at}
use Rattle.class_texts.proofs.texts.class_brace.Given as goal

abbrev pub invariant-loop-kid : goal.invariant-loop-kid
invariant-loop-kid l = class_brace (trees_at (syntax_of l.nodes) l.kids) ≡ class_brace (trees_at (syntax_of l.nodes) (drop l.kid-index l.kids))
