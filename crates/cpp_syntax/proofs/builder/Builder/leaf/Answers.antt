use Rattle.cpp_syntax.specs.Derivations.{no_read}
use Rattle.cpp_syntax.proofs.BuilderViews.{appended_nothing}
use Rattle.cpp_syntax.proofs.builder.Builder.leaf.Goals as goal

pub returns-clause-added : goal.returns-clause-added
returns-clause-added c = c.in_ok-node.ensures.gathered c.args.self.now no_read (appended_nothing c.args.self.now) c.checkpoint-start.ensures.trees
