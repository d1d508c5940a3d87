use Rattle.std.proofs.Common.{refl}
use Rattle.elab_locals.specs.cpp_tree.declared.kinds.TKind.TheVariants as forms
use Rattle.elab_locals.specs.cpp_tree.Trees.{Tree, three}
use Rattle.elab_locals.specs.elab_rules.Statements.{statement}
use Rattle.elab_stmt.proofs.Steps.{node_three}
use Rattle.std.proofs.Common.{false}
use Rattle.elab_stmt.proofs.recursion.do_test.Goals as goal

pub returns : goal.returns
returns g c = node_three c.args.st.now _ _ _ c.args.inside c.in_ok-test.test c.in_ok-step.step _ c.args.at _
    (λ (u v w : Tree). statement (forms.Loop false) c.args.at
    (three v u w)) _ c.requires.inside c.in_ok-test.ensures c.in_ok-step.ensures c.in_ok-made.ensures refl
