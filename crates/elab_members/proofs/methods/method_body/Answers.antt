use Rattle.std.proofs.Common.{Result, Bool, ap}
use Rattle.elab_entry.specs.cpp_lex.Tokens.{lexemes_of}
use Rattle.elab_entry.specs.cpp_tree.declared.faults.ElabFault.{ElabFault}
use Rattle.elab_entry.specs.elab_ctx.Steps.{and_then}
use Rattle.elab_entry.specs.elab_scopes.States.{state_of}
use Rattle.elab_entry.specs.elab_types.Syntax.{syntax_of, tree_at, trees_at}
use Rattle.class_members.specs.Shown.{header_of}
use Rattle.elab_members.specs.Bodies.{body_by_kind}
use Rattle.elab_members.proofs.DeclarationSteps.{changes_so}
use Rattle.elab_members.proofs.methods.method_body.Goals as goal

pub returns : goal.returns
returns g c = changes_so c.args.st.now _ _ _ _ (ap (λ (z : Result Bool ElabFault). and_then z
    (λ y. body_by_kind (g.L.MakeLambdas.lambdas c.args.lams.now) (lexemes_of c.args.tokens.now) (state_of c.args.st.now) c.args.class c.args.func c.args.kind
    (header_of c.args.header.now) (trees_at (syntax_of c.args.nodes.now) c.args.rest.now) (tree_at (syntax_of c.args.nodes.now) c.args.body)))
    c.in_ok-defines_well.ensures) c.body_by_kind.ensures
