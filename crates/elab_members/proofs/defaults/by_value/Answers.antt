use Rattle.elab_entry.specs.cpp_types.Typ.{typ_of}
use Rattle.elab_entry.specs.cpp_lex.Tokens.{lexemes_of}
use Rattle.elab_entry.specs.elab_types.Syntax.{syntax_of, tree_at}
use Rattle.elab_members.proofs.InitialiserSteps.{value_whole}
use Rattle.elab_members.proofs.defaults.by_value.Goals as goal

pub returns : goal.returns
returns g c = value_whole (g.L.MakeLambdas.lambdas c.args.lams.now) (lexemes_of c.args.tokens.now) c.args.st.now _ _ (typ_of c.args.ty.now)
    (tree_at (syntax_of c.args.nodes.now) c.args.id) _ _ c.in_ok-o.ensures c.value_made.ensures
