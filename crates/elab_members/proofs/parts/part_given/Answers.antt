use Rattle.elab_entry.specs.cpp_types.Typ.{typ_of}
use Rattle.elab_entry.specs.cpp_lex.Tokens.{lexemes_of}
use Rattle.elab_entry.specs.elab_types.Syntax.{syntax_of, trees_at}
use Rattle.elab_members.proofs.PartSteps.{given_behind}
use Rattle.elab_members.proofs.parts.part_given.Goals as goal

pub returns : goal.returns
returns g c = given_behind (g.L.MakeLambdas.lambdas c.args.lams.now) (lexemes_of c.args.tokens.now) c.args.st.now _ _ _ c.args.class c.args.member
    (typ_of c.args.ty.now) c.args.at (trees_at (syntax_of c.args.nodes.now) c.args.ids.now) c.in_ok-all_lambdas.ensures c.part_values.ensures
