use Rattle.elab_entry.specs.cpp_types.Typ.{typ_of}
use Rattle.elab_entry.specs.cpp_lex.Tokens.{lexemes_of}
use Rattle.elab_entry.specs.elab_types.Syntax.{syntax_of, trees_at}
use Rattle.elab_members.proofs.GivenSteps.{base_gathered}
use Rattle.elab_members.proofs.written.given_base.Goals as goal

pub returns : goal.returns
returns g c = base_gathered (g.L.MakeLambdas.lambdas c.args.lams.now)
    (lexemes_of c.args.tokens.now) c.args.st.now _ c.args.class c.args.list.now.items _ c.args.at c.args.token c.spelling.result.now (typ_of c.in_ok-ty.ty)
    (trees_at (syntax_of c.args.nodes.now) c.args.ids.now) _ c.spelling.ensures c.in_ok-ty.ensures c.given_part.ensures
