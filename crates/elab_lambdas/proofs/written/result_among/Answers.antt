use Rattle.elab_entry.specs.cpp_lex.Tokens.{lexemes_of}
use Rattle.elab_entry.specs.elab_ctx.Ctx.{ctx_of, work_of}
use Rattle.elab_entry.specs.elab_types.Syntax.{syntax_of, trees_at}
use Rattle.elab_lambdas.proofs.Results.{result_says}
use Rattle.elab_lambdas.proofs.written.result_among.Goals as goal

pub returns-clause-says : goal.returns-clause-says
returns-clause-says c = result_says (lexemes_of c.args.tokens.now) (ctx_of c.args.env.now) (work_of c.args.work.now)
    (trees_at (syntax_of c.args.nodes.now) c.args.ids.now) _ c.type_written.result c.trailing_type-found.ensures.found c.type_written.ensures.says
