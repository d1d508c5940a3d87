use Rattle.elab_entry.specs.cpp_lex.Tokens.{lexemes_of}
use Rattle.elab_entry.specs.cpp_types.Typ.{typ_of, signature_of}
use Rattle.elab_entry.specs.elab_types.Syntax.{syntax_of}
use Rattle.elab_lambdas.specs.Whole.{written_of}
use Rattle.elab_lambdas.proofs.Made.{known_is}
use Rattle.elab_lambdas.proofs.making.lambda_known.Goals as goal

pub returns : goal.returns
returns c = known_is (lexemes_of c.args.tokens.now) c.args.st.now c.lambda_with.new.st (written_of (syntax_of c.args.nodes.now) c.args.x.now)
    (typ_of c.args.ret.now) (signature_of c.in_ok-function.function) c.lambda_with.result c.in_ok-function.ensures c.lambda_with.ensures
