use Rattle.elab_entry.specs.cpp_lex.Tokens.{lexemes_of}
use Rattle.elab_entry.specs.cpp_types.Typ.{typ_of}
use Rattle.elab_entry.specs.elab_types.Syntax.{syntax_of}
use Rattle.elab_lambdas.specs.Whole.{written_of}
use Rattle.elab_lambdas.proofs.Kept.{inside_done}
use Rattle.elab_lambdas.proofs.making.body_inside.Goals as goal

pub returns : goal.returns
returns c = inside_done (lexemes_of c.args.tokens.now) c.args.st.now c.body_statements.new.st c.closed.new.st c.in_ok-list.list c.in_ok-made.made
    (written_of (syntax_of c.args.nodes.now) c.args.x.now)
    (typ_of c.args.ret.now) c.place_at-at.result c.in_ok-list.ensures c.place_at-at.ensures c.in_ok-made.ensures
