use Rattle.elab_casts.specs.cpp_lex.Tokens.{lexemes_of}
use Rattle.elab_rows.proofs.rows.row.Goals as goal

pub returns-in-Subscript : goal.returns-in-Subscript
returns-in-Subscript c = rw c.in-Subscript.is (c.subscript_row.ensures (lexemes_of c.args.tokens.now) c.args.token)

pub returns-in-ConditionalExpression : goal.returns-in-ConditionalExpression
returns-in-ConditionalExpression c = rw c.in-ConditionalExpression.is (c.conditional_row.ensures (lexemes_of c.args.tokens.now) c.args.token)

pub returns-in-CommaExpression : goal.returns-in-CommaExpression
returns-in-CommaExpression c = rw c.in-CommaExpression.is (c.comma_row.ensures (lexemes_of c.args.tokens.now) c.args.token)

pub returns-in-ThrowExpression : goal.returns-in-ThrowExpression
returns-in-ThrowExpression c = rw c.in-ThrowExpression.is (c.throw_row.ensures (lexemes_of c.args.tokens.now) c.args.token)
