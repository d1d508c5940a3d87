use Rattle.std.proofs.Common.{◌≡◌, ◌∙◌, Err, refl, sym, rules}
use Rattle.elab_rows.specs.cpp_lex.Tokens.{lexemes_of}
use Rattle.elab_rows.specs.cpp_types.Typ.{typ_of}
use Rattle.elab_rows.specs.elab_ctx.Ctx.{ctx_of, work_of}
use Rattle.elab_rows.specs.elab_types.Syntax.{syntax_of, tree_at}
use Rattle.elab_expr.proofs.Declaring.{refused_says}
use Rattle.elab_expr.proofs.LiteralBounds.{literal_says, literal_fault}
use Rattle.elab_expr.proofs.Several.{no_kids}
use Rattle.elab_expr.proofs.literals.literal_bound.Goals as goal

pub returns : goal.returns
returns c = λ l. literal_says typ_of _ (lexemes_of c.args.tokens.now) (ctx_of c.args.env.now) l (work_of c.no_work-scratch.result)
    (work_of c.args.work.now) _ c.args.at (typ_of c.args.ty.now)
    (tree_at (syntax_of c.args.nodes.now) c.args.id) _ _ _ _ c.in-Some.token _ _ _ c.node_at-node.ensures.node c.requires.kind c.in-Some.is
    (no_kids (syntax_of c.args.nodes.now) c.node_at-node.result.now.kids (sym c.is_empty.ensures ∙ c.if-not-is_empty.false))
    (rw c.place.ensures at c.in_ok-operand.ensures) c.bounded.ensures

pub returns-in_err-operand : goal.returns-in_err-operand
returns-in_err-operand c = λ l.
    let is_error : c.from_residual.result ≡ Err c.in_err-operand.field-0.0 = search rules in
    refused_says typ_of _ _ _ _ is_error refl (literal_fault (lexemes_of c.args.tokens.now) (ctx_of c.args.env.now) l (work_of c.no_work-scratch.result)
    (work_of c.args.work.now) c.args.at (typ_of c.args.ty.now)
    (tree_at (syntax_of c.args.nodes.now) c.args.id) _ _ _ _ c.in-Some.token _ c.node_at-node.ensures.node c.requires.kind c.in-Some.is
    (no_kids (syntax_of c.args.nodes.now) c.node_at-node.result.now.kids (sym c.is_empty.ensures ∙ c.if-not-is_empty.false))
    (rw c.place.ensures at c.in_err-operand.ensures))
