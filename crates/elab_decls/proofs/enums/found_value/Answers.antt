use Rattle.std.proofs.Common.{◌∙◌, ℤ, List, ap, sym}
use Rattle.std.proofs.lemmas.Int.{to_z-of_z}
use Rattle.std.specs.Int.{w128}
use Rattle.elab_expr.specs.cpp_lex.Tokens.{lexemes_of}
use Rattle.elab_expr.specs.cpp_ast.declared.arena.NodeId.{NodeId}
use Rattle.elab_expr.specs.elab_ctx.Ctx.{ctx_of, work_of}
use Rattle.elab_expr.specs.elab_types.Syntax.{syntax_of, tree_at, trees_at}
use Rattle.elab_decls.specs.Enums.{valued_shown, written_value, found_value}
use Rattle.elab_decls.proofs.Steps.{says_same}
use Rattle.elab_decls.proofs.EnumSteps.{found}
use Rattle.elab_decls.proofs.enums.found_value.Goals as goal

pub returns-in-None-clause-value : goal.returns-in-None-clause-value
returns-in-None-clause-value c =
    ap (λ (z : List NodeId). found_value (lexemes_of c.args.tokens.now) (ctx_of c.args.env.now) (work_of c.args.work.now) c.args.at c.args.next
    (trees_at (syntax_of c.args.nodes.now) z)) c.in-None.ensures.kid
    ∙ ap (λ (n : ℤ). found n c.args.at) (sym (to_z-of_z w128 c.args.next c.ranges.next))

pub returns-in-Some-clause-value : goal.returns-in-Some-clause-value
returns-in-Some-clause-value c =
    says_same valued_shown c.written_value.result (written_value (lexemes_of c.args.tokens.now) (ctx_of c.args.env.now) (work_of c.args.work.now) c.args.at
    (tree_at (syntax_of c.args.nodes.now) c.in-Some.kid))
    (found_value (lexemes_of c.args.tokens.now) (ctx_of c.args.env.now) (work_of c.args.work.now) c.args.at c.args.next
    (trees_at (syntax_of c.args.nodes.now) c.args.ids.now))
    (ap (λ (z : List NodeId). found_value (lexemes_of c.args.tokens.now) (ctx_of c.args.env.now) (work_of c.args.work.now) c.args.at c.args.next
    (trees_at (syntax_of c.args.nodes.now) z)) c.in-Some.ensures.kid)
    (c.written_value.ensures.value c.args.at)
