use Rattle.std.proofs.Common.{◌∙◌, drop, sym}
use Rattle.elab_entry.specs.cpp_lex.Tokens.{lexemes_of}
use Rattle.elab_entry.specs.elab_ctx.Ctx.{ctx_of, work_of}
use Rattle.elab_entry.specs.elab_types.Syntax.{syntax_of, trees_at}
use Rattle.class_members.specs.Shown.{storage_of}
use Rattle.class_table.specs.Written.{method_shown, at_hand}
use Rattle.elab_members.proofs.OutsideSteps.{says_kind}
use Rattle.elab_members.proofs.outside.outside_method.Goals as goal

pub returns-then-is_plain-clause-method : goal.returns-then-is_plain-clause-method
returns-then-is_plain-clause-method c bodies = says_kind (method_shown (syntax_of c.args.nodes.now) c.args.kids.now) _ (lexemes_of c.args.tokens.now)
    (at_hand (ctx_of c.args.env.now) (work_of c.args.work.now) bodies) c.args.at (storage_of c.args.storage) c.args.kind
    (trees_at (syntax_of c.args.nodes.now) (drop c.args.start c.args.kids.now)) (sym c.is_plain.ensures ∙ c.if-is_plain.true)
    (c.plain_method.ensures.method bodies)
