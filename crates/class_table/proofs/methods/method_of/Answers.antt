use Rattle.std.proofs.Common.{◌≡◌, ◌∙◌, rules, refl, sym, ap, subst, map, drop, List, Option, Some, None, Ok, Err, true, false, not, option_map, ◌∷◌, ◌+◌}
use Rattle.elab_expr.specs.cpp_lex.Tokens.{lexemes_of}
use Rattle.elab_expr.specs.cpp_types.Typ.{Typ, typ_of}
use Rattle.elab_expr.specs.elab_ctx.Ctx.{ctx_of, work_of}
use Rattle.elab_expr.specs.elab_ctx.Says.{Faults}
use Rattle.elab_expr.specs.elab_types.Syntax.{syntax_of, tree_at, trees_at}
use Rattle.class_members.specs.Shown.{header_of, storage_of}
use Rattle.elab_expr.specs.elab_rules.Functions.{no_storage}
use Rattle.elab_expr.specs.elab_rules.Classes.{method_of, plain_method, special_method, started_from}
use Rattle.class_table.specs.Written.{at_hand, method_shown}
use Rattle.class_table.proofs.Functions.{says_same, method_plain, method_special}
use Rattle.class_table.proofs.methods.method_of.Goals as goal

pub returns-then-is_plain-clause-method : goal.returns-then-is_plain-clause-method
returns-then-is_plain-clause-method c bodies =
    says_same (method_shown (syntax_of c.args.nodes.now) c.args.kids.now) c.plain_method.result
    (plain_method (lexemes_of c.args.tokens.now) (at_hand (ctx_of c.args.env.now) (work_of c.args.work.now) bodies) c.args.class c.args.at
    (storage_of c.started_from-started.result.storage) (trees_at (syntax_of c.args.nodes.now) (drop c.started_from-started.result.count c.args.kids.now)))
    (method_of (lexemes_of c.args.tokens.now) (at_hand (ctx_of c.args.env.now)
    (work_of c.args.work.now) bodies) c.args.class c.args.class_name.now c.args.at c.args.kind (trees_at (syntax_of c.args.nodes.now) c.args.kids.now))
    (method_plain (lexemes_of c.args.tokens.now) (at_hand (ctx_of c.args.env.now) (work_of c.args.work.now) bodies) c.args.class c.args.class_name.now c.args.at
    (trees_at (syntax_of c.args.nodes.now) c.args.kids.now) (storage_of c.started_from-started.result.storage)
    (trees_at (syntax_of c.args.nodes.now) (drop c.started_from-started.result.count c.args.kids.now))
    (ap (λ z. started_from (lexemes_of c.args.tokens.now) z (trees_at (syntax_of c.args.nodes.now) c.args.kids.now)) (sym c.no_storage.ensures)
    ∙ c.started_from-started.ensures.started) c.args.kind (sym c.is_plain.ensures ∙ c.if-is_plain.true)) (c.plain_method.ensures.method bodies)

pub returns-clause-method : goal.returns-clause-method
returns-clause-method c bodies =
    says_same (method_shown (syntax_of c.args.nodes.now) c.args.kids.now) c.special_method.result
    (special_method (lexemes_of c.args.tokens.now)
    (at_hand (ctx_of c.args.env.now) (work_of c.args.work.now) bodies) c.args.class c.args.class_name.now c.args.at
    (storage_of c.started_from-started.result.storage) c.args.kind
    (trees_at (syntax_of c.args.nodes.now) (drop c.started_from-started.result.count c.args.kids.now)))
    (method_of (lexemes_of c.args.tokens.now) (at_hand (ctx_of c.args.env.now)
    (work_of c.args.work.now) bodies) c.args.class c.args.class_name.now c.args.at c.args.kind (trees_at (syntax_of c.args.nodes.now) c.args.kids.now))
    (method_special (lexemes_of c.args.tokens.now) (at_hand (ctx_of c.args.env.now)
    (work_of c.args.work.now) bodies) c.args.class c.args.class_name.now c.args.at (trees_at (syntax_of c.args.nodes.now) c.args.kids.now)
    (storage_of c.started_from-started.result.storage) (trees_at (syntax_of c.args.nodes.now) (drop c.started_from-started.result.count c.args.kids.now))
    (ap (λ z. started_from (lexemes_of c.args.tokens.now) z (trees_at (syntax_of c.args.nodes.now) c.args.kids.now)) (sym c.no_storage.ensures)
    ∙ c.started_from-started.ensures.started) c.args.kind (sym c.is_plain.ensures ∙ c.if-is_plain.false)) (c.special_method.ensures.method bodies)
