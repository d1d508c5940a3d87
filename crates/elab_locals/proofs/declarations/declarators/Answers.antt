use Rattle.std.proofs.Common.{◌≡◌, ◌∙◌, ap}
use Rattle.elab_scopes.specs.cpp_lex.Tokens.{lexemes_of}
use Rattle.elab_scopes.specs.cpp_types.Typ.{typ_of}
use Rattle.elab_scopes.specs.elab_types.Syntax.{syntax_of, trees_at}
use Rattle.std.proofs.Common.{drop, ◌+◌}
use Rattle.elab_scopes.specs.elab_rules.Statements.{Declaring, block_declarators}
use Rattle.elab_scopes.proofs.elab_expr.Several.{trees_step}
use Rattle.elab_locals.specs.Deducing.{declaring_of}
use Rattle.elab_locals.proofs.Declared.{declared_step}
use Rattle.elab_locals.proofs.declarations.declarators.Goals as goal

pub loop-id-preserved : goal.loop-id-preserved
loop-id-preserved g c = declared_step _ _ _ _ _ _ _ _ _
    (λ (z : Declaring). block_declarators (g.L.MakeLambdas.lambdas c.args.lams.now) (lexemes_of c.args.tokens.now) (typ_of c.args.ty.now) z
    (trees_at (syntax_of c.args.nodes.now) (drop (c.loop-id.id-index + 1) c.args.ids.now))) c.loop-id.invariant
    (ap (block_declarators (g.L.MakeLambdas.lambdas c.args.lams.now) (lexemes_of c.args.tokens.now) (typ_of c.args.ty.now)
    (declaring_of c.loop-id.st c.loop-id.list.items c.loop-id.deduced))
    (trees_step (syntax_of c.args.nodes.now) c.args.ids.now c.loop-id.id-index (record { 0 = 0 }) c.loop-id-test.true)) c.in_ok-declarator.ensures
