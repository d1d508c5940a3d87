use Rattle.std.proofs.Common.{◌≡◌, ◌+◌, Err, drop, rules}
use Rattle.elab_entry.specs.cpp_lex.Tokens.{lexemes_of}
use Rattle.elab_entry.specs.elab_ctx.Steps.{each_of}
use Rattle.elab_entry.specs.elab_rules.Statements.{State}
use Rattle.elab_entry.specs.elab_types.Syntax.{syntax_of, trees_at}
use Rattle.elab_entry.specs.elab_scopes.States.{state_of}
use Rattle.elab_entry.proofs.OneByOne.{steps_next, steps_done, steps_fault}
use Rattle.elab_members.specs.Whole.{late_of}
use Rattle.elab_members.proofs.ObjectBodies.{changes_fail}
use Rattle.elab_members.proofs.GivenSteps.{each_first, each_none}
use Rattle.elab_members.proofs.late.all_late.Goals as goal

pub loop-id-preserved : goal.loop-id-preserved
loop-id-preserved g c = steps_next c.args.st.now c.loop-id.st _ _ _ _
    (λ (z : State). each_of (late_of (g.L.MakeLambdas.lambdas c.args.lams.now)
    (lexemes_of c.args.tokens.now) c.args.home.now.number c.args.home.now.name.items) z
    (trees_at (syntax_of c.args.nodes.now) (drop (c.loop-id.id-index + 1) c.args.ids.now))) c.loop-id.invariant
    (each_first (late_of (g.L.MakeLambdas.lambdas c.args.lams.now) (lexemes_of c.args.tokens.now) c.args.home.now.number c.args.home.now.name.items)
    (state_of c.loop-id.st) (syntax_of c.args.nodes.now) c.args.ids.now c.loop-id.id-index (record { 0 = 0 }) c.loop-id-test.true) c.in_ok-late_of.ensures

pub returns : goal.returns
returns g c = steps_done c.args.st.now c.loop-id.st _ _ c.loop-id.invariant
    (each_none (late_of (g.L.MakeLambdas.lambdas c.args.lams.now) (lexemes_of c.args.tokens.now) c.args.home.now.number c.args.home.now.name.items)
    (state_of c.loop-id.st) (syntax_of c.args.nodes.now) c.args.ids.now c.loop-id.id-index c.loop-id-test.false)

pub returns-in_err-late_of : goal.returns-in_err-late_of
returns-in_err-late_of g c =
    let is_error : c.from_residual.result ≡ Err c.in_err-late_of.field-0.0 = search rules in
    changes_fail _ _ _ _ _ is_error (steps_fault c.args.st.now c.loop-id.st _ _ _
    (λ (z : State). each_of (late_of (g.L.MakeLambdas.lambdas c.args.lams.now)
    (lexemes_of c.args.tokens.now) c.args.home.now.number c.args.home.now.name.items) z
    (trees_at (syntax_of c.args.nodes.now) (drop (c.loop-id.id-index + 1) c.args.ids.now))) _ c.loop-id.invariant
    (each_first (late_of (g.L.MakeLambdas.lambdas c.args.lams.now) (lexemes_of c.args.tokens.now) c.args.home.now.number c.args.home.now.name.items)
    (state_of c.loop-id.st) (syntax_of c.args.nodes.now) c.args.ids.now c.loop-id.id-index (record { 0 = 0 }) c.loop-id-test.true) c.in_err-late_of.ensures)
