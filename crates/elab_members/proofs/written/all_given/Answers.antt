use Rattle.std.proofs.Common.{◌≡◌, ◌+◌, Err, drop, rules}
use Rattle.elab_entry.specs.cpp_lex.Tokens.{lexemes_of}
use Rattle.elab_entry.specs.elab_ctx.Steps.{each_of}
use Rattle.elab_entry.specs.elab_rules.Members.{Giving, given_by}
use Rattle.elab_entry.specs.elab_types.Syntax.{syntax_of, trees_at}
use Rattle.elab_members.specs.Giving.{giving_in}
use Rattle.elab_members.proofs.GivenSteps.{each_first, each_none, gathering_next, gathering_done, gathering_fault, all_fail}
use Rattle.elab_members.proofs.written.all_given.Goals as goal

pub loop-id-preserved : goal.loop-id-preserved
loop-id-preserved g c = gathering_next _ _ _ _ _ _ _ _
    (λ (z : Giving). each_of (given_by (g.L.MakeLambdas.lambdas c.args.lams.now) (lexemes_of c.args.tokens.now) c.args.class) z
    (trees_at (syntax_of c.args.nodes.now) (drop (c.loop-id.id-index + 1) c.args.ids.now))) c.loop-id.invariant
    (each_first (given_by (g.L.MakeLambdas.lambdas c.args.lams.now) (lexemes_of c.args.tokens.now) c.args.class) (giving_in c.loop-id.st c.loop-id.list.items)
    (syntax_of c.args.nodes.now) c.args.ids.now c.loop-id.id-index (record { 0 = 0 }) c.loop-id-test.true) c.in_ok-given_by.ensures

pub returns : goal.returns
returns g c = gathering_done _ _ _ _ _ c.loop-id.invariant
    (each_none (given_by (g.L.MakeLambdas.lambdas c.args.lams.now) (lexemes_of c.args.tokens.now) c.args.class) (giving_in c.loop-id.st c.loop-id.list.items)
    (syntax_of c.args.nodes.now) c.args.ids.now c.loop-id.id-index c.loop-id-test.false)

pub returns-in_err-given_by : goal.returns-in_err-given_by
returns-in_err-given_by g c =
    let is_error : c.from_residual.result ≡ Err c.in_err-given_by.field-0.0 = search rules in
    all_fail _ _ _ _ _ is_error (gathering_fault _ _ _ _ _ _
    (λ (z : Giving). each_of (given_by (g.L.MakeLambdas.lambdas c.args.lams.now) (lexemes_of c.args.tokens.now) c.args.class) z
    (trees_at (syntax_of c.args.nodes.now) (drop (c.loop-id.id-index + 1) c.args.ids.now))) _ c.loop-id.invariant
    (each_first (given_by (g.L.MakeLambdas.lambdas c.args.lams.now) (lexemes_of c.args.tokens.now) c.args.class)
    (giving_in c.loop-id.st c.loop-id.list.items) (syntax_of c.args.nodes.now) c.args.ids.now c.loop-id.id-index
    (record { 0 = 0 }) c.loop-id-test.true) c.in_err-given_by.ensures)
