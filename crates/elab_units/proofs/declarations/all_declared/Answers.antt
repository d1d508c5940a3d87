use Rattle.std.proofs.Common.{◌≡◌, ◌∙◌, Ok, Err, get_or, ap, sym, subst, rules}
use Rattle.elab_entry.specs.cpp_lex.Tokens.{lexemes_of}
use Rattle.elab_entry.specs.elab_ctx.Says.{Faults}
use Rattle.elab_entry.specs.elab_rules.Functions.{Storage, no_storage}
use Rattle.elab_entry.specs.elab_rules.Statements.{State}
use Rattle.elab_entry.specs.elab_scopes.States.{state_of}
use Rattle.elab_entry.specs.elab_types.Syntax.{syntax_of, tree_at, trees_at}
use Rattle.class_members.specs.Shown.{storage_of}
use Rattle.elab_leaving.specs.Declaring.{declaration_of}
use Rattle.elab_units.proofs.Declarings.{declared_none, declared_more, declared_fails, declared_last}
use Rattle.elab_units.proofs.declarations.all_declared.Goals as goal

pub loop-id-init : goal.loop-id-init
loop-id-init c = declared_none (lexemes_of c.args.tokens.now) no_storage (state_of c.args.st.now) (trees_at (syntax_of c.args.nodes.now) c.args.ids.now)

pub loop-id-preserved : goal.loop-id-preserved
loop-id-preserved c =
    let s = lexemes_of c.args.tokens.now in
    let trees = syntax_of c.args.nodes.now in
    let tree = tree_at trees (get_or c.args.ids.now c.loop-id.id-index (record { 0 = 0 })) in
    let done : declaration_of s (storage_of c.no_storage.result) (state_of c.loop-id.st) tree ≡ Ok (state_of c.declaration_of.new.st) =
    c.in_ok-declaration_of.ensures in
    declared_more s no_storage (state_of c.args.st.now) (state_of c.loop-id.st) trees c.args.ids.now c.loop-id.id-index c.loop-id.invariant (record { 0 = 0 })
    (state_of c.forget.new.st) c.loop-id-test.true
    (ap (λ (z : Storage). declaration_of s z (state_of c.loop-id.st) tree) (sym c.no_storage.ensures) ∙ done ∙ ap (λ (z : State). Ok z) (sym c.forget.ensures))

pub returns : goal.returns
returns c = declared_last (lexemes_of c.args.tokens.now) no_storage (state_of c.args.st.now) (state_of c.loop-id.st)
    (syntax_of c.args.nodes.now) c.args.ids.now c.loop-id.id-index c.loop-id.invariant _ c.loop-id-test.false

pub returns-in_err-declaration_of : goal.returns-in_err-declaration_of
returns-in_err-declaration_of c =
    let is_error : c.from_residual.result ≡ Err c.in_err-declaration_of.field-0.0 = search rules in
    let s = lexemes_of c.args.tokens.now in
    let trees = syntax_of c.args.nodes.now in
    let tree = tree_at trees (get_or c.args.ids.now c.loop-id.id-index (record { 0 = 0 })) in
    declared_fails s no_storage (state_of c.args.st.now) (state_of c.loop-id.st) trees c.args.ids.now c.loop-id.id-index c.loop-id.invariant
    (record { 0 = 0 }) _ c.from_residual.result c.in_err-declaration_of.field-0.0 c.loop-id-test.true is_error
    (subst (λ (z : Storage). Faults c.in_err-declaration_of.field-0.0
    (declaration_of s z (state_of c.loop-id.st) tree)) c.no_storage.ensures c.in_err-declaration_of.ensures)
