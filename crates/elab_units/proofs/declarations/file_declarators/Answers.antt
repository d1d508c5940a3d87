use Rattle.std.proofs.Common.{◌≡◌, ◌∙◌, ◌+◌, drop, get_or, Err, ap, rules}
use Rattle.elab_entry.specs.cpp_lex.Tokens.{lexemes_of}
use Rattle.elab_entry.specs.cpp_types.Typ.{typ_of}
use Rattle.elab_entry.specs.elab_rules.Units.{file_declarator, file_declarators}
use Rattle.elab_entry.specs.elab_scopes.States.{state_of}
use Rattle.elab_entry.specs.elab_types.Syntax.{syntax_of, tree_at, trees_at}
use Rattle.class_members.specs.Shown.{storage_of}
use Rattle.elab_decls.proofs.Steps.{answers_refused}
use Rattle.elab_units.proofs.KidSteps.{trees_step, trees_past}
use Rattle.elab_units.proofs.Declarings.{each_more, each_fails}
use Rattle.elab_units.proofs.declarations.file_declarators.Goals as goal

pub loop-id-preserved : goal.loop-id-preserved
loop-id-preserved c =
    let step = file_declarator (lexemes_of c.args.tokens.now) (storage_of c.args.storage) (typ_of c.args.ty.now) in
    let trees = syntax_of c.args.nodes.now in
    each_more step (state_of c.loop-id.st) (state_of c.file_declarator.new.st) (tree_at trees (get_or c.args.ids.now c.loop-id.id-index (record { 0 = 0 })))
    (trees_at trees (drop (c.loop-id.id-index + 1) c.args.ids.now)) _ c.in_ok-file_declarator.ensures
    (c.loop-id.invariant ∙ ap (file_declarators (lexemes_of c.args.tokens.now) (storage_of c.args.storage) (typ_of c.args.ty.now) (state_of c.loop-id.st))
    (trees_step trees c.args.ids.now c.loop-id.id-index (record { 0 = 0 }) c.loop-id-test.true))

pub returns-in_err-file_declarator : goal.returns-in_err-file_declarator
returns-in_err-file_declarator c =
    let is_error : c.from_residual.result ≡ Err c.in_err-file_declarator.field-0.0 = search rules in
    let step = file_declarator (lexemes_of c.args.tokens.now) (storage_of c.args.storage) (typ_of c.args.ty.now) in
    let trees = syntax_of c.args.nodes.now in
    answers_refused _ c.from_residual.result c.in_err-file_declarator.field-0.0 _ is_error
    (each_fails step (state_of c.loop-id.st) (tree_at trees (get_or c.args.ids.now c.loop-id.id-index (record { 0 = 0 })))
    (trees_at trees (drop (c.loop-id.id-index + 1) c.args.ids.now)) _ c.in_err-file_declarator.field-0.0 c.in_err-file_declarator.ensures
    (c.loop-id.invariant ∙ ap (file_declarators (lexemes_of c.args.tokens.now) (storage_of c.args.storage) (typ_of c.args.ty.now) (state_of c.loop-id.st))
    (trees_step trees c.args.ids.now c.loop-id.id-index (record { 0 = 0 }) c.loop-id-test.true)))

pub returns : goal.returns
returns c = c.loop-id.invariant ∙ ap (file_declarators (lexemes_of c.args.tokens.now) (storage_of c.args.storage) (typ_of c.args.ty.now)
    (state_of c.loop-id.st)) (trees_past (syntax_of c.args.nodes.now) c.args.ids.now c.loop-id.id-index c.loop-id-test.false)
