use Rattle.std.proofs.Common.{◌≡◌, ◌∙◌, Ok, sym, ap}
use Rattle.elab_entry.specs.cpp_lex.Tokens.{lexemes_of}
use Rattle.elab_entry.specs.cpp_types.Typ.{typ_of}
use Rattle.elab_entry.specs.cpp_tree.Typing.{form_in}
use Rattle.elab_entry.specs.elab_rules.Functions.{Storage}
use Rattle.elab_entry.specs.elab_scopes.States.{state_of}
use Rattle.elab_entry.specs.elab_types.Shown.{declared_of}
use Rattle.elab_entry.specs.elab_types.Syntax.{syntax_of, tree_at}
use Rattle.class_members.specs.Shown.{header_of, storage_of}
use Rattle.elab_decls.proofs.Steps.{answers_same}
use Rattle.elab_entry.specs.elab_rules.Functions.{text_sized}
use Rattle.elab_entry.specs.elab_rules.Units.{definition_text}
use Rattle.elab_units.proofs.Declarings.{definition_is, header_storage}
use Rattle.elab_units.proofs.definitions.defined_with.Goals as goal

pub returns : goal.returns
returns c =
    let s = lexemes_of c.args.tokens.now in
    let x = storage_of c.args.storage in
    let d = declared_of c.args.found in
    let body = tree_at (syntax_of c.args.nodes.now) c.args.body in
    let text : c.in_ok-text.text.items ≡ definition_text s x c.args.first body = c.in_ok-text.ensures body c.brace_of-last.ensures in
    let sized : text_sized c.args.at (definition_text s x c.args.first body) ≡ Ok c.in_ok-text_sized.field-0 =
    ap (text_sized c.args.at) (sym (c.deref.ensures.value ∙ text)) ∙ c.in_ok-text_sized.ensures in
    let stored : storage_of c.in_ok-header.header.storage ≡ x =
    header_storage s c.args.at x d (form_in (typ_of c.args.found.ty)) (header_of c.in_ok-header.header) c.in_ok-header.ensures in
    answers_same _ c.defined_header.result _ _
    (definition_is s (state_of c.args.st.now) x c.args.at c.args.first d body (form_in (typ_of c.args.found.ty)) _ (header_of c.in_ok-header.header)
    (sym c.is_function.ensures ∙ c.if-not-is_function.false) sized c.in_ok-header.ensures)
    (c.defined_header.ensures c.args.first (text ∙ ap (λ (z : Storage). definition_text s z c.args.first body) (sym stored)))
