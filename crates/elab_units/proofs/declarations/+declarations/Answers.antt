use Rattle.std.proofs.Common.{◌≡◌, ◌∙◌, List, ℕ, Bool, true, false, Some, Err, get_or, sym, ap, subst, rules}
use Rattle.elab_entry.specs.cpp_ast.declared.kinds.NodeKind.{NodeKind}
use Rattle.elab_entry.specs.cpp_ast.Trees.{node}
use Rattle.elab_entry.specs.cpp_types.declared.classes.At.{At}
use Rattle.elab_entry.specs.cpp_lex.Tokens.{lexemes_of}
use Rattle.elab_entry.specs.elab_scopes.States.{state_of}
use Rattle.elab_entry.specs.elab_types.Syntax.{syntax_of, tree_at, trees_at}
use Rattle.class_members.specs.Shown.{Answers, storage_of}
use Rattle.elab_entry.specs.elab_ctx.Steps.{spelling}
use Rattle.elab_entry.specs.elab_rules.Functions.{Storage}
use Rattle.elab_lambdas.specs.Whole.{lambdas_of}
use Rattle.elab_members.specs.Whole.{class_defined}
use Rattle.elab_leaving.specs.Declaring.{c_words, c_checked, declaration_of, declarations_of}
use Rattle.elab_units.specs.Linkage.{linkage_declared}
use Rattle.elab_units.proofs.Declarings.{stands_answers, answers_so, linkage_fails, linkage_goes, declared_none, declared_more, declared_fails, declared_last}
use Rattle.elab_units.proofs.declarations.+declarations.Goals as goal

pub declarations_of-loop-id-init : goal.declarations_of-loop-id-init
declarations_of-loop-id-init t c = declared_none (lexemes_of c.args.tokens.now) (storage_of c.args.storage) (state_of c.args.st.now)
    (trees_at (syntax_of c.args.nodes.now) c.args.ids.now)

pub declarations_of-loop-id-preserved : goal.declarations_of-loop-id-preserved
declarations_of-loop-id-preserved t c =
    let s = lexemes_of c.args.tokens.now in
    let x = storage_of c.args.storage in
    let trees = syntax_of c.args.nodes.now in
    let tree = tree_at trees (get_or c.args.ids.now c.loop-id.id-index (record { 0 = 0 })) in
    declared_more s x (state_of c.args.st.now) (state_of c.loop-id.st) trees c.args.ids.now c.loop-id.id-index c.loop-id.invariant (record { 0 = 0 })
    (state_of c.declaration_of.new.st) c.loop-id-test.true
    c.in_ok-declaration_of.ensures

pub declarations_of-returns : goal.declarations_of-returns
declarations_of-returns t c = declared_last (lexemes_of c.args.tokens.now) (storage_of c.args.storage) (state_of c.args.st.now) (state_of c.loop-id.st)
    (syntax_of c.args.nodes.now) c.args.ids.now c.loop-id.id-index c.loop-id.invariant _ c.loop-id-test.false

pub declarations_of-returns-in_err-declaration_of : goal.declarations_of-returns-in_err-declaration_of
declarations_of-returns-in_err-declaration_of t c =
    let is_error : c.from_residual.result ≡ Err c.in_err-declaration_of.field-0.0 = search rules in
    declared_fails (lexemes_of c.args.tokens.now) (storage_of c.args.storage) (state_of c.args.st.now) (state_of c.loop-id.st)
    (syntax_of c.args.nodes.now) c.args.ids.now c.loop-id.id-index c.loop-id.invariant
    (record { 0 = 0 }) _ c.from_residual.result c.in_err-declaration_of.field-0.0 c.loop-id-test.true is_error c.in_err-declaration_of.ensures

pub linkage_of-returns : goal.linkage_of-returns
linkage_of-returns t c =
    let s = lexemes_of c.args.tokens.now in
    let st = state_of c.args.st.now in
    let kids = trees_at (syntax_of c.args.nodes.now) c.args.kids.now in
    let x = c_words (storage_of c.args.storage) c.args.is_block in
    linkage_goes (state_of c.declarations_of.new.st) c.declarations_of.result c.in_ok-is_c.field-0 (c_checked s c.args.at c.args.token)
    (λ (z : Bool). declarations_of s x st kids) c.in_ok-is_c.ensures
    (subst (λ (z : Storage). Answers (state_of c.declarations_of.new.st) c.declarations_of.result
    (declarations_of s z st kids)) c.c_words-words.ensures c.declarations_of.ensures)

pub linkage_of-returns-in_err-is_c : goal.linkage_of-returns-in_err-is_c
linkage_of-returns-in_err-is_c t c =
    let is_error : c.from_residual.result ≡ Err c.in_err-is_c.field-0.0 = search rules in
    let s = lexemes_of c.args.tokens.now in
    let st = state_of c.args.st.now in
    let kids = trees_at (syntax_of c.args.nodes.now) c.args.kids.now in
    let x = c_words (storage_of c.args.storage) c.args.is_block in
    linkage_fails _ c.from_residual.result c.in_err-is_c.field-0.0 (c_checked s c.args.at c.args.token)
    (λ (z : Bool). declarations_of s x st kids) is_error c.in_err-is_c.ensures

pub named_declaration-returns-in-LinkageSpecification : goal.named_declaration-returns-in-LinkageSpecification
named_declaration-returns-in-LinkageSpecification t c p e =
    let s = lexemes_of c.args.tokens.now in
    let st = state_of c.args.st.now in
    let x = storage_of c.args.storage in
    let kids = trees_at (syntax_of c.args.nodes.now) c.args.kids.now in
    answers_so (state_of c.linkage_of.new.st) c.linkage_of.result (linkage_declared s x st c.args.at c.args.token kids false)
    (declaration_of s x st (node c.args.kind p (Some c.args.token) kids))
    (ap (λ (z : NodeKind). declaration_of s x st (node z p (Some c.args.token) kids)) c.in-LinkageSpecification.is
    ∙ ap (λ (z : At). linkage_declared s x st z c.args.token kids false) (sym e))
    c.linkage_of.ensures

pub named_declaration-returns-in-LinkageBlock : goal.named_declaration-returns-in-LinkageBlock
named_declaration-returns-in-LinkageBlock t c p e =
    let s = lexemes_of c.args.tokens.now in
    let st = state_of c.args.st.now in
    let x = storage_of c.args.storage in
    let kids = trees_at (syntax_of c.args.nodes.now) c.args.kids.now in
    answers_so (state_of c.linkage_of-in-LinkageBlock.new.st) c.linkage_of-in-LinkageBlock.result (linkage_declared s x st c.args.at c.args.token kids true)
    (declaration_of s x st (node c.args.kind p (Some c.args.token) kids))
    (ap (λ (z : NodeKind). declaration_of s x st (node z p (Some c.args.token) kids)) c.in-LinkageBlock.is
    ∙ ap (λ (z : At). linkage_declared s x st z c.args.token kids true) (sym e))
    c.linkage_of-in-LinkageBlock.ensures

pub named_declaration-returns-in-ClassSpecifier : goal.named_declaration-returns-in-ClassSpecifier
named_declaration-returns-in-ClassSpecifier t c p e =
    let s = lexemes_of c.args.tokens.now in
    let st = state_of c.args.st.now in
    let x = storage_of c.args.storage in
    let kids = trees_at (syntax_of c.args.nodes.now) c.args.kids.now in
    let spelled = c.spelling-in-ClassSpecifier.result.now in
    let name : spelling s c.args.token ≡ spelled = sym c.spelling-in-ClassSpecifier.ensures in
    answers_so (state_of c.class_defined.new.st) c.class_defined.result (class_defined lambdas_of s st c.args.at spelled kids)
    (declaration_of s x st (node c.args.kind p (Some c.args.token) kids))
    (ap (λ (z : NodeKind). declaration_of s x st (node z p (Some c.args.token) kids)) c.in-ClassSpecifier.is
    ∙ ap (λ (z : At). class_defined lambdas_of s st z (spelling s c.args.token) kids) (sym e)
    ∙ ap (λ (z : List ℕ). class_defined lambdas_of s st c.args.at z kids) name)
    (stands_answers c.args.st.now c.class_defined.new.st c.class_defined.result (class_defined lambdas_of s st c.args.at spelled kids) c.class_defined.ensures)
