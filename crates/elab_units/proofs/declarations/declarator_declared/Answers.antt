use Rattle.std.proofs.Common.{◌≡◌, ◌∙◌, Bool, List, drop, Result, Err, sym, ap, rules}
use Rattle.elab_entry.specs.cpp_lex.Tokens.{lexemes_of}
use Rattle.elab_entry.specs.cpp_types.Typ.{typ_of}
use Rattle.elab_entry.specs.cpp_ast.declared.arena.NodeId.{NodeId}
use Rattle.elab_entry.specs.cpp_ast.Trees.{more}
use Rattle.elab_entry.specs.cpp_tree.declared.faults.ElabFault.{ElabFault}
use Rattle.elab_entry.specs.cpp_tree.declared.faults.IllRule.TheVariants.{BadDeclaration}
use Rattle.elab_entry.specs.cpp_tree.Typing.{form_in}
use Rattle.elab_entry.specs.elab_ctx.Steps.{and_then, check}
use Rattle.elab_entry.specs.elab_rules.Types.{Declared}
use Rattle.elab_entry.specs.elab_rules.Statements.{State, is_own_name}
use Rattle.elab_entry.specs.elab_rules.Units.{declared_of_type}
use Rattle.elab_entry.specs.elab_scopes.States.{state_of}
use Rattle.elab_entry.specs.elab_types.Shown.{declared_of}
use Rattle.elab_entry.specs.elab_types.Syntax.{syntax_of, tree_at, trees_at}
use Rattle.elab_entry.proofs.elab_scopes.Labelling.{unmoved_state}
use Rattle.class_members.specs.Shown.{storage_of}
use Rattle.elab_decls.proofs.Steps.{answers_same, answers_refused, faults_same, faults_then}
use Rattle.elab_units.proofs.Declarings.{fault_by}
use Rattle.elab_leaving.specs.Declaring.{declarator_by}
use Rattle.elab_units.proofs.declarations.declarator_declared.Goals as goal

pub returns-in_err-found : goal.returns-in_err-found
returns-in_err-found c =
    let is_error : c.from_residual.result ≡ Err c.in_err-found.field-0.0 = search rules in
    let s = lexemes_of c.args.tokens.now in
    let st = state_of c.args.st.now in
    let x = storage_of c.args.storage in
    let trees = syntax_of c.args.nodes.now in
    let t = typ_of c.args.ty.now in
    let init = trees_at trees (drop 1 c.args.kids.now) in
    let kids : trees_at trees c.args.kids.now ≡ more (tree_at trees c.in-Some.first) init = ap (trees_at trees) c.in-Some.ensures.kid in
    let next : Declared → Result State ElabFault = λ (r : Declared). and_then (check c.args.at BadDeclaration (is_own_name r))
    (λ z. declared_of_type s st x c.args.at r init (form_in r.typ)) in
    answers_refused _ c.from_residual.result c.in_err-found.field-0.0 _ is_error
    (faults_same c.in_err-found.field-0.0 _ _ (ap (declarator_by s x t st c.args.at) kids) (faults_then c.in_err-found.field-0.0 _ next c.in_err-found.ensures.says))

pub returns-then-not-is_own_name : goal.returns-then-not-is_own_name
returns-then-not-is_own_name c =
    let s = lexemes_of c.args.tokens.now in
    let st = state_of c.args.st.now in
    let x = storage_of c.args.storage in
    let trees = syntax_of c.args.nodes.now in
    let t = typ_of c.args.ty.now in
    let d = declared_of c.in_ok-found.found in
    let init = trees_at trees (drop 1 c.args.kids.now) in
    let kids : trees_at trees c.args.kids.now ≡ more (tree_at trees c.in-Some.first) init = ap (trees_at trees) c.in-Some.ensures.kid in
    let next : Declared → Result State ElabFault = λ (r : Declared). and_then (check c.args.at BadDeclaration (is_own_name r))
    (λ z. declared_of_type s st x c.args.at r init (form_in r.typ)) in
    fault_by _ _ _ c.ill-then-not-is_own_name.ensures
    (ap (declarator_by s x t st c.args.at) kids ∙ ap (λ (z : Result Declared ElabFault). and_then z next) c.in_ok-found.ensures.says
    ∙ ap (λ (z : Bool). and_then (check c.args.at BadDeclaration z) (λ y. declared_of_type s st x c.args.at d init (form_in d.typ)))
    (sym c.is_own_name.ensures ∙ c.if-not-is_own_name.true))

pub returns : goal.returns
returns c =
    let s = lexemes_of c.args.tokens.now in
    let st = state_of c.args.st.now in
    let x = storage_of c.args.storage in
    let trees = syntax_of c.args.nodes.now in
    let t = typ_of c.args.ty.now in
    let d = declared_of c.in_ok-found.found in
    let init = trees_at trees (drop 1 c.args.kids.now) in
    let kids : trees_at trees c.args.kids.now ≡ more (tree_at trees c.in-Some.first) init = ap (trees_at trees) c.in-Some.ensures.kid in
    let next : Declared → Result State ElabFault = λ (r : Declared). and_then (check c.args.at BadDeclaration (is_own_name r))
    (λ z. declared_of_type s st x c.args.at r init (form_in r.typ)) in
    answers_same _ c.declared_of_type.result _ _
    (ap (declarator_by s x t st c.args.at) kids ∙ ap (λ (z : Result Declared ElabFault). and_then z next) c.in_ok-found.ensures.says
    ∙ ap (λ (z : Bool). and_then (check c.args.at BadDeclaration z) (λ y. declared_of_type s st x c.args.at d init (form_in d.typ)))
    (sym c.is_own_name.ensures ∙ c.if-not-is_own_name.false)
    ∙ ap (λ (z : List NodeId). declared_of_type s st x c.args.at d (trees_at trees z) (form_in d.typ)) (sym c.rest_from-init.ensures.rest)
    ∙ ap (λ (z : State). declared_of_type s z x c.args.at d (trees_at trees c.rest_from-init.result.now) (form_in d.typ))
    (sym (unmoved_state c.args.st.now c.declared_by.new.work c.in_ok-found.ensures.kept)))
    c.declared_of_type.ensures
