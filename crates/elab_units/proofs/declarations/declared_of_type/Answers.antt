use Rattle.std.proofs.Common.{◌≡◌, ◌∙◌, Result, Ok, Err, sym, ap, rules}
use Rattle.elab_entry.specs.cpp_lex.Tokens.{lexemes_of}
use Rattle.elab_entry.specs.cpp_types.Typ.{typ_of}
use Rattle.elab_entry.specs.cpp_tree.declared.faults.ElabFault.{ElabFault}
use Rattle.elab_entry.specs.cpp_tree.Typing.{form_in}
use Rattle.elab_entry.specs.elab_ctx.Steps.{and_then}
use Rattle.elab_entry.specs.elab_rules.Functions.{Header, Placed}
use Rattle.elab_entry.specs.elab_rules.Statements.{State}
use Rattle.elab_entry.specs.elab_scopes.States.{state_of}
use Rattle.elab_entry.specs.elab_types.Shown.{declared_of}
use Rattle.elab_entry.specs.elab_types.Syntax.{syntax_of, trees_at}
use Rattle.class_members.specs.Shown.{header_of, storage_of}
use Rattle.elab_decls.proofs.Steps.{answers_same, answers_refused, faults_same, faults_then, faults_after}
use Rattle.elab_leaving.specs.Declaring.{only_declared}
use Rattle.elab_units.proofs.Declarings.{fault_by, variable_chosen, function_initialised, function_only}
use Rattle.elab_units.proofs.declarations.declared_of_type.Goals as goal

pub returns-then-not-is_function : goal.returns-then-not-is_function
returns-then-not-is_function c = answers_same _ c.variable_declared.result _ _
    (variable_chosen (lexemes_of c.args.tokens.now) (state_of c.args.st.now) (storage_of c.args.storage) c.args.at (declared_of c.args.found)
    (trees_at (syntax_of c.args.nodes.now) c.args.init.now) (form_in (typ_of c.args.found.ty))
    (sym c.is_function.ensures ∙ c.if-not-is_function.true)) c.variable_declared.ensures

pub returns-then-has_initialiser : goal.returns-then-has_initialiser
returns-then-has_initialiser c = fault_by _ _ _ c.ill.ensures
    (function_initialised (lexemes_of c.args.tokens.now) (state_of c.args.st.now) (storage_of c.args.storage) c.args.at (declared_of c.args.found)
    (trees_at (syntax_of c.args.nodes.now) c.args.init.now) (form_in (typ_of c.args.found.ty)) (sym c.is_function.ensures ∙ c.if-not-is_function.false)
    (sym (c.has_initialiser.ensures (syntax_of c.args.nodes.now)) ∙ c.if-has_initialiser.true))

pub returns-in_err-header : goal.returns-in_err-header
returns-in_err-header c =
    let is_error : c.from_residual.result ≡ Err c.in_err-header.field-0.0 = search rules in
    answers_refused _ c.from_residual.result c.in_err-header.field-0.0 _ is_error
    (faults_same c.in_err-header.field-0.0 _ _ (function_only (lexemes_of c.args.tokens.now) (state_of c.args.st.now) (storage_of c.args.storage) c.args.at
    (declared_of c.args.found) (trees_at (syntax_of c.args.nodes.now) c.args.init.now) (form_in (typ_of c.args.found.ty))
    (sym c.is_function.ensures ∙ c.if-not-is_function.false) (sym (c.has_initialiser.ensures (syntax_of c.args.nodes.now)) ∙ c.if-has_initialiser.false))
    (faults_then c.in_err-header.field-0.0 _ (only_declared (state_of c.args.st.now)) c.in_err-header.ensures))

pub returns-in_err-_func : goal.returns-in_err-_func
returns-in_err-_func c =
    let is_error : c.from_residual-in_err-_func.result ≡ Err c.in_err-_func.field-0.0 = search rules in
    let rest : Placed → Result State ElabFault = λ (p : Placed). Ok (record (state_of c.args.st.now) { ctx = p.ctx }) in
    answers_refused _ c.from_residual-in_err-_func.result c.in_err-_func.field-0.0 _ is_error
    (faults_same c.in_err-_func.field-0.0 _ _ (function_only (lexemes_of c.args.tokens.now) (state_of c.args.st.now) (storage_of c.args.storage) c.args.at
    (declared_of c.args.found) (trees_at (syntax_of c.args.nodes.now) c.args.init.now) (form_in (typ_of c.args.found.ty))
    (sym c.is_function.ensures ∙ c.if-not-is_function.false) (sym (c.has_initialiser.ensures (syntax_of c.args.nodes.now)) ∙ c.if-has_initialiser.false))
    (faults_after c.in_err-_func.field-0.0 _ (header_of c.in_ok-header.header) (only_declared (state_of c.args.st.now)) c.in_ok-header.ensures
    (faults_then c.in_err-_func.field-0.0 _ rest c.in_err-_func.ensures)))

pub returns : goal.returns
returns c =
    let rest : Placed → Result State ElabFault = λ (p : Placed). Ok (record (state_of c.args.st.now) { ctx = p.ctx }) in
    function_only (lexemes_of c.args.tokens.now) (state_of c.args.st.now) (storage_of c.args.storage) c.args.at (declared_of c.args.found)
    (trees_at (syntax_of c.args.nodes.now) c.args.init.now) (form_in (typ_of c.args.found.ty)) (sym c.is_function.ensures ∙ c.if-not-is_function.false)
    (sym (c.has_initialiser.ensures (syntax_of c.args.nodes.now)) ∙ c.if-has_initialiser.false)
    ∙ ap (λ (z : Result Header ElabFault). and_then z (only_declared (state_of c.args.st.now))) c.in_ok-header.ensures
    ∙ ap (λ (z : Result Placed ElabFault). and_then z rest) c.in_ok-_func.ensures
