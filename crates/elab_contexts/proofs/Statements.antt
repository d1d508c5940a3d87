-- Statements go on by steps, form by form.
use Rattle.std.proofs.Common.{ℕ, Bool, true, false, List, [], ◌∷◌, length, Option, Some, None, Result, Ok}
use Rattle.elab_rules.specs.cpp_types.Typ.{Typ, typ, void}
use Rattle.elab_rules.specs.cpp_types.declared.classes.At.{At}
use Rattle.elab_rules.specs.cpp_lex.Tokens.{Lexeme}
use Rattle.elab_rules.specs.cpp_ast.declared.kinds.NodeKind.TheVariants as k
use Rattle.elab_rules.specs.cpp_ast.Trees as syntax
use Rattle.elab_rules.specs.cpp_tree.declared.kinds.TKind.{TKind}
use Rattle.elab_rules.specs.cpp_tree.declared.kinds.TKind.TheVariants as forms
use Rattle.elab_rules.specs.cpp_tree.declared.faults.ElabFault.{ElabFault}
use Rattle.elab_rules.specs.cpp_tree.declared.faults.IllRule.TheVariants.{Redeclared, TypeDiffers, BadDeclaration, NotConstant, Incomplete, BadInit, Narrowing}
use Rattle.elab_rules.specs.cpp_tree.declared.faults.IllRule.TheVariants.{BadReturn, BadBreak, BadCase}
use Rattle.elab_rules.specs.cpp_tree.Trees.{Tree, none, typ_in, one, three}
use Rattle.elab_rules.specs.cpp_tree.Typing.{is_class_typ, form_in, is_void, kind_in, unqualified}
use Rattle.elab_rules.specs.elab_ctx.Ctx.{Returns, known, deduced}
use Rattle.elab_rules.specs.elab_ctx.Steps.{and_then, check, expect, at_of, spelling, Made, Typed, TypedAll}
use Rattle.elab_rules.specs.Initialising.{class_from, initial}
use Rattle.elab_rules.specs.Operators.{value, truth, dropped, is_complete, within_if_sized}
use Rattle.elab_rules.specs.Types.{Parameter, has_auto, is_bounded}
use Rattle.elab_rules.specs.Braces.{item_of, string_token, is_char_array, syntax_place, string_object}
use Rattle.elab_rules.specs.Expressions.{expression_of, operands_of, chosen_operand, declared_by, type_of_specifiers}
use Rattle.elab_rules.specs.Functions.{with_parameters, parameter_named, word_item}
use Rattle.elab_rules.specs.Statements.{State, Done, done, Lambdas, Full, Deduction, Declaring, Switched, Caught, with_work, full_operand, full_made}
use Rattle.elab_rules.specs.Statements.{expression_statement, condition, declared_variable, placed_variable, auto_placed, variable_tree, default_object, copy_initialised}
use Rattle.elab_rules.specs.Statements.{directly_initialised, initialised, string_initialised, values_initialised, all_lambdas, bound_by_initialiser}
use Rattle.elab_rules.specs.Statements.{by_expression, with_initialiser, deduced_type, replaced, auto_initialised, auto_object, auto_variable, plain_variable}
use Rattle.elab_rules.specs.Statements.{variable_by, variable, name_of, block_declarator, block_declarators, block_declaration, return_value}
use Rattle.elab_rules.specs.Statements.{return_by, return_nothing, returned, case_label, default_label, inner, in_loop, in_block, in_switch, outer}
use Rattle.elab_rules.specs.Statements.{named_handler, handler_type, in_order, switched, jump, a_part, for_first, for_test, for_step, statement_of}
use Rattle.elab_rules.specs.Statements.{statements_of, handlers_of, case_fits, caught_type, declarable, is_fresh, is_own_name, label_here}
use Rattle.elab_rules.specs.Statements.{only_expression, same_deduction, switched_type, class_returned, full, result_of, return_node, block, statement, the_tree}
use Rattle.std.specs.Prelude.{if◌then◌else◌}
use Rattle.elab_fits.specs.Standing.{On}
use Rattle.elab_fits.proofs.Steps.{bind, skip, either_way as either}
use Rattle.elab_contexts.proofs.Walking.{Leaves, stays, after, of_state, of_done, of_full, Ends, behind, follow}
use Rattle.elab_contexts.proofs.Items.{Lawful, work_kept, placed_kept, item_kept, out}
use Rattle.elab_contexts.proofs.Works.{same}
use Rattle.elab_contexts.proofs.Works.{Grows, grown, operand_grows, operands_grow, dropped_grows, copy_grows, directly_grows, class_grows, initial_grows, item_grows}
use Rattle.elab_rules.specs.cpp_types.Spelling.{before}
use Rattle.elab_rules.specs.Constants.{constant}
use Rattle.elab_rules.specs.Casts.{within_exception}
use Rattle.elab_rules.specs.cpp_types.Class.{held}
use Rattle.std.specs.List.{list_any}
use Rattle.std.specs.Prelude.{not, ◌==◌}
use Rattle.elab_rules.specs.cpp_tree.Notation.{plain}
use Rattle.elab_rules.specs.Strings.{string_bytes}
use Rattle.elab_rules.specs.Sizes.{typ_sized}
use Rattle.elab_rules.specs.Objects.{followed_by}

-- Full-expressions

pub full_kept : (lams : Lambdas) → Lawful lams → (s : List Lexeme) (st : State) (e : syntax.Tree)
    → On (λ (f : Full). Leaves st f.state) (full_operand lams s st e)
full_kept lams q s st e = follow of_state of_full st (lams s st e) _ (q.each s st e)
    (λ x. bind (λ (o : Typed). Grows x.work o.work) (λ (f : Full). Leaves x f.state) (and_then (expression_of s x.ctx x.work e) (chosen_operand x.ctx)) _
    (operand_grows s x.ctx x.work e) (λ o g. work_kept x o.work g))

pub made_kept : (f : Full) (r : Result Made ElabFault) → On (λ (m : Made). Grows f.state.work m.work) r → On (Ends f.state) (full_made f r)
made_kept f r h = bind (λ (m : Made). Grows f.state.work m.work) (Ends f.state) r _ h (λ m g. work_kept f.state m.work g)

pub expression_kept : (lams : Lambdas) → Lawful lams → (s : List Lexeme) (st : State) (e : syntax.Tree) → On (Ends st) (expression_statement lams s st e)
expression_kept lams q s st e = follow of_full of_done st (full_operand lams s st e) _ (full_kept lams q s st e)
    (λ f. made_kept f (Ok (dropped f.state.ctx f.state.work f.operand)) (dropped_grows f.state.ctx f.state.work f.operand))

pub condition_kept : (lams : Lambdas) → Lawful lams → (s : List Lexeme) (st : State) (e : syntax.Tree) → On (Ends st) (condition lams s st e)
condition_kept lams q s st e = follow of_full of_done st (full_operand lams s st e) _ (full_kept lams q s st e)
    (λ f. made_kept f (and_then (truth f.state.ctx f.state.work f.operand) (λ (t : Tree). Ok (record { tree = t; work = f.state.work })))
    (skip (λ (m : Made). Grows f.state.work m.work) (truth f.state.ctx f.state.work f.operand) _ (λ t. same f.state.work)))

-- Variables

pub all_lambdas_kept : (lams : Lambdas) → Lawful lams → (s : List Lexeme) (st : State) (es : syntax.Trees) → On (Leaves st) (all_lambdas lams s st es)
all_lambdas_kept lams q s st syntax.none = stays st
all_lambdas_kept lams q s st (syntax.more e es) = follow of_state of_state st (lams s st e) _ (q.each s st e) (λ x. all_lambdas_kept lams q s x es)

pub initialised_kept : (st : State) (t : Typ) (at : At) (v : Tree) (f : Full) (r : Result Made ElabFault) → On (λ (m : Made). Grows f.state.work m.work) r
    → On (Ends f.state) (initialised st t at v f r)
initialised_kept st t at v f r h = bind (λ (m : Made). Grows f.state.work m.work) (Ends f.state) r _ h (λ m g. work_kept f.state m.work g)

pub string_kept : (st : State) (s : List Lexeme) (t : Typ) (at : At) (v : Tree) (p : At) (n : ℕ) → On (Ends st) (string_initialised st s t at v p n)
string_kept st s t at v p n = skip (Ends st) (string_object st.ctx t p (string_bytes (spelling s n))) _ (λ e. stays st)

pub values_kept : (lams : Lambdas) (s : List Lexeme) (st : State) (t : Typ) (at : At) (v : Tree) (p : At) (r : Result TypedAll ElabFault)
    → On (λ (xs : TypedAll). Grows st.work xs.work) r → On (Ends st) (values_initialised lams s st t at v p r)
values_kept lams s st t at v p r h = bind (λ (xs : TypedAll). Grows st.work xs.work) (Ends st) r _ h
    (λ xs g. bind (λ (m : Made). Grows xs.work m.work) (Ends st) (directly_initialised st.ctx xs.work t at xs.operands) _
    (directly_grows st.ctx xs.work t at xs.operands) (λ m i. work_kept st m.work (grown st.work xs.work m.work g i)))

pub by_kept : (lams : Lambdas) → Lawful lams → (s : List Lexeme) (st v : State) (t : Typ) (at : At) (e : syntax.Tree) (b : Bool) (o : Option ℕ)
    → On (Ends v) (by_expression lams s st v t at e b o)
by_kept lams q s st v t at e true (Some n) = string_kept v s t at (variable_tree st t at) (syntax_place e) n
by_kept lams q s st v t at e b o = follow of_full of_done v (full_operand lams s v e) _ (full_kept lams q s v e)
    (λ f. initialised_kept f.state t at (variable_tree st t at) f (copy_initialised f.state.ctx f.state.work t f.operand)
    (copy_grows f.state.ctx f.state.work t f.operand))

pub initialiser_kept : (lams : Lambdas) → Lawful lams → (s : List Lexeme) (st v : State) (t : Typ) (at : At) (init : syntax.Trees)
    → On (Ends v) (with_initialiser lams s st v t at init)
initialiser_kept lams q s st v t at syntax.none = skip (Ends v) (default_object v.ctx t at) _ (λ e. stays v)
initialiser_kept lams q s st v t at (syntax.more (syntax.node k.ParenthesizedInitializer p token es) syntax.none) =
    follow of_state of_done v (all_lambdas lams s v es) _ (all_lambdas_kept lams q s v es)
    (λ x. values_kept lams s x t at (variable_tree st t at) (at_of p) (operands_of s x.ctx x.work es) (operands_grow s x.ctx x.work es))
initialiser_kept lams q s st v t at (syntax.more (syntax.node k.EqualInitializer p token
    (syntax.more (syntax.node k.BracedInitList r brace items) syntax.none)) syntax.none) =
    follow of_state of_done v (all_lambdas lams s v items) _ (all_lambdas_kept lams q s v items)
    (λ x. bind (λ (m : Made). Grows x.work m.work) (Ends x) (item_of s x.ctx x.work (variable_tree st t at) t (syntax.node k.BracedInitList r brace items)) _
    (item_grows s x.ctx x.work (variable_tree st t at) t (syntax.node k.BracedInitList r brace items)) (λ m g. work_kept x m.work g))
initialiser_kept lams q s st v t at (syntax.more (syntax.node k.EqualInitializer p token (syntax.more e syntax.none)) syntax.none) =
    by_kept lams q s st v t at e (is_char_array t) (string_token e)
initialiser_kept lams q s st v t at kids = tt

pub plain_kept : (lams : Lambdas) → Lawful lams → (s : List Lexeme) (st : State) (name : List ℕ) (t : Typ) (at : At) (init : syntax.Trees)
    → On (Ends st) (plain_variable lams s st name t at init)
plain_kept lams q s st name t at init = skip (Ends st) (declarable st.ctx at t) _
    (λ x. skip (Ends st) (check at BadDeclaration (is_bounded t)) _
    (λ z. skip (Ends st) (typ_sized st.ctx.classes at t) _
    (λ y. skip (Ends st) (within_if_sized st.ctx at t) _
    (λ w. behind st (placed_variable st name t) of_done (with_initialiser lams s st (placed_variable st name t) t at init) (placed_kept st name t)
    (initialiser_kept lams q s st (placed_variable st name t) t at init)))))

-- `auto`

abbrev pub Deduces : State → Deduction → Type 0
Deduces st x = Leaves st x.done.state

pub deduced_kept : (a : State) (f : Full) (t : Typ) (at : At) (u : Typ) → Leaves a f.state
    → On (Ends a) (auto_initialised f.state t at (length a.ctx.variables) u f.operand (auto_object f.state t at u f.operand))
deduced_kept a f t at u h = bind (λ (m : Made). Grows f.state.work m.work) (Ends a) (auto_object f.state t at u f.operand) _
    (copy_grows f.state.ctx f.state.work u f.operand)
    (λ m g. after a (with_work f.state m.work) (auto_placed (with_work f.state m.work) (length a.ctx.variables) u)
    (after a f.state (with_work f.state m.work) h (work_kept f.state m.work g)) (item_kept (with_work f.state m.work) u))

pub auto_variable_kept : (lams : Lambdas) → Lawful lams → (s : List Lexeme) (a st : State) (t : Typ) (at : At) (before : Option Typ) (e : syntax.Tree) → Leaves a st
    → On (Deduces a) (auto_variable lams s st (length a.ctx.variables) t at before e)
auto_variable_kept lams q s a st t at before e h = bind (λ (f : Full). Leaves st f.state) (Deduces a) (full_operand lams s st e) _ (full_kept lams q s st e)
    (λ f g. skip (Deduces a) (deduced_type at t f.operand) _ (λ u. skip (Deduces a) (check at TypeDiffers (same_deduction before u)) _ (λ y.
    bind (Ends a) (Deduces a) (auto_initialised f.state t at (length a.ctx.variables) (replaced u t) f.operand
    (auto_object f.state t at (replaced u t) f.operand)) _ (deduced_kept a f t at (replaced u t) (after a st f.state h g)) (λ d i. i))))

pub by_type_kept : (lams : Lambdas) → Lawful lams → (s : List Lexeme) (st : State) (name : List ℕ) (t : Typ) (at : At) (before : Option Typ) (init : syntax.Trees)
    (b : Bool) → On (Deduces st) (variable_by lams s st name t at before init b)
by_type_kept lams q s st name t at before init true =
    skip (Deduces st) (expect at BadInit (only_expression init)) _
    (λ e. auto_variable_kept lams q s st (declared_variable st name None) t at before e (stays st))
by_type_kept lams q s st name t at before init false =
    bind (Ends st) (Deduces st) (plain_variable lams s st name (bound_by_initialiser s t init) at init) _
    (plain_kept lams q s st name (bound_by_initialiser s t init) at init) (λ d i. i)

pub one_kept : (lams : Lambdas) → Lawful lams → (s : List Lexeme) (st : State) (name : List ℕ) (t : Typ) (at : At) (before : Option Typ) (init : syntax.Trees)
    → On (Deduces st) (variable lams s st name t at before init)
one_kept lams q s st name t at before init = skip (Deduces st) (check at Redeclared (is_fresh st.ctx name)) _
    (λ y. by_type_kept lams q s st name t at before init (has_auto t))

-- Declarations in blocks

abbrev pub of_declaring : Declaring → State
of_declaring d = d.state

pub declarator_kept : (lams : Lambdas) → Lawful lams → (s : List Lexeme) (t : Typ) (d : Declaring) (x : syntax.Tree)
    → On (λ (y : Declaring). Leaves d.state y.state) (block_declarator lams s t d x)
declarator_kept lams q s t d (syntax.node k.InitDeclarator p token (syntax.more x init)) =
    skip (λ (y : Declaring). Leaves d.state y.state) (declared_by s d.state.ctx d.state.work (at_of p) t x) _
    (λ r. skip (λ (y : Declaring). Leaves d.state y.state) (check (at_of p) BadDeclaration (is_own_name r)) _
    (λ z. bind (Deduces d.state) (λ (y : Declaring). Leaves d.state y.state) (variable lams s d.state (name_of s r.name) r.typ (at_of p) d.auto init) _
    (one_kept lams q s d.state (name_of s r.name) r.typ (at_of p) d.auto init) (λ y i. i)))
declarator_kept lams q s t d x = tt

pub declarators_kept : (lams : Lambdas) → Lawful lams → (s : List Lexeme) (t : Typ) (d : Declaring) (xs : syntax.Trees)
    → On (λ (y : Declaring). Leaves d.state y.state) (block_declarators lams s t d xs)
declarators_kept lams q s t d syntax.none = stays d.state
declarators_kept lams q s t d (syntax.more x xs) = follow of_declaring of_declaring d.state (block_declarator lams s t d x) _ (declarator_kept lams q s t d x)
    (λ y. declarators_kept lams q s t y xs)

pub declaration_kept : (lams : Lambdas) → Lawful lams → (s : List Lexeme) (st : State) (at : At) (ts : syntax.Trees)
    → On (Ends st) (block_declaration lams s st at ts)
declaration_kept lams q s st at (syntax.more (syntax.node k.Attribute p token kids) ts) = declaration_kept lams q s st at ts
declaration_kept lams q s st at (syntax.more (syntax.node k.TypeSpecifierSeq p token kids) ds) =
    skip (Ends st) (type_of_specifiers s st.ctx st.work (syntax.node k.TypeSpecifierSeq p token kids)) _
    (λ t. bind (λ (y : Declaring). Leaves st y.state) (Ends st) (block_declarators lams s t (record { trees = none; state = st; auto = None }) ds) _
    (declarators_kept lams q s t (record { trees = none; state = st; auto = None }) ds) (λ d i. i))
declaration_kept lams q s st at ts = tt

-- `return`

pub class_or_value : (at : At) (t : Typ) (f : Full) → On (Ends f.state)
    (if is_class_typ t then and_then (class_from f.state.ctx f.state.work t f.operand.at f.operand)
    (λ (m : Made). done (one (class_returned at t f m)) (with_work f.state m.work)) else and_then (initial f.state.ctx f.state.work t f.operand)
    (λ (m : Made). done (one (return_node at (one (full f.operand.at (result_of t f.operand.at m.tree))))) (with_work f.state m.work)))
class_or_value at t f = either (Ends f.state) (is_class_typ t) _ _
    (bind (λ (m : Made). Grows f.state.work m.work) (Ends f.state) (class_from f.state.ctx f.state.work t f.operand.at f.operand) _
    (class_grows f.state.ctx f.state.work t f.operand.at f.operand) (λ m g. work_kept f.state m.work g))
    (bind (λ (m : Made). Grows f.state.work m.work) (Ends f.state) (initial f.state.ctx f.state.work t f.operand) _
    (initial_grows f.state.ctx f.state.work t f.operand) (λ m g. work_kept f.state m.work g))

pub value_returned : (at : At) (t : Typ) (f : Full) → On (Ends f.state) (return_value at t f)
value_returned at (typ void d v) f = skip (Ends f.state) (check at BadReturn (is_void (typ_in f.operand.tree))) _ (λ y. stays f.state)
value_returned at t f = class_or_value at t f

pub return_kept : (at : At) (r : Returns) (f : Full) → On (Ends f.state) (return_by at r f)
return_kept at (known t) f = value_returned at t f
return_kept at (deduced t) f = skip (Ends f.state) (check at BadReturn (same_deduction t (unqualified (typ_in (value f.operand))))) _ (λ y. stays f.state)

pub nothing_kept : (st : State) (at : At) (r : Returns) → On (Ends st) (return_nothing st at r)
nothing_kept st at (known t) = skip (Ends st) (check at BadReturn (is_void t)) _ (λ y. stays st)
nothing_kept st at (deduced t) = skip (Ends st) (check at BadReturn (same_deduction t (plain void))) _ (λ y. stays st)

pub returned_kept : (lams : Lambdas) → Lawful lams → (s : List Lexeme) (st : State) (at : At) (ts : syntax.Trees) → On (Ends st) (returned lams s st at ts)
returned_kept lams q s st at syntax.none = nothing_kept st at st.ctx.returns
returned_kept lams q s st at (syntax.more e ts) = follow of_full of_done st (full_operand lams s st e) _ (full_kept lams q s st e)
    (λ f. return_kept at f.state.ctx.returns f)

-- Labels

pub case_kept : (s : List Lexeme) (st : State) (at : At) (e : syntax.Tree) → On (Ends st) (case_label s st at e)
case_kept s st at e = skip (Ends st) (label_here st at) _
    (λ y. skip (Ends st) (and_then (expression_of s st.ctx st.work e) (chosen_operand st.ctx)) _
    (λ o. skip (Ends st) (initial st.ctx st.work st.ctx.labels.typ o.operand) _
    (λ m. skip (Ends st) (expect o.operand.at NotConstant (constant st.work.globals (value o.operand))) _
    (λ w. skip (Ends st) (expect o.operand.at NotConstant (constant st.work.globals m.tree)) _ (λ word.
    skip (Ends st) (check o.operand.at Narrowing (case_fits (kind_in (form_in (typ_in (value o.operand)))) (kind_in (form_in st.ctx.labels.typ)) w)) _
    (λ x. skip (Ends st) (check at BadCase (not (list_any (λ (n : ℕ). n == word) st.ctx.labels.words))) _ (λ z. stays st)))))))

pub default_kept : (st : State) (at : At) → On (Ends st) (default_label st at)
default_kept st at = skip (Ends st) (label_here st at) _ (λ y. skip (Ends st) (check at BadCase (not st.ctx.labels.has_default)) _ (λ z. stays st))

-- Handlers, and parts of statements

pub named_kept : (s : List Lexeme) (st : State) (at p : At) (t u : Typ) (o : Option ℕ) → On (λ (h : Caught). Leaves st h.state) (named_handler s st at p t u o)
named_kept s st at p t u (Some n) = skip (λ (h : Caught). Leaves st h.state) (within_exception st.ctx p u) _ (λ y. placed_kept st (spelling s n) u)
named_kept s st at p t u None = stays st

pub handler_kept : (s : List Lexeme) (st : State) (at : At) (t : syntax.Tree) → On (λ (h : Caught). Leaves st h.state) (handler_type s st at t)
handler_kept s st at (syntax.node k.ParameterDeclaration p token (syntax.more base (syntax.more d syntax.none))) =
    skip (λ (h : Caught). Leaves st h.state) (type_of_specifiers s st.ctx st.work base) _
    (λ t. skip (λ (h : Caught). Leaves st h.state) (declared_by s st.ctx st.work (at_of p) t d) _
    (λ r. skip (λ (h : Caught). Leaves st h.state) (caught_type st.ctx (at_of p) r.typ) _ (λ u. named_kept s st at (at_of p) r.typ u r.name)))
handler_kept s st at t = stays st

pub switched_kept : (lams : Lambdas) → Lawful lams → (s : List Lexeme) (st : State) (e : syntax.Tree)
    → On (λ (v : Switched). Leaves st v.state) (switched lams s st e)
switched_kept lams q s st e = bind (λ (f : Full). Leaves st f.state) (λ (v : Switched). Leaves st v.state) (full_operand lams s st e) _
    (full_kept lams q s st e) (λ f h. skip (λ (v : Switched). Leaves st v.state) (switched_type f.operand.at (form_in (typ_in (value f.operand)))) _ (λ t. h))

pub jump_kept : (allowed : Bool) (kind : TKind) (st : State) (at : At) → On (Ends st) (jump allowed kind st at)
jump_kept allowed kind st at = skip (Ends st) (check at BadBreak allowed) _ (λ y. stays st)

pub part_kept : (s : List Lexeme) (t : syntax.Tree) (st : State) (r : Result Done ElabFault) → On (Ends st) r → On (Ends st) (and_then r (a_part s t))
part_kept s t st r h = bind (Ends st) (Ends st) r (a_part s t) h (λ d i. i)

pub first_kept : (lams : Lambdas) → Lawful lams → (s : List Lexeme) (st : State) (t : syntax.Tree) → On (Ends st) (for_first lams s st t)
first_kept lams q s st (syntax.node k.Absent p token kids) = stays st
first_kept lams q s st (syntax.node k.SimpleDeclaration p token kids) = declaration_kept lams q s st (at_of p) kids
first_kept lams q s st e = expression_kept lams q s st e

pub test_kept : (lams : Lambdas) → Lawful lams → (s : List Lexeme) (st : State) (at : At) (t : syntax.Tree) → On (Ends st) (for_test lams s st at t)
test_kept lams q s st at (syntax.node k.Absent p token kids) = stays st
test_kept lams q s st at e = condition_kept lams q s st e

pub step_kept : (lams : Lambdas) → Lawful lams → (s : List Lexeme) (st : State) (at : At) (t : syntax.Tree) → On (Ends st) (for_step lams s st at t)
step_kept lams q s st at (syntax.node k.Absent p token kids) = stays st
step_kept lams q s st at e = expression_kept lams q s st e

-- the parts of a `for`, up to its body
pub loop_kept : (st f x z y : State) → Leaves (in_loop st) f → Leaves f x → Leaves x z → Leaves z y → Leaves st (outer st y)
loop_kept st f x z y a b c d = (after (in_loop st) f y a (after f x y b (after x z y c d)))

-- Statements

mutual
  pub statement_kept : (lams : Lambdas) → Lawful lams → (s : List Lexeme) (st : State) (t : syntax.Tree) → On (Ends st) (statement_of lams s st t)
  statement_kept lams q s st (syntax.node k.CompoundStatement p token kids) =
      bind (Ends (inner st)) (Ends st) (statements_of lams s (inner st) kids) _ (statements_kept lams q s (inner st) kids) (λ d h. out st st d.state h)
  statement_kept lams q s st (syntax.node k.NullStatement p token kids) = stays st
  statement_kept lams q s st (syntax.node k.ExpressionStatement p token (syntax.more e syntax.none)) = expression_kept lams q s st e
  statement_kept lams q s st (syntax.node k.SimpleDeclaration p token kids) = declaration_kept lams q s st (at_of p) kids
  statement_kept lams q s st (syntax.node k.IfStatement p token (syntax.more e (syntax.more a syntax.none))) =
      follow of_done of_done st (condition lams s st e) _ (condition_kept lams q s st e)
      (λ x. bind (Ends (inner x.state)) (Ends x.state) (and_then (statement_of lams s (inner x.state) a) (a_part s a)) _
      (part_kept s a (inner x.state) (statement_of lams s (inner x.state) a) (statement_kept lams q s (inner x.state) a))
      (λ y i. out x.state x.state y.state i))
  statement_kept lams q s st (syntax.node k.IfStatement p token (syntax.more e (syntax.more a (syntax.more b syntax.none)))) =
      follow of_done of_done st (condition lams s st e) _ (condition_kept lams q s st e)
      (λ x. bind (Ends (inner x.state)) (Ends x.state) (and_then (statement_of lams s (inner x.state) a) (a_part s a)) _
      (part_kept s a (inner x.state) (statement_of lams s (inner x.state) a) (statement_kept lams q s (inner x.state) a))
      (λ y i. bind (Ends (inner (outer x.state y.state))) (Ends x.state) (and_then (statement_of lams s (inner (outer x.state y.state)) b) (a_part s b)) _
      (part_kept s b (inner (outer x.state y.state)) (statement_of lams s (inner (outer x.state y.state)) b)
      (statement_kept lams q s (inner (outer x.state y.state)) b))
      (λ z j. after x.state (outer x.state y.state) (outer x.state z.state) (out x.state x.state y.state i)
      (out (outer x.state y.state) x.state z.state j))))
  statement_kept lams q s st (syntax.node k.WhileStatement p token (syntax.more e (syntax.more a syntax.none))) =
      follow of_done of_done st (condition lams s st e) _ (condition_kept lams q s st e)
      (λ x. bind (Ends (in_loop x.state)) (Ends x.state) (and_then (statement_of lams s (in_loop x.state) a) (a_part s a)) _
      (part_kept s a (in_loop x.state) (statement_of lams s (in_loop x.state) a) (statement_kept lams q s (in_loop x.state) a))
      (λ y i. out x.state x.state y.state i))
  statement_kept lams q s st (syntax.node k.DoStatement p token (syntax.more a (syntax.more e syntax.none))) =
      bind (Ends (in_loop st)) (Ends st) (and_then (statement_of lams s (in_loop st) a) (a_part s a)) _
      (part_kept s a (in_loop st) (statement_of lams s (in_loop st) a) (statement_kept lams q s (in_loop st) a))
      (λ y i. bind (Ends (outer st y.state)) (Ends st) (condition lams s (outer st y.state) e) _ (condition_kept lams q s (outer st y.state) e)
      (λ x j. after st (outer st y.state) x.state (out st st y.state i) j))
  statement_kept lams q s st (syntax.node k.ForStatement p token
      (syntax.more i (syntax.more e (syntax.more n (syntax.more (syntax.node k.CompoundStatement r brace kids) syntax.none))))) =
      bind (Ends (in_loop st)) (Ends st) (for_first lams s (in_loop st) i) _ (first_kept lams q s (in_loop st) i)
      (λ f a1. bind (Ends f.state) (Ends st) (for_test lams s f.state (at_of p) e) _ (test_kept lams q s f.state (at_of p) e)
      (λ x a2. bind (Ends x.state) (Ends st) (for_step lams s x.state (at_of p) n) _ (step_kept lams q s x.state (at_of p) n)
      (λ z a3. bind (Ends z.state) (Ends st) (statements_of lams s z.state kids) _ (statements_kept lams q s z.state kids)
      (λ y a4. loop_kept st f.state x.state z.state y.state a1 a2 a3 a4))))
  statement_kept lams q s st (syntax.node k.ForStatement p token (syntax.more i (syntax.more e (syntax.more n (syntax.more a syntax.none))))) =
      bind (Ends (in_loop st)) (Ends st) (for_first lams s (in_loop st) i) _ (first_kept lams q s (in_loop st) i)
      (λ f a1. bind (Ends f.state) (Ends st) (for_test lams s f.state (at_of p) e) _ (test_kept lams q s f.state (at_of p) e)
      (λ x a2. bind (Ends x.state) (Ends st) (for_step lams s x.state (at_of p) n) _ (step_kept lams q s x.state (at_of p) n)
      (λ z a3. bind (Ends z.state) (Ends st) (and_then (statement_of lams s z.state a) (a_part s a))
      (λ (y : Done). done (one (block (at_of p) (followed_by f.trees
      (one (statement (forms.Loop true) (at_of p) (three (the_tree (at_of p) x.trees) (the_tree (at_of p) y.trees) (the_tree (at_of p) z.trees)))))))
      (outer st y.state)) (part_kept s a z.state (statement_of lams s z.state a) (statement_kept lams q s z.state a))
      (λ y a4. loop_kept st f.state x.state z.state y.state a1 a2 a3 a4))))
  statement_kept lams q s st (syntax.node k.SwitchStatement p token (syntax.more e (syntax.more (syntax.node kind r brace kids) syntax.none))) =
      bind (λ (v : Switched). Leaves st v.state) (Ends st) (switched lams s st e) _ (switched_kept lams q s st e)
      (λ v h. bind (Ends (in_switch v.state v.typ)) (Ends st) (statements_of lams s (in_switch v.state v.typ) kids) _
      (statements_kept lams q s (in_switch v.state v.typ) kids) (λ d i. after st v.state (outer v.state d.state) h (out v.state v.state d.state i)))
  statement_kept lams q s st (syntax.node k.CaseStatement p token (syntax.more e (syntax.more a syntax.none))) =
      follow of_done of_done st (case_label s st (at_of p) e) _ (case_kept s st (at_of p) e)
      (λ x. bind (Ends x.state) (Ends x.state) (statement_of lams s x.state a) _ (statement_kept lams q s x.state a) (λ y i. i))
  statement_kept lams q s st (syntax.node k.DefaultStatement p token (syntax.more a syntax.none)) =
      follow of_done of_done st (default_label st (at_of p)) _ (default_kept st (at_of p))
      (λ x. bind (Ends x.state) (Ends x.state) (statement_of lams s x.state a) _ (statement_kept lams q s x.state a) (λ y i. i))
  statement_kept lams q s st (syntax.node k.BreakStatement p token kids) = jump_kept st.ctx.breaks forms.Break st (at_of p)
  statement_kept lams q s st (syntax.node k.ContinueStatement p token kids) = jump_kept st.ctx.continues forms.Continue st (at_of p)
  statement_kept lams q s st (syntax.node k.ReturnStatement p token kids) = returned_kept lams q s st (at_of p) kids
  statement_kept lams q s st (syntax.node k.TryBlock p token (syntax.more (syntax.node kind r brace kids) hs)) =
      bind (Ends (inner st)) (Ends st) (statements_of lams s (inner st) kids) _ (statements_kept lams q s (inner st) kids)
      (λ d i. bind (Ends (outer st d.state)) (Ends st) (handlers_of lams s (outer st d.state) hs) _ (handlers_kept lams q s (outer st d.state) hs)
      (λ y j. after st (outer st d.state) y.state (out st st d.state i) j))
  statement_kept lams q s st (syntax.node k.SynchronizedStatement p token (syntax.more (syntax.node kind r brace kids) syntax.none)) =
      bind (Ends (in_block st)) (Ends st) (statements_of lams s (in_block st) kids) _ (statements_kept lams q s (in_block st) kids) (λ d h. out st st d.state h)
  statement_kept lams q s st (syntax.node k.AtomicStatement p (Some t) (syntax.more (syntax.node kind r brace kids) syntax.none)) =
      bind (Ends (in_block st)) (Ends st) (statements_of lams s (in_block st) kids) _ (statements_kept lams q s (in_block st) kids) (λ d h. out st st d.state h)
  statement_kept lams q s st t = tt

  pub statements_kept : (lams : Lambdas) → Lawful lams → (s : List Lexeme) (st : State) (ts : syntax.Trees) → On (Ends st) (statements_of lams s st ts)
  statements_kept lams q s st syntax.none = stays st
  statements_kept lams q s st (syntax.more t ts) = follow of_done of_done st (statement_of lams s st t) _ (statement_kept lams q s st t)
      (λ x. bind (Ends x.state) (Ends x.state) (statements_of lams s x.state ts) _ (statements_kept lams q s x.state ts) (λ y i. i))

  pub handlers_kept : (lams : Lambdas) → Lawful lams → (s : List Lexeme) (st : State) (hs : syntax.Trees) → On (Ends st) (handlers_of lams s st hs)
  handlers_kept lams q s st syntax.none = stays st
  handlers_kept lams q s st (syntax.more (syntax.node kind p token (syntax.more x (syntax.more (syntax.node b r brace kids) syntax.none))) hs) =
      skip (Ends st) (in_order (at_of p) x hs) _ (λ y. bind (λ (h : Caught). Leaves (inner st) h.state) (Ends st) (handler_type s (inner st) (at_of p) x) _
      (handler_kept s (inner st) (at_of p) x) (λ h i. bind (Ends h.state) (Ends st) (statements_of lams s h.state kids) _
      (statements_kept lams q s h.state kids)
      (λ d j. bind (Ends (outer st d.state)) (Ends st) (handlers_of lams s (outer st d.state) hs) _ (handlers_kept lams q s (outer st d.state) hs)
      (λ z l. after st (outer st d.state) z.state (out st st d.state (after (inner st) h.state d.state i j)) l))))
  handlers_kept lams q s st hs = tt

-- Parameters

pub one_parameter : (s : List Lexeme) (st : State) (p : Parameter) (o : Option ℕ) → On (Leaves st) (parameter_named s st p o)
one_parameter s st p (Some n) = skip (Leaves st) (check p.at Redeclared (is_fresh st.ctx (spelling s n))) _
    (λ y. item_kept st (word_item p.typ))
one_parameter s st p None = item_kept st (word_item p.typ)

pub parameters_kept : (s : List Lexeme) (st : State) (ps : List Parameter) → On (Leaves st) (with_parameters s st ps)
parameters_kept s st [] = stays st
parameters_kept s st (p ∷ ps) = skip (Leaves st) (check p.at Incomplete (is_complete st.ctx (held p.typ))) _
    (λ y. follow of_state of_state st (parameter_named s st p p.name) _ (one_parameter s st p p.name) (λ x. parameters_kept s x ps))
