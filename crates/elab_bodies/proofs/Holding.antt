-- What holds of the functions and the bodies alone holds behind statements, where it holds behind the lambdas in them.
use Rattle.std.proofs.Common.{ℕ, Bool, true, false, List, [], ◌∷◌, length, Option, Some, None, Result, Ok}
use Rattle.elab_rules.specs.cpp_types.Typ.{Typ, typ, void}
use Rattle.elab_rules.specs.cpp_types.declared.classes.At.{At}
use Rattle.elab_rules.specs.cpp_lex.Tokens.{Lexeme}
use Rattle.elab_rules.specs.cpp_ast.declared.kinds.NodeKind.TheVariants as k
use Rattle.elab_rules.specs.cpp_ast.Trees as syntax
use Rattle.elab_rules.specs.cpp_tree.declared.kinds.TKind.{TKind}
use Rattle.elab_rules.specs.cpp_tree.declared.kinds.TKind.TheVariants as forms
use Rattle.elab_rules.specs.cpp_tree.declared.faults.ElabFault.{ElabFault}
use Rattle.elab_rules.specs.cpp_tree.declared.faults.IllRule.TheVariants.{Redeclared, TypeDiffers, BadDeclaration, NotConstant, Incomplete, BadInit, Narrowing}
use Rattle.elab_rules.specs.cpp_tree.declared.faults.IllRule.TheVariants.{BadReturn, BadBreak, BadCase}
use Rattle.elab_rules.specs.cpp_tree.Trees.{Tree, none, typ_in, one, three}
use Rattle.elab_rules.specs.cpp_tree.Typing.{is_class_typ, form_in, is_void, kind_in, unqualified}
use Rattle.elab_rules.specs.elab_ctx.Ctx.{Returns, known, deduced}
use Rattle.elab_rules.specs.elab_ctx.Steps.{and_then, check, expect, at_of, spelling, Operand, Made, TypedAll}
use Rattle.elab_rules.specs.Initialising.{class_from, initial}
use Rattle.elab_rules.specs.Operators.{value, truth, is_complete, within_if_sized}
use Rattle.elab_rules.specs.Types.{Parameter, has_auto, is_bounded}
use Rattle.elab_rules.specs.Braces.{item_of, string_token, is_char_array, syntax_place, string_object}
use Rattle.elab_rules.specs.Expressions.{expression_of, operands_of, chosen_operand, declared_by, type_of_specifiers}
use Rattle.elab_rules.specs.Functions.{with_parameters, parameter_named}
use Rattle.elab_rules.specs.Statements.{State, Done, done, Lambdas, Full, Deduction, Declaring, Switched, Caught, with_work, full_operand}
use Rattle.elab_rules.specs.Statements.{expression_statement, condition, declared_variable, placed_variable, variable_tree, default_object, copy_initialised}
use Rattle.elab_rules.specs.Statements.{directly_initialised, initialised, string_initialised, values_initialised, all_lambdas, bound_by_initialiser}
use Rattle.elab_rules.specs.Statements.{by_expression, with_initialiser, deduced_type, replaced, auto_initialised, auto_object, auto_variable, plain_variable}
use Rattle.elab_rules.specs.Statements.{variable_by, variable, name_of, block_declarator, block_declarators, block_declaration, return_value}
use Rattle.elab_rules.specs.Statements.{return_by, return_nothing, returned, case_label, default_label, inner, in_loop, in_block, in_switch, outer}
use Rattle.elab_rules.specs.Statements.{named_handler, handler_type, in_order, switched, jump, a_part, for_first, for_test, for_step, statement_of}
use Rattle.elab_rules.specs.Statements.{statements_of, handlers_of, case_fits, caught_type, declarable, is_fresh, is_own_name, label_here}
use Rattle.elab_rules.specs.Statements.{only_expression, same_deduction, switched_type, class_returned, full, result_of, return_node, block, statement, the_tree}
use Rattle.std.specs.Prelude.{if◌then◌else◌}
use Rattle.elab_fits.specs.Standing.{On}
use Rattle.elab_rules.specs.cpp_types.Spelling.{before}
use Rattle.elab_rules.specs.Constants.{constant}
use Rattle.elab_rules.specs.Casts.{within_exception}
use Rattle.elab_rules.specs.cpp_types.Class.{held}
use Rattle.std.specs.List.{list_any}
use Rattle.std.specs.Prelude.{not, ◌==◌}
use Rattle.elab_rules.specs.cpp_tree.Notation.{plain}
use Rattle.elab_rules.specs.Strings.{string_bytes}
use Rattle.elab_rules.specs.Sizes.{typ_sized}
use Rattle.elab_rules.specs.Objects.{followed_by}
use Rattle.elab_rules.specs.elab_ctx.Ctx.{Func}
use Rattle.elab_rules.specs.Statements.{Body}
use Rattle.state_growth.proofs.Steps.{bind, skip, either}

-- A property of the functions and the bodies alone

module _ (P : List Func → List Body → Type 0) where
  abbrev pub Held : State → Type 0
  Held st = P st.ctx.funcs st.bodies

  abbrev pub Ends : Done → Type 0
  Ends d = Held d.state

  abbrev HeldFull : Full → Type 0
  HeldFull f = Held f.state

  abbrev Deduces : Deduction → Type 0
  Deduces x = Held x.done.state

  abbrev Declares : Declaring → Type 0
  Declares d = Held d.state

  abbrev Catches : Caught → Type 0
  Catches h = Held h.state

  abbrev Switches : Switched → Type 0
  Switches v = Held v.state

  initialised_held : (st : State) (t : Typ) (at : At) (v : Tree) (f : Full) (r : Result Made ElabFault) → Held f.state
      → On Ends (initialised st t at v f r)
  initialised_held st t at v f r h = skip Ends r _ (λ m. h)

  string_held : (st : State) (s : List Lexeme) (t : Typ) (at : At) (v : Tree) (p : At) (n : ℕ) → Held st → On Ends (string_initialised st s t at v p n)
  string_held st s t at v p n h = skip Ends (string_object st.ctx t p (string_bytes (spelling s n))) _ (λ e. h)

  values_held : (lams : Lambdas) (s : List Lexeme) (st : State) (t : Typ) (at : At) (v : Tree) (p : At) (r : Result TypedAll ElabFault) → Held st
      → On Ends (values_initialised lams s st t at v p r)
  values_held lams s st t at v p r h = skip Ends r _ (λ xs. skip Ends (directly_initialised st.ctx xs.work t at xs.operands) _ (λ m. h))

  auto_held : (st : State) (t : Typ) (at : At) (i : ℕ) (u : Typ) (o : Operand) (r : Result Made ElabFault) → Held st
      → On Ends (auto_initialised st t at i u o r)
  auto_held st t at i u o r h = skip Ends r _ (λ m. h)

  class_or_value : (at : At) (t : Typ) (f : Full) → Held f.state → On Ends
      (if is_class_typ t then and_then (class_from f.state.ctx f.state.work t f.operand.at f.operand)
      (λ (m : Made). done (one (class_returned at t f m)) (with_work f.state m.work)) else and_then (initial f.state.ctx f.state.work t f.operand)
      (λ (m : Made). done (one (return_node at (one (full f.operand.at (result_of t f.operand.at m.tree))))) (with_work f.state m.work)))
  class_or_value at t f h = either Ends (is_class_typ t) _ _ (skip Ends (class_from f.state.ctx f.state.work t f.operand.at f.operand) _ (λ m. h))
      (skip Ends (initial f.state.ctx f.state.work t f.operand) _ (λ m. h))

  value_returned : (at : At) (t : Typ) (f : Full) → Held f.state → On Ends (return_value at t f)
  value_returned at (typ void d v) f h = skip Ends (check at BadReturn (is_void (typ_in f.operand.tree))) _ (λ y. h)
  value_returned at t f h = class_or_value at t f h

  return_held : (at : At) (r : Returns) (f : Full) → Held f.state → On Ends (return_by at r f)
  return_held at (known t) f h = value_returned at t f h
  return_held at (deduced t) f h = skip Ends (check at BadReturn (same_deduction t (unqualified (typ_in (value f.operand))))) _ (λ y. h)

  nothing_held : (st : State) (at : At) (r : Returns) → Held st → On Ends (return_nothing st at r)
  nothing_held st at (known t) h = skip Ends (check at BadReturn (is_void t)) _ (λ y. h)
  nothing_held st at (deduced t) h = skip Ends (check at BadReturn (same_deduction t (plain void))) _ (λ y. h)

  case_held : (s : List Lexeme) (st : State) (at : At) (e : syntax.Tree) → Held st → On Ends (case_label s st at e)
  case_held s st at e h = skip Ends (label_here st at) _ (λ y. skip Ends (and_then (expression_of s st.ctx st.work e) (chosen_operand st.ctx)) _
      (λ o. skip Ends (initial st.ctx st.work st.ctx.labels.typ o.operand) _
      (λ m. skip Ends (expect o.operand.at NotConstant (constant st.work.globals (value o.operand))) _
      (λ w. skip Ends (expect o.operand.at NotConstant (constant st.work.globals m.tree)) _ (λ word.
      skip Ends (check o.operand.at Narrowing (case_fits (kind_in (form_in (typ_in (value o.operand)))) (kind_in (form_in st.ctx.labels.typ)) w)) _
      (λ x. skip Ends (check at BadCase (not (list_any (λ (n : ℕ). n == word) st.ctx.labels.words))) _ (λ z. h)))))))

  default_held : (st : State) (at : At) → Held st → On Ends (default_label st at)
  default_held st at h = skip Ends (label_here st at) _ (λ y. skip Ends (check at BadCase (not st.ctx.labels.has_default)) _ (λ z. h))

  named_held : (s : List Lexeme) (st : State) (at p : At) (t u : Typ) (o : Option ℕ) → Held st → On Catches (named_handler s st at p t u o)
  named_held s st at p t u (Some n) h = skip Catches (within_exception st.ctx p u) _ (λ y. h)
  named_held s st at p t u None h = h

  handler_held : (s : List Lexeme) (st : State) (at : At) (t : syntax.Tree) → Held st → On Catches (handler_type s st at t)
  handler_held s st at (syntax.node k.ParameterDeclaration p token (syntax.more base (syntax.more d syntax.none))) h =
      skip Catches (type_of_specifiers s st.ctx st.work base) _ (λ t. skip Catches (declared_by s st.ctx st.work (at_of p) t d) _
      (λ r. skip Catches (caught_type st.ctx (at_of p) r.typ) _ (λ u. named_held s st at (at_of p) r.typ u r.name h)))
  handler_held s st at t h = h

  jump_held : (allowed : Bool) (kind : TKind) (st : State) (at : At) → Held st → On Ends (jump allowed kind st at)
  jump_held allowed kind st at h = skip Ends (check at BadBreak allowed) _ (λ y. h)

  part_held : (s : List Lexeme) (t : syntax.Tree) (r : Result Done ElabFault) → On Ends r → On Ends (and_then r (a_part s t))
  part_held s t r h = bind Ends Ends r (a_part s t) h (λ d i. i)

  module _ (lams : Lambdas) (s : List Lexeme) (keeps : (st : State) (t : syntax.Tree) → Held st → On Held (lams s st t)) where
    pub full_held : (st : State) (e : syntax.Tree) → Held st → On HeldFull (full_operand lams s st e)
    full_held st e h = bind Held HeldFull (lams s st e) _ (keeps st e h)
        (λ x i. skip HeldFull (and_then (expression_of s x.ctx x.work e) (chosen_operand x.ctx)) _ (λ o. i))

    expression_held : (st : State) (e : syntax.Tree) → Held st → On Ends (expression_statement lams s st e)
    expression_held st e h = bind HeldFull Ends (full_operand lams s st e) _ (full_held st e h) (λ f i. i)

    condition_held : (st : State) (e : syntax.Tree) → Held st → On Ends (condition lams s st e)
    condition_held st e h = bind HeldFull Ends (full_operand lams s st e) _ (full_held st e h)
        (λ f i. skip Ends (and_then (truth f.state.ctx f.state.work f.operand) (λ (t : Tree). Ok (record { tree = t; work = f.state.work }))) _ (λ m. i))

    pub all_lambdas_held : (st : State) (es : syntax.Trees) → Held st → On Held (all_lambdas lams s st es)
    all_lambdas_held st syntax.none h = h
    all_lambdas_held st (syntax.more e es) h = bind Held Held (lams s st e) _ (keeps st e h) (λ x i. all_lambdas_held x es i)

    by_held : (st v : State) (t : Typ) (at : At) (e : syntax.Tree) (b : Bool) (o : Option ℕ) → Held v → On Ends (by_expression lams s st v t at e b o)
    by_held st v t at e true (Some n) h = string_held v s t at (variable_tree st t at) (syntax_place e) n h
    by_held st v t at e b o h = bind HeldFull Ends (full_operand lams s v e) _ (full_held v e h)
        (λ f i. initialised_held f.state t at (variable_tree st t at) f (copy_initialised f.state.ctx f.state.work t f.operand) i)

    initialiser_held : (st v : State) (t : Typ) (at : At) (init : syntax.Trees) → Held v → On Ends (with_initialiser lams s st v t at init)
    initialiser_held st v t at syntax.none h = skip Ends (default_object v.ctx t at) _ (λ e. h)
    initialiser_held st v t at (syntax.more (syntax.node k.ParenthesizedInitializer p token es) syntax.none) h =
        bind Held Ends (all_lambdas lams s v es) _ (all_lambdas_held v es h)
        (λ x i. values_held lams s x t at (variable_tree st t at) (at_of p) (operands_of s x.ctx x.work es) i)
    initialiser_held st v t at (syntax.more (syntax.node k.EqualInitializer p token
        (syntax.more (syntax.node k.BracedInitList r brace items) syntax.none)) syntax.none) h =
        bind Held Ends (all_lambdas lams s v items) _ (all_lambdas_held v items h)
        (λ x i. skip Ends (item_of s x.ctx x.work (variable_tree st t at) t (syntax.node k.BracedInitList r brace items)) _ (λ m. i))
    initialiser_held st v t at (syntax.more (syntax.node k.EqualInitializer p token (syntax.more e syntax.none)) syntax.none) h =
        by_held st v t at e (is_char_array t) (string_token e) h
    initialiser_held st v t at kids h = tt

    plain_held : (st : State) (name : List ℕ) (t : Typ) (at : At) (init : syntax.Trees) → Held st → On Ends (plain_variable lams s st name t at init)
    plain_held st name t at init h = skip Ends (declarable st.ctx at t) _ (λ x. skip Ends (check at BadDeclaration (is_bounded t)) _
        (λ z. skip Ends (typ_sized st.ctx.classes at t) _ (λ y. skip Ends (within_if_sized st.ctx at t) _
        (λ w. initialiser_held st (placed_variable st name t) t at init h))))

    auto_variable_held : (st : State) (i : ℕ) (t : Typ) (at : At) (before : Option Typ) (e : syntax.Tree) → Held st
        → On Deduces (auto_variable lams s st i t at before e)
    auto_variable_held st i t at before e h = bind HeldFull Deduces (full_operand lams s st e) _ (full_held st e h)
        (λ f g. skip Deduces (deduced_type at t f.operand) _ (λ u. skip Deduces (check at TypeDiffers (same_deduction before u)) _ (λ y.
        bind Ends Deduces (auto_initialised f.state t at i (replaced u t) f.operand (auto_object f.state t at (replaced u t) f.operand)) _
        (auto_held f.state t at i (replaced u t) f.operand (auto_object f.state t at (replaced u t) f.operand) g) (λ d j. j))))

    by_type_held : (st : State) (name : List ℕ) (t : Typ) (at : At) (before : Option Typ) (init : syntax.Trees) (b : Bool) → Held st
        → On Deduces (variable_by lams s st name t at before init b)
    by_type_held st name t at before init true h = skip Deduces (expect at BadInit (only_expression init)) _
        (λ e. auto_variable_held (declared_variable st name None) (length st.ctx.variables) t at before e h)
    by_type_held st name t at before init false h =
        bind Ends Deduces (plain_variable lams s st name (bound_by_initialiser s t init) at init) _
        (plain_held st name (bound_by_initialiser s t init) at init h) (λ d i. i)

    one_held : (st : State) (name : List ℕ) (t : Typ) (at : At) (before : Option Typ) (init : syntax.Trees) → Held st
        → On Deduces (variable lams s st name t at before init)
    one_held st name t at before init h = skip Deduces (check at Redeclared (is_fresh st.ctx name)) _
        (λ y. by_type_held st name t at before init (has_auto t) h)

    declarator_held : (t : Typ) (d : Declaring) (x : syntax.Tree) → Held d.state → On Declares (block_declarator lams s t d x)
    declarator_held t d (syntax.node k.InitDeclarator p token (syntax.more x init)) h =
        skip Declares (declared_by s d.state.ctx d.state.work (at_of p) t x) _
        (λ r. skip Declares (check (at_of p) BadDeclaration (is_own_name r)) _
        (λ z. bind Deduces Declares (variable lams s d.state (name_of s r.name) r.typ (at_of p) d.auto init) _
        (one_held d.state (name_of s r.name) r.typ (at_of p) d.auto init h) (λ y i. i)))
    declarator_held t d x h = tt

    declarators_held : (t : Typ) (d : Declaring) (xs : syntax.Trees) → Held d.state → On Declares (block_declarators lams s t d xs)
    declarators_held t d syntax.none h = h
    declarators_held t d (syntax.more x xs) h = bind Declares Declares (block_declarator lams s t d x) _ (declarator_held t d x h)
        (λ y i. declarators_held t y xs i)

    declaration_held : (st : State) (at : At) (ts : syntax.Trees) → Held st → On Ends (block_declaration lams s st at ts)
    declaration_held st at (syntax.more (syntax.node k.Attribute p token kids) ts) h = declaration_held st at ts h
    declaration_held st at (syntax.more (syntax.node k.TypeSpecifierSeq p token kids) ds) h =
        skip Ends (type_of_specifiers s st.ctx st.work (syntax.node k.TypeSpecifierSeq p token kids)) _
        (λ t. bind Declares Ends (block_declarators lams s t (record { trees = none; state = st; auto = None }) ds) _
        (declarators_held t (record { trees = none; state = st; auto = None }) ds h) (λ d i. i))
    declaration_held st at ts h = tt

    returned_held : (st : State) (at : At) (ts : syntax.Trees) → Held st → On Ends (returned lams s st at ts)
    returned_held st at syntax.none h = nothing_held st at st.ctx.returns h
    returned_held st at (syntax.more e ts) h = bind HeldFull Ends (full_operand lams s st e) _ (full_held st e h)
        (λ f i. return_held at f.state.ctx.returns f i)

    switched_held : (st : State) (e : syntax.Tree) → Held st → On Switches (switched lams s st e)
    switched_held st e h = bind HeldFull Switches (full_operand lams s st e) _ (full_held st e h)
        (λ f i. skip Switches (switched_type f.operand.at (form_in (typ_in (value f.operand)))) _ (λ t. i))

    first_held : (st : State) (t : syntax.Tree) → Held st → On Ends (for_first lams s st t)
    first_held st (syntax.node k.Absent p token kids) h = h
    first_held st (syntax.node k.SimpleDeclaration p token kids) h = declaration_held st (at_of p) kids h
    first_held st e h = expression_held st e h

    test_held : (st : State) (at : At) (t : syntax.Tree) → Held st → On Ends (for_test lams s st at t)
    test_held st at (syntax.node k.Absent p token kids) h = h
    test_held st at e h = condition_held st e h

    step_held : (st : State) (at : At) (t : syntax.Tree) → Held st → On Ends (for_step lams s st at t)
    step_held st at (syntax.node k.Absent p token kids) h = h
    step_held st at e h = expression_held st e h

    mutual
      statement_held : (st : State) (t : syntax.Tree) → Held st → On Ends (statement_of lams s st t)
      statement_held st (syntax.node k.CompoundStatement p token kids) h =
          bind Ends Ends (statements_of lams s (inner st) kids) _ (statements_held (inner st) kids h) (λ d i. i)
      statement_held st (syntax.node k.NullStatement p token kids) h = h
      statement_held st (syntax.node k.ExpressionStatement p token (syntax.more e syntax.none)) h = expression_held st e h
      statement_held st (syntax.node k.SimpleDeclaration p token kids) h = declaration_held st (at_of p) kids h
      statement_held st (syntax.node k.IfStatement p token (syntax.more e (syntax.more a syntax.none))) h =
          bind Ends Ends (condition lams s st e) _ (condition_held st e h)
          (λ x i. bind Ends Ends (and_then (statement_of lams s (inner x.state) a) (a_part s a)) _
          (part_held s a (statement_of lams s (inner x.state) a) (statement_held (inner x.state) a i)) (λ y j. j))
      statement_held st (syntax.node k.IfStatement p token (syntax.more e (syntax.more a (syntax.more b syntax.none)))) h =
          bind Ends Ends (condition lams s st e) _ (condition_held st e h)
          (λ x i. bind Ends Ends (and_then (statement_of lams s (inner x.state) a) (a_part s a)) _
          (part_held s a (statement_of lams s (inner x.state) a) (statement_held (inner x.state) a i))
          (λ y j. bind Ends Ends (and_then (statement_of lams s (inner (outer x.state y.state)) b) (a_part s b)) _
          (part_held s b (statement_of lams s (inner (outer x.state y.state)) b) (statement_held (inner (outer x.state y.state)) b j)) (λ z l. l)))
      statement_held st (syntax.node k.WhileStatement p token (syntax.more e (syntax.more a syntax.none))) h =
          bind Ends Ends (condition lams s st e) _ (condition_held st e h)
          (λ x i. bind Ends Ends (and_then (statement_of lams s (in_loop x.state) a) (a_part s a)) _
          (part_held s a (statement_of lams s (in_loop x.state) a) (statement_held (in_loop x.state) a i)) (λ y j. j))
      statement_held st (syntax.node k.DoStatement p token (syntax.more a (syntax.more e syntax.none))) h =
          bind Ends Ends (and_then (statement_of lams s (in_loop st) a) (a_part s a)) _
          (part_held s a (statement_of lams s (in_loop st) a) (statement_held (in_loop st) a h))
          (λ y i. bind Ends Ends (condition lams s (outer st y.state) e) _ (condition_held (outer st y.state) e i) (λ x j. j))
      statement_held st (syntax.node k.ForStatement p token
          (syntax.more i (syntax.more e (syntax.more n (syntax.more (syntax.node k.CompoundStatement r brace kids) syntax.none))))) h =
          bind Ends Ends (for_first lams s (in_loop st) i) _ (first_held (in_loop st) i h)
          (λ f a1. bind Ends Ends (for_test lams s f.state (at_of p) e) _ (test_held f.state (at_of p) e a1)
          (λ x a2. bind Ends Ends (for_step lams s x.state (at_of p) n) _ (step_held x.state (at_of p) n a2)
          (λ z a3. bind Ends Ends (statements_of lams s z.state kids) _ (statements_held z.state kids a3) (λ y a4. a4))))
      statement_held st (syntax.node k.ForStatement p token (syntax.more i (syntax.more e (syntax.more n (syntax.more a syntax.none))))) h =
          bind Ends Ends (for_first lams s (in_loop st) i) _ (first_held (in_loop st) i h)
          (λ f a1. bind Ends Ends (for_test lams s f.state (at_of p) e) _ (test_held f.state (at_of p) e a1)
          (λ x a2. bind Ends Ends (for_step lams s x.state (at_of p) n) _ (step_held x.state (at_of p) n a2)
          (λ z a3. bind Ends Ends (and_then (statement_of lams s z.state a) (a_part s a))
          (λ (y : Done). done (one (block (at_of p) (followed_by f.trees
          (one (statement (forms.Loop true) (at_of p) (three (the_tree (at_of p) x.trees) (the_tree (at_of p) y.trees) (the_tree (at_of p) z.trees)))))))
          (outer st y.state)) (part_held s a (statement_of lams s z.state a) (statement_held z.state a a3)) (λ y a4. a4))))
      statement_held st (syntax.node k.SwitchStatement p token (syntax.more e (syntax.more (syntax.node kind r brace kids) syntax.none))) h =
          bind Switches Ends (switched lams s st e) _ (switched_held st e h)
          (λ v i. bind Ends Ends (statements_of lams s (in_switch v.state v.typ) kids) _ (statements_held (in_switch v.state v.typ) kids i) (λ d j. j))
      statement_held st (syntax.node k.CaseStatement p token (syntax.more e (syntax.more a syntax.none))) h =
          bind Ends Ends (case_label s st (at_of p) e) _ (case_held s st (at_of p) e h)
          (λ x i. bind Ends Ends (statement_of lams s x.state a) _ (statement_held x.state a i) (λ y j. j))
      statement_held st (syntax.node k.DefaultStatement p token (syntax.more a syntax.none)) h =
          bind Ends Ends (default_label st (at_of p)) _ (default_held st (at_of p) h)
          (λ x i. bind Ends Ends (statement_of lams s x.state a) _ (statement_held x.state a i) (λ y j. j))
      statement_held st (syntax.node k.BreakStatement p token kids) h = jump_held st.ctx.breaks forms.Break st (at_of p) h
      statement_held st (syntax.node k.ContinueStatement p token kids) h = jump_held st.ctx.continues forms.Continue st (at_of p) h
      statement_held st (syntax.node k.ReturnStatement p token kids) h = returned_held st (at_of p) kids h
      statement_held st (syntax.node k.TryBlock p token (syntax.more (syntax.node kind r brace kids) hs)) h =
          bind Ends Ends (statements_of lams s (inner st) kids) _ (statements_held (inner st) kids h)
          (λ d i. bind Ends Ends (handlers_of lams s (outer st d.state) hs) _ (handlers_held (outer st d.state) hs i) (λ y j. j))
      statement_held st (syntax.node k.SynchronizedStatement p token (syntax.more (syntax.node kind r brace kids) syntax.none)) h =
          bind Ends Ends (statements_of lams s (in_block st) kids) _ (statements_held (in_block st) kids h) (λ d i. i)
      statement_held st (syntax.node k.AtomicStatement p (Some t) (syntax.more (syntax.node kind r brace kids) syntax.none)) h =
          bind Ends Ends (statements_of lams s (in_block st) kids) _ (statements_held (in_block st) kids h) (λ d i. i)
      statement_held st t h = tt

      pub statements_held : (st : State) (ts : syntax.Trees) → Held st → On Ends (statements_of lams s st ts)
      statements_held st syntax.none h = h
      statements_held st (syntax.more t ts) h = bind Ends Ends (statement_of lams s st t) _ (statement_held st t h)
          (λ x i. bind Ends Ends (statements_of lams s x.state ts) _ (statements_held x.state ts i) (λ y j. j))

      handlers_held : (st : State) (hs : syntax.Trees) → Held st → On Ends (handlers_of lams s st hs)
      handlers_held st syntax.none h = h
      handlers_held st (syntax.more (syntax.node kind p token (syntax.more x (syntax.more (syntax.node b r brace kids) syntax.none))) hs) h =
          skip Ends (in_order (at_of p) x hs) _ (λ y. bind Catches Ends (handler_type s (inner st) (at_of p) x) _
          (handler_held s (inner st) (at_of p) x h) (λ g i. bind Ends Ends (statements_of lams s g.state kids) _ (statements_held g.state kids i)
          (λ d j. bind Ends Ends (handlers_of lams s (outer st d.state) hs) _ (handlers_held (outer st d.state) hs j) (λ z l. l))))
      handlers_held st hs h = tt

  -- Parameters

  one_parameter : (s : List Lexeme) (st : State) (p : Parameter) (o : Option ℕ) → Held st → On Held (parameter_named s st p o)
  one_parameter s st p (Some n) h = skip Held (check p.at Redeclared (is_fresh st.ctx (spelling s n))) _ (λ y. h)
  one_parameter s st p None h = h

  pub parameters_held : (s : List Lexeme) (st : State) (ps : List Parameter) → Held st → On Held (with_parameters s st ps)
  parameters_held s st [] h = h
  parameters_held s st (p ∷ ps) h = skip Held (check p.at Incomplete (is_complete st.ctx (held p.typ))) _
      (λ y. bind Held Held (parameter_named s st p p.name) _ (one_parameter s st p p.name h) (λ x i. parameters_held s x ps i))
