-- Whatever the lambdas in them keep of the functions that are known and of the bodies that are made, statements keep.
use Rattle.std.proofs.Common.{ℕ, Bool, true, false, not, List, [], ◌∷◌, length, Option, Some, None, Result, Ok}
use Rattle.std.specs.Prelude.{if◌then◌else◌, ◌==◌}
use Rattle.std.specs.List.{list_any}
use Rattle.elab_rules.specs.cpp_types.Typ.{Typ, typ, void}
use Rattle.elab_rules.specs.cpp_types.Class.{held}
use Rattle.elab_rules.specs.cpp_types.declared.classes.At.{At}
use Rattle.elab_rules.specs.cpp_lex.Tokens.{Lexeme}
use Rattle.elab_rules.specs.cpp_ast.declared.kinds.NodeKind.TheVariants as k
use Rattle.elab_rules.specs.cpp_ast.Trees as syntax
use Rattle.elab_rules.specs.cpp_tree.declared.kinds.TKind.{TKind}
use Rattle.elab_rules.specs.cpp_tree.declared.kinds.TKind.TheVariants as forms
use Rattle.elab_rules.specs.cpp_tree.declared.faults.ElabFault.{ElabFault}
use Rattle.elab_rules.specs.cpp_tree.declared.faults.IllRule.TheVariants.{Redeclared, BadDeclaration, TypeDiffers, BadInit, NotConstant, Narrowing, BadReturn, BadBreak}
use Rattle.elab_rules.specs.cpp_tree.declared.faults.IllRule.TheVariants.{BadCase, Incomplete}
use Rattle.elab_rules.specs.cpp_tree.Trees.{Tree, none, one, three, typ_in}
use Rattle.elab_rules.specs.cpp_tree.Notation.{plain}
use Rattle.elab_rules.specs.cpp_tree.Typing.{form_in, unqualified, is_class_typ, is_void, kind_in}
use Rattle.elab_rules.specs.elab_ctx.Ctx.{Returns, known, deduced}
use Rattle.elab_rules.specs.elab_ctx.Steps.{and_then, expect, check, at_of, spelling, Made, TypedAll}
use Rattle.elab_rules.specs.Objects.{followed_by}
use Rattle.elab_rules.specs.Constants.{constant}
use Rattle.elab_rules.specs.Casts.{within_exception}
use Rattle.elab_rules.specs.Initialising.{initial, class_from}
use Rattle.elab_rules.specs.Operators.{value, truth, is_complete, within_if_sized}
use Rattle.elab_rules.specs.Sizes.{typ_sized}
use Rattle.elab_rules.specs.Strings.{string_bytes}
use Rattle.elab_rules.specs.Types.{Declared, Parameter, has_auto, is_bounded}
use Rattle.elab_rules.specs.Braces.{item_of, string_object, string_token, is_char_array, syntax_place}
use Rattle.elab_rules.specs.Expressions.{expression_of, operands_of, chosen_operand, type_of_specifiers, declared_by}
use Rattle.elab_rules.specs.Statements
use Rattle.elab_rules.specs.Statements.{State, Done, Full, Lambdas, Deduction, Declaring, Caught, Switched, done, statement, inner, outer, in_loop, in_switch}
use Rattle.elab_rules.specs.Statements.{in_block, with_work, statement_of, statements_of, handlers_of, condition, for_first, for_test, for_step, a_part}
use Rattle.elab_rules.specs.Statements.{the_tree, block}
use Rattle.elab_rules.specs.Functions
use Rattle.elab_rules.specs.Functions.{with_parameters}
use Rattle.elab_places.specs.Round.{Round, round_of}
use Rattle.elab_places.proofs.Steps.{On, bind, skip, either}

module _ (K : Round → Type 0) where
  abbrev Kept : State → Type 0
  Kept st = K (round_of st)

  abbrev pub Ends : Done → Type 0
  Ends d = K (round_of d.state)

  abbrev FullKept : Full → Type 0
  FullKept f = K (round_of f.state)

  abbrev Deduces : Deduction → Type 0
  Deduces x = K (round_of x.done.state)

  abbrev Declares : Declaring → Type 0
  Declares d = K (round_of d.state)

  abbrev Catches : Caught → Type 0
  Catches h = K (round_of h.state)

  abbrev Switches : Switched → Type 0
  Switches v = K (round_of v.state)

  module _ (lams : Lambdas) (keeps : (s : List Lexeme) (st : State) (t : syntax.Tree) → K (round_of st) → On (λ (x : State). K (round_of x)) (lams s st t))
      (s : List Lexeme) where
    pub all_lambdas : (st : State) (es : syntax.Trees) → Kept st → On Kept (Statements.all_lambdas lams s st es)
    all_lambdas st syntax.none h = h
    all_lambdas st (syntax.more e es) h = bind Kept Kept (lams s st e) _ (keeps s st e h) (λ x i. all_lambdas x es i)

    pub full_operand : (st : State) (e : syntax.Tree) → Kept st → On FullKept (Statements.full_operand lams s st e)
    full_operand st e h = bind Kept FullKept (lams s st e) _ (keeps s st e h)
        (λ x i. skip FullKept (and_then (expression_of s x.ctx x.work e) (chosen_operand x.ctx)) _ (λ o. i))

    full_made : (f : Full) (r : Result Made ElabFault) → FullKept f → On Ends (Statements.full_made f r)
    full_made f r h = skip Ends r _ (λ m. h)

    expression_statement : (st : State) (e : syntax.Tree) → Kept st → On Ends (Statements.expression_statement lams s st e)
    expression_statement st e h = bind FullKept Ends (Statements.full_operand lams s st e) _ (full_operand st e h) (λ f i. i)

    test_of : (st : State) (e : syntax.Tree) → Kept st → On Ends (condition lams s st e)
    test_of st e h = bind FullKept Ends (Statements.full_operand lams s st e) _ (full_operand st e h)
        (λ f i. full_made f (and_then (truth f.state.ctx f.state.work f.operand) (λ (t : Tree). Ok (record { tree = t; work = f.state.work }))) i)

    -- Variables

    by_copy : (st v : State) (t : Typ) (at : At) (e : syntax.Tree) → Kept v
        → On Ends (and_then (Statements.full_operand lams s v e)
        (λ (f : Full). Statements.initialised f.state t at (Statements.variable_tree st t at) f
        (Statements.copy_initialised f.state.ctx f.state.work t f.operand)))
    by_copy st v t at e h = bind FullKept Ends (Statements.full_operand lams s v e) _ (full_operand v e h)
        (λ f i. skip Ends (Statements.copy_initialised f.state.ctx f.state.work t f.operand) _ (λ m. i))

    by_expression : (st v : State) (t : Typ) (at : At) (e : syntax.Tree) (b : Bool) (o : Option ℕ) → Kept v
        → On Ends (Statements.by_expression lams s st v t at e b o)
    by_expression st v t at e true (Some n) h = skip Ends (string_object v.ctx t (syntax_place e) (string_bytes (spelling s n))) _ (λ x. h)
    by_expression st v t at e true None h = by_copy st v t at e h
    by_expression st v t at e false o h = by_copy st v t at e h

    with_initialiser : (st v : State) (t : Typ) (at : At) (kids : syntax.Trees) → Kept v → On Ends (Statements.with_initialiser lams s st v t at kids)
    with_initialiser st v t at syntax.none h = skip Ends (Statements.default_object v.ctx t at) _ (λ e. h)
    with_initialiser st v t at (syntax.more (syntax.node k.ParenthesizedInitializer q token es) syntax.none) h =
        bind Kept Ends (Statements.all_lambdas lams s v es) _ (all_lambdas v es h)
        (λ x i. skip Ends (operands_of s x.ctx x.work es) _
        (λ (xs : TypedAll). skip Ends (Statements.directly_initialised x.ctx xs.work t at xs.operands) _ (λ m. i)))
    with_initialiser st v t at (syntax.more (syntax.node k.EqualInitializer q token
        (syntax.more (syntax.node k.BracedInitList r brace items) syntax.none)) syntax.none) h =
        bind Kept Ends (Statements.all_lambdas lams s v items) _ (all_lambdas v items h)
        (λ x i. skip Ends (item_of s x.ctx x.work (Statements.variable_tree st t at) t (syntax.node k.BracedInitList r brace items)) _ (λ m. i))
    with_initialiser st v t at (syntax.more (syntax.node k.EqualInitializer q token (syntax.more e syntax.none)) syntax.none) h =
        by_expression st v t at e (is_char_array t) (string_token e) h
    with_initialiser st v t at kids h = tt

    auto_variable : (st : State) (i : ℕ) (t : Typ) (at : At) (before : Option Typ) (e : syntax.Tree) → Kept st
        → On Deduces (Statements.auto_variable lams s st i t at before e)
    auto_variable st i t at before e h = bind FullKept Deduces (Statements.full_operand lams s st e) _ (full_operand st e h)
        (λ f j. skip Deduces (Statements.deduced_type at t f.operand) _
        (λ (u : Typ). skip Deduces (check at TypeDiffers (Statements.same_deduction before u)) _ (λ y.
        bind Ends Deduces (Statements.auto_initialised f.state t at i (Statements.replaced u t) f.operand
        (Statements.auto_object f.state t at (Statements.replaced u t) f.operand)) _
        (skip Ends (Statements.auto_object f.state t at (Statements.replaced u t) f.operand) _ (λ m. j)) (λ d l. l))))

    plain_variable : (st : State) (name : List ℕ) (t : Typ) (at : At) (init : syntax.Trees) → Kept st
        → On Ends (Statements.plain_variable lams s st name t at init)
    plain_variable st name t at init h = skip Ends (Statements.declarable st.ctx at t) _
        (λ x. skip Ends (check at BadDeclaration (is_bounded t)) _ (λ z. skip Ends (typ_sized st.ctx.classes at t) _
        (λ y. skip Ends (within_if_sized st.ctx at t) _ (λ w. with_initialiser st (Statements.placed_variable st name t) t at init h))))

    variable_by : (st : State) (name : List ℕ) (t : Typ) (at : At) (before : Option Typ) (init : syntax.Trees) (b : Bool) → Kept st
        → On Deduces (Statements.variable_by lams s st name t at before init b)
    variable_by st name t at before init true h = skip Deduces (expect at BadInit (Statements.only_expression init)) _
        (λ e. auto_variable (Statements.declared_variable st name None) (length st.ctx.variables) t at before e h)
    variable_by st name t at before init false h =
        bind Ends Deduces (Statements.plain_variable lams s st name (Statements.bound_by_initialiser s t init) at init) _
        (plain_variable st name (Statements.bound_by_initialiser s t init) at init h) (λ d i. i)

    declarator : (t : Typ) (d : Declaring) (x : syntax.Tree) → Declares d → On Declares (Statements.block_declarator lams s t d x)
    declarator t d (syntax.node k.InitDeclarator q token (syntax.more x init)) h =
        skip Declares (declared_by s d.state.ctx d.state.work (at_of q) t x) _
        (λ (r : Declared). skip Declares (check (at_of q) BadDeclaration (Statements.is_own_name r)) _
        (λ z. bind Deduces Declares (Statements.variable lams s d.state (Statements.name_of s r.name) r.typ (at_of q) d.auto init) _
        (skip Deduces (check (at_of q) Redeclared (Statements.is_fresh d.state.ctx (Statements.name_of s r.name))) _
        (λ y. variable_by d.state (Statements.name_of s r.name) r.typ (at_of q) d.auto init (has_auto r.typ) h)) (λ y i. i)))
    declarator t d x h = tt

    declarators : (t : Typ) (d : Declaring) (xs : syntax.Trees) → Declares d → On Declares (Statements.block_declarators lams s t d xs)
    declarators t d syntax.none h = h
    declarators t d (syntax.more x xs) h = bind Declares Declares (Statements.block_declarator lams s t d x) _ (declarator t d x h)
        (λ y i. declarators t y xs i)

    declaration : (st : State) (at : At) (kids : syntax.Trees) → Kept st → On Ends (Statements.block_declaration lams s st at kids)
    declaration st at (syntax.more (syntax.node k.Attribute q token kids) ts) h = declaration st at ts h
    declaration st at (syntax.more (syntax.node k.TypeSpecifierSeq q token kids) ds) h =
        skip Ends (type_of_specifiers s st.ctx st.work (syntax.node k.TypeSpecifierSeq q token kids)) _ (λ (t : Typ).
        bind Declares Ends (Statements.block_declarators lams s t start ds) _ (declarators t start ds h) (λ d i. i))
      where
        start : Declaring
        start = record { trees = none; state = st; auto = None }
    declaration st at ts h = tt

    -- `return` and labels

    object_returned : (at : At) (t : Typ) (f : Full) → FullKept f
        → On Ends (if is_class_typ t then and_then (class_from f.state.ctx f.state.work t f.operand.at f.operand)
        (λ (m : Made). done (one (Statements.class_returned at t f m)) (with_work f.state m.work))
        else and_then (initial f.state.ctx f.state.work t f.operand)
        (λ (m : Made). done (one (Statements.return_node at (one (Statements.full f.operand.at (Statements.result_of t f.operand.at m.tree)))))
        (with_work f.state m.work)))
    object_returned at t f h = either Ends (is_class_typ t) _ _ (skip Ends (class_from f.state.ctx f.state.work t f.operand.at f.operand) _ (λ m. h))
        (skip Ends (initial f.state.ctx f.state.work t f.operand) _ (λ m. h))

    return_value : (at : At) (t : Typ) (f : Full) → FullKept f → On Ends (Statements.return_value at t f)
    return_value at (typ void d v) f h = skip Ends (check at BadReturn (is_void (typ_in f.operand.tree))) _ (λ y. h)
    return_value at t f h = object_returned at t f h

    return_by : (at : At) (r : Returns) (f : Full) → FullKept f → On Ends (Statements.return_by at r f)
    return_by at (known t) f h = return_value at t f h
    return_by at (deduced t) f h = skip Ends (check at BadReturn (Statements.same_deduction t (unqualified (typ_in (value f.operand))))) _ (λ y. h)

    return_nothing : (st : State) (at : At) (r : Returns) → Kept st → On Ends (Statements.return_nothing st at r)
    return_nothing st at (known t) h = skip Ends (check at BadReturn (is_void t)) _ (λ y. h)
    return_nothing st at (deduced t) h = skip Ends (check at BadReturn (Statements.same_deduction t (plain void))) _ (λ y. h)

    returned : (st : State) (at : At) (ts : syntax.Trees) → Kept st → On Ends (Statements.returned lams s st at ts)
    returned st at syntax.none h = return_nothing st at st.ctx.returns h
    returned st at (syntax.more e ts) h = bind FullKept Ends (Statements.full_operand lams s st e) _ (full_operand st e h)
        (λ f i. return_by at f.state.ctx.returns f i)

    case_label : (st : State) (at : At) (e : syntax.Tree) → Kept st → On Ends (Statements.case_label s st at e)
    case_label st at e h = skip Ends (Statements.label_here st at) _
        (λ y. skip Ends (and_then (expression_of s st.ctx st.work e) (chosen_operand st.ctx)) _
        (λ o. skip Ends (initial st.ctx st.work st.ctx.labels.typ o.operand) _
        (λ m. skip Ends (expect o.operand.at NotConstant (constant st.work.globals (value o.operand))) _
        (λ w. skip Ends (expect o.operand.at NotConstant (constant st.work.globals m.tree)) _
        (λ word. skip Ends (check o.operand.at Narrowing
        (Statements.case_fits (kind_in (form_in (typ_in (value o.operand)))) (kind_in (form_in st.ctx.labels.typ)) w)) _
        (λ x. skip Ends (check at BadCase (not (list_any (λ (n : ℕ). n == word) st.ctx.labels.words))) _ (λ z. h)))))))

    default_label : (st : State) (at : At) → Kept st → On Ends (Statements.default_label st at)
    default_label st at h = skip Ends (Statements.label_here st at) _ (λ y. skip Ends (check at BadCase (not st.ctx.labels.has_default)) _ (λ z. h))

    -- Handlers and parts of statements

    named_handler : (st : State) (at q : At) (t u : Typ) (o : Option ℕ) → Kept st → On Catches (Statements.named_handler s st at q t u o)
    named_handler st at q t u (Some n) h = skip Catches (within_exception st.ctx q u) _ (λ y. h)
    named_handler st at q t u None h = h

    handler_type : (st : State) (at : At) (t : syntax.Tree) → Kept st → On Catches (Statements.handler_type s st at t)
    handler_type st at (syntax.node k.ParameterDeclaration q token (syntax.more base (syntax.more d syntax.none))) h =
        skip Catches (type_of_specifiers s st.ctx st.work base) _
        (λ (t : Typ). skip Catches (declared_by s st.ctx st.work (at_of q) t d) _
        (λ r. skip Catches (Statements.caught_type st.ctx (at_of q) r.typ) _ (λ (u : Typ). named_handler st at (at_of q) r.typ u r.name h)))
    handler_type st at t h = h

    switched : (st : State) (e : syntax.Tree) → Kept st → On Switches (Statements.switched lams s st e)
    switched st e h = bind FullKept Switches (Statements.full_operand lams s st e) _ (full_operand st e h)
        (λ f i. skip Switches (Statements.switched_type f.operand.at (form_in (typ_in (value f.operand)))) _ (λ t. i))

    jump : (allowed : Bool) (kind : TKind) (st : State) (at : At) → Kept st → On Ends (Statements.jump allowed kind st at)
    jump allowed kind st at h = skip Ends (check at BadBreak allowed) _ (λ y. h)

    part : (t : syntax.Tree) (r : Result Done ElabFault) → On Ends r → On Ends (and_then r (a_part s t))
    part t r h = bind Ends Ends r (a_part s t) h (λ d i. i)

    first : (st : State) (t : syntax.Tree) → Kept st → On Ends (for_first lams s st t)
    first st (syntax.node k.Absent q token kids) h = h
    first st (syntax.node k.SimpleDeclaration q token kids) h = declaration st (at_of q) kids h
    first st t h = expression_statement st t h

    test : (st : State) (at : At) (t : syntax.Tree) → Kept st → On Ends (for_test lams s st at t)
    test st at (syntax.node k.Absent q token kids) h = h
    test st at t h = test_of st t h

    step : (st : State) (at : At) (t : syntax.Tree) → Kept st → On Ends (for_step lams s st at t)
    step st at (syntax.node k.Absent q token kids) h = h
    step st at t h = expression_statement st t h

    mutual
      pub one_statement : (st : State) (t : syntax.Tree) → Kept st → On Ends (statement_of lams s st t)
      one_statement st (syntax.node k.CompoundStatement q token kids) h =
          bind Ends Ends (statements_of lams s (inner st) kids) _ (statements (inner st) kids h) (λ d i. i)
      one_statement st (syntax.node k.NullStatement q token kids) h = h
      one_statement st (syntax.node k.ExpressionStatement q token (syntax.more e syntax.none)) h = expression_statement st e h
      one_statement st (syntax.node k.SimpleDeclaration q token kids) h = declaration st (at_of q) kids h
      one_statement st (syntax.node k.IfStatement q token (syntax.more e (syntax.more a syntax.none))) h =
          bind Ends Ends (condition lams s st e) _ (test_of st e h)
          (λ x i. bind Ends Ends (and_then (statement_of lams s (inner x.state) a) (a_part s a)) _
          (part a (statement_of lams s (inner x.state) a) (one_statement (inner x.state) a i)) (λ y j. j))
      one_statement st (syntax.node k.IfStatement q token (syntax.more e (syntax.more a (syntax.more b syntax.none)))) h =
          bind Ends Ends (condition lams s st e) _ (test_of st e h)
          (λ x i. bind Ends Ends (and_then (statement_of lams s (inner x.state) a) (a_part s a)) _
          (part a (statement_of lams s (inner x.state) a) (one_statement (inner x.state) a i))
          (λ y j. bind Ends Ends (and_then (statement_of lams s (inner (outer x.state y.state)) b) (a_part s b)) _
          (part b (statement_of lams s (inner (outer x.state y.state)) b) (one_statement (inner (outer x.state y.state)) b j)) (λ z l. l)))
      one_statement st (syntax.node k.WhileStatement q token (syntax.more e (syntax.more a syntax.none))) h =
          bind Ends Ends (condition lams s st e) _ (test_of st e h)
          (λ x i. bind Ends Ends (and_then (statement_of lams s (in_loop x.state) a) (a_part s a)) _
          (part a (statement_of lams s (in_loop x.state) a) (one_statement (in_loop x.state) a i)) (λ y j. j))
      one_statement st (syntax.node k.DoStatement q token (syntax.more a (syntax.more e syntax.none))) h =
          bind Ends Ends (and_then (statement_of lams s (in_loop st) a) (a_part s a)) _
          (part a (statement_of lams s (in_loop st) a) (one_statement (in_loop st) a h))
          (λ y i. bind Ends Ends (condition lams s (outer st y.state) e) _ (test_of (outer st y.state) e i) (λ x j. j))
      one_statement st (syntax.node k.ForStatement q token
          (syntax.more i (syntax.more e (syntax.more n (syntax.more (syntax.node k.CompoundStatement r brace kids) syntax.none))))) h =
          bind Ends Ends (for_first lams s (in_loop st) i) _ (first (in_loop st) i h)
          (λ f a1. bind Ends Ends (for_test lams s f.state (at_of q) e) _ (test f.state (at_of q) e a1)
          (λ x a2. bind Ends Ends (for_step lams s x.state (at_of q) n) _ (step x.state (at_of q) n a2)
          (λ z a3. bind Ends Ends (statements_of lams s z.state kids) _ (statements z.state kids a3) (λ y a4. a4))))
      one_statement st (syntax.node k.ForStatement q token (syntax.more i (syntax.more e (syntax.more n (syntax.more a syntax.none))))) h =
          bind Ends Ends (for_first lams s (in_loop st) i) _ (first (in_loop st) i h)
          (λ f a1. bind Ends Ends (for_test lams s f.state (at_of q) e) _ (test f.state (at_of q) e a1)
          (λ x a2. bind Ends Ends (for_step lams s x.state (at_of q) n) _ (step x.state (at_of q) n a2)
          (λ z a3. bind Ends Ends (and_then (statement_of lams s z.state a) (a_part s a))
          (λ (y : Done). done (one (block (at_of q) (followed_by f.trees
          (one (statement (forms.Loop true) (at_of q) (three (the_tree (at_of q) x.trees) (the_tree (at_of q) y.trees) (the_tree (at_of q) z.trees)))))))
          (outer st y.state)) (part a (statement_of lams s z.state a) (one_statement z.state a a3)) (λ y a4. a4))))
      one_statement st (syntax.node k.SwitchStatement q token (syntax.more e (syntax.more (syntax.node kind r brace kids) syntax.none))) h =
          bind Switches Ends (Statements.switched lams s st e) _ (switched st e h)
          (λ v i. bind Ends Ends (statements_of lams s (in_switch v.state v.typ) kids) _ (statements (in_switch v.state v.typ) kids i) (λ d j. j))
      one_statement st (syntax.node k.CaseStatement q token (syntax.more e (syntax.more a syntax.none))) h =
          bind Ends Ends (Statements.case_label s st (at_of q) e) _ (case_label st (at_of q) e h)
          (λ x i. bind Ends Ends (statement_of lams s x.state a) _ (one_statement x.state a i) (λ y j. j))
      one_statement st (syntax.node k.DefaultStatement q token (syntax.more a syntax.none)) h =
          bind Ends Ends (Statements.default_label st (at_of q)) _ (default_label st (at_of q) h)
          (λ x i. bind Ends Ends (statement_of lams s x.state a) _ (one_statement x.state a i) (λ y j. j))
      one_statement st (syntax.node k.BreakStatement q token kids) h = jump st.ctx.breaks forms.Break st (at_of q) h
      one_statement st (syntax.node k.ContinueStatement q token kids) h = jump st.ctx.continues forms.Continue st (at_of q) h
      one_statement st (syntax.node k.ReturnStatement q token kids) h = returned st (at_of q) kids h
      one_statement st (syntax.node k.TryBlock q token (syntax.more (syntax.node kind r brace kids) hs)) h =
          bind Ends Ends (statements_of lams s (inner st) kids) _ (statements (inner st) kids h)
          (λ d i. bind Ends Ends (handlers_of lams s (outer st d.state) hs) _ (handlers (outer st d.state) hs i) (λ y j. j))
      one_statement st (syntax.node k.SynchronizedStatement q token (syntax.more (syntax.node kind r brace kids) syntax.none)) h =
          bind Ends Ends (statements_of lams s (in_block st) kids) _ (statements (in_block st) kids h) (λ d i. i)
      one_statement st (syntax.node k.AtomicStatement q (Some t) (syntax.more (syntax.node kind r brace kids) syntax.none)) h =
          bind Ends Ends (statements_of lams s (in_block st) kids) _ (statements (in_block st) kids h) (λ d i. i)
      one_statement st t h = tt

      pub statements : (st : State) (ts : syntax.Trees) → Kept st → On Ends (statements_of lams s st ts)
      statements st syntax.none h = h
      statements st (syntax.more t ts) h = bind Ends Ends (statement_of lams s st t) _ (one_statement st t h)
          (λ x i. bind Ends Ends (statements_of lams s x.state ts) _ (statements x.state ts i) (λ y j. j))

      handlers : (st : State) (hs : syntax.Trees) → Kept st → On Ends (handlers_of lams s st hs)
      handlers st syntax.none h = h
      handlers st (syntax.more (syntax.node kind q token (syntax.more x (syntax.more (syntax.node b r brace kids) syntax.none))) hs) h =
          skip Ends (Statements.in_order (at_of q) x hs) _
          (λ y. bind Catches Ends (Statements.handler_type s (inner st) (at_of q) x) _ (handler_type (inner st) (at_of q) x h)
          (λ c i. bind Ends Ends (statements_of lams s c.state kids) _ (statements c.state kids i)
          (λ d j. bind Ends Ends (handlers_of lams s (outer st d.state) hs) _ (handlers (outer st d.state) hs j) (λ z l. l))))
      handlers st hs h = tt

  -- Parameters

  one_parameter : (s : List Lexeme) (st : State) (q : Parameter) (o : Option ℕ) → Kept st → On Kept (Functions.parameter_named s st q o)
  one_parameter s st q (Some n) h = skip Kept (check q.at Redeclared (Statements.is_fresh st.ctx (spelling s n))) _ (λ y. h)
  one_parameter s st q None h = h

  pub parameters : (s : List Lexeme) (st : State) (ps : List Parameter) → Kept st → On Kept (with_parameters s st ps)
  parameters s st [] h = h
  parameters s st (q ∷ ps) h = skip Kept (check q.at Incomplete (is_complete st.ctx (held q.typ))) _
      (λ y. bind Kept Kept (Functions.parameter_named s st q q.name) _ (one_parameter s st q q.name h) (λ x i. parameters s x ps i))
