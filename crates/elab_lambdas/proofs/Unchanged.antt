-- Statements in which no lambda stands leave the classes that are known as they are.
use Rattle.std.proofs.Common.{◌≡◌, ℕ, Bool, true, false, List, [], ◌∷◌, Option, Some, None, Result, Ok, Err, if◌then◌else◌}
use Rattle.elab_entry.specs.cpp_types.Typ.{Typ, typ, void}
use Rattle.elab_entry.specs.cpp_types.Class.{Class, held}
use Rattle.elab_entry.specs.cpp_tree.declared.faults.IllRule.TheVariants.{Incomplete}
use Rattle.elab_entry.specs.elab_rules.Operators.{is_complete}
use Rattle.elab_entry.specs.cpp_types.declared.classes.At.{At}
use Rattle.elab_entry.specs.cpp_lex.Tokens.{Lexeme}
use Rattle.elab_entry.specs.cpp_ast.declared.kinds.NodeKind.TheVariants as k
use Rattle.elab_entry.specs.cpp_ast.Trees as syntax
use Rattle.elab_entry.specs.cpp_tree.declared.faults.ElabFault.{ElabFault}
use Rattle.elab_entry.specs.cpp_tree.declared.kinds.TKind.{TKind}
use Rattle.elab_entry.specs.cpp_tree.declared.kinds.TKind.TheVariants as forms
use Rattle.elab_entry.specs.cpp_tree.Trees.{Tree, one, three}
use Rattle.elab_entry.specs.cpp_tree.Typing.{is_class_typ}
use Rattle.elab_entry.specs.elab_rules.Initialising.{initial, class_from}
use Rattle.elab_entry.specs.elab_ctx.Ctx.{Returns, known, deduced}
use Rattle.elab_entry.specs.elab_ctx.Steps.{and_then, check, at_of, Operand, Made, TypedAll}
use Rattle.elab_entry.specs.elab_rules.Types.{has_auto}
use Rattle.elab_entry.specs.elab_rules.Statements
use Rattle.elab_entry.specs.elab_rules.Statements.{State, Done, Full, Deduction, Declaring, Caught, Switched, Lambdas}
use Rattle.elab_entry.specs.elab_rules.Objects.{followed_by}
use Rattle.elab_entry.specs.elab_rules.Types.{Parameter}
use Rattle.elab_entry.specs.elab_rules.Functions.{parameter_named, with_parameters}
use Rattle.elab_entry.specs.elab_rules.Lambdas.{no_lambda, refused_at, first_lambda, Written, body_statements}

-- what is answered, if it is no fault, passes
abbrev pub Holds : {A : Type 0} → (A → Type 0) → Result A ElabFault → Type 0
Holds P (Ok a) = P a
Holds P (Err e) = Unit {0}

abbrev pub done_of : List Class → Done → Type 0
done_of cs d = d.state.ctx.classes ≡ cs

abbrev state_of : List Class → State → Type 0
state_of cs x = x.ctx.classes ≡ cs

abbrev full_of : List Class → Full → Type 0
full_of cs f = f.state.ctx.classes ≡ cs

abbrev deduction_of : List Class → Deduction → Type 0
deduction_of cs d = d.done.state.ctx.classes ≡ cs

abbrev declaring_of : List Class → Declaring → Type 0
declaring_of cs d = d.state.ctx.classes ≡ cs

abbrev caught_of : List Class → Caught → Type 0
caught_of cs d = d.state.ctx.classes ≡ cs

abbrev switched_of : List Class → Switched → Type 0
switched_of cs d = d.state.ctx.classes ≡ cs

pub passes : {A B : Type 0} (P : A → Type 0) (Q : B → Type 0) (r : Result A ElabFault) (f : A → Result B ElabFault) → Holds P r
    → ((a : A) → P a → Holds Q (f a)) → Holds Q (and_then r f)
passes P Q (Ok a) f h g = g a h
passes P Q (Err e) f h g = tt

-- of the first step nothing is asked
behind : {A B : Type 0} (Q : B → Type 0) (r : Result A ElabFault) (f : A → Result B ElabFault) → ((a : A) → Holds Q (f a)) → Holds Q (and_then r f)
behind Q (Ok a) f g = g a
behind Q (Err e) f g = tt

either : {B : Type 0} (Q : B → Type 0) (b : Bool) (x y : Result B ElabFault) → Holds Q x → Holds Q y → Holds Q (if b then x else y)
either Q true x y h g = h
either Q false x y h g = g

refused : (cs : List Class) (st : State) (o : Option At) → st.ctx.classes ≡ cs → Holds (state_of cs) (refused_at st o)
refused cs st (Some at) h = tt
refused cs st None h = h

module _ (cs : List Class) (s : List Lexeme) where
  no_more : (st : State) (t : syntax.Tree) → st.ctx.classes ≡ cs → Holds (state_of cs) (no_lambda s st t)
  no_more st t h = refused cs st (first_lambda t) h

  operand : (st : State) (e : syntax.Tree) → st.ctx.classes ≡ cs → Holds (full_of cs) (Statements.full_operand no_lambda s st e)
  operand st e h = passes (state_of cs) (full_of cs) (no_lambda s st e) _ (no_more st e h) (λ x g. search (behind, g))

  made : (f : Full) (r : Result Made ElabFault) → f.state.ctx.classes ≡ cs → Holds (done_of cs) (Statements.full_made f r)
  made f r h = behind (done_of cs) r _ (λ m. h)

  expression : (st : State) (e : syntax.Tree) → st.ctx.classes ≡ cs → Holds (done_of cs) (Statements.expression_statement no_lambda s st e)
  expression st e h = passes (full_of cs) (done_of cs) (Statements.full_operand no_lambda s st e) _ (operand st e h) (λ f g. search (behind, g))

  condition : (st : State) (e : syntax.Tree) → st.ctx.classes ≡ cs → Holds (done_of cs) (Statements.condition no_lambda s st e)
  condition st e h = passes (full_of cs) (done_of cs) (Statements.full_operand no_lambda s st e) _ (operand st e h) (λ f g. search (behind, g))

  initialised : (st : State) (t : Typ) (at : At) (variable : Tree) (f : Full) (r : Result Made ElabFault) → f.state.ctx.classes ≡ cs
      → Holds (done_of cs) (Statements.initialised st t at variable f r)
  initialised st t at variable f r h = behind (done_of cs) r _ (λ m. h)

  string : (st : State) (t : Typ) (at : At) (variable : Tree) (p : At) (n : ℕ) → st.ctx.classes ≡ cs
      → Holds (done_of cs) (Statements.string_initialised st s t at variable p n)
  string st t at variable p n h = search (behind, h)

  values : (st : State) (t : Typ) (at : At) (variable : Tree) (p : At) (r : Result TypedAll ElabFault) → st.ctx.classes ≡ cs
      → Holds (done_of cs) (Statements.values_initialised no_lambda s st t at variable p r)
  values st t at variable p r h = search (behind, h)

  all_lambdas : (st : State) (es : syntax.Trees) → st.ctx.classes ≡ cs → Holds (state_of cs) (Statements.all_lambdas no_lambda s st es)
  all_lambdas st syntax.none h = h
  all_lambdas st (syntax.more e es) h = passes (state_of cs) (state_of cs) (no_lambda s st e) _ (no_more st e h) (λ x g. all_lambdas x es g)

  by_operand : (st v : State) (t : Typ) (at : At) (e : syntax.Tree) → v.ctx.classes ≡ cs
      → Holds (done_of cs) (and_then (Statements.full_operand no_lambda s v e)
      (λ (f : Full). Statements.initialised f.state t at (Statements.variable_tree st t at) f
      (Statements.copy_initialised f.state.ctx f.state.work t f.operand)))
  by_operand st v t at e h = passes (full_of cs) (done_of cs) (Statements.full_operand no_lambda s v e) _ (operand v e h)
      (λ f g. initialised f.state t at _ f _ g)

  by_expression : (st v : State) (t : Typ) (at : At) (e : syntax.Tree) (b : Bool) (o : Option ℕ) → v.ctx.classes ≡ cs
      → Holds (done_of cs) (Statements.by_expression no_lambda s st v t at e b o)
  by_expression st v t at e true (Some n) h = string v t at _ _ n h
  by_expression st v t at e true None h = by_operand st v t at e h
  by_expression st v t at e false o h = by_operand st v t at e h

  initialiser : (st v : State) (t : Typ) (at : At) (init : syntax.Trees) → v.ctx.classes ≡ cs
      → Holds (done_of cs) (Statements.with_initialiser no_lambda s st v t at init)
  initialiser st v t at syntax.none h = search (behind, h)
  initialiser st v t at (syntax.more (syntax.node k.ParenthesizedInitializer p token es) syntax.none) h =
      passes (state_of cs) (done_of cs) (Statements.all_lambdas no_lambda s v es) _ (all_lambdas v es h) (λ x g. search (behind, g))
  initialiser st v t at (syntax.more (syntax.node k.EqualInitializer p token
      (syntax.more (syntax.node k.BracedInitList q brace items) syntax.none)) syntax.none) h =
      passes (state_of cs) (done_of cs) (Statements.all_lambdas no_lambda s v items) _ (all_lambdas v items h) (λ x g. search (behind, g))
  initialiser st v t at (syntax.more (syntax.node k.EqualInitializer p token (syntax.more e syntax.none)) syntax.none) h = by_expression st v t at e _ _ h
  initialiser st v t at kids h = tt

  auto_initialised : (st : State) (t : Typ) (at : At) (i : ℕ) (u : Typ) (o : Operand) (r : Result Made ElabFault) → st.ctx.classes ≡ cs
      → Holds (done_of cs) (Statements.auto_initialised st t at i u o r)
  auto_initialised st t at i u o r h = behind (done_of cs) r _ (λ m. h)

  with_auto : (u : Typ) (r : Result Done ElabFault) → Holds (done_of cs) r → Holds (deduction_of cs) (Statements.with_auto u r)
  with_auto u (Ok d) h = h
  with_auto u (Err e) h = tt

  without_auto : (before : Option Typ) (r : Result Done ElabFault) → Holds (done_of cs) r → Holds (deduction_of cs) (Statements.without_auto before r)
  without_auto before (Ok d) h = h
  without_auto before (Err e) h = tt

  auto_variable : (st : State) (i : ℕ) (t : Typ) (at : At) (before : Option Typ) (e : syntax.Tree) → st.ctx.classes ≡ cs
      → Holds (deduction_of cs) (Statements.auto_variable no_lambda s st i t at before e)
  auto_variable st i t at before e h =
      passes (full_of cs) (deduction_of cs) (Statements.full_operand no_lambda s st e) _ (operand st e h) (λ f g.
      behind (deduction_of cs) (Statements.deduced_type at t f.operand) _ (λ u. search (behind, with_auto, auto_initialised, g)))

  plain_variable : (st : State) (name : List ℕ) (t : Typ) (at : At) (init : syntax.Trees) → st.ctx.classes ≡ cs
      → Holds (done_of cs) (Statements.plain_variable no_lambda s st name t at init)
  plain_variable st name t at init h = search (behind, initialiser st (Statements.placed_variable st name t) t at init h)

  variable_by : (st : State) (name : List ℕ) (t : Typ) (at : At) (before : Option Typ) (init : syntax.Trees) (b : Bool) → st.ctx.classes ≡ cs
      → Holds (deduction_of cs) (Statements.variable_by no_lambda s st name t at before init b)
  variable_by st name t at before init true h = search (behind, auto_variable, h)
  variable_by st name t at before init false h = without_auto before
      (Statements.plain_variable no_lambda s st name (Statements.bound_by_initialiser s t init) at init)
      (plain_variable st name (Statements.bound_by_initialiser s t init) at init h)

  variable : (st : State) (name : List ℕ) (t : Typ) (at : At) (before : Option Typ) (init : syntax.Trees) → st.ctx.classes ≡ cs
      → Holds (deduction_of cs) (Statements.variable no_lambda s st name t at before init)
  variable st name t at before init h = search (behind, variable_by st name t at before init (has_auto t) h)

  more_declared : (d : Declaring) (t : Typ) (init : syntax.Trees) (r : Result Deduction ElabFault) → Holds (deduction_of cs) r
      → Holds (declaring_of cs) (and_then r (λ (y : Deduction). Ok (Statements.declared_more d t init y)))
  more_declared d t init (Ok y) h = h
  more_declared d t init (Err e) h = tt

  declarator : (t : Typ) (d : Declaring) (x : syntax.Tree) → d.state.ctx.classes ≡ cs → Holds (declaring_of cs) (Statements.block_declarator no_lambda s t d x)
  declarator t d (syntax.node k.InitDeclarator p token (syntax.more x init)) h = search (behind, more_declared, variable, h)
  declarator t d (syntax.node kind p token kids) h = tt

  declarators : (t : Typ) (d : Declaring) (xs : syntax.Trees) → d.state.ctx.classes ≡ cs
      → Holds (declaring_of cs) (Statements.block_declarators no_lambda s t d xs)
  declarators t d syntax.none h = h
  declarators t d (syntax.more x xs) h =
      passes (declaring_of cs) (declaring_of cs) (Statements.block_declarator no_lambda s t d x) _ (declarator t d x h) (λ y g. declarators t y xs g)

  all_declared : (r : Result Declaring ElabFault) → Holds (declaring_of cs) r
      → Holds (done_of cs) (and_then r (λ (d : Declaring). Statements.done d.trees d.state))
  all_declared (Ok d) h = h
  all_declared (Err e) h = tt

  declaration : (st : State) (at : At) (ts : syntax.Trees) → st.ctx.classes ≡ cs → Holds (done_of cs) (Statements.block_declaration no_lambda s st at ts)
  declaration st at (syntax.more (syntax.node k.Attribute p token kids) ts) h = declaration st at ts h
  declaration st at (syntax.more (syntax.node k.TypeSpecifierSeq p token kids) ds) h = search (behind, all_declared, declarators, h)
  declaration st at ts h = tt

  value : (at : At) (t : Typ) (f : Full) → f.state.ctx.classes ≡ cs
      → Holds (done_of cs) (if is_class_typ t then and_then (class_from f.state.ctx f.state.work t f.operand.at f.operand)
      (λ (m : Made). Statements.done (one (Statements.class_returned at t f m)) (Statements.with_work f.state m.work))
      else and_then (initial f.state.ctx f.state.work t f.operand)
      (λ (m : Made). Statements.done (one (Statements.return_node at (one (Statements.full f.operand.at
      (Statements.result_of t f.operand.at m.tree))))) (Statements.with_work f.state m.work)))
  value at t f h = either (done_of cs) (is_class_typ t) _ _ (search (behind, h)) (search (behind, h))

  returned_value : (at : At) (t : Typ) (f : Full) → f.state.ctx.classes ≡ cs → Holds (done_of cs) (Statements.return_value at t f)
  returned_value at (typ void d v) f h = search (behind, h)
  returned_value at t f h = value at t f h

  return_by : (at : At) (r : Returns) (f : Full) → f.state.ctx.classes ≡ cs → Holds (done_of cs) (Statements.return_by at r f)
  return_by at (known t) f h = returned_value at t f h
  return_by at (deduced t) f h = search (behind, h)

  return_nothing : (st : State) (at : At) (r : Returns) → st.ctx.classes ≡ cs → Holds (done_of cs) (Statements.return_nothing st at r)
  return_nothing st at (known t) h = search (behind, h)
  return_nothing st at (deduced t) h = search (behind, h)

  returned : (st : State) (at : At) (ts : syntax.Trees) → st.ctx.classes ≡ cs → Holds (done_of cs) (Statements.returned no_lambda s st at ts)
  returned st at syntax.none h = return_nothing st at st.ctx.returns h
  returned st at (syntax.more e ts) h = passes (full_of cs) (done_of cs) (Statements.full_operand no_lambda s st e) _ (operand st e h)
      (λ f g. return_by at f.state.ctx.returns f g)

  case_checked : (st : State) (at : At) (o : Operand) (v : Tree) (w word : ℕ) → st.ctx.classes ≡ cs
      → Holds (done_of cs) (Statements.case_checked st at o v w word)
  case_checked st at o v w word h = search (behind, h)

  case_label : (st : State) (at : At) (e : syntax.Tree) → st.ctx.classes ≡ cs → Holds (done_of cs) (Statements.case_label s st at e)
  case_label st at e h = search (behind, case_checked, h) depth 12

  default_label : (st : State) (at : At) → st.ctx.classes ≡ cs → Holds (done_of cs) (Statements.default_label st at)
  default_label st at h = search (behind, h)

  named : (st : State) (at p : At) (t u : Typ) (o : Option ℕ) → st.ctx.classes ≡ cs → Holds (caught_of cs) (Statements.named_handler s st at p t u o)
  named st at p t u (Some n) h = search (behind, h)
  named st at p t u None h = h

  handler : (st : State) (at : At) (x : syntax.Tree) → st.ctx.classes ≡ cs → Holds (caught_of cs) (Statements.handler_type s st at x)
  handler st at (syntax.node k.ParameterDeclaration p token (syntax.more base (syntax.more d syntax.none))) h = search (behind, named, h)
  handler st at t h = h

  switched : (st : State) (e : syntax.Tree) → st.ctx.classes ≡ cs → Holds (switched_of cs) (Statements.switched no_lambda s st e)
  switched st e h = passes (full_of cs) (switched_of cs) (Statements.full_operand no_lambda s st e) _ (operand st e h) (λ f g. search (behind, g))

  jump : (allowed : Bool) (kind : TKind) (st : State) (at : At) → st.ctx.classes ≡ cs → Holds (done_of cs) (Statements.jump allowed kind st at)
  jump allowed kind st at h = search (behind, h)

  for_first : (st : State) (t : syntax.Tree) → st.ctx.classes ≡ cs → Holds (done_of cs) (Statements.for_first no_lambda s st t)
  for_first st (syntax.node k.Absent p token kids) h = h
  for_first st (syntax.node k.SimpleDeclaration p token kids) h = declaration st _ kids h
  for_first st e h = expression st e h

  for_test : (st : State) (at : At) (t : syntax.Tree) → st.ctx.classes ≡ cs → Holds (done_of cs) (Statements.for_test no_lambda s st at t)
  for_test st at (syntax.node k.Absent p token kids) h = h
  for_test st at e h = condition st e h

  for_step : (st : State) (at : At) (t : syntax.Tree) → st.ctx.classes ≡ cs → Holds (done_of cs) (Statements.for_step no_lambda s st at t)
  for_step st at (syntax.node k.Absent p token kids) h = h
  for_step st at e h = expression st e h

  a_part : (st : State) (a : syntax.Tree) → Holds (done_of cs) (Statements.statement_of no_lambda s st a)
      → Holds (done_of cs) (and_then (Statements.statement_of no_lambda s st a) (Statements.a_part s a))
  a_part st a h = passes (done_of cs) (done_of cs) (Statements.statement_of no_lambda s st a) _ h (λ d g. g)

  -- one step behind another
  next : (r : Result Done ElabFault) (f : Done → Result Done ElabFault) → Holds (done_of cs) r → ((d : Done) → done_of cs d → Holds (done_of cs) (f d))
      → Holds (done_of cs) (and_then r f)
  next r f h g = passes (done_of cs) (done_of cs) r f h g

  mutual
    statement : (st : State) (t : syntax.Tree) → st.ctx.classes ≡ cs → Holds (done_of cs) (Statements.statement_of no_lambda s st t)
    statement st (syntax.node k.CompoundStatement p token kids) h =
        next (Statements.statements_of no_lambda s (Statements.inner st) kids) _ (statements (Statements.inner st) kids h) (λ d g. g)
    statement st (syntax.node k.NullStatement p token kids) h = h
    statement st (syntax.node k.ExpressionStatement p token (syntax.more e syntax.none)) h = expression st e h
    statement st (syntax.node k.SimpleDeclaration p token kids) h = declaration st _ kids h
    statement st (syntax.node k.IfStatement p token (syntax.more e (syntax.more a syntax.none))) h =
        next (Statements.condition no_lambda s st e) _ (condition st e h) (λ x g.
        next (and_then (Statements.statement_of no_lambda s (Statements.inner x.state) a) (Statements.a_part s a)) _
        (a_part (Statements.inner x.state) a (statement (Statements.inner x.state) a g)) (λ y f. f))
    statement st (syntax.node k.IfStatement p token (syntax.more e (syntax.more a (syntax.more b syntax.none)))) h =
        next (Statements.condition no_lambda s st e) _ (condition st e h) (λ x g.
        next (and_then (Statements.statement_of no_lambda s (Statements.inner x.state) a) (Statements.a_part s a)) _
        (a_part (Statements.inner x.state) a (statement (Statements.inner x.state) a g)) (λ y f.
        next (and_then (Statements.statement_of no_lambda s (Statements.inner (Statements.outer x.state y.state)) b) (Statements.a_part s b)) _
        (a_part (Statements.inner (Statements.outer x.state y.state)) b (statement (Statements.inner (Statements.outer x.state y.state)) b f)) (λ z i. i)))
    statement st (syntax.node k.WhileStatement p token (syntax.more e (syntax.more a syntax.none))) h =
        next (Statements.condition no_lambda s st e) _ (condition st e h) (λ x g.
        next (and_then (Statements.statement_of no_lambda s (Statements.in_loop x.state) a) (Statements.a_part s a)) _
        (a_part (Statements.in_loop x.state) a (statement (Statements.in_loop x.state) a g)) (λ y f. f))
    statement st (syntax.node k.DoStatement p token (syntax.more a (syntax.more e syntax.none))) h =
        next (and_then (Statements.statement_of no_lambda s (Statements.in_loop st) a) (Statements.a_part s a)) _
        (a_part (Statements.in_loop st) a (statement (Statements.in_loop st) a h)) (λ y f.
        next (Statements.condition no_lambda s (Statements.outer st y.state) e) _ (condition (Statements.outer st y.state) e f) (λ x g. g))
    statement st (syntax.node k.ForStatement p token (syntax.more i
        (syntax.more e (syntax.more n (syntax.more (syntax.node k.CompoundStatement q brace kids) syntax.none))))) h =
        next (Statements.for_first no_lambda s (Statements.in_loop st) i) _ (for_first (Statements.in_loop st) i h) (λ f g.
        next (Statements.for_test no_lambda s f.state (at_of p) e) _ (for_test f.state (at_of p) e g) (λ x j.
        next (Statements.for_step no_lambda s x.state (at_of p) n) _ (for_step x.state (at_of p) n j) (λ z l.
        next (Statements.statements_of no_lambda s z.state kids) _ (statements z.state kids l) (λ y m. m))))
    statement st (syntax.node k.ForStatement p token (syntax.more i (syntax.more e (syntax.more n (syntax.more a syntax.none))))) h =
        next (Statements.for_first no_lambda s (Statements.in_loop st) i) _ (for_first (Statements.in_loop st) i h) (λ f g.
        next (Statements.for_test no_lambda s f.state (at_of p) e) _ (for_test f.state (at_of p) e g) (λ x j.
        next (Statements.for_step no_lambda s x.state (at_of p) n) _ (for_step x.state (at_of p) n j) (λ z l.
        next (and_then (Statements.statement_of no_lambda s z.state a) (Statements.a_part s a)) (λ (y : Done).
        Statements.done (one (Statements.block (at_of p)
        (followed_by f.trees (one (Statements.statement (forms.Loop true) (at_of p)
        (three (Statements.the_tree (at_of p) x.trees) (Statements.the_tree (at_of p) y.trees) (Statements.the_tree (at_of p) z.trees)))))))
        (Statements.outer st y.state))
        (a_part z.state a (statement z.state a l)) (λ y m. m))))
    statement st (syntax.node k.SwitchStatement p token (syntax.more e (syntax.more (syntax.node kind q brace kids) syntax.none))) h =
        passes (switched_of cs) (done_of cs) (Statements.switched no_lambda s st e) _ (switched st e h) (λ v g.
        next (Statements.statements_of no_lambda s (Statements.in_switch v.state v.typ) kids) _ (statements (Statements.in_switch v.state v.typ) kids g)
        (λ d f. f))
    statement st (syntax.node k.CaseStatement p token (syntax.more e (syntax.more a syntax.none))) h =
        next (Statements.case_label s st (at_of p) e) _ (case_label st (at_of p) e h) (λ x g.
        next (Statements.statement_of no_lambda s x.state a) _ (statement x.state a g) (λ y f. f))
    statement st (syntax.node k.DefaultStatement p token (syntax.more a syntax.none)) h =
        next (Statements.default_label st (at_of p)) _ (default_label st (at_of p) h) (λ x g.
        next (Statements.statement_of no_lambda s x.state a) _ (statement x.state a g) (λ y f. f))
    statement st (syntax.node k.BreakStatement p token kids) h = jump _ _ st _ h
    statement st (syntax.node k.ContinueStatement p token kids) h = jump _ _ st _ h
    statement st (syntax.node k.ReturnStatement p token kids) h = returned st _ kids h
    statement st (syntax.node k.TryBlock p token (syntax.more (syntax.node kind q brace kids) hs)) h =
        next (Statements.statements_of no_lambda s (Statements.inner st) kids) _ (statements (Statements.inner st) kids h) (λ d g.
        next (Statements.handlers_of no_lambda s (Statements.outer st d.state) hs) _ (handlers (Statements.outer st d.state) hs g) (λ r f. f))
    statement st (syntax.node k.SynchronizedStatement p token (syntax.more (syntax.node kind q brace kids) syntax.none)) h =
        next (Statements.statements_of no_lambda s (Statements.in_block st) kids) _ (statements (Statements.in_block st) kids h) (λ d g. g)
    statement st (syntax.node k.AtomicStatement p (Some t) (syntax.more (syntax.node kind q brace kids) syntax.none)) h =
        next (Statements.statements_of no_lambda s (Statements.in_block st) kids) _ (statements (Statements.in_block st) kids h) (λ d g. g)
    statement st (syntax.node kind p token kids) h = tt

    statements : (st : State) (ts : syntax.Trees) → st.ctx.classes ≡ cs → Holds (done_of cs) (Statements.statements_of no_lambda s st ts)
    statements st syntax.none h = h
    statements st (syntax.more t ts) h = next (Statements.statement_of no_lambda s st t) _ (statement st t h) (λ x g.
        next (Statements.statements_of no_lambda s x.state ts) _ (statements x.state ts g) (λ y f. f))

    handlers : (st : State) (ts : syntax.Trees) → st.ctx.classes ≡ cs → Holds (done_of cs) (Statements.handlers_of no_lambda s st ts)
    handlers st syntax.none h = h
    handlers st (syntax.more (syntax.node kind p token (syntax.more x (syntax.more (syntax.node b q brace kids) syntax.none))) hs) h =
        behind (done_of cs) (Statements.in_order (at_of p) x hs) _ (λ y.
        passes (caught_of cs) (done_of cs) (Statements.handler_type s (Statements.inner st) (at_of p) x) _ (handler (Statements.inner st) (at_of p) x h) (λ c g.
        next (Statements.statements_of no_lambda s c.state kids) _ (statements c.state kids g) (λ d f.
        next (Statements.handlers_of no_lambda s (Statements.outer st d.state) hs) _ (handlers (Statements.outer st d.state) hs f) (λ r i. i))))
    handlers st (syntax.more (syntax.node kind p token kids) hs) h = tt

  parameter : (st : State) (p : Parameter) (o : Option ℕ) → st.ctx.classes ≡ cs → Holds (state_of cs) (parameter_named s st p o)
  parameter st p (Some n) h = search (behind, h)
  parameter st p None h = h

  parameters : (st : State) (ps : List Parameter) → st.ctx.classes ≡ cs → Holds (state_of cs) (with_parameters s st ps)
  parameters st [] h = h
  parameters st (p ∷ ps) h = behind (state_of cs) (check p.at Incomplete (is_complete st.ctx (held p.typ))) _ (λ y.
      passes (state_of cs) (state_of cs) (parameter_named s st p p.name) _ (parameter st p p.name h) (λ x g. parameters x ps g))

  body : (st : State) (x : Written) → st.ctx.classes ≡ cs → Holds (done_of cs) (body_statements s st x)
  body st x h = passes (state_of cs) (done_of cs) (with_parameters s st x.params) _ (parameters st x.params h) (λ y g. statements y x.body g)

pub body_unchanged : (cs : List Class) (s : List Lexeme) (st : State) (x : Written) → ◌≡◌ {A = List Class} st.ctx.classes cs
    → Holds (done_of cs) (body_statements s st x)
body_unchanged cs s st x h = body cs s st x h
