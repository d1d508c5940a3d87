-- Statements keep the types of a context sound.
use Rattle.std.proofs.Common.{◌≡◌, refl, ℕ, Bool, true, false, not, ◌||◌, List, ◌==◌, length, Option, Some, None, Result, Ok}
use Rattle.std.specs.Prelude.{if◌then◌else◌}
use Rattle.std.specs.List.{list_any}
use Rattle.std.proofs.lemmas.Bool.{and_parts}
use Rattle.elab_rules.specs.cpp_types.Typ.{Typ, typ, Form, void, int, enum, null, ptr, ref, array, func, class, closure, tx_ex}
use Rattle.elab_rules.specs.cpp_types.Class.{Class}
use Rattle.elab_rules.specs.cpp_types.declared.classes.At.{At}
use Rattle.elab_rules.specs.cpp_lex.Tokens.{Lexeme}
use Rattle.elab_rules.specs.cpp_ast.declared.kinds.NodeKind.TheVariants as k
use Rattle.elab_rules.specs.cpp_ast.Trees as syntax
use Rattle.elab_rules.specs.cpp_tree.declared.kinds.TKind.{TKind}
use Rattle.elab_rules.specs.cpp_tree.declared.kinds.TKind.TheVariants as forms
use Rattle.elab_rules.specs.cpp_tree.declared.faults.ElabFault.{ElabFault}
use Rattle.elab_rules.specs.cpp_tree.declared.faults.IllRule.TheVariants.{BadCatch, Redeclared, TypeDiffers, BadDeclaration, NotConstant, BadInit, BadReturn, BadBreak, BadCase}
use Rattle.elab_rules.specs.cpp_tree.declared.faults.IllRule.TheVariants.{Narrowing, OutOfProfile}
use Rattle.elab_rules.specs.cpp_tree.Trees.{Tree, Trees, one, three, typ_in}
use Rattle.elab_rules.specs.cpp_tree.Notation.{plain}
use Rattle.elab_rules.specs.cpp_tree.Typing.{form_in, is_void, is_class_typ, unqualified, kind_in}
use Rattle.elab_rules.specs.elab_ctx.Ctx.{Ctx, Returns, known, deduced, Labels}
use Rattle.elab_rules.specs.elab_ctx.Steps.{and_then, expect, check, at_of, spelling, Operand, Made}
use Rattle.elab_rules.specs.Strings.{string_bytes}
use Rattle.elab_rules.specs.Constants.{constant}
use Rattle.elab_rules.specs.Initialising.{initial, class_from}
use Rattle.elab_rules.specs.Operators.{value, dropped, truth, within_if_sized}
use Rattle.elab_rules.specs.Sizes.{typ_sized}
use Rattle.elab_rules.specs.Casts.{within_exception}
use Rattle.elab_rules.specs.Types.{has_auto, is_bounded, is_nothing}
use Rattle.elab_rules.specs.Objects.{traits_at, followed_by}
use Rattle.elab_rules.specs.Names
use Rattle.elab_rules.specs.Braces
use Rattle.elab_rules.specs.Braces.{item_of, string_token, string_object, is_char_array}
use Rattle.elab_rules.specs.Expressions.{expression_of, operands_of, chosen_operand, type_of_specifiers, declared_by}
use Rattle.elab_rules.specs.Statements as statements
use Rattle.elab_rules.specs.Statements.{State, Done, Full, Lambdas, Declaring, Caught, Switched, with_work, full_operand, inner, in_loop, in_block}
use Rattle.elab_rules.specs.Statements.{in_switch, outer, declared_variable, placed_variable, with_labels, past_declaration, replaced}
use Rattle.elab_fits.specs.Standing.{On}
use Rattle.elab_fits.proofs.Steps.{bind, skip, checked, expected, either_way as either}
use Rattle.elab_sound_types.specs.Types.{target, variable, denoted, declared, is_sound}
use Rattle.elab_sound_types.specs.Contexts.{is_spelled, are_spelled}
use Rattle.elab_sound_types.specs.Laws.{IsSoundDeclared, AreSoundTyped}
use Rattle.elab_sound_types.specs.States.{IsSoundState, IsSoundAfter, KeepsSound, StatementsKeep, BlocksKeep}
use Rattle.elab_sound_types.proofs.Sound.{sound_as, all_declared}
use Rattle.elab_sound_types.proofs.Names.{if_there}
use Rattle.elab_sound_types.proofs.Globals as globals
use Rattle.elab_sound_types.proofs.Globals.{same}
use Rattle.elab_sound_types.proofs.Written as written
use Rattle.elab_sound_types.proofs.Written.{IsDenoted, as_declared}
use Rattle.elab_sound_types.proofs.Deduced.{IsReplaced, deduced_sound, returned_sound}
use Rattle.elab_sound_types.proofs.Braces.{copy_kept, direct_kept, item_kept}
use Rattle.elab_sound_types.proofs.Expressions.{Chosen, moved, operand_sound, of_operands, kids_spelled, first_spelled, rest_spelled}
use Rattle.elab_sound_types.proofs.States.{After, DeclaringSound, DeductionSound, DoneSound, FullSound, IsSpelled, IsBounded, auto_sound, block_sound, bound_sound, check_holds, classes_in}
use Rattle.elab_sound_types.proofs.States.{declarable, declared_sound, elsewhere, inner_sound, kept_sound, labels_sound, later, loop_sound, made_done, made_sound, nothing, on_all, one_spelled, only_spelled, placed_sound, since, switch_sound}
use Rattle.elab_sound_types.proofs.Growth.{grown_same, grown_joined, grown_sound}
use Rattle.elab_sound_types.proofs.Zeros.{on_ok}

module _ (adds : Bool) (lams : Lambdas) (s : List Lexeme) (keeps : KeepsSound adds s lams) where
  lambdas_sound : (st : State) (t : syntax.Tree) → IsSoundState st → is_spelled s t ≡ true → On (After adds st) (lams s st t)
  lambdas_sound st t h i = on_all (After adds st) (lams s st t) (λ x e. keeps st t x h i e)

  all_lambdas : (st : State) (ts : syntax.Trees) → IsSoundState st → are_spelled s ts ≡ true → On (After adds st) (statements.all_lambdas lams s st ts)
  all_lambdas st syntax.none h i = nothing adds st h
  all_lambdas st (syntax.more t ts) h i = bind (After adds st) (After adds st) (lams s st t) _ (lambdas_sound st t h (first_spelled s t ts i))
      (λ x j. since (After adds x) (After adds st) (statements.all_lambdas lams s x ts) (all_lambdas x ts j.sound (rest_spelled s t ts i)) (λ y m. later adds st x y j m))

  full_sound : (st : State) (e : syntax.Tree) → IsSoundState st → is_spelled s e ≡ true → On (FullSound adds st) (full_operand lams s st e)
  full_sound st e h i = bind (After adds st) (FullSound adds st) (lams s st e) _ (lambdas_sound st e h i)
      (λ x j. bind (Chosen x.ctx) (FullSound adds st) (and_then (expression_of s x.ctx x.work e) (chosen_operand x.ctx)) _
      (operand_sound s x.ctx x.ctx.closures x.work e j.sound.context j.sound.closures i)
      (λ o m. (m.0, record { sound = made_sound x o.work m.1 j.sound; grown = j.grown })))

  expression_statement : (st : State) (e : syntax.Tree) → IsSoundState st → is_spelled s e ≡ true → On (DoneSound adds st) (statements.expression_statement lams s st e)
  expression_statement st e h i = bind (FullSound adds st) (DoneSound adds st) (full_operand lams s st e) _ (full_sound st e h i)
      (λ f j. made_done adds st f (Ok (dropped f.state.ctx f.state.work f.operand)) j.1 (globals.dropped f.state.ctx f.state.work f.operand))

  condition : (st : State) (e : syntax.Tree) → IsSoundState st → is_spelled s e ≡ true → On (DoneSound adds st) (statements.condition lams s st e)
  condition st e h i = bind (FullSound adds st) (DoneSound adds st) (full_operand lams s st e) _ (full_sound st e h i)
      (λ f j. made_done adds st f (and_then (truth f.state.ctx f.state.work f.operand) (λ (t : Tree). Ok (record { tree = t; work = f.state.work }))) j.1
      (skip (globals.made f.state.work) (truth f.state.ctx f.state.work f.operand) _ (λ t. same f.state.work)))

  -- Initialisers of variables

  by_expression : (st v : State) (t : Typ) (at : At) (e : syntax.Tree) (b : Bool) (o : Option ℕ) → IsSoundState v → is_spelled s e ≡ true
      → On (DoneSound adds v) (statements.by_expression lams s st v t at e b o)
  by_expression st v t at e true (Some n) h i = skip (DoneSound adds v) (string_object v.ctx t (Braces.syntax_place e) (string_bytes (spelling s n))) _ (λ x. nothing adds v h)
  by_expression st v t at e true None h i = bind (FullSound adds v) (DoneSound adds v) (full_operand lams s v e) _ (full_sound v e h i)
      (λ f j. bind (globals.made f.state.work) (DoneSound adds v) (statements.copy_initialised f.state.ctx f.state.work t f.operand) _
      (copy_kept f.state.ctx f.state.work t f.operand) (λ m b. kept_sound adds v f.state m.work j.1 b))
  by_expression st v t at e false o h i = bind (FullSound adds v) (DoneSound adds v) (full_operand lams s v e) _ (full_sound v e h i)
      (λ f j. bind (globals.made f.state.work) (DoneSound adds v) (statements.copy_initialised f.state.ctx f.state.work t f.operand) _
      (copy_kept f.state.ctx f.state.work t f.operand) (λ m b. kept_sound adds v f.state m.work j.1 b))

  with_initialiser : (st v : State) (t : Typ) (at : At) (init : syntax.Trees) → IsSoundState v → are_spelled s init ≡ true
      → On (DoneSound adds v) (statements.with_initialiser lams s st v t at init)
  with_initialiser st v t at syntax.none h i = skip (DoneSound adds v) (statements.default_object v.ctx t at) _ (λ e. nothing adds v h)
  with_initialiser st v t at (syntax.more (syntax.node k.ParenthesizedInitializer p token es) syntax.none) h i =
      bind (After adds v) (DoneSound adds v) (statements.all_lambdas lams s v es) _ (all_lambdas v es h spelled)
      (λ x j. bind (AreSoundTyped x.ctx) (DoneSound adds v) (operands_of s x.ctx x.work es) _
      (of_operands s x.ctx x.ctx.closures x.work es j.sound.context j.sound.closures spelled)
      (λ xs m. bind (globals.made xs.work) (DoneSound adds v) (statements.directly_initialised x.ctx xs.work t at xs.operands) _
      (direct_kept x.ctx xs.work t at xs.operands)
      (λ y b. record { sound = made_sound x y.work (moved x.ctx xs.work y.work m.work b) j.sound; grown = j.grown })))
    where
      spelled : are_spelled s es ≡ true
      spelled = kids_spelled s k.ParenthesizedInitializer p token es (first_spelled s (syntax.node k.ParenthesizedInitializer p token es) syntax.none i)
  with_initialiser st v t at (syntax.more (syntax.node k.EqualInitializer p token
      (syntax.more (syntax.node k.BracedInitList q brace items) syntax.none)) syntax.none) h i =
      bind (After adds v) (DoneSound adds v) (statements.all_lambdas lams s v items) _ (all_lambdas v items h
      (kids_spelled s k.BracedInitList q brace items (one_spelled s k.EqualInitializer p token (syntax.node k.BracedInitList q brace items) i)))
      (λ x j. bind (globals.made x.work) (DoneSound adds v)
      (item_of s x.ctx x.work (statements.variable_tree st t at) t (syntax.node k.BracedInitList q brace items)) _
      (item_kept s x.ctx x.work (statements.variable_tree st t at) t (syntax.node k.BracedInitList q brace items))
      (λ m b. kept_sound adds v x m.work j b))
  with_initialiser st v t at (syntax.more (syntax.node k.EqualInitializer p token (syntax.more e syntax.none)) syntax.none) h i =
      by_expression st v t at e (is_char_array t) (string_token e) h (one_spelled s k.EqualInitializer p token e i)
  with_initialiser st v t at kids h i = tt

  plain_variable : (st : State) (name : List ℕ) (t : Typ) (at : At) (init : syntax.Trees) → IsSoundState st → is_sound (classes_in st) declared t ≡ true
      → are_spelled s init ≡ true → On (DoneSound adds st) (statements.plain_variable lams s st name t at init)
  plain_variable st name t at init h g i =
      bind (λ (y : Bool). IsBounded (classes_in st) t) (DoneSound adds st) (statements.declarable st.ctx at t) _ (declarable (classes_in st) st.ctx at t g)
      (λ x j. checked (DoneSound adds st) at BadDeclaration (is_bounded t) _
      (λ z. skip (DoneSound adds st) (typ_sized st.ctx.classes at t) _
      (λ y. skip (DoneSound adds st) (within_if_sized st.ctx at t) _
      (λ w. since (DoneSound adds (placed_variable st name t)) (DoneSound adds st) (statements.with_initialiser lams s st (placed_variable st name t) t at init)
      (with_initialiser st (placed_variable st name t) t at init (placed_sound st name t (j z) h) i) (λ d m. record { sound = m.sound; grown = m.grown })))))

  -- `auto`

  auto_initialised : (a st : State) (t : Typ) (at : At) (i : ℕ) (u : Typ) (o : Operand) (r : Result Made ElabFault) → IsSoundAfter adds a st
      → is_sound (classes_in st) variable u ≡ true → On (globals.made st.work) r → On (DoneSound adds a) (statements.auto_initialised st t at i u o r)
  auto_initialised a st t at i u o r h g j = bind (globals.made st.work) (DoneSound adds a) r _ j (λ m b. record {
    sound = auto_sound (with_work st m.work) i u g (kept_sound adds a st m.work h b).sound;
    grown = h.grown;
  })

  auto_variable : (st : State) (i : ℕ) (t : Typ) (at : At) (before : Option Typ) (e : syntax.Tree) → IsSoundState st → is_sound (classes_in st) declared t ≡ true
      → is_spelled s e ≡ true → On (DeductionSound adds st) (statements.auto_variable lams s st i t at before e)
  auto_variable st i t at before e h g j = bind (FullSound adds st) (DeductionSound adds st) (full_operand lams s st e) _ (full_sound st e h j)
      (λ f m. bind (IsReplaced (classes_in f.state) t) (DeductionSound adds st) (statements.deduced_type at t f.operand) _
      (deduced_sound (classes_in f.state) at t f.operand m.0 (grown_sound adds st.ctx.classes f.state.ctx.classes declared t m.1.grown g))
      (λ u o. skip (DeductionSound adds st) (check at TypeDiffers (statements.same_deduction before u)) _
      (λ y. bind (DoneSound adds st) (DeductionSound adds st) (statements.auto_initialised f.state t at i (replaced u t) f.operand
      (statements.auto_object f.state t at (replaced u t) f.operand)) _
      (auto_initialised st f.state t at i (replaced u t) f.operand (statements.auto_object f.state t at (replaced u t) f.operand) m.1 o
      (copy_kept f.state.ctx f.state.work (replaced u t) f.operand)) (λ d x. x))))

  variable_by : (st : State) (name : List ℕ) (t : Typ) (at : At) (before : Option Typ) (init : syntax.Trees) (b : Bool) → IsSoundState st
      → is_sound (classes_in st) declared t ≡ true → are_spelled s init ≡ true → On (DeductionSound adds st) (statements.variable_by lams s st name t at before init b)
  variable_by st name t at before init true h g i = expected (DeductionSound adds st) at BadInit (statements.only_expression init) _
      (λ e j. since (DeductionSound adds (declared_variable st name None)) (DeductionSound adds st)
      (statements.auto_variable lams s (declared_variable st name None) (length st.ctx.variables) t at before e)
      (auto_variable (declared_variable st name None) (length st.ctx.variables) t at before e (declared_sound st name None refl h) g
      (if_there (IsSpelled s) (statements.only_expression init) e (only_spelled s init i) j)) (λ d m. record { sound = m.sound; grown = m.grown }))
  variable_by st name t at before init false h g i =
      bind (DoneSound adds st) (DeductionSound adds st) (statements.plain_variable lams s st name (statements.bound_by_initialiser s t init) at init) _
      (plain_variable st name (statements.bound_by_initialiser s t init) at init h (bound_sound (classes_in st) s t init g) i) (λ d j. j)

  variable_sound : (st : State) (name : List ℕ) (t : Typ) (at : At) (before : Option Typ) (init : syntax.Trees) → IsSoundState st
      → is_sound (classes_in st) declared t ≡ true → are_spelled s init ≡ true → On (DeductionSound adds st) (statements.variable lams s st name t at before init)
  variable_sound st name t at before init h g i = skip (DeductionSound adds st) (check at Redeclared (statements.is_fresh st.ctx name)) _
      (λ y. variable_by st name t at before init (has_auto t) h g i)

  -- Declarations

  past_sound : (a : State) (t : Typ) (init : syntax.Trees) (st : State) → IsSoundAfter adds a st → IsSoundAfter adds a (past_declaration t init st)
  past_sound a t init st h = record {
    sound = elsewhere st st.ctx.scopes st.ctx.breaks st.ctx.continues st.ctx.label _ h.sound;
    grown = h.grown;
  }

  block_declarator : (t : Typ) (d : Declaring) (x : syntax.Tree) → IsSoundState d.state → is_sound (classes_in d.state) denoted t ≡ true
      → is_spelled s x ≡ true → On (DeclaringSound adds d.state) (statements.block_declarator lams s t d x)
  block_declarator t d (syntax.node k.InitDeclarator p token (syntax.more x init)) h g i =
      bind (IsSoundDeclared (classes_in d.state)) (DeclaringSound adds d.state) (declared_by s d.state.ctx d.state.work (at_of p) t x) _
      (written.declared_of s d.state.ctx d.state.work h.context d.state.ctx.closures d.state.work (at_of p) t x g)
      (λ r j. skip (DeclaringSound adds d.state) (check (at_of p) BadDeclaration (statements.is_own_name r)) _
      (λ z. bind (DeductionSound adds d.state) (DeclaringSound adds d.state)
      (statements.variable lams s d.state (statements.name_of s r.name) r.typ (at_of p) d.auto init) _
      (variable_sound d.state (statements.name_of s r.name) r.typ (at_of p) d.auto init h (as_declared (classes_in d.state) r.typ j.typ)
      (rest_spelled s x init (kids_spelled s k.InitDeclarator p token (syntax.more x init) i)))
      (λ y m. past_sound d.state r.typ init y.done.state m)))
  block_declarator t d (syntax.node k.InitDeclarator p token syntax.none) h g i = tt
  block_declarator t d (syntax.node kind p token kids) h g i = tt

  block_declarators : (a : State) (t : Typ) (d : Declaring) (xs : syntax.Trees) → IsSoundAfter adds a d.state → is_sound (classes_in d.state) denoted t ≡ true
      → are_spelled s xs ≡ true → On (DeclaringSound adds a) (statements.block_declarators lams s t d xs)
  block_declarators a t d syntax.none h g i = h
  block_declarators a t d (syntax.more x xs) h g i = bind (DeclaringSound adds d.state) (DeclaringSound adds a) (statements.block_declarator lams s t d x) _
      (block_declarator t d x h.sound g (first_spelled s x xs i))
      (λ y j. block_declarators a t y xs (later adds a d.state y.state h j) (grown_sound adds d.state.ctx.classes y.state.ctx.classes denoted t j.grown g) (rest_spelled s x xs i))

  block_declaration : (st : State) (at : At) (ts : syntax.Trees) → IsSoundState st → are_spelled s ts ≡ true
      → On (DoneSound adds st) (statements.block_declaration lams s st at ts)
  block_declaration st at (syntax.more (syntax.node k.Attribute p token kids) ts) h i =
      block_declaration st at ts h (rest_spelled s (syntax.node k.Attribute p token kids) ts i)
  block_declaration st at (syntax.more (syntax.node k.TypeSpecifierSeq p token kids) ds) h i =
      bind (IsDenoted (classes_in st)) (DoneSound adds st) (type_of_specifiers s st.ctx st.work (syntax.node k.TypeSpecifierSeq p token kids)) _
      (written.specifiers s st.ctx st.work h.context st.ctx.closures st.work (syntax.node k.TypeSpecifierSeq p token kids))
      (λ t j. bind (DeclaringSound adds st) (DoneSound adds st)
      (statements.block_declarators lams s t (record { trees = Trees.none; state = st; auto = None }) ds) _
      (block_declarators st t (record { trees = Trees.none; state = st; auto = None }) ds (nothing adds st h) j
      (rest_spelled s (syntax.node k.TypeSpecifierSeq p token kids) ds i)) (λ d m. m))
  block_declaration st at ts h i = tt

  -- `return`

  value_returned : (a : State) (at : At) (t : Typ) (f : Full) → IsSoundAfter adds a f.state
      → On (DoneSound adds a) (if is_class_typ t then and_then (class_from f.state.ctx f.state.work t f.operand.at f.operand)
      (λ (m : Made). statements.done (one (statements.class_returned at t f m)) (with_work f.state m.work))
      else and_then (initial f.state.ctx f.state.work t f.operand)
      (λ (m : Made). statements.done (one (statements.return_node at (one (statements.full f.operand.at (statements.result_of t f.operand.at m.tree)))))
      (with_work f.state m.work)))
  value_returned a at t f h = either (DoneSound adds a) (is_class_typ t) _ _
      (bind (globals.made f.state.work) (DoneSound adds a) (class_from f.state.ctx f.state.work t f.operand.at f.operand) _
      (globals.class_from f.state.ctx f.state.work t f.operand.at f.operand) (λ m b. kept_sound adds a f.state m.work h b))
      (bind (globals.made f.state.work) (DoneSound adds a) (initial f.state.ctx f.state.work t f.operand) _
      (globals.initial f.state.ctx f.state.work t f.operand) (λ m b. kept_sound adds a f.state m.work h b))

  return_value : (a : State) (at : At) (t : Typ) (f : Full) → IsSoundAfter adds a f.state → On (DoneSound adds a) (statements.return_value at t f)
  return_value a at (typ void d v) f h = skip (DoneSound adds a) (check at BadReturn (is_void (typ_in f.operand.tree))) _ (λ y. h)
  return_value a at t f h = value_returned a at t f h

  deduced_state : (a st : State) (t : Typ) → is_sound (classes_in st) declared t ≡ true → IsSoundAfter adds a st → IsSoundAfter adds a (statements.with_deduced st (Some t))
  deduced_state a st t g h = record {
    sound = record {
      context = record {
        types = h.sound.context.types;
        members = h.sound.context.members;
        functions = h.sound.context.functions;
        enumerators = h.sound.context.enumerators;
        variables = h.sound.context.variables;
        this = h.sound.context.this;
        captures = h.sound.context.captures;
        globals = h.sound.context.globals;
        many = h.sound.context.many;
        copied = h.sound.context.copied;
      };
      closures = h.sound.closures;
      returned = g;
    };
    grown = h.grown;
  }

  return_by : (a : State) (at : At) (r : Returns) (f : Full) → FullSound adds a f → On (DoneSound adds a) (statements.return_by at r f)
  return_by a at (known t) f h = return_value a at t f h.1
  return_by a at (deduced t) f h = skip (DoneSound adds a) (check at BadReturn (statements.same_deduction t (unqualified (typ_in (value f.operand))))) _
      (λ y. deduced_state a f.state (unqualified (typ_in (value f.operand))) (returned_sound (classes_in f.state) f.operand h.0) h.1)

  return_nothing : (st : State) (at : At) (r : Returns) → IsSoundState st → On (DoneSound adds st) (statements.return_nothing st at r)
  return_nothing st at (known t) h = skip (DoneSound adds st) (check at BadReturn (is_void t)) _ (λ y. nothing adds st h)
  return_nothing st at (deduced t) h = skip (DoneSound adds st) (check at BadReturn (statements.same_deduction t (plain void))) _
      (λ y. deduced_state st st (plain void) refl (nothing adds st h))

  returned : (st : State) (at : At) (ts : syntax.Trees) → IsSoundState st → are_spelled s ts ≡ true → On (DoneSound adds st) (statements.returned lams s st at ts)
  returned st at syntax.none h i = return_nothing st at st.ctx.returns h
  returned st at (syntax.more e ts) h i = bind (FullSound adds st) (DoneSound adds st) (full_operand lams s st e) _ (full_sound st e h (first_spelled s e ts i))
      (λ f j. return_by st at f.state.ctx.returns f j)

  -- Labels

  label_sound : (st : State) (l : Labels) → IsSoundState st → IsSoundAfter adds st (with_labels st l)
  label_sound st l h = record { sound = labels_sound st l h; grown = grown_same adds st.ctx.classes }

  case_label : (st : State) (at : At) (e : syntax.Tree) → IsSoundState st → On (DoneSound adds st) (statements.case_label s st at e)
  case_label st at e h = skip (DoneSound adds st) (statements.label_here st at) _
      (λ y. skip (DoneSound adds st) (and_then (expression_of s st.ctx st.work e) (chosen_operand st.ctx)) _
      (λ o. skip (DoneSound adds st) (initial st.ctx st.work st.ctx.labels.typ o.operand) _
      (λ m. skip (DoneSound adds st) (expect o.operand.at NotConstant (constant st.work.globals (value o.operand))) _
      (λ w. skip (DoneSound adds st) (expect o.operand.at NotConstant (constant st.work.globals m.tree)) _
      (λ word. skip (DoneSound adds st) (check o.operand.at Narrowing
      (statements.case_fits (kind_in (form_in (typ_in (value o.operand)))) (kind_in (form_in st.ctx.labels.typ)) w)) _
      (λ x. skip (DoneSound adds st) (check at BadCase (not (list_any (λ (n : ℕ). n == word) st.ctx.labels.words))) _ (λ z. label_sound st _ h)))))))

  default_label : (st : State) (at : At) → IsSoundState st → On (DoneSound adds st) (statements.default_label st at)
  default_label st at h = skip (DoneSound adds st) (statements.label_here st at) _
      (λ y. skip (DoneSound adds st) (check at BadCase (not st.ctx.labels.has_default)) _ (λ z. label_sound st _ h))

  -- Handlers

  abbrev CaughtSound : State → Caught → Type 0
  CaughtSound a x = IsSoundAfter adds a x.state

  abbrev CaughtType : List Class → Typ → Type 0
  CaughtType cs u = is_sound cs variable u ≡ true

  caught_form : (cs : List Class) (c : Ctx) (at : At) (f : Form) (d v : Bool) → is_sound cs declared (typ f d v) ≡ true
      → On (λ (y : Bool). CaughtType cs (typ f d v)) (statements.caught_form c at f)
  caught_form cs c at (int j) d v h = refl
  caught_form cs c at (enum e x) d v h = check_holds (CaughtType cs (typ (enum e x) d v)) at BadCatch (not (is_nothing e)) refl
  caught_form cs c at (class m) d v h = check_holds (CaughtType cs (typ (class m) d v)) at BadCatch (traits_at c m).is_trivially_copyable h
  caught_form cs c at (tx_ex (typ f x y)) d v h = h
  caught_form cs c at void d v h = tt
  caught_form cs c at null d v h = tt
  caught_form cs c at (ptr t) d v h = tt
  caught_form cs c at (ref t) d v h = tt
  caught_form cs c at (array t m) d v h = tt
  caught_form cs c at (func g) d v h = tt
  caught_form cs c at (closure m) d v h = tt

  caught_by : (cs : List Class) (c : Ctx) (at : At) (t : Typ) → is_sound cs declared t ≡ true
      → On (CaughtType cs) (and_then (statements.caught_form c at (form_in t)) (λ (z : Bool). Ok t))
  caught_by cs c at (typ f d v) h = bind (λ (y : Bool). CaughtType cs (typ f d v)) (CaughtType cs) (statements.caught_form c at f) _ (caught_form cs c at f d v h)
      (λ z g. g)

  caught_type : (cs : List Class) (c : Ctx) (at : At) (t : Typ) → is_sound cs declared t ≡ true → On (CaughtType cs) (statements.caught_type c at t)
  caught_type cs c at (typ (ref t) d v) h = skip (CaughtType cs) (check at OutOfProfile (Names.is_const_typ t)) _
      (λ y. caught_by cs c at t (sound_as cs target declared t (all_declared target) (and_parts (not (d || v)) (is_sound cs target t) h).1))
  caught_type cs c at t h = caught_by cs c at t h

  named_handler : (st : State) (at p : At) (t u : Typ) (o : Option ℕ) → IsSoundState st → is_sound (classes_in st) variable u ≡ true
      → On (CaughtSound st) (statements.named_handler s st at p t u o)
  named_handler st at p t u (Some n) h g = skip (CaughtSound st) (within_exception st.ctx p u) _
      (λ y. record { sound = placed_sound st (spelling s n) u g h; grown = grown_same adds st.ctx.classes })
  named_handler st at p t u None h g = nothing adds st h

  handler_type : (st : State) (at : At) (t : syntax.Tree) → IsSoundState st → On (CaughtSound st) (statements.handler_type s st at t)
  handler_type st at (syntax.node k.ParameterDeclaration p token (syntax.more base (syntax.more d syntax.none))) h =
      bind (IsDenoted (classes_in st)) (CaughtSound st) (type_of_specifiers s st.ctx st.work base) _
      (written.specifiers s st.ctx st.work h.context st.ctx.closures st.work base)
      (λ t j. bind (IsSoundDeclared (classes_in st)) (CaughtSound st) (declared_by s st.ctx st.work (at_of p) t d) _
      (written.declared_of s st.ctx st.work h.context st.ctx.closures st.work (at_of p) t d j)
      (λ r m. bind (CaughtType (classes_in st)) (CaughtSound st) (statements.caught_type st.ctx (at_of p) r.typ) _
      (caught_type (classes_in st) st.ctx (at_of p) r.typ (as_declared (classes_in st) r.typ m.typ)) (λ u o. named_handler st at (at_of p) r.typ u r.name h o)))
  handler_type st at t h = nothing adds st h

  -- Statements

  abbrev SwitchedSound : State → Switched → Type 0
  SwitchedSound a v = IsSoundAfter adds a v.state

  switched : (st : State) (e : syntax.Tree) → IsSoundState st → is_spelled s e ≡ true → On (SwitchedSound st) (statements.switched lams s st e)
  switched st e h i = bind (FullSound adds st) (SwitchedSound st) (full_operand lams s st e) _ (full_sound st e h i)
      (λ f j. skip (SwitchedSound st) (statements.switched_type f.operand.at (form_in (typ_in (value f.operand)))) _ (λ t. j.1))

  jump : (st : State) (allowed : Bool) (kind : TKind) (at : At) → IsSoundState st → On (DoneSound adds st) (statements.jump allowed kind st at)
  jump st allowed kind at h = skip (DoneSound adds st) (check at BadBreak allowed) _ (λ y. nothing adds st h)

  for_first : (st : State) (t : syntax.Tree) → IsSoundState st → is_spelled s t ≡ true → On (DoneSound adds st) (statements.for_first lams s st t)
  for_first st (syntax.node k.Absent p token kids) h i = nothing adds st h
  for_first st (syntax.node k.SimpleDeclaration p token kids) h i =
      block_declaration st (at_of p) kids h (kids_spelled s k.SimpleDeclaration p token kids i)
  for_first st e h i = expression_statement st e h i

  for_test : (st : State) (at : At) (t : syntax.Tree) → IsSoundState st → is_spelled s t ≡ true → On (DoneSound adds st) (statements.for_test lams s st at t)
  for_test st at (syntax.node k.Absent p token kids) h i = nothing adds st h
  for_test st at e h i = condition st e h i

  for_step : (st : State) (at : At) (t : syntax.Tree) → IsSoundState st → is_spelled s t ≡ true → On (DoneSound adds st) (statements.for_step lams s st at t)
  for_step st at (syntax.node k.Absent p token kids) h i = nothing adds st h
  for_step st at e h i = expression_statement st e h i

  a_part : (a : State) (t : syntax.Tree) (r : Result Done ElabFault) → On (DoneSound adds a) r → On (DoneSound adds a) (and_then r (statements.a_part s t))
  a_part a t r h = bind (DoneSound adds a) (DoneSound adds a) r _ h (λ d i. i)

  -- a state that stands elsewhere has the same classes
  from_inner : (st : State) (r : Result Done ElabFault) → On (DoneSound adds (inner st)) r → On (DoneSound adds st) r
  from_inner st r h = since (DoneSound adds (inner st)) (DoneSound adds st) r h (λ d i. record { sound = i.sound; grown = i.grown })

  from_loop : (st : State) (r : Result Done ElabFault) → On (DoneSound adds (in_loop st)) r → On (DoneSound adds st) r
  from_loop st r h = since (DoneSound adds (in_loop st)) (DoneSound adds st) r h (λ d i. record { sound = i.sound; grown = i.grown })

  out_of : (a before st : State) → IsSoundAfter adds a before → IsSoundAfter adds before st → IsSoundAfter adds a (outer before st)
  out_of a before st h g = record {
    sound = elsewhere st _ before.ctx.breaks before.ctx.continues before.ctx.label before.ctx.labels g.sound;
    grown = grown_joined adds a.ctx.classes before.ctx.classes st.ctx.classes h.grown g.grown;
  }

  from_block : (st : State) (r : Result Done ElabFault) → On (DoneSound adds (in_block st)) r → On (DoneSound adds st) r
  from_block st r h = since (DoneSound adds (in_block st)) (DoneSound adds st) r h (λ d i. record { sound = i.sound; grown = i.grown })

  from_switch : (st : State) (t : Typ) (r : Result Done ElabFault) → On (DoneSound adds (in_switch st t)) r → On (DoneSound adds st) r
  from_switch st t r h = since (DoneSound adds (in_switch st t)) (DoneSound adds st) r h (λ d i. record { sound = i.sound; grown = i.grown })

  -- behind a block that stood in a statement
  block_left : (st : State) (r : Result Done ElabFault) (f : Done → Trees) → IsSoundState st → On (DoneSound adds st) r
      → On (DoneSound adds st) (and_then r (λ (d : Done). statements.done (f d) (outer st d.state)))
  block_left st r f h g = bind (DoneSound adds st) (DoneSound adds st) r _ g (λ d i. out_of st st d.state (nothing adds st h) i)

  left_handler : (st c d : State) → IsSoundState st → IsSoundAfter adds (inner st) c → IsSoundAfter adds c d → IsSoundAfter adds st (outer st d)
  left_handler st c d h j m = out_of st st d (nothing adds st h) (record { sound = m.sound; grown = grown_joined adds st.ctx.classes c.ctx.classes d.ctx.classes j.grown m.grown })

  -- the parts of a `for`, and what it repeats
  for_parts : (st : State) (at : At) (a e d : syntax.Tree) (r : State → Result Done ElabFault) (g : Done → Done → Done → Done → Trees) → IsSoundState st
      → is_spelled s a ≡ true → is_spelled s e ≡ true → is_spelled s d ≡ true → ((x : State) → IsSoundState x → On (DoneSound adds x) (r x))
      → On (DoneSound adds st) (and_then (statements.for_first lams s (in_loop st) a) (λ (f : Done). and_then (statements.for_test lams s f.state at e)
      (λ (x : Done). and_then (statements.for_step lams s x.state at d) (λ (z : Done). and_then (r z.state) (λ (y : Done).
      statements.done (g f x z y) (outer st y.state))))))
  for_parts st at a e d r g h i l u v = bind (DoneSound adds st) (DoneSound adds st) (statements.for_first lams s (in_loop st) a) _
      (from_loop st (statements.for_first lams s (in_loop st) a) (for_first (in_loop st) a (loop_sound st h) i))
      (λ f j. bind (DoneSound adds f.state) (DoneSound adds st) (statements.for_test lams s f.state at e) _ (for_test f.state at e j.sound l)
      (λ x m. bind (DoneSound adds x.state) (DoneSound adds st) (statements.for_step lams s x.state at d) _ (for_step x.state at d m.sound u)
      (λ z o. bind (DoneSound adds z.state) (DoneSound adds st) (r z.state) _ (v z.state o.sound)
      (λ y w. out_of st st y.state (nothing adds st h)
      (later adds st f.state y.state j (later adds f.state x.state y.state m (later adds x.state z.state y.state o w)))))))

  -- a statement in another
  inner_part : (st : State) (a : syntax.Tree) → On (DoneSound adds (inner st)) (statements.statement_of lams s (inner st) a)
      → On (DoneSound adds st) (and_then (statements.statement_of lams s (inner st) a) (statements.a_part s a))
  inner_part st a h = a_part st a (statements.statement_of lams s (inner st) a) (from_inner st (statements.statement_of lams s (inner st) a) h)

  loop_part : (st : State) (a : syntax.Tree) → On (DoneSound adds (in_loop st)) (statements.statement_of lams s (in_loop st) a)
      → On (DoneSound adds st) (and_then (statements.statement_of lams s (in_loop st) a) (statements.a_part s a))
  loop_part st a h = a_part st a (statements.statement_of lams s (in_loop st) a) (from_loop st (statements.statement_of lams s (in_loop st) a) h)

  mutual
    pub statement : (st : State) (t : syntax.Tree) → IsSoundState st → is_spelled s t ≡ true → On (DoneSound adds st) (statements.statement_of lams s st t)
    statement st (syntax.node k.CompoundStatement p token kids) h i = block_left st (statements.statements_of lams s (inner st) kids) _ h
        (from_inner st (statements.statements_of lams s (inner st) kids)
        (block (inner st) kids (inner_sound st h) (kids_spelled s k.CompoundStatement p token kids i)))
    statement st (syntax.node k.NullStatement p token kids) h i = nothing adds st h
    statement st (syntax.node k.ExpressionStatement p token (syntax.more e syntax.none)) h i =
        expression_statement st e h (first_spelled s e syntax.none (kids_spelled s k.ExpressionStatement p token (syntax.more e syntax.none) i))
    statement st (syntax.node k.SimpleDeclaration p token kids) h i =
        block_declaration st (at_of p) kids h (kids_spelled s k.SimpleDeclaration p token kids i)
    statement st (syntax.node k.IfStatement p token (syntax.more e (syntax.more a syntax.none))) h i =
        let ks = kids_spelled s k.IfStatement p token (syntax.more e (syntax.more a syntax.none)) i in
        let r = rest_spelled s e (syntax.more a syntax.none) ks in
        bind (DoneSound adds st) (DoneSound adds st) (statements.condition lams s st e) _ (condition st e h (first_spelled s e (syntax.more a syntax.none) ks))
        (λ x j. bind (DoneSound adds x.state) (DoneSound adds st) (and_then (statements.statement_of lams s (inner x.state) a) (statements.a_part s a)) _
        (inner_part x.state a (statement (inner x.state) a (inner_sound x.state j.sound) (first_spelled s a syntax.none r))) (λ y m. out_of st x.state y.state j m))
    statement st (syntax.node k.IfStatement p token (syntax.more e (syntax.more a (syntax.more b syntax.none)))) h i =
        let ks = kids_spelled s k.IfStatement p token (syntax.more e (syntax.more a (syntax.more b syntax.none))) i in
        let r = rest_spelled s e (syntax.more a (syntax.more b syntax.none)) ks in
        let u = rest_spelled s a (syntax.more b syntax.none) r in
        bind (DoneSound adds st) (DoneSound adds st) (statements.condition lams s st e) _
        (condition st e h (first_spelled s e (syntax.more a (syntax.more b syntax.none)) ks))
        (λ x j. bind (DoneSound adds x.state) (DoneSound adds st) (and_then (statements.statement_of lams s (inner x.state) a) (statements.a_part s a)) _
        (inner_part x.state a (statement (inner x.state) a (inner_sound x.state j.sound) (first_spelled s a (syntax.more b syntax.none) r)))
        (λ y m. bind (DoneSound adds (outer x.state y.state)) (DoneSound adds st)
        (and_then (statements.statement_of lams s (inner (outer x.state y.state)) b) (statements.a_part s b)) _
        (inner_part (outer x.state y.state) b (statement (inner (outer x.state y.state)) b
        (inner_sound (outer x.state y.state) (out_of x.state x.state y.state (nothing adds x.state j.sound) m).sound) (first_spelled s b syntax.none u)))
        (λ z o. out_of st x.state z.state j
        (later adds x.state (outer x.state y.state) z.state (out_of x.state x.state y.state (nothing adds x.state j.sound) m) o))))
    statement st (syntax.node k.WhileStatement p token (syntax.more e (syntax.more a syntax.none))) h i =
        let ks = kids_spelled s k.WhileStatement p token (syntax.more e (syntax.more a syntax.none)) i in
        let r = rest_spelled s e (syntax.more a syntax.none) ks in
        bind (DoneSound adds st) (DoneSound adds st) (statements.condition lams s st e) _ (condition st e h (first_spelled s e (syntax.more a syntax.none) ks))
        (λ x j. bind (DoneSound adds x.state) (DoneSound adds st) (and_then (statements.statement_of lams s (in_loop x.state) a) (statements.a_part s a)) _
        (loop_part x.state a (statement (in_loop x.state) a (loop_sound x.state j.sound) (first_spelled s a syntax.none r))) (λ y m. out_of st x.state y.state j m))
    statement st (syntax.node k.DoStatement p token (syntax.more a (syntax.more e syntax.none))) h i =
        let ks = kids_spelled s k.DoStatement p token (syntax.more a (syntax.more e syntax.none)) i in
        let r = rest_spelled s a (syntax.more e syntax.none) ks in
        bind (DoneSound adds st) (DoneSound adds st) (and_then (statements.statement_of lams s (in_loop st) a) (statements.a_part s a)) _
        (loop_part st a (statement (in_loop st) a (loop_sound st h) (first_spelled s a (syntax.more e syntax.none) ks)))
        (λ y j. bind (DoneSound adds (outer st y.state)) (DoneSound adds st) (statements.condition lams s (outer st y.state) e) _
        (condition (outer st y.state) e (out_of st st y.state (nothing adds st h) j).sound (first_spelled s e syntax.none r))
        (λ x m. later adds st (outer st y.state) x.state (out_of st st y.state (nothing adds st h) j) m))
    statement st (syntax.node k.ForStatement p token
        (syntax.more a (syntax.more e (syntax.more d (syntax.more (syntax.node k.CompoundStatement q brace kids) syntax.none))))) h i =
        let ks = kids_spelled s k.ForStatement p token
        (syntax.more a (syntax.more e (syntax.more d (syntax.more (syntax.node k.CompoundStatement q brace kids) syntax.none)))) i in
        let r = rest_spelled s a (syntax.more e (syntax.more d (syntax.more (syntax.node k.CompoundStatement q brace kids) syntax.none))) ks in
        let u = rest_spelled s e (syntax.more d (syntax.more (syntax.node k.CompoundStatement q brace kids) syntax.none)) r in
        let v = rest_spelled s d (syntax.more (syntax.node k.CompoundStatement q brace kids) syntax.none) u in
        for_parts st (at_of p) a e d (λ (x : State). statements.statements_of lams s x kids)
        (λ f x z y. one (statements.block (at_of p) (followed_by f.trees (one (statements.statement (forms.Loop true) (at_of p)
        (three (statements.the_tree (at_of p) x.trees) (statements.block (at_of q) y.trees) (statements.the_tree (at_of p) z.trees))))))) h
        (first_spelled s a (syntax.more e (syntax.more d (syntax.more (syntax.node k.CompoundStatement q brace kids) syntax.none))) ks)
        (first_spelled s e (syntax.more d (syntax.more (syntax.node k.CompoundStatement q brace kids) syntax.none)) r)
        (first_spelled s d (syntax.more (syntax.node k.CompoundStatement q brace kids) syntax.none) u)
        (λ x g. block x kids g (kids_spelled s k.CompoundStatement q brace kids (first_spelled s (syntax.node k.CompoundStatement q brace kids) syntax.none v)))
    statement st (syntax.node k.ForStatement p token (syntax.more a (syntax.more e (syntax.more d (syntax.more b syntax.none))))) h i =
        let ks = kids_spelled s k.ForStatement p token (syntax.more a (syntax.more e (syntax.more d (syntax.more b syntax.none)))) i in
        let r = rest_spelled s a (syntax.more e (syntax.more d (syntax.more b syntax.none))) ks in
        let u = rest_spelled s e (syntax.more d (syntax.more b syntax.none)) r in
        let v = rest_spelled s d (syntax.more b syntax.none) u in
        for_parts st (at_of p) a e d (λ (x : State). and_then (statements.statement_of lams s x b) (statements.a_part s b))
        (λ f x z y. one (statements.block (at_of p) (followed_by f.trees (one (statements.statement (forms.Loop true) (at_of p)
        (three (statements.the_tree (at_of p) x.trees) (statements.the_tree (at_of p) y.trees) (statements.the_tree (at_of p) z.trees))))))) h
        (first_spelled s a (syntax.more e (syntax.more d (syntax.more b syntax.none))) ks) (first_spelled s e (syntax.more d (syntax.more b syntax.none)) r)
        (first_spelled s d (syntax.more b syntax.none) u)
        (λ x g. a_part x b (statements.statement_of lams s x b) (statement x b g (first_spelled s b syntax.none v)))
    statement st (syntax.node k.SwitchStatement p token (syntax.more e (syntax.more (syntax.node kind q brace kids) syntax.none))) h i =
        let ks = kids_spelled s k.SwitchStatement p token (syntax.more e (syntax.more (syntax.node kind q brace kids) syntax.none)) i in
        let r = rest_spelled s e (syntax.more (syntax.node kind q brace kids) syntax.none) ks in
        bind (SwitchedSound st) (DoneSound adds st) (statements.switched lams s st e) _
        (switched st e h (first_spelled s e (syntax.more (syntax.node kind q brace kids) syntax.none) ks))
        (λ v j. bind (DoneSound adds v.state) (DoneSound adds st) (statements.statements_of lams s (in_switch v.state v.typ) kids) _
        (from_switch v.state v.typ (statements.statements_of lams s (in_switch v.state v.typ) kids)
        (block (in_switch v.state v.typ) kids (switch_sound v.state v.typ j.sound)
        (kids_spelled s kind q brace kids (first_spelled s (syntax.node kind q brace kids) syntax.none r))))
        (λ d m. out_of st v.state d.state j m))
    statement st (syntax.node k.CaseStatement p token (syntax.more e (syntax.more a syntax.none))) h i =
        let ks = kids_spelled s k.CaseStatement p token (syntax.more e (syntax.more a syntax.none)) i in
        let r = rest_spelled s e (syntax.more a syntax.none) ks in
        bind (DoneSound adds st) (DoneSound adds st) (statements.case_label s st (at_of p) e) _ (case_label st (at_of p) e h)
        (λ x j. bind (DoneSound adds x.state) (DoneSound adds st) (statements.statement_of lams s x.state a) _
        (statement x.state a j.sound (first_spelled s a syntax.none r)) (λ y m. later adds st x.state y.state j m))
    statement st (syntax.node k.DefaultStatement p token (syntax.more a syntax.none)) h i =
        bind (DoneSound adds st) (DoneSound adds st) (statements.default_label st (at_of p)) _ (default_label st (at_of p) h)
        (λ x j. bind (DoneSound adds x.state) (DoneSound adds st) (statements.statement_of lams s x.state a) _ (statement x.state a j.sound
        (first_spelled s a syntax.none (kids_spelled s k.DefaultStatement p token (syntax.more a syntax.none) i))) (λ y m. later adds st x.state y.state j m))
    statement st (syntax.node k.BreakStatement p token kids) h i = jump st st.ctx.breaks forms.Break (at_of p) h
    statement st (syntax.node k.ContinueStatement p token kids) h i = jump st st.ctx.continues forms.Continue (at_of p) h
    statement st (syntax.node k.ReturnStatement p token kids) h i = returned st (at_of p) kids h (kids_spelled s k.ReturnStatement p token kids i)
    statement st (syntax.node k.TryBlock p token (syntax.more (syntax.node kind q brace kids) hs)) h i =
        let ks = kids_spelled s k.TryBlock p token (syntax.more (syntax.node kind q brace kids) hs) i in
        bind (DoneSound adds st) (DoneSound adds st) (statements.statements_of lams s (inner st) kids) _
        (from_inner st (statements.statements_of lams s (inner st) kids) (block (inner st) kids (inner_sound st h)
        (kids_spelled s kind q brace kids (first_spelled s (syntax.node kind q brace kids) hs ks))))
        (λ d j. bind (DoneSound adds (outer st d.state)) (DoneSound adds st) (statements.handlers_of lams s (outer st d.state) hs) _
        (handlers (outer st d.state) hs (out_of st st d.state (nothing adds st h) j).sound (rest_spelled s (syntax.node kind q brace kids) hs ks))
        (λ r m. later adds st (outer st d.state) r.state (out_of st st d.state (nothing adds st h) j) m))
    statement st (syntax.node k.SynchronizedStatement p token (syntax.more (syntax.node kind q brace kids) syntax.none)) h i =
        block_left st (statements.statements_of lams s (in_block st) kids) _ h (from_block st (statements.statements_of lams s (in_block st) kids)
        (block (in_block st) kids (block_sound st h) (kids_spelled s kind q brace kids (first_spelled s (syntax.node kind q brace kids) syntax.none
        (kids_spelled s k.SynchronizedStatement p token (syntax.more (syntax.node kind q brace kids) syntax.none) i)))))
    statement st (syntax.node k.AtomicStatement p (Some t) (syntax.more (syntax.node kind q brace kids) syntax.none)) h i =
        block_left st (statements.statements_of lams s (in_block st) kids) _ h (from_block st (statements.statements_of lams s (in_block st) kids)
        (block (in_block st) kids (block_sound st h) (kids_spelled s kind q brace kids (first_spelled s (syntax.node kind q brace kids) syntax.none
        (kids_spelled s k.AtomicStatement p (Some t) (syntax.more (syntax.node kind q brace kids) syntax.none) i)))))
    statement st (syntax.node kind p token kids) h i = tt

    pub block : (st : State) (ts : syntax.Trees) → IsSoundState st → are_spelled s ts ≡ true → On (DoneSound adds st) (statements.statements_of lams s st ts)
    block st syntax.none h i = nothing adds st h
    block st (syntax.more t ts) h i = bind (DoneSound adds st) (DoneSound adds st) (statements.statement_of lams s st t) _ (statement st t h (first_spelled s t ts i))
        (λ x j. bind (DoneSound adds x.state) (DoneSound adds st) (statements.statements_of lams s x.state ts) _ (block x.state ts j.sound (rest_spelled s t ts i))
        (λ y m. later adds st x.state y.state j m))

    handlers : (st : State) (ts : syntax.Trees) → IsSoundState st → are_spelled s ts ≡ true → On (DoneSound adds st) (statements.handlers_of lams s st ts)
    handlers st syntax.none h i = nothing adds st h
    handlers st (syntax.more (syntax.node kind p token (syntax.more x (syntax.more (syntax.node b q brace kids) syntax.none))) hs) h i =
        let ks = kids_spelled s kind p token (syntax.more x (syntax.more (syntax.node b q brace kids) syntax.none))
        (first_spelled s (syntax.node kind p token (syntax.more x (syntax.more (syntax.node b q brace kids) syntax.none))) hs i) in
        let r = rest_spelled s x (syntax.more (syntax.node b q brace kids) syntax.none) ks in
        skip (DoneSound adds st) (statements.in_order (at_of p) x hs) _
        (λ y. bind (CaughtSound (inner st)) (DoneSound adds st) (statements.handler_type s (inner st) (at_of p) x) _
        (handler_type (inner st) (at_of p) x (inner_sound st h))
        (λ c j. bind (DoneSound adds c.state) (DoneSound adds st) (statements.statements_of lams s c.state kids) _
        (block c.state kids j.sound (kids_spelled s b q brace kids (first_spelled s (syntax.node b q brace kids) syntax.none r)))
        (λ d m. bind (DoneSound adds (outer st d.state)) (DoneSound adds st) (statements.handlers_of lams s (outer st d.state) hs) _
        (handlers (outer st d.state) hs (left_handler st c.state d.state h j m).sound
        (rest_spelled s (syntax.node kind p token (syntax.more x (syntax.more (syntax.node b q brace kids) syntax.none))) hs i))
        (λ e o. later adds st (outer st d.state) e.state (left_handler st c.state d.state h j m) o))))
    handlers st (syntax.more (syntax.node kind p token kids) hs) h i = tt

-- The laws

pub statements_law : StatementsKeep
statements_law adds lams s st t d keeps h i e = on_ok (DoneSound adds st) (statements.statement_of lams s st t) d (statement adds lams s keeps st t h i) e

pub blocks_law : BlocksKeep
blocks_law adds lams s st ts d keeps h i e = on_ok (DoneSound adds st) (statements.statements_of lams s st ts) d (block adds lams s keeps st ts h i) e
