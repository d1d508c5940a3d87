-- What holds of the functions and the bodies alone, and is kept by lambdas, holds of the bodies before the one that is made.
use Rattle.std.proofs.Common.{◌≡◌, refl, ℕ, suc, Bool, true, false, List, [], ◌∷◌, ◌++◌, slice_get, Option, Some, None}
use Rattle.std.specs.Prelude.{is_none, not}
use Rattle.elab_rules.specs.cpp_types.Typ.{Typ, class, Typs, none as no_typs, more as and_typ}
use Rattle.elab_rules.specs.cpp_types.Class.{Member}
use Rattle.elab_rules.specs.cpp_types.Class.{held as held_class}
use Rattle.elab_rules.specs.cpp_types.declared.classes.At.{At}
use Rattle.elab_rules.specs.cpp_lex.Tokens.{Lexeme}
use Rattle.elab_rules.specs.cpp_ast.declared.kinds.NodeKind.TheVariants as k
use Rattle.elab_rules.specs.cpp_ast.Trees as syntax
use Rattle.elab_rules.specs.cpp_tree.declared.kinds.TKind.TheVariants as forms
use Rattle.elab_rules.specs.cpp_tree.declared.program.FuncKind.{FuncKind}
use Rattle.elab_rules.specs.cpp_tree.declared.program.FuncKind.TheVariants.{Plain, Constructor, Destructor, ClosureCall}
use Rattle.elab_rules.specs.cpp_tree.declared.faults.IllRule.TheVariants.{Incomplete, NoMember, OutOfProfile, Redeclared, UnknownName}
use Rattle.elab_rules.specs.cpp_tree.Notation.{plain}
use Rattle.elab_rules.specs.cpp_tree.Trees.{Tree, none}
use Rattle.elab_rules.specs.cpp_tree.Typing.{unqualified}
use Rattle.elab_rules.specs.elab_ctx.Ctx.{Func}
use Rattle.elab_rules.specs.elab_ctx.Steps.{check, expect, at_of, spelling}
use Rattle.elab_rules.specs.Objects.{followed_by}
use Rattle.elab_rules.specs.Initialising.{as_source, class_from, signature_result}
use Rattle.elab_rules.specs.Operators.{is_complete}
use Rattle.elab_rules.specs.Names.{members_in}
use Rattle.elab_rules.specs.Calls.{base_of_class}
use Rattle.elab_rules.specs.Types.{type_named}
use Rattle.elab_rules.specs.Strings.{string_bytes}
use Rattle.elab_rules.specs.Braces.{default_at, string_object, string_token, syntax_place, is_char_array}
use Rattle.elab_rules.specs.Expressions.{operands_of}
use Rattle.elab_rules.specs.Statements.{State, Done, Full, Body, Lambdas, statement, statements_of, with_work, all_lambdas, directly_initialised, full_operand}
use Rattle.elab_rules.specs.Statements.{copy_initialised}
use Rattle.elab_rules.specs.Functions.{Header, entered, with_parameters, end_of, within_frame, body_made, function_body}
use Rattle.elab_rules.specs.Members.{Given, Giving, given_part, given_base, given_by, all_given, given_for, for_part, is_named_class, is_base_type, member_index}
use Rattle.elab_rules.specs.Members.{member_type, in_object, base_built, default_built, member_built, members_built, parts_built, constructor_tree, constructor_body}
use Rattle.elab_rules.specs.Members.{destructor_tree, destructor_body, as_base_of, default_value, default_made, default_for, default_of, defaults_of, all_defaults}
use Rattle.elab_rules.specs.Members.{initialiser_in}
use Rattle.elab_rules.specs.Implicit.{own_operand, part_copied, part_of_source, members_copied, base_copied, parts_copied, with_source, source_object, source_const}
use Rattle.elab_rules.specs.Implicit.{constructor_implied, body_implied}
use Rattle.elab_fits.specs.Standing.{On}
use Rattle.state_growth.proofs.Steps.{bind, skip}
use Rattle.state_growth.proofs.Members.{each_holds}
use Rattle.elab_bodies.proofs.Holding as holding

-- the last body is that of this function; it holds of the bodies before that
pub record EndsWith (P : List Func → List Body → Type 0) (func : ℕ) (x : State) : Type 0 where
  pub others : List Body
  pub body : Body
  pub bodies : x.bodies ≡ others ++ body ∷ []
  pub is : body.func ≡ func
  pub held : P x.ctx.funcs others

module _ (P : List Func → List Body → Type 0) where
  abbrev pub Held : State → Type 0
  Held st = P st.ctx.funcs st.bodies

  abbrev Ends : Done → Type 0
  Ends d = P d.state.ctx.funcs d.state.bodies

  abbrev Gives : Giving → Type 0
  Gives g = P g.state.ctx.funcs g.state.bodies

  made : (before : State) (at : At) (func : ℕ) (tree : Tree) (st : State) → Held st → On (EndsWith P func) (body_made before at func tree st)
  made before at func tree st h = skip (EndsWith P func) (within_frame st.ctx at st.work.frame) _ (λ y. record {
    others = st.bodies;
    body = record { func = func; tree = tree; frame = st.work.frame };
    bodies = refl;
    is = refl;
    held = h;
  })

  -- Parts of constructors

  member_held : (st : State) (at : At) (n i : ℕ) (t : Typ) (g : Option Given) → Held st → On Ends (member_built st at n i t g)
  member_held st at n i t (Some g) h = h
  member_held st at n i t None h = skip Ends (default_built st at t (default_at n i st.ctx.defaults)) _ (λ m. h)

  members_held : (at : At) (n : ℕ) (gs : List Given) (st : State) (i : ℕ) (ms : List Member) → Held st → On Ends (members_built at n gs st i ms)
  members_held at n gs st i [] h = h
  members_held at n gs st i (m ∷ ms) h = bind Ends Ends (member_built st at n i m.typ (given_for (Some i) gs)) _
      (member_held st at n i m.typ (given_for (Some i) gs) h)
      (λ x j. bind Ends Ends (members_built at n gs x.state (suc i) ms) _ (members_held at n gs x.state (suc i) ms j) (λ y l. l))

  parts_held : (st : State) (at : At) (n : ℕ) (gs : List Given) → Held st → On Ends (parts_built st at n gs)
  parts_held st at n gs h = skip Ends (base_built st at n (base_of_class (slice_get st.ctx.classes n)) (given_for None gs)) _
      (λ b. bind Ends Ends (members_built at n gs st 0 (members_in (slice_get st.ctx.classes n))) _
      (members_held at n gs st 0 (members_in (slice_get st.ctx.classes n)) h) (λ d i. i))

  -- Copies

  copies_held : (at : At) (n : ℕ) (source : Tree) (is_const : Bool) (st : State) (i : ℕ) (ms : List Member) → Held st
      → On Ends (members_copied at n source is_const st i ms)
  copies_held at n source is_const st i [] h = h
  copies_held at n source is_const st i (m ∷ ms) h =
      skip Ends (part_copied st at m.typ (part_of_source st.ctx n at source is_const i m.typ)) _
      (λ x. bind Ends Ends (members_copied at n source is_const (with_work st x.work) (suc i) ms) _
      (copies_held at n source is_const (with_work st x.work) (suc i) ms h) (λ d j. j))

  base_held : (st : State) (at : At) (n : ℕ) (source : Tree) (o : Option ℕ) → Held st → On Ends (base_copied st at n source o)
  base_held st at n source None h = h
  base_held st at n source (Some b) h =
      skip Ends (class_from (as_base_of st.ctx b) st.work (plain (class b)) at (own_operand at (as_source at b source))) _ (λ m. h)

  copied_held : (st : State) (at : At) (n : ℕ) (source : Tree) (is_const : Bool) → Held st → On Ends (parts_copied st at n source is_const)
  copied_held st at n source is_const h = bind Ends Ends (base_copied st at n source (base_of_class (slice_get st.ctx.classes n))) _
      (base_held st at n source (base_of_class (slice_get st.ctx.classes n)) h)
      (λ b i. bind Ends Ends (members_copied at n source is_const b.state 0 (members_in (slice_get st.ctx.classes n))) _
      (copies_held at n source is_const b.state 0 (members_in (slice_get st.ctx.classes n)) i) (λ d j. j))

  constructor_ends : (st : State) (at : At) (func n : ℕ) (ps : Typs) → Held st → On (EndsWith P func) (constructor_implied st at func n ps)
  constructor_ends st at func n (and_typ t ps) h =
      bind Ends (EndsWith P func) (parts_copied (with_source (in_object st n) t) at n (source_object n t at) (source_const t)) _
      (copied_held (with_source (in_object st n) t) at n (source_object n t at) (source_const t) h)
      (λ d i. made st at func (constructor_tree at d.trees none) d.state i)
  constructor_ends st at func n no_typs h = bind Ends (EndsWith P func) (parts_built (in_object st n) at n []) _ (parts_held (in_object st n) at n [] h)
      (λ d i. made st at func (constructor_tree at d.trees none) d.state i)

  pub implied_ends : (st : State) (at : At) (func n : ℕ) (kind : FuncKind) (ps : Typs) → Held st → On (EndsWith P func) (body_implied st at func n kind ps)
  implied_ends st at func n Destructor ps h = made st at func (destructor_tree st.ctx at at n none) (in_object st n) h
  implied_ends st at func n Constructor ps h = constructor_ends st at func n ps h
  implied_ends st at func n Plain ps h = constructor_ends st at func n ps h
  implied_ends st at func n ClosureCall ps h = constructor_ends st at func n ps h

  module _ (lams : Lambdas) (s : List Lexeme) (keeps : (st : State) (t : syntax.Tree) → P st.ctx.funcs st.bodies → On (λ (x : State). P x.ctx.funcs x.bodies) (lams s st t)) where
    pub function_ends : (st : State) (h : Header) (this : Option Typ) (func : ℕ) (t : syntax.Tree) → Held st
        → On (EndsWith P func) (function_body lams s st h this func t)
    function_ends st h this func (syntax.node kind p token kids) i =
        skip (EndsWith P func) (check h.at Incomplete (is_complete st.ctx (held_class (signature_result h.signature)))) _
        (λ x. bind Held (EndsWith P func) (with_parameters s (entered st (signature_result h.signature) this h.class) h.params) _
        (holding.parameters_held P s (entered st (signature_result h.signature) this h.class) h.params i)
        (λ e j. bind Ends (EndsWith P func) (statements_of lams s e kids) _ (holding.statements_held P lams s keeps e kids j)
        (λ d l. made st h.at func (statement (forms.Block false) (at_of p)
        (followed_by d.trees (end_of d.state.ctx (signature_result h.signature) (at_of p)))) d.state l)))

    -- What is written for parts

    part_held : (n : ℕ) (g : Giving) (i : Option ℕ) (at : At) (t : Typ) (es : syntax.Trees) → Gives g → On Gives (given_part lams s n g i at t es)
    part_held n g i at t es h = skip Gives (check at Redeclared (is_none (given_for i g.given))) _
        (λ y. bind Held Gives (all_lambdas lams s g.state es) _ (holding.all_lambdas_held P lams s keeps g.state es h)
        (λ st j. skip Gives (operands_of s st.ctx st.work es) _
        (λ xs. skip Gives (directly_initialised (for_part st.ctx n i) xs.work t at xs.operands) _ (λ m. j))))

    base_given : (n : ℕ) (g : Giving) (at : At) (t : Typ) (es : syntax.Trees) → Gives g → On Gives (given_base lams s n g at t es)
    base_given n g at t es h = skip Gives (check at OutOfProfile (not (is_named_class n t))) _
        (λ x. skip Gives (check at NoMember (is_base_type (base_of_class (slice_get g.state.ctx.classes n)) t)) _
        (λ y. part_held n g None at (unqualified t) es h))

    one_given : (n : ℕ) (g : Giving) (t : syntax.Tree) → Gives g → On Gives (given_by lams s n g t)
    one_given n g (syntax.node k.MemberInitializer p (Some t) es) h =
        skip Gives (expect (at_of p) NoMember (member_index 0 (spelling s t) (members_in (slice_get g.state.ctx.classes n)))) _
        (λ i. part_held n g (Some i) (at_of p) (member_type (slice_get (members_in (slice_get g.state.ctx.classes n)) i)) es h)
    one_given n g (syntax.node k.BaseInitializer p (Some t) es) h =
        skip Gives (expect (at_of p) UnknownName (type_named (spelling s t) g.state.ctx.types)) _ (λ u. base_given n g (at_of p) u es h)
    one_given n g t h = h

    pub written_ends : (st : State) (h : Header) (n func : ℕ) (inits : syntax.Trees) (t : syntax.Tree) → Held st
        → On (EndsWith P func) (constructor_body lams s st h n func inits t)
    written_ends st h n func inits (syntax.node kind p token kids) i =
        bind Held (EndsWith P func) (with_parameters s (in_object st n) h.params) _ (holding.parameters_held P s (in_object st n) h.params i)
        (λ e j. bind Gives (EndsWith P func) (all_given lams s n (record { state = e; given = [] }) inits) _
        (each_holds Gives (given_by lams s n) (record { state = e; given = [] }) inits j (λ g t q. one_given n g t q))
        (λ g l. bind Ends (EndsWith P func) (parts_built g.state h.at n g.given) _ (parts_held g.state h.at n g.given l)
        (λ parts q. bind Ends (EndsWith P func) (statements_of lams s parts.state kids) _ (holding.statements_held P lams s keeps parts.state kids q)
        (λ d r. made st h.at func (constructor_tree (at_of p) parts.trees d.trees) d.state r))))

    pub destructor_ends : (st : State) (h : Header) (n func : ℕ) (t : syntax.Tree) → Held st → On (EndsWith P func) (destructor_body lams s st h n func t)
    destructor_ends st h n func (syntax.node kind p token kids) i = bind Ends (EndsWith P func) (statements_of lams s (in_object st n) kids) _
        (holding.statements_held P lams s keeps (in_object st n) kids i)
        (λ d j. made st h.at func (destructor_tree d.state.ctx h.at (at_of p) n d.trees) d.state j)

    -- Initialisers of members

    value_held : (st : State) (t : Typ) (e : syntax.Tree) (b : Bool) (o : Option ℕ) → Held st → On Ends (default_value lams s st t e b o)
    value_held st t e true (Some i) h = skip Ends (string_object st.ctx t (syntax_place e) (string_bytes (spelling s i))) _ (λ x. h)
    value_held st t e b o h = bind (λ (f : Full). Held f.state) Ends (full_operand lams s st e) _ (holding.full_held P lams s keeps st e h)
        (λ f i. skip Ends (copy_initialised f.state.ctx f.state.work t f.operand) _ (λ m. i))

    default_held : (st : State) (n i : ℕ) (t : Typ) (e : syntax.Tree) → Held st → On Held (default_made lams s st n i t e)
    default_held st n i t e h = bind Ends Held (default_value lams s (in_object st n) t e (is_char_array t) (string_token e)) _
        (value_held (in_object st n) t e (is_char_array t) (string_token e) h) (λ d j. j)

    for_held : (st : State) (n : ℕ) (i : Option ℕ) (e : Option syntax.Tree) → Held st → On Held (default_for lams s st n i e)
    for_held st n (Some i) (Some e) h = default_held st n i (member_type (slice_get (members_in (slice_get st.ctx.classes n)) i)) e h
    for_held st n (Some i) None h = h
    for_held st n None e h = h

    of_held : (n : ℕ) (st : State) (t : syntax.Tree) → Held st → On Held (default_of lams s n st t)
    of_held n st (syntax.node k.MemberDeclarator p (Some t) kids) h =
        for_held st n (member_index 0 (spelling s t) (members_in (slice_get st.ctx.classes n))) (initialiser_in kids) h
    of_held n st t h = h

    those_held : (n : ℕ) (st : State) (t : syntax.Tree) → Held st → On Held (defaults_of lams s n st t)
    those_held n st (syntax.node k.MemberDeclaration p token kids) h = each_holds Held (default_of lams s n) st kids h (λ x t i. of_held n x t i)
    those_held n st t h = h

    pub defaults_held : (n : ℕ) (st : State) (ts : syntax.Trees) → Held st → On Held (all_defaults lams s n st ts)
    defaults_held n st ts h = each_holds Held (defaults_of lams s n) st ts h (λ x t i. those_held n x t i)
