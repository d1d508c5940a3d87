-- Declarations keep what a walk carries.
use Rattle.std.proofs.Common.{ℕ, zero, suc, Bool, true, false, not, ◌&&◌, ◌||◌, List, [], length, Option, Some, None, is_none, is_some}
use Rattle.std.specs.Prelude.{nat_le}
use Rattle.elab_rules.specs.cpp_types.Typ.{Typ, typ, Form, func, class, Signature}
use Rattle.elab_rules.specs.cpp_types.Class.{held, completion_of}
use Rattle.elab_rules.specs.cpp_types.declared.classes.At.{At}
use Rattle.elab_rules.specs.cpp_lex.Tokens.{Lexeme}
use Rattle.elab_rules.specs.cpp_layout.Layout.{class_extent}
use Rattle.elab_rules.specs.cpp_layout.declared.extents.TheConstants.{GREATEST_SIZE}
use Rattle.elab_rules.specs.cpp_ast.declared.kinds.NodeKind.TheVariants as k
use Rattle.elab_rules.specs.cpp_ast.Trees as syntax
use Rattle.elab_rules.specs.cpp_tree.declared.program.FuncKind.{FuncKind}
use Rattle.elab_rules.specs.cpp_tree.declared.program.FuncKind.TheVariants.{Plain, Constructor, Destructor}
use Rattle.elab_rules.specs.cpp_tree.declared.faults.IllRule.TheVariants.{Redeclared, BadDeclaration, Incomplete, AbstractObject, OutOfProfile}
use Rattle.elab_rules.specs.cpp_tree.Typing.{form_in}
use Rattle.elab_rules.specs.elab_ctx.Ctx.{Ctx}
use Rattle.elab_rules.specs.elab_ctx.Steps.{and_then, check, at_of, spelling}
use Rattle.elab_rules.specs.Objects.{element_of}
use Rattle.elab_rules.specs.Operators.{is_complete}
use Rattle.elab_rules.specs.Sizes.{typ_sized}
use Rattle.elab_rules.specs.Strings.{string_bytes}
use Rattle.elab_rules.specs.Types.{Declared, has_auto, is_abstract_type, is_bounded, type_named}
use Rattle.elab_rules.specs.Expressions.{type_of_specifiers, declared_by}
use Rattle.elab_rules.specs.Statements.{State, Body, is_own_name, name_of}
use Rattle.elab_rules.specs.Functions
use Rattle.elab_rules.specs.Functions.{Storage, Header}
use Rattle.elab_rules.specs.Classes
use Rattle.elab_rules.specs.Classes.{Home, Begun, Method, Started, Specials, Marks, Definition}
use Rattle.elab_rules.specs.Members
use Rattle.elab_rules.specs.Implicit
use Rattle.elab_rules.specs.Lambdas.{lambdas_of}
use Rattle.elab_rules.specs.Units
use Rattle.elab_places.specs.Round.{Round, round_of}
use Rattle.elab_places.proofs.Steps.{On, bind, skip, either}
use Rattle.elab_places.proofs.Walks.{IsHeader, HasKind, header_in, Method_is, method_of, round_with, Held, Walks}
use Rattle.elab_places.proofs.AtFile.{each_keeps, alias_of, enum_declared, file_declaration}

module _ (K : Round → Type 0) (w : Walks K) where
  abbrev Sound : State → Type 0
  Sound st = Held K st

  abbrev Known : List Body → Ctx → Type 0
  Known bodies c = K (round_with bodies c)

  -- Definitions

  defined_by : (s : List Lexeme) (st : State) (ts : syntax.Trees) (x : Storage) (at : At) (first : ℕ) (r : Declared) (body : syntax.Tree) (b : Bool) → Sound st
      → On Sound (Units.defined_by s st ts x at first r body b)
  defined_by s st ts x at first r body true own = w.outside s x st at Plain first ts own
  defined_by s st ts x at first r body false own = w.defined s st x at first r body (form_in r.typ) own

  -- behind its type and its declarator
  defined_behind : (s : List Lexeme) (st : State) (whole : syntax.Trees) (x : Storage) (at : At) (first : ℕ) (base d body : syntax.Tree) → Sound st
      → On Sound (and_then (type_of_specifiers s st.ctx st.work base) (λ (t : Typ). and_then (declared_by s st.ctx st.work at t d)
      (λ (r : Declared). Units.defined_by s st whole x at first r body (Units.is_qualified r))))
  defined_behind s st whole x at first base d body own = skip Sound (type_of_specifiers s st.ctx st.work base) _
      (λ (t : Typ). skip Sound (declared_by s st.ctx st.work at t d) _
      (λ (r : Declared). defined_by s st whole x at first r body (Units.is_qualified r) own))

  function_defined : (s : List Lexeme) (st : State) (whole : syntax.Trees) (x : Storage) (at : At) (first : ℕ) (ts : syntax.Trees) → Sound st
      → On Sound (Units.function_defined s st whole x at first ts)
  function_defined s st whole x at first (syntax.more (syntax.node k.Attribute p token kids) ts) own = function_defined s st whole x at first ts own
  function_defined s st whole x at first (syntax.more (syntax.node k.DeclSpecifier p (Some t) kids) ts) own =
      function_defined s st whole (Functions.with_specifier x (spelling s t)) at first ts own
  function_defined s st whole x at first (syntax.more base (syntax.more d (syntax.more body syntax.none))) own =
      defined_behind s st whole x at first base d body own
  function_defined s st whole x at first ts own = tt

  -- Classes

  abbrev MembersSound : Classes.Members → Type 0
  MembersSound r = Held K r.state

  member_function : (home : Home) (of : FuncKind) (r : Classes.Members) (h : Header) (m : Marks) (d : Option Definition) → IsHeader home.number of h → MembersSound r
      → On MembersSound (Classes.member_function home r h m d)
  member_function home of r h m d i own = skip MembersSound (check h.at Redeclared
      (is_none (Functions.first_from (Functions.is_same_function h) 0 r.state.ctx.funcs) && not (Classes.has_member h.name r.members))) _
      (λ y. skip MembersSound (Classes.overrides_well h (Classes.overridden r.state.ctx home.base (Functions.new_function h).declared)) _
      (λ z. skip MembersSound (Classes.marks_fit h m (is_some (Classes.overridden r.state.ctx home.base (Functions.new_function h).declared))
      (h.storage.is_virtual || is_some (Classes.overridden r.state.ctx home.base (Functions.new_function h).declared))) _
      (λ x. skip MembersSound (Functions.header_sized r.state.ctx h) _ (λ q. skip MembersSound (Classes.definition_sized h.at d) _
      (λ v. w.member (round_of r.state) home.number of h m (Classes.overridden r.state.ctx home.base (Functions.new_function h).declared) d i own)))))

  declared_method : (s : List Lexeme) (home : Home) (r : Classes.Members) (kind : FuncKind) (at : At) (d : Option Definition) (kids : syntax.Trees)
      → MembersSound r → On MembersSound (Classes.declared_method s home r kind at d kids)
  declared_method s home r kind at d kids own = skip MembersSound (Classes.within_bounds (Classes.declarator_among s home.number r kids)) _
      (λ y. bind (Method_is home.number kind) MembersSound (Classes.method_of s r.state home.number home.name at kind kids) _
      (method_of s r.state home.number home.name at kind kids)
      (λ m i. member_function home kind r m.header (Classes.marks_from s Classes.no_marks m.rest) d i own))

  data_member : (n : ℕ) (r : Classes.Members) (at : At) (name : List ℕ) (t : Typ) (b : Bool) → MembersSound r
      → On MembersSound (Classes.data_member n r at name t b)
  data_member n r at name t b own = skip MembersSound (Classes.member_form at (form_in t)) _
      (λ a1. skip MembersSound (check at OutOfProfile (not (has_auto t))) _
      (λ a2. skip MembersSound (check at BadDeclaration (is_bounded t)) _
      (λ a3. skip MembersSound (check at Incomplete (is_complete r.state.ctx (held t))) _
      (λ a4. skip MembersSound (check at AbstractObject (not (is_abstract_type r.state.ctx (element_of t)))) _
      (λ a5. skip MembersSound (typ_sized r.state.ctx.classes at t) _
      (λ a6. skip MembersSound (check at Redeclared (not (Classes.has_member name r.members) && not (Classes.has_function n name r.state.ctx.funcs))) _
      (λ a7. own)))))))

  function_member : (home : Home) (r : Classes.Members) (at : At) (x : Storage) (m : Marks) (rest : syntax.Trees) (name : List ℕ) (d : Declared) (sig : Signature)
      → MembersSound r → On MembersSound (Classes.declared_member home r at x m rest name d (func sig))
  function_member home r at x m rest name d sig own = skip MembersSound (check at BadDeclaration (not (Classes.has_equal rest))) _
      (λ y. bind (HasKind home.number Plain) MembersSound (Classes.header_in home.number x Plain at name d (func sig)) _
      (header_in home.number x Plain at name d (func sig))
      (λ h i. member_function home Plain r h m None (record { kind = i.kind; class = i.class; special = λ e. absurd cc }) own))

  other_member : (home : Home) (r : Classes.Members) (at : At) (x : Storage) (m : Marks) (rest : syntax.Trees) (name : List ℕ) (d : Declared)
      → MembersSound r → On MembersSound (and_then (check at BadDeclaration (Classes.no_function_words x m))
      (λ y. Classes.data_member home.number r at name d.typ (Classes.has_initialiser rest)))
  other_member home r at x m rest name d own = skip MembersSound (check at BadDeclaration (Classes.no_function_words x m)) _
      (λ y. data_member home.number r at name d.typ (Classes.has_initialiser rest) own)

  declared_member : (home : Home) (r : Classes.Members) (at : At) (x : Storage) (m : Marks) (rest : syntax.Trees) (name : List ℕ) (d : Declared) (f : Form)
      → MembersSound r → On MembersSound (Classes.declared_member home r at x m rest name d f)
  declared_member home r at x m rest name d (func sig) own = function_member home r at x m rest name d sig own
  declared_member home r at x m rest name d f own = other_member home r at x m rest name d own

  member_declarator : (s : List Lexeme) (home : Home) (x : Storage) (t : Typ) (r : Classes.Members) (e : syntax.Tree) → MembersSound r
      → On MembersSound (Classes.member_declarator s home x t r e)
  member_declarator s home x t r (syntax.node kind p token (syntax.more d rest)) own =
      skip MembersSound (Classes.within_bounds (Classes.member_named s home.number r d)) _
      (λ v. skip MembersSound (declared_by s r.state.ctx r.state.work (at_of p) t d) _
      (λ (y : Declared). skip MembersSound (check (at_of p) BadDeclaration (is_own_name y)) _
      (λ z. declared_member home r (at_of p) x (Classes.marks_from s Classes.no_marks rest) rest (name_of s y.name) y (form_in y.typ) own)))
  member_declarator s home x t r (syntax.node kind p token syntax.none) own = tt

  member_declarators : (s : List Lexeme) (home : Home) (r : Classes.Members) (at : At) (x : Started) (ts : syntax.Trees) → MembersSound r
      → On MembersSound (Classes.member_declarators s home r at x ts)
  member_declarators s home r at x (syntax.more base ds) own = skip MembersSound (type_of_specifiers s r.state.ctx r.state.work base) _
      (λ (t : Typ). each_keeps MembersSound (Classes.member_declarator s home x.storage t) (λ q d h. member_declarator s home x.storage t q d h) r ds own)
  member_declarators s home r at x syntax.none own = tt

  member_of : (s : List Lexeme) (home : Home) (r : Classes.Members) (t : syntax.Tree) → MembersSound r → On MembersSound (Classes.member_of s home r t)
  member_of s home r (syntax.node k.AccessLabel p token kids) own = own
  member_of s home r (syntax.node k.MemberDeclaration p token kids) own =
      member_declarators s home r (at_of p) (Classes.started_from s Functions.no_storage kids) (Classes.started_from s Functions.no_storage kids).rest own
  member_of s home r (syntax.node k.FunctionDefinition p (Some t) kids) own = declared_method s home r Plain (at_of p)
      (Some (Classes.definition_between s t (Classes.last_token (Classes.body_in kids)))) kids own
  member_of s home r (syntax.node k.ConstructorDeclaration p token kids) own = declared_method s home r Constructor (at_of p) None kids own
  member_of s home r (syntax.node k.ConstructorDefinition p (Some t) kids) own = declared_method s home r Constructor (at_of p)
      (Some (Classes.definition_between s t (Classes.last_token (Classes.body_in kids)))) kids own
  member_of s home r (syntax.node k.DestructorDeclaration p token kids) own = declared_method s home r Destructor (at_of p) None kids own
  member_of s home r (syntax.node k.DestructorDefinition p (Some t) kids) own = declared_method s home r Destructor (at_of p)
      (Some (Classes.definition_between s t (Classes.last_token (Classes.body_in kids)))) kids own
  member_of s home r t own = tt

  -- The closing brace

  closed_class : (bodies : List Body) (at : At) (n : ℕ) (c : Ctx) → Known bodies c → On (Known bodies) (Classes.closed_class at n c)
  closed_class bodies at n c own = skip (Known bodies) _ _ (λ z. either (Known bodies) (nat_le (class_extent c.classes n).size GREATEST_SIZE) _ _ own tt)

  class_closed : (s : List Lexeme) (home : Home) (at : At) (r : Classes.Members) (ts : syntax.Trees) → MembersSound r
      → On Sound (Members.class_closed lambdas_of s home at r ts)
  class_closed s home at r ts own =
      bind (Known r.state.bodies) Sound (Classes.closed_class at home.number (Classes.completed r.state.ctx home at r.members r.initialised)) _
      (closed_class r.state.bodies at home.number (Classes.completed r.state.ctx home at r.members r.initialised)
      (w.completed r.state.bodies r.state.ctx home at r.members r.initialised own))
      (λ c h. bind Sound Sound (Members.all_defaults lambdas_of s home.number (record r.state { ctx = c }) ts) _
      (w.defaults s home.number (record r.state { ctx = c }) ts h)
      (λ st i. each_keeps Sound (Members.late_of lambdas_of s home.number home.name)
      (λ q t j. w.late s home.number home.name q t j) st ts i))

  class_with : (s : List Lexeme) (st : State) (at : At) (home : Home) (ts : syntax.Trees) → Sound st → On Sound (Members.class_with lambdas_of s st at home ts)
  class_with s st at home ts own =
      bind MembersSound Sound (Classes.members_of s home (record { state = st; members = []; initialised = [] }) ts) _
      (each_keeps MembersSound (Classes.member_of s home) (λ r t h. member_of s home r t h) (record { state = st; members = []; initialised = [] }) ts own)
      (λ r h. class_closed s home at r ts h)

  abbrev BegunKnown : List Body → Begun → Type 0
  BegunKnown bodies b = K (round_with bodies b.ctx)

  begun_by : (bodies : List Body) (c : Ctx) (at : At) (b : Bool) (t : Typ) → Known bodies c → On (BegunKnown bodies) (Classes.begun_by c at b t)
  begun_by bodies c at b (typ (class n) false false) own = skip (BegunKnown bodies) (check at Redeclared (not b || is_none (completion_of c.classes n))) _ (λ y. own)
  begun_by bodies c at b t own = tt

  begun_in : (bodies : List Body) (c : Ctx) (at : At) (name : List ℕ) (b : Bool) (o : Option Typ) → Known bodies c → On (BegunKnown bodies) (Classes.begun_in c at name b o)
  begun_in bodies c at name b (Some t) own = begun_by bodies c at b t own
  begun_in bodies c at name b None own = own

  begun : (bodies : List Body) (c : Ctx) (at : At) (name : List ℕ) (b : Bool) → Known bodies c → On (BegunKnown bodies) (Classes.begun c at name b)
  begun bodies c at name b own = begun_in bodies c at name b (type_named name c.types) own

  declared_only : (st : State) (at : At) (name : List ℕ) → Sound st → On Sound (Members.declared_only st at name)
  declared_only st at name own = bind (BegunKnown st.bodies) Sound (Classes.begun st.ctx at name false) _ (begun st.bodies st.ctx at name false own) (λ b h. h)

  class_defined : (s : List Lexeme) (st : State) (at : At) (name : List ℕ) (kids : syntax.Trees) → Sound st
      → On Sound (Members.class_defined lambdas_of s st at name kids)
  class_defined s st at name kids own = skip Sound (Functions.text_sized at (Classes.class_text s kids)) _
      (λ z. bind (BegunKnown st.bodies) Sound (Classes.begun st.ctx at name true) _ (begun st.bodies st.ctx at name true own)
      (λ b h. skip Sound (Members.base_named s b.ctx kids) _ (λ (base : Option ℕ). class_with s (record st { ctx = b.ctx }) at
      (record { number = b.number; name = name; base = base; is_final = Members.has_final kids }) (Members.members_among kids) h)))

  -- Declarations

  mutual
    pub declaration : (s : List Lexeme) (x : Storage) (st : State) (t : syntax.Tree) → Sound st → On Sound (Units.declaration_of s x st t)
    declaration s x st (syntax.node k.EmptyDeclaration p token kids) own = own
    declaration s x st (syntax.node k.AliasDeclaration p (Some t) kids) own = alias_of K w s st (at_of p) (spelling s t) kids own
    declaration s x st (syntax.node k.EnumSpecifier p (Some t) kids) own = enum_declared K w s st (at_of p) (spelling s t) kids own
    declaration s x st (syntax.node k.SimpleDeclaration p token kids) own = file_declaration K w s st x (at_of p) kids own
    declaration s x st (syntax.node k.FunctionDefinition p (Some t) kids) own = function_defined s st kids x (at_of p) t kids own
    declaration s x st (syntax.node k.LinkageSpecification p (Some t) kids) own =
        skip Sound (check (at_of p) OutOfProfile (Units.is_c (string_bytes (spelling s t)))) _
        (λ y. declarations s (record x { is_c = true; is_extern = true }) st kids own)
    declaration s x st (syntax.node k.LinkageBlock p (Some t) kids) own =
        skip Sound (check (at_of p) OutOfProfile (Units.is_c (string_bytes (spelling s t)))) _ (λ y. declarations s (record x { is_c = true }) st kids own)
    declaration s x st (syntax.node k.ClassDeclaration p (Some t) kids) own = declared_only st (at_of p) (spelling s t) own
    declaration s x st (syntax.node k.ClassSpecifier p (Some t) kids) own = class_defined s st (at_of p) (spelling s t) kids own
    declaration s x st (syntax.node k.ConstructorDefinition p (Some t) kids) own =
        w.outside s x st (at_of p) Constructor t kids own
    declaration s x st (syntax.node k.DestructorDefinition p (Some t) kids) own = w.outside s x st (at_of p) Destructor t kids own
    declaration s x st t own = tt

    pub declarations : (s : List Lexeme) (x : Storage) (st : State) (ts : syntax.Trees) → Sound st → On Sound (Units.declarations_of s x st ts)
    declarations s x st syntax.none own = own
    declarations s x st (syntax.more t ts) own = bind Sound Sound (Units.declaration_of s x st t) _ (declaration s x st t own) (λ y h. declarations s x y ts h)

  -- Implicit members

  implied_below : ((st : State) (i : ℕ) → Sound st → On Sound (Implicit.implied st i)) → (st : State) (n : ℕ) → Sound st
      → On Sound (Implicit.implied_below st n)
  implied_below each st zero own = own
  implied_below each st (suc n) own = bind Sound Sound (Implicit.implied st n) _ (each st n own) (λ x h. implied_below each x n h)

  -- where the body of an implicit member keeps it too
  pub unit : ((st : State) (i : ℕ) → Sound st → On Sound (Implicit.implied st i)) → (s : List Lexeme) (st : State) (ts : syntax.Trees) → Sound st
      → On Sound (Units.unit_from s st ts)
  unit each s st ts own =
      bind Sound Sound (Units.declarations_of s Functions.no_storage st ts) Implicit.with_implied (declarations s Functions.no_storage st ts own)
      (λ x h. implied_below each x (length x.ctx.funcs) h)
