-- Declarations that have no bodies leave bodies, and initialisers of members, as they are.
use Rattle.std.proofs.Common.{◌≡◌, refl, ◌∙◌, ℕ, Bool, true, false, not, ◌&&◌, ◌||◌, List, [], Option, Some, None, is_some, is_none, Result, Ok, Err}
use Rattle.std.specs.Prelude.{if◌then◌else◌, slice_get, pos, ℤ}
use Rattle.elab_rules.specs.tx_ints.declared.kinds.IntKind.TheVariants.{Int}
use Rattle.elab_rules.specs.tx_ints.Integers.{is_in_range}
use Rattle.elab_rules.specs.cpp_types.Typ.{Typ, typ, Form, func, class, enum}
use Rattle.elab_rules.specs.cpp_types.Class.{Member, completion_of, held}
use Rattle.elab_rules.specs.cpp_types.declared.classes.At.{At}
use Rattle.elab_rules.specs.cpp_lex.Tokens.{Lexeme}
use Rattle.elab_rules.specs.cpp_ast.declared.kinds.NodeKind.TheVariants as k
use Rattle.elab_rules.specs.cpp_ast.Trees as syntax
use Rattle.elab_rules.specs.cpp_names.Names.{innermost_of}
use Rattle.elab_rules.specs.cpp_names.declared.entity.Entity.{Entity}
use Rattle.elab_rules.specs.cpp_names.declared.entity.EntityKind.{EntityKind}
use Rattle.elab_rules.specs.cpp_names.declared.entity.EntityKind.TheVariants as entities
use Rattle.elab_rules.specs.cpp_tree.Notation.{plain}
use Rattle.elab_rules.specs.cpp_tree.Typing.{form_in}
use Rattle.elab_rules.specs.cpp_tree.declared.faults.ElabFault.{ElabFault}
use Rattle.elab_rules.specs.cpp_tree.declared.faults.IllRule.TheVariants.{OutOfProfile, BadDeclaration, Redeclared, Narrowing, Incomplete, NotConstant, AbstractObject}
use Rattle.elab_rules.specs.cpp_tree.declared.program.FuncKind.{FuncKind}
use Rattle.elab_rules.specs.cpp_tree.declared.program.FuncKind.TheVariants.{Plain, Constructor, Destructor}
use Rattle.elab_rules.specs.elab_ctx.Ctx.{Ctx}
use Rattle.elab_rules.specs.elab_ctx.Steps.{and_then, check, expect, each_of, at_of, spelling}
use Rattle.elab_rules.specs.Initialising.{func_at, class_number, is_constructor, places_from}
use Rattle.elab_rules.specs.Objects.{element_of, traits_at}
use Rattle.elab_rules.specs.Operators.{is_complete}
use Rattle.elab_rules.specs.Sizes.{typ_sized}
use Rattle.elab_rules.specs.Types.{Declared, has_auto, type_named, is_bounded, is_abstract_type}
use Rattle.elab_rules.specs.Expressions.{expression_of, chosen_operand, type_of_specifiers, type_id_of, declared_by}
use Rattle.elab_rules.specs.Statements.{State, is_own_name, name_of, bound_by_initialiser, is_trivial}
use Rattle.elab_rules.specs.Functions.{Storage, Header, Placed, no_storage, with_specifier, new_function, is_same_function, first_from, agrees, is_function_entity}
use Rattle.elab_rules.specs.Functions.{function_named, name_declared, declared_in, main_fits, may_be_c, dynamic_fits, header_sized, function_declared}
use Rattle.elab_rules.specs.Globals.{Enumerating, PlacedGlobal, global_agrees, global_again, global_named, global_declarable, is_trivial_class, global_from, cells_of}
use Rattle.elab_rules.specs.Globals.{global_defined, is_definition, global_declared_as, global_declared, type_agrees, with_type, alias_declared}
use Rattle.elab_rules.specs.Expressions.{scope_name}
use Rattle.elab_rules.specs.Globals.{named_enumerator, enumerator_made, enumerator_value, enumerator_declared, enumerators_declared, enum_with, enum_declared}
use Rattle.elab_rules.specs.Classes.{Begun, Home, Members, Marks, Definition, Started, Specials, begun_by, begun_in, begun, member_form, has_member, has_function}
use Rattle.elab_rules.specs.Classes.{data_member, overridden, overrides_well, marks_fit, definition_sized, member_function, header_in, within_bounds, declarator_among, method_of}
use Rattle.elab_rules.specs.Classes.{declared_method, marks_from, no_marks, has_equal, no_function_words, has_initialiser, declared_member, member_named, member_declarator}
use Rattle.elab_rules.specs.Classes.{member_declarators, started_from, definition_between, last_token, body_in, member_of, members_of, all_held, has_no_pointer, may_copy}
use Rattle.elab_rules.specs.Classes.{base_default, members_default, is_trivial_default, with_destructor, with_copy, with_default, written_copy, is_destructor_of, is_no_place, completed}
use Rattle.elab_rules.specs.Classes.{closed_class}
use Rattle.elab_rules.specs.Members.{declared_only, members_among}
use Rattle.elab_rules.specs.Units.{header_of, declared_of_type, file_declarator, file_declarators, file_declaration, alias_of}
use Rattle.elab_fits.specs.Standing.{On}
use Rattle.elab_fits.proofs.Steps.{answered, skip, bind}
use Rattle.elab_fits_units.specs.Steps.{IsClosed}

pub record Quiet (a b : State) : Type 0 where
  pub bodies : b.bodies ≡ a.bodies
  pub defaults : b.ctx.defaults ≡ a.ctx.defaults
  pub closures : b.ctx.closures ≡ a.ctx.closures

still : (a : State) → Quiet a a
still a = record { bodies = refl; defaults = refl; closures = refl }

quiet_then : (a b c : State) → Quiet a b → Quiet b c → Quiet a c
quiet_then a b c g h = record { bodies = h.bodies ∙ g.bodies; defaults = h.defaults ∙ g.defaults; closures = h.closures ∙ g.closures }

behind : {A : Type 0} (a b : State) (p : A → State) (r : Result A ElabFault) → Quiet a b → On (λ x. Quiet b (p x)) r → On (λ x. Quiet a (p x)) r
behind a b p (Ok x) g h = quiet_then a b (p x) g h
behind a b p (Err e) g h = tt

each_quiet : {R : Type 0} (P : R → Type 0) (f : R → syntax.Tree → Result R ElabFault) (r : R) (ts : syntax.Trees) → P r
    → ((x : R) (t : syntax.Tree) → P x → On P (f x t)) → On P (each_of f r ts)
each_quiet P f r syntax.none h k = h
each_quiet P f r (syntax.more t ts) h k = bind P P (f r t) _ (k r t h) (λ x i. each_quiet P f x ts i k)

-- Functions

pub record Named (c d : Ctx) : Type 0 where
  pub defaults : d.defaults ≡ c.defaults
  pub closures : d.closures ≡ c.closures

abbrev pub Placing : Ctx → Placed → Type 0
Placing c p = Named c p.ctx

named_only : (c : Ctx) (at : At) (name : List ℕ) (o : Option Entity) → On (Named c) (function_named c at name o)
named_only c at name None = record { defaults = refl; closures = refl }
named_only c at name (Some x) = skip (Named c) (check at Redeclared (is_function_entity x.kind)) _ (λ y. record { defaults = refl; closures = refl })

name_only : (c : Ctx) (h : Header) (o : Option ℕ) → On (Named c) (name_declared c h o)
name_only c h (Some n) = record { defaults = refl; closures = refl }
name_only c h None = named_only c h.at h.name (innermost_of c.scopes h.name)

in_quiet : (c : Ctx) (h : Header) (defines : Bool) (o : Option ℕ) → On (Placing c) (declared_in c h defines o)
in_quiet c h defines (Some i) = skip (Placing c) (agrees h (func_at c.funcs i) defines) _ (λ y. record { defaults = refl; closures = refl })
in_quiet c h defines None = bind (Named c) (Placing c) (name_declared c h h.class) _ (name_only c h h.class)
    (λ d x. record { defaults = x.defaults; closures = x.closures })

pub function_quiet : (c : Ctx) (h : Header) (defines : Bool) → On (Placing c) (function_declared c h defines)
function_quiet c h defines = skip (Placing c) (main_fits h) _
    (λ a. skip (Placing c) (check h.at BadDeclaration (not h.qualifiers.is_const)) _
    (λ b. skip (Placing c) (dynamic_fits h) _ (λ d. skip (Placing c) (check h.at OutOfProfile (not h.storage.is_c || may_be_c h)) _
    (λ e. skip (Placing c) (header_sized c h) _ (λ z. in_quiet c h defines (first_from (is_same_function h) 0 c.funcs))))))

-- Variables

abbrev PlacedAt : State → PlacedGlobal → Type 0
PlacedAt st p = Quiet st p.state

again_quiet : (st : State) (at : At) (x : Storage) (t : Typ) (defines : Bool) (kind : EntityKind) (g : ℕ)
    → On (PlacedAt st) (global_again st at x t defines kind g)
again_quiet st at x t defines entities.Global g =
    skip (PlacedAt st) (expect at Redeclared (slice_get st.work.globals g)) _
    (λ old. skip (PlacedAt st) (global_agrees at x t defines old) _ (λ y. still st))
again_quiet st at x t defines kind g = tt

named_quiet : (st : State) (at : At) (name : List ℕ) (x : Storage) (t : Typ) (defines : Bool) (o : Option Entity)
    → On (PlacedAt st) (global_named st at name x t defines o)
named_quiet st at name x t defines (Some z) = again_quiet st at x t defines z.kind z.id
named_quiet st at name x t defines None = record { bodies = refl; defaults = refl; closures = refl }

defined_quiet : (s : List Lexeme) (at : At) (t : Typ) (init : syntax.Trees) (p : PlacedGlobal) → On (Quiet p.state) (global_defined s at t init p)
defined_quiet s at t init p = skip (Quiet p.state) (check at Incomplete (is_complete p.state.ctx (held t))) _
    (λ x. skip (Quiet p.state) (check at NotConstant (is_trivial_class p.state.ctx (class_number (element_of t)))) _
    (λ y. skip (Quiet p.state) (global_from s p.state t at p.place init) _
    (λ m. skip (Quiet p.state) (cells_of p.state.ctx m.work m.tree) _ (λ cells. record { bodies = refl; defaults = refl; closures = refl }))))

as_quiet : (s : List Lexeme) (b : Bool) (at : At) (t : Typ) (init : syntax.Trees) (p : PlacedGlobal) → On (Quiet p.state) (global_declared_as s b at t init p)
as_quiet s true at t init p = defined_quiet s at t init p
as_quiet s false at t init p = still p.state

global_quiet : (s : List Lexeme) (st : State) (x : Storage) (at : At) (name : List ℕ) (t : Typ) (init : syntax.Trees)
    → On (Quiet st) (global_declared s st x at name t init)
global_quiet s st x at name t init = skip (Quiet st) (global_declarable st at name t) _
    (λ y. bind (PlacedAt st) (Quiet st) (global_named st at name x t (is_definition x init) (innermost_of st.ctx.scopes name)) _
    (named_quiet st at name x t (is_definition x init) (innermost_of st.ctx.scopes name))
    (λ p i. behind st p.state (λ (z : State). z) (global_declared_as s (is_definition x init) at t init p) i (as_quiet s (is_definition x init) at t init p)))

typed_quiet : (s : List Lexeme) (st : State) (x : Storage) (at : At) (d : Declared) (init : syntax.Trees) (f : Form)
    → On (Quiet st) (declared_of_type s st x at d init f)
typed_quiet s st x at d syntax.none (func sig) = bind (Placing st.ctx) (Quiet st) (function_declared st.ctx (header_of s at x d sig) false) _
    (function_quiet st.ctx (header_of s at x d sig) false) (λ p i. record { bodies = refl; defaults = i.defaults; closures = i.closures })
typed_quiet s st x at d (syntax.more i is) (func sig) = tt
typed_quiet s st x at d init f = global_quiet s st x at (name_of s d.name) (bound_by_initialiser s d.typ init) init

declarator_quiet : (s : List Lexeme) (x : Storage) (t : Typ) (st : State) (d : syntax.Tree) → On (Quiet st) (file_declarator s x t st d)
declarator_quiet s x t st (syntax.node k.InitDeclarator p token (syntax.more d init)) =
    skip (Quiet st) (declared_by s st.ctx st.work (at_of p) t d) _
    (λ r. skip (Quiet st) (check (at_of p) BadDeclaration (is_own_name r)) _ (λ z. typed_quiet s st x (at_of p) r init (form_in r.typ)))
declarator_quiet s x t st d = tt

declarators_quiet : (s : List Lexeme) (x : Storage) (t : Typ) (st : State) (ts : syntax.Trees) → On (Quiet st) (file_declarators s x t st ts)
declarators_quiet s x t st ts = each_quiet (Quiet st) (file_declarator s x t) st ts (still st)
    (λ y d h. behind st y (λ (z : State). z) (file_declarator s x t y d) h (declarator_quiet s x t y d))

pub declaration_quiet : (s : List Lexeme) (st : State) (x : Storage) (at : At) (ts : syntax.Trees) → On (Quiet st) (file_declaration s st x at ts)
declaration_quiet s st x at (syntax.more (syntax.node k.Attribute p token kids) ts) = declaration_quiet s st x at ts
declaration_quiet s st x at (syntax.more (syntax.node k.DeclSpecifier p (Some t) kids) ts) =
    declaration_quiet s st (with_specifier x (spelling s t)) at ts
declaration_quiet s st x at (syntax.more (syntax.node k.TypeSpecifierSeq p token kids) ts) =
    skip (Quiet st) (type_of_specifiers s st.ctx st.work (syntax.node k.TypeSpecifierSeq p token kids)) _ (λ t. declarators_quiet s x t st ts)
declaration_quiet s st x at ts = tt

-- Names of types

alias_quiet : (st : State) (at : At) (name : List ℕ) (t : Typ) → On (Quiet st) (alias_declared st at name t)
alias_quiet st at name t = skip (Quiet st) (check at OutOfProfile (not (has_auto t))) _
    (λ x. skip (Quiet st) (typ_sized st.ctx.classes at t) _ (λ z. skip (Quiet st) (type_agrees at t (type_named name st.ctx.types)) _
    (λ y. record { bodies = refl; defaults = refl; closures = refl })))

pub aliases_quiet : (s : List Lexeme) (st : State) (at : At) (name : List ℕ) (ts : syntax.Trees) → On (Quiet st) (alias_of s st at name ts)
aliases_quiet s st at name (syntax.more t ts) = skip (Quiet st) (type_id_of s st.ctx st.work t) _ (λ u. alias_quiet st at name u)
aliases_quiet s st at name syntax.none = tt

-- Enums

abbrev Enumerates : State → Enumerating → Type 0
Enumerates st x = Quiet st x.state

name_quiet : (a : State) (b : Bool) (st : State) (x name : List ℕ) (w : ℕ) → Quiet a st → Quiet a (named_enumerator b st x name w)
name_quiet a true st x name w e = record { bodies = e.bodies; defaults = e.defaults; closures = e.closures }
name_quiet a false st x name w e = record { bodies = e.bodies; defaults = e.defaults; closures = e.closures }

one_quiet : (a : State) (scoped : Bool) (x : List ℕ) (st : State) (at p : At) (name : List ℕ) (v : ℤ) → Quiet a st
    → On (Enumerates a) (enumerator_made scoped x st at p name v)
one_quiet a scoped x st at p name v e = skip (Enumerates a) (check p Narrowing (is_in_range Int v)) _
    (λ y. skip (Enumerates a) (check at Redeclared (is_none (innermost_of st.ctx.scopes (if scoped then scope_name x name else name)))) _
    (λ z. name_quiet a scoped st x name _ e))

enumerator_quiet : (a : State) (s : List Lexeme) (scoped : Bool) (name : List ℕ) (x : Enumerating) (t : syntax.Tree) → Enumerates a x
    → On (Enumerates a) (enumerator_declared s scoped name x t)
enumerator_quiet a s scoped name x (syntax.node kind p (Some t) syntax.none) e = one_quiet a scoped name x.state (at_of p) (at_of p) (spelling s t) x.next e
enumerator_quiet a s scoped name x (syntax.node kind p (Some t) (syntax.more v ts)) e =
    skip (Enumerates a) (and_then (expression_of s x.state.ctx x.state.work v) (chosen_operand x.state.ctx)) _
    (λ o. skip (Enumerates a) (enumerator_value (at_of p) x.state.work o.operand) _
    (λ n. one_quiet a scoped name x.state (at_of p) o.operand.at (spelling s t) n e))
enumerator_quiet a s scoped name x (syntax.node kind p None kids) e = tt

enumerators_quiet : (a : State) (s : List Lexeme) (scoped : Bool) (name : List ℕ) (x : Enumerating) (ts : syntax.Trees) → Enumerates a x
    → On (Enumerates a) (enumerators_declared s scoped name x ts)
enumerators_quiet a s scoped name x syntax.none e = e
enumerators_quiet a s scoped name x (syntax.more t ts) e =
    bind (Enumerates a) (Enumerates a) (enumerator_declared s scoped name x t) _ (enumerator_quiet a s scoped name x t e)
    (λ y i. enumerators_quiet a s scoped name y ts i)

with_quiet : (s : List Lexeme) (st : State) (at : At) (name : List ℕ) (scoped : Bool) (ts : syntax.Trees) → On (Quiet st) (enum_with s st at name scoped ts)
with_quiet s st at name scoped ts =
    let x : Enumerating = record { state = record st { ctx = with_type st.ctx name (plain (enum name scoped)) }; next = pos 0 } in
    skip (Quiet st) (check at Redeclared (is_none (type_named name st.ctx.types))) _
    (λ y. bind (Enumerates st) (Quiet st) (enumerators_declared s scoped name x ts) _
    (enumerators_quiet st s scoped name x ts (record { bodies = refl; defaults = refl; closures = refl }))
    (λ z i. record { bodies = i.bodies; defaults = i.defaults; closures = i.closures }))

pub enum_quiet : (s : List Lexeme) (st : State) (at : At) (name : List ℕ) (ts : syntax.Trees) → On (Quiet st) (enum_declared s st at name ts)
enum_quiet s st at name (syntax.more (syntax.node k.ClassKey p token kids) ts) = with_quiet s st at name true ts
enum_quiet s st at name ts = with_quiet s st at name false ts

-- Classes

abbrev pub Begins : Ctx → Begun → Type 0
Begins c b = Named c b.ctx

begun_typ : (c : Ctx) (at : At) (defines : Bool) (t : Typ) → On (Begins c) (begun_by c at defines t)
begun_typ c at defines (typ (class n) false false) = skip (Begins c) (check at Redeclared (not defines || is_none (completion_of c.classes n))) _
    (λ h. record { defaults = refl; closures = refl })
begun_typ c at defines t = tt

begun_name : (c : Ctx) (at : At) (name : List ℕ) (defines : Bool) (o : Option Typ) → On (Begins c) (begun_in c at name defines o)
begun_name c at name defines (Some t) = begun_typ c at defines t
begun_name c at name defines None = record { defaults = refl; closures = refl }

pub begun_quiet : (c : Ctx) (at : At) (name : List ℕ) (defines : Bool) → On (Begins c) (begun c at name defines)
begun_quiet c at name defines = begun_name c at name defines (type_named name c.types)

pub only_quiet : (st : State) (at : At) (name : List ℕ) → On (Quiet st) (declared_only st at name)
only_quiet st at name = bind (Begins st.ctx) (Quiet st) (begun st.ctx at name false) _ (begun_quiet st.ctx at name false)
    (λ b h. record { bodies = refl; defaults = h.defaults; closures = h.closures })

abbrev Read : State → Members → Type 0
Read st r = Quiet st r.state

data_read : (st : State) (n : ℕ) (r : Members) (at : At) (name : List ℕ) (t : Typ) (b : Bool) → Read st r → On (Read st) (data_member n r at name t b)
data_read st n r at name t b e = skip (Read st) (member_form at (form_in t)) _
    (λ a. skip (Read st) (check at OutOfProfile (not (has_auto t))) _
    (λ b2. skip (Read st) (check at BadDeclaration (is_bounded t)) _
    (λ d. skip (Read st) (check at Incomplete (is_complete r.state.ctx (held t))) _
    (λ e2. skip (Read st) (check at AbstractObject (not (is_abstract_type r.state.ctx (element_of t)))) _
    (λ f. skip (Read st) (typ_sized r.state.ctx.classes at t) _
    (λ h. skip (Read st) (check at Redeclared (not (has_member name r.members) && not (has_function n name r.state.ctx.funcs))) _
    (λ g. record { bodies = e.bodies; defaults = e.defaults; closures = e.closures })))))))

function_read : (st : State) (home : Home) (r : Members) (h : Header) (m : Marks) (d : Option Definition) → Read st r → On (Read st) (member_function home r h m d)
function_read st home r h m d e = skip (Read st) (check h.at Redeclared
    (is_none (first_from (is_same_function h) 0 r.state.ctx.funcs) && not (has_member h.name r.members))) _
    (λ y. skip (Read st) (overrides_well h (overridden r.state.ctx home.base (new_function h).declared)) _
    (λ z. skip (Read st) (marks_fit h m (is_some (overridden r.state.ctx home.base (new_function h).declared))
    (h.storage.is_virtual || is_some (overridden r.state.ctx home.base (new_function h).declared))) _
    (λ x. skip (Read st) (header_sized r.state.ctx h) _ (λ u. skip (Read st) (definition_sized h.at d) _
    (λ v. record { bodies = e.bodies; defaults = e.defaults; closures = e.closures })))))

method_read : (st : State) (s : List Lexeme) (home : Home) (r : Members) (kind : FuncKind) (at : At) (d : Option Definition) (kids : syntax.Trees) → Read st r
    → On (Read st) (declared_method s home r kind at d kids)
method_read st s home r kind at d kids e = skip (Read st) (within_bounds (declarator_among s home.number r kids)) _
    (λ w. skip (Read st) (method_of s r.state home.number home.name at kind kids) _
    (λ m. function_read st home r m.header (marks_from s no_marks m.rest) d e))

declared_read : (st : State) (home : Home) (r : Members) (at : At) (x : Storage) (m : Marks) (rest : syntax.Trees) (name : List ℕ) (d : Declared) (f : Form)
    → Read st r → On (Read st) (declared_member home r at x m rest name d f)
declared_read st home r at x m rest name d (func sig) e =
    skip (Read st) (check at BadDeclaration (not (has_equal rest))) _
    (λ y. skip (Read st) (header_in home.number x Plain at name d (func sig)) _ (λ h. function_read st home r h m None e))
declared_read st home r at x m rest name d f e = skip (Read st) (check at BadDeclaration (no_function_words x m)) _
    (λ y. data_read st home.number r at name d.typ (has_initialiser rest) e)

declarator_read : (st : State) (s : List Lexeme) (home : Home) (x : Storage) (t : Typ) (r : Members) (d : syntax.Tree) → Read st r
    → On (Read st) (member_declarator s home x t r d)
declarator_read st s home x t r (syntax.node kind p token (syntax.more d rest)) e =
    skip (Read st) (within_bounds (member_named s home.number r d)) _
    (λ w. skip (Read st) (declared_by s r.state.ctx r.state.work (at_of p) t d) _
    (λ y. skip (Read st) (check (at_of p) BadDeclaration (is_own_name y)) _
    (λ z. declared_read st home r (at_of p) x (marks_from s no_marks rest) rest (name_of s y.name) y (form_in y.typ) e)))
declarator_read st s home x t r (syntax.node kind p token syntax.none) e = tt

declarators_read : (st : State) (s : List Lexeme) (home : Home) (r : Members) (at : At) (x : Started) (ds : syntax.Trees) → Read st r
    → On (Read st) (member_declarators s home r at x ds)
declarators_read st s home r at x (syntax.more base ds) e =
    skip (Read st) (type_of_specifiers s r.state.ctx r.state.work base) _
    (λ t. each_quiet (Read st) (member_declarator s home x.storage t) r ds e (λ y d i. declarator_read st s home x.storage t y d i))
declarators_read st s home r at x syntax.none e = tt

member_read : (st : State) (s : List Lexeme) (home : Home) (r : Members) (t : syntax.Tree) → Read st r → On (Read st) (member_of s home r t)
member_read st s home r (syntax.node k.AccessLabel p token kids) e = e
member_read st s home r (syntax.node k.MemberDeclaration p token kids) e =
    declarators_read st s home r (at_of p) (started_from s no_storage kids) (started_from s no_storage kids).rest e
member_read st s home r (syntax.node k.FunctionDefinition p (Some t) kids) e =
    method_read st s home r Plain (at_of p) (Some (definition_between s t (last_token (body_in kids)))) kids e
member_read st s home r (syntax.node k.ConstructorDeclaration p token kids) e = method_read st s home r Constructor (at_of p) None kids e
member_read st s home r (syntax.node k.ConstructorDefinition p (Some t) kids) e =
    method_read st s home r Constructor (at_of p) (Some (definition_between s t (last_token (body_in kids)))) kids e
member_read st s home r (syntax.node k.DestructorDeclaration p token kids) e = method_read st s home r Destructor (at_of p) None kids e
member_read st s home r (syntax.node k.DestructorDefinition p (Some t) kids) e =
    method_read st s home r Destructor (at_of p) (Some (definition_between s t (last_token (body_in kids)))) kids e
member_read st s home r t e = tt

-- the brace

abbrev Specially : Ctx → Specials → Type 0
Specially c x = Named c x.ctx

if_special : (c : Ctx) (b : Bool) (x y : Specials) → Specially c x → Specially c y → Specially c (if b then x else y)
if_special c true x y h k = h
if_special c false x y h k = k

same : (c : Ctx) → Named c c
same c = record { defaults = refl; closures = refl }

destructor_same : (c : Ctx) (home : Home) (at : At) (ms : List Member) (o : Option ℕ) → Specially c (with_destructor c home at ms o)
destructor_same c home at ms (Some i) = same c
destructor_same c home at ms None = if_special c (all_held (λ n. is_trivial (traits_at c n).destructor) home.base ms) _ _ (same c)
    (record { defaults = refl; closures = refl })

copy_same : (c : Ctx) (home : Home) (at : At) (ms : List Member) (o : Option ℕ) → Specially c (with_copy c home at ms o)
copy_same c home at ms (Some i) = same c
copy_same c home at ms None = if_special c (not (may_copy c home.base ms)) _ _ (same c)
    (if_special c (has_no_pointer c home && all_held (λ n. is_trivial (traits_at c n).copy) home.base ms) _ _ (same c) (record { defaults = refl; closures = refl }))

default_same : (c : Ctx) (home : Home) (at : At) (ms : List Member) (initialised : List ℕ) (b : Bool)
    → Specially c (with_default c home at ms initialised b)
default_same c home at ms initialised false = same c
default_same c home at ms initialised true = if_special c (not (base_default c home.base && members_default c initialised 0 ms)) _ _ (same c)
    (if_special c (is_trivial_default c home ms initialised) _ _ (same c) (record { defaults = refl; closures = refl }))

completed_same : (c : Ctx) (home : Home) (at : At) (ms : List Member) (initialised : List ℕ) → Named c (completed c home at ms initialised)
completed_same c home at ms initialised =
    let d : Specials = with_destructor c home at ms (first_from (is_destructor_of home.number) 0 c.funcs) in
    let x : Specials = with_copy d.ctx home at ms (written_copy d.ctx home) in
    let e = destructor_same c home at ms (first_from (is_destructor_of home.number) 0 c.funcs) in
    let f = copy_same d.ctx home at ms (written_copy d.ctx home) in
    let g = default_same x.ctx home at ms initialised (is_no_place (places_from (is_constructor home.number) 0 c.funcs)) in
    record { defaults = g.defaults ∙ f.defaults ∙ e.defaults; closures = g.closures ∙ f.closures ∙ e.closures }

if_closed : (P : Ctx → Type 0) (c : Ctx) (e : ElabFault) (t : Result Bool ElabFault) (b : Bool) → P c → On P (and_then t (λ z. if b then Ok c else Err e))
if_closed P c e (Ok z) true h = h
if_closed P c e (Ok z) false h = tt
if_closed P c e (Err f) b h = tt

pub class_quiet : (s : List Lexeme) (st : State) (at : At) (name : List ℕ) (kids : syntax.Trees) (home : Home) (r : Members) (c : Ctx)
    → IsClosed s st at name kids home r c → Quiet st (record r.state { ctx = c })
class_quiet s st at name kids home r c h =
    let x : State = record st { ctx = h.start.ctx } in
    let b = answered (Begins st.ctx) (begun st.ctx at name true) h.start (begun_quiet st.ctx at name true) h.begins in
    let m = answered (Read st) (members_of s home (record { state = x; members = []; initialised = [] }) (members_among kids)) r
    (each_quiet (Read st) (member_of s home) (record { state = x; members = []; initialised = [] }) (members_among kids)
    (record { bodies = refl; defaults = b.defaults; closures = b.closures }) (λ y t i. member_read st s home y t i)) h.read in
    let d : Ctx = completed r.state.ctx home at r.members r.initialised in
    let n = answered (Named r.state.ctx) (closed_class at home.number d) c (if_closed (Named r.state.ctx) d _ _ _ (completed_same r.state.ctx home at r.members r.initialised)) h.closed in
    record { bodies = m.bodies; defaults = n.defaults ∙ m.defaults; closures = n.closures ∙ m.closures }
