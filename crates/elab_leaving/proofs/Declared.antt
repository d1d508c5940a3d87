-- Behind a declaration at file scope no lambdas of a full-expression are at hand.
use Rattle.std.proofs.Common.{◌≡◌, ℕ, Bool, true, false, List, [], Option, Some, None}
use Rattle.std.specs.Prelude.{ℤ, pos, if◌then◌else◌, not, is_none, pos, slice_get, ◌||◌}
use Rattle.elab_rules.specs.cpp_types.Typ.{Typ, Form, func, enum}
use Rattle.elab_rules.specs.cpp_types.declared.classes.At.{At}
use Rattle.elab_rules.specs.cpp_lex.Tokens.{Lexeme}
use Rattle.elab_rules.specs.cpp_ast.declared.kinds.NodeKind.TheVariants as k
use Rattle.elab_rules.specs.cpp_ast.Trees as syntax
use Rattle.elab_rules.specs.cpp_names.declared.entity.Entity.{Entity}
use Rattle.elab_rules.specs.cpp_names.declared.entity.EntityKind.{EntityKind}
use Rattle.elab_rules.specs.cpp_names.declared.entity.EntityKind.TheVariants as entities
use Rattle.elab_rules.specs.cpp_tree.Notation.{plain}
use Rattle.elab_rules.specs.elab_ctx.Ctx.{Ctx}
use Rattle.elab_rules.specs.elab_ctx.Steps.{and_then, check, at_of, spelling, expect}
use Rattle.elab_rules.specs.Types.{Declared, has_auto, type_named}
use Rattle.elab_rules.specs.Statements.{State, name_of, bound_by_initialiser, is_own_name}
use Rattle.elab_rules.specs.Functions.{Storage, Header, Placed, with_specifier, function_named, name_declared, declared_in, function_declared, agrees}
use Rattle.elab_rules.specs.Functions.{dynamic_fits, first_from, header_sized, is_function_entity, is_same_function, main_fits, may_be_c}
use Rattle.elab_rules.specs.Globals.{PlacedGlobal, Enumerating, global_again, global_named, global_defined, global_declared_as, global_declared, alias_declared}
use Rattle.elab_rules.specs.Globals.{named_enumerator, enumerator_made, enumerator_declared, enumerators_declared, enum_with, enum_declared, with_type}
use Rattle.elab_rules.specs.Globals.{cells_of, enumerator_value, global_agrees, global_declarable, global_from, is_definition, is_trivial_class, type_agrees}
use Rattle.elab_rules.specs.Units.{header_of, declared_of_type, file_declarator, file_declarators, file_declaration, alias_of}
use Rattle.elab_rules.specs.Members.{declared_only}
use Rattle.elab_leaving.specs.Kept.{On}
use Rattle.elab_leaving.proofs.Keeping.{bind, skip}
use Rattle.elab_leaving.proofs.Answers.{each_holds}
use Rattle.elab_leaving.proofs.Defaults.{Settled}
use Rattle.elab_leaving.proofs.Classes.{begun_settled}
use Rattle.elab_rules.specs.cpp_tree.declared.faults.IllRule.TheVariants.{BadDeclaration, Incomplete, Narrowing, NotConstant, OutOfProfile, Redeclared}
use Rattle.elab_rules.specs.Classes.{Begun, begun}
use Rattle.elab_rules.specs.tx_ints.declared.kinds.IntKind.TheVariants.{Int}
use Rattle.elab_rules.specs.Expressions.{chosen_operand, declared_by, expression_of, scope_name, type_id_of, type_of_specifiers}
use Rattle.elab_rules.specs.Initialising.{class_number, func_at}
use Rattle.elab_rules.specs.Objects.{element_of}
use Rattle.elab_rules.specs.cpp_tree.Typing.{form_in}
use Rattle.elab_rules.specs.cpp_types.Class.{held}
use Rattle.elab_rules.specs.cpp_names.Names.{innermost_of}
use Rattle.elab_rules.specs.Operators.{is_complete}
use Rattle.elab_rules.specs.tx_ints.Integers.{is_in_range}
use Rattle.elab_rules.specs.Sizes.{typ_sized}
use Rattle.elab_rules.specs.tx_ints.Words.{word_of}

abbrev pub Placing : Placed → Type 0
Placing p = p.ctx.closures ≡ []

abbrev Clear : Ctx → Type 0
Clear c = c.closures ≡ []

-- Functions

named_clear : (c : Ctx) (at : At) (name : List ℕ) (o : Option Entity) → Clear c → On Clear (function_named c at name o)
named_clear c at name None e = e
named_clear c at name (Some x) e = skip Clear (check at Redeclared (is_function_entity x.kind)) _ (λ y. e)

name_clear : (c : Ctx) (h : Header) (o : Option ℕ) → Clear c → On Clear (name_declared c h o)
name_clear c h (Some n) e = e
name_clear c h None e = named_clear c h.at h.name (innermost_of c.scopes h.name) e

in_clear : (c : Ctx) (h : Header) (defines : Bool) (o : Option ℕ) → Clear c → On Placing (declared_in c h defines o)
in_clear c h defines (Some i) e = skip Placing (agrees h (func_at c.funcs i) defines) _ (λ y. e)
in_clear c h defines None e = bind Clear Placing (name_declared c h h.class) _ (name_clear c h h.class e) (λ d i. i)

pub function_clear : (c : Ctx) (h : Header) (defines : Bool) → Clear c → On Placing (function_declared c h defines)
function_clear c h defines e = skip Placing (main_fits h) _
    (λ a. skip Placing (check h.at BadDeclaration (not h.qualifiers.is_const)) _
    (λ b. skip Placing (dynamic_fits h) _ (λ d. skip Placing (check h.at OutOfProfile (not h.storage.is_c || may_be_c h)) _
    (λ e2. skip Placing (header_sized c h) _ (λ z. in_clear c h defines (first_from (is_same_function h) 0 c.funcs) e)))))

-- Variables

abbrev PlacedSettled : PlacedGlobal → Type 0
PlacedSettled p = Settled p.state

again_settled : (st : State) (at : At) (x : Storage) (t : Typ) (defines : Bool) (kind : EntityKind) (g : ℕ) → Settled st
    → On PlacedSettled (global_again st at x t defines kind g)
again_settled st at x t defines entities.Global g e =
    skip PlacedSettled (expect at Redeclared (slice_get st.work.globals g)) _ (λ old. skip PlacedSettled (global_agrees at x t defines old) _ (λ y. e))
again_settled st at x t defines kind g e = tt

named_settled : (st : State) (at : At) (name : List ℕ) (x : Storage) (t : Typ) (defines : Bool) (o : Option Entity) → Settled st
    → On PlacedSettled (global_named st at name x t defines o)
named_settled st at name x t defines (Some z) e = again_settled st at x t defines z.kind z.id e
named_settled st at name x t defines None e = e

defined_settled : (s : List Lexeme) (at : At) (t : Typ) (init : syntax.Trees) (p : PlacedGlobal) → PlacedSettled p → On Settled (global_defined s at t init p)
defined_settled s at t init p e = skip Settled (check at Incomplete (is_complete p.state.ctx (held t))) _
    (λ x. skip Settled (check at NotConstant (is_trivial_class p.state.ctx (class_number (element_of t)))) _
    (λ y. skip Settled (global_from s p.state t at p.place init) _ (λ m. skip Settled (cells_of p.state.ctx m.work m.tree) _ (λ cells. e))))

as_settled : (s : List Lexeme) (b : Bool) (at : At) (t : Typ) (init : syntax.Trees) (p : PlacedGlobal) → PlacedSettled p
    → On Settled (global_declared_as s b at t init p)
as_settled s true at t init p e = defined_settled s at t init p e
as_settled s false at t init p e = e

global_settled : (s : List Lexeme) (st : State) (x : Storage) (at : At) (name : List ℕ) (t : Typ) (init : syntax.Trees) → Settled st
    → On Settled (global_declared s st x at name t init)
global_settled s st x at name t init e = skip Settled (global_declarable st at name t) _
    (λ y. bind PlacedSettled Settled (global_named st at name x t (is_definition x init) (innermost_of st.ctx.scopes name)) _
    (named_settled st at name x t (is_definition x init) (innermost_of st.ctx.scopes name) e) (λ p i. as_settled s (is_definition x init) at t init p i))

typed_settled : (s : List Lexeme) (st : State) (x : Storage) (at : At) (d : Declared) (init : syntax.Trees) (f : Form) → Settled st
    → On Settled (declared_of_type s st x at d init f)
typed_settled s st x at d syntax.none (func sig) e = bind Placing Settled (function_declared st.ctx (header_of s at x d sig) false) _
    (function_clear st.ctx (header_of s at x d sig) false e) (λ p i. i)
typed_settled s st x at d (syntax.more i is) (func sig) e = tt
typed_settled s st x at d init f e = global_settled s st x at (name_of s d.name) (bound_by_initialiser s d.typ init) init e

declarator_settled : (s : List Lexeme) (x : Storage) (t : Typ) (st : State) (d : syntax.Tree) → Settled st → On Settled (file_declarator s x t st d)
declarator_settled s x t st (syntax.node k.InitDeclarator p token (syntax.more d init)) e =
    skip Settled (declared_by s st.ctx st.work (at_of p) t d) _
    (λ r. skip Settled (check (at_of p) BadDeclaration (is_own_name r)) _ (λ z. typed_settled s st x (at_of p) r init (form_in r.typ) e))
declarator_settled s x t st d e = tt

declarators_settled : (s : List Lexeme) (x : Storage) (t : Typ) (st : State) (ts : syntax.Trees) → Settled st → On Settled (file_declarators s x t st ts)
declarators_settled s x t st ts e = each_holds Settled (file_declarator s x t) st ts e (λ y d i. declarator_settled s x t y d i)

pub declaration_settled : (s : List Lexeme) (st : State) (x : Storage) (at : At) (ts : syntax.Trees) → Settled st → On Settled (file_declaration s st x at ts)
declaration_settled s st x at (syntax.more (syntax.node k.Attribute p token kids) ts) e = declaration_settled s st x at ts e
declaration_settled s st x at (syntax.more (syntax.node k.DeclSpecifier p (Some t) kids) ts) e =
    declaration_settled s st (with_specifier x (spelling s t)) at ts e
declaration_settled s st x at (syntax.more (syntax.node k.TypeSpecifierSeq p token kids) ts) e =
    skip Settled (type_of_specifiers s st.ctx st.work (syntax.node k.TypeSpecifierSeq p token kids)) _ (λ t. declarators_settled s x t st ts e)
declaration_settled s st x at ts e = tt

-- Names of types

alias_settled : (st : State) (at : At) (name : List ℕ) (t : Typ) → Settled st → On Settled (alias_declared st at name t)
alias_settled st at name t e = skip Settled (check at OutOfProfile (not (has_auto t))) _
    (λ x. skip Settled (typ_sized st.ctx.classes at t) _ (λ z. skip Settled (type_agrees at t (type_named name st.ctx.types)) _ (λ y. e)))

pub aliases_settled : (s : List Lexeme) (st : State) (at : At) (name : List ℕ) (ts : syntax.Trees) → Settled st → On Settled (alias_of s st at name ts)
aliases_settled s st at name (syntax.more t ts) e = skip Settled (type_id_of s st.ctx st.work t) _ (λ u. alias_settled st at name u e)
aliases_settled s st at name syntax.none e = tt

abbrev Enumerates : Enumerating → Type 0
Enumerates x = Settled x.state

name_settled : (b : Bool) (st : State) (x name : List ℕ) (w : ℕ) → Settled st → Settled (named_enumerator b st x name w)
name_settled true st x name w e = e
name_settled false st x name w e = e

one_settled : (scoped : Bool) (x : List ℕ) (st : State) (at p : At) (name : List ℕ) (v : ℤ) → Settled st
    → On Enumerates (enumerator_made scoped x st at p name v)
one_settled scoped x st at p name v e = skip Enumerates (check p Narrowing (is_in_range Int v)) _
    (λ y. skip Enumerates (check at Redeclared (is_none (innermost_of st.ctx.scopes (if scoped then scope_name x name else name)))) _
    (λ z. name_settled scoped st x name (word_of v) e))

enumerator_settled : (s : List Lexeme) (scoped : Bool) (name : List ℕ) (x : Enumerating) (t : syntax.Tree) → Enumerates x
    → On Enumerates (enumerator_declared s scoped name x t)
enumerator_settled s scoped name x (syntax.node kind p (Some t) syntax.none) e = one_settled scoped name x.state (at_of p) (at_of p) (spelling s t) x.next e
enumerator_settled s scoped name x (syntax.node kind p (Some t) (syntax.more v ts)) e =
    skip Enumerates (and_then (expression_of s x.state.ctx x.state.work v) (chosen_operand x.state.ctx)) _
    (λ o. skip Enumerates (enumerator_value (at_of p) x.state.work o.operand) _
    (λ n. one_settled scoped name x.state (at_of p) o.operand.at (spelling s t) n e))
enumerator_settled s scoped name x (syntax.node kind p None kids) e = tt

enumerators_settled : (s : List Lexeme) (scoped : Bool) (name : List ℕ) (x : Enumerating) (ts : syntax.Trees) → Enumerates x
    → On Enumerates (enumerators_declared s scoped name x ts)
enumerators_settled s scoped name x syntax.none e = e
enumerators_settled s scoped name x (syntax.more t ts) e =
    bind Enumerates Enumerates (enumerator_declared s scoped name x t) _ (enumerator_settled s scoped name x t e)
    (λ y i. enumerators_settled s scoped name y ts i)

with_settled : (s : List Lexeme) (st : State) (at : At) (name : List ℕ) (scoped : Bool) (ts : syntax.Trees) → Settled st
    → On Settled (enum_with s st at name scoped ts)
with_settled s st at name scoped ts e =
    let x : Enumerating = record { state = record st { ctx = with_type st.ctx name (plain (enum name scoped)) }; next = pos 0 } in
    skip Settled (check at Redeclared (is_none (type_named name st.ctx.types))) _
    (λ y. bind Enumerates Settled (enumerators_declared s scoped name x ts) _ (enumerators_settled s scoped name x ts e) (λ z i. i))

pub enum_settled : (s : List Lexeme) (st : State) (at : At) (name : List ℕ) (ts : syntax.Trees) → Settled st → On Settled (enum_declared s st at name ts)
enum_settled s st at name (syntax.more (syntax.node k.ClassKey p token kids) ts) e = with_settled s st at name true ts e
enum_settled s st at name ts e = with_settled s st at name false ts e

-- Classes

pub class_declared_settled : (st : State) (at : At) (name : List ℕ) → Settled st → On Settled (declared_only st at name)
class_declared_settled st at name e = bind (λ (b : Begun). b.ctx.closures ≡ []) Settled (begun st.ctx at name false) _
    (begun_settled st.ctx at name false (type_named name st.ctx.types) e) (λ b i. i)
