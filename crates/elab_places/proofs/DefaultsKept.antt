-- Declarations leave the initialisers of members that own their places, and add such.
use Rattle.std.proofs.Common.{sym, subst, ℕ, ◌+◌, Bool, true, false, not, ◌&&◌, ◌||◌, List, length, Option, Some, None}
use Rattle.std.proofs.Common.{slice_get}
use Rattle.std.specs.List.{list_any}
use Rattle.elab_rules.specs.cpp_types.Typ.{Typ, Form, func}
use Rattle.elab_rules.specs.cpp_types.Class.{Member}
use Rattle.elab_rules.specs.cpp_types.declared.classes.At.{At}
use Rattle.elab_rules.specs.cpp_lex.Tokens.{Lexeme}
use Rattle.elab_rules.specs.cpp_ast.declared.kinds.NodeKind.TheVariants as k
use Rattle.elab_rules.specs.cpp_ast.Trees as syntax
use Rattle.elab_rules.specs.cpp_tree.declared.program.FuncKind.{FuncKind}
use Rattle.elab_rules.specs.cpp_tree.declared.program.FuncKind.TheVariants.{Plain, Constructor, Destructor}
use Rattle.elab_rules.specs.cpp_tree.declared.faults.IllRule.TheVariants.{Redeclared, TypeDiffers, BadDeclaration, OutOfProfile, NoMember}
use Rattle.elab_rules.specs.cpp_names.Names.{innermost_of}
use Rattle.elab_rules.specs.cpp_names.declared.entity.Entity.{Entity}
use Rattle.elab_rules.specs.cpp_tree.declared.faults.ElabFault.{ElabFault}
use Rattle.std.proofs.Common.{Result}
use Rattle.elab_rules.specs.elab_ctx.Ctx.{Ctx, Func}
use Rattle.elab_rules.specs.elab_ctx.Steps.{expect, check, at_of, spelling}
use Rattle.elab_rules.specs.Objects.{traits_at}
use Rattle.elab_rules.specs.Initialising.{func_at, signature_parameters, signature_result, places_from, is_constructor}
use Rattle.elab_rules.specs.Names.{members_in}
use Rattle.elab_rules.specs.Types.{Declared}
use Rattle.elab_rules.specs.Statements.{State, Lambdas, is_trivial}
use Rattle.elab_rules.specs.Functions
use Rattle.elab_rules.specs.Functions.{Storage, Header, Placed}
use Rattle.elab_rules.specs.Classes
use Rattle.elab_rules.specs.Classes.{Home, Begun, Method, Started, Specials, Marks, Definition}
use Rattle.elab_rules.specs.Members
use Rattle.elab_rules.specs.Implicit
use Rattle.elab_rules.specs.Lambdas.{lambdas_of}
use Rattle.elab_rules.specs.Units
use Rattle.elab_places.specs.Bodies.{DefaultsOwn, LeavesFrame}
use Rattle.elab_places.specs.Functions.{MakesBody, call_words, implied_words}
use Rattle.elab_places.specs.Declared.{Sound, DeclarationsKeep, AllDeclarationsKeep, UnitsKeep, UnitsBegin, AllDefaultsOwn}
use Rattle.elab_places.proofs.Steps.{On, bind, skip, turn, either, choose, held_by}
use Rattle.elab_places.proofs.Bodies.{function_made}
use Rattle.elab_places.proofs.Constructors.{constructor_made, destructor_made}
use Rattle.elab_places.proofs.Defaults.{default_made}
use Rattle.elab_places.proofs.Implied.{implied_made}
use Rattle.elab_places.proofs.Lambdas.{lambdas_law}
use Rattle.elab_places.proofs.Walks.{Walks}
use Rattle.elab_places.proofs.AtFile.{each_keeps}
use Rattle.elab_places.proofs.Declarations as declarations

abbrev Known : Ctx → Type 0
Known c = DefaultsOwn c.defaults

abbrev PlacedKnown : Placed → Type 0
PlacedKnown p = DefaultsOwn p.ctx.defaults

-- Functions

function_named : (c : Ctx) (at : At) (name : List ℕ) (o : Option Entity) → Known c → On Known (Functions.function_named c at name o)
function_named c at name None own = own
function_named c at name (Some e) own = skip Known (check at Redeclared (Functions.is_function_entity e.kind)) _ (λ y. own)

name_declared : (c : Ctx) (h : Header) (o : Option ℕ) → Known c → On Known (Functions.name_declared c h o)
name_declared c h (Some n) own = own
name_declared c h None own = function_named c h.at h.name (innermost_of c.scopes h.name) own

declared_in : (c : Ctx) (h : Header) (b : Bool) (o : Option ℕ) → Known c → On PlacedKnown (Functions.declared_in c h b o)
declared_in c h b (Some i) own = skip PlacedKnown (Functions.agrees h (func_at c.funcs i) b) _ (λ y. own)
declared_in c h b None own = bind Known PlacedKnown (Functions.name_declared c h h.class) _ (name_declared c h h.class own) (λ d i. i)

pub function_declared : (c : Ctx) (h : Header) (b : Bool) → Known c → On PlacedKnown (Functions.function_declared c h b)
function_declared c h b own = skip PlacedKnown (Functions.main_fits h) _ (λ z1. skip PlacedKnown (check h.at BadDeclaration (not h.qualifiers.is_const)) _ (λ z2. skip PlacedKnown (Functions.dynamic_fits h) _
    (λ z3. skip PlacedKnown (check h.at OutOfProfile (not h.storage.is_c || Functions.may_be_c h)) _ (λ z4. skip PlacedKnown (Functions.header_sized c h) _
    (λ z5. declared_in c h b (Functions.first_from (Functions.is_same_function h) 0 c.funcs) own)))))

-- behind a body
pub made_keeps : (words f : ℕ) (st : State) (r : Result State ElabFault) → Sound st → On (MakesBody words f st) r → On Sound r
made_keeps words f st r own h = turn (MakesBody words f st) Sound r (λ x i. subst DefaultsOwn (sym i.kept.defaults) own) h

pub function_body : (lams : Lambdas) → LeavesFrame lams → (s : List Lexeme) (st : State) (h : Header) (this : Option Typ) (f : ℕ) (t : syntax.Tree) → Sound st
    → On Sound (Functions.function_body lams s st h this f t)
function_body lams leaves s st h this f t own =
    made_keeps (call_words (signature_result h.signature) this (length h.params)) f st (Functions.function_body lams s st h this f t) own (function_made lams leaves s st h this f t own)

-- Definitions of functions

defined_with : (s : List Lexeme) (st : State) (x : Storage) (at : At) (first : ℕ) (d : Declared) (body : syntax.Tree) (f : Form) → Sound st
    → On Sound (Units.defined_with s st x at first d body f)
defined_with s st x at first d body (func sig) own = skip Sound (Functions.text_sized at (Units.definition_text s x first body)) _
    (λ y. skip Sound (Functions.defines_well (Units.header_of s at x d sig)) _
    (λ z. bind PlacedKnown Sound (Functions.function_declared st.ctx (Units.header_of s at x d sig) true) _
    (function_declared st.ctx (Units.header_of s at x d sig) true own)
    (λ p h. function_body lambdas_of lambdas_law s (record st {
      ctx = Functions.with_definition p.ctx p.place (Units.header_of s at x d sig) (Units.definition_text s x first body) (Units.closing_offset s body);
    }) (Units.header_of s at x d sig) None p.place body h)))
defined_with s st x at first d body f own = tt

-- Members

kind_body : (lams : Lambdas) → LeavesFrame lams → (s : List Lexeme) (st : State) (n f : ℕ) (kind : FuncKind) (m : Method) (t : syntax.Tree) → Sound st
    → On Sound (Members.body_by_kind lams s st n f kind m t)
kind_body lams leaves s st n f Constructor m t own = made_keeps (1 + length m.header.params) f st (Members.constructor_body lams s st m.header n f m.rest t) own
    (constructor_made lams leaves s st m.header n f m.rest t own)
kind_body lams leaves s st n f Destructor m t own = made_keeps 1 f st (Members.destructor_body lams s st m.header n f t) own
    (destructor_made lams leaves s st m.header n f t own)
kind_body lams leaves s st n f kind m t own = function_body lams leaves s st m.header (Some (Members.this_type n m.header)) f t own

method_body : (lams : Lambdas) → LeavesFrame lams → (s : List Lexeme) (st : State) (n f : ℕ) (kind : FuncKind) (m : Method) (t : syntax.Tree) → Sound st
    → On Sound (Members.method_body lams s st n f kind m t)
method_body lams leaves s st n f kind m t own = skip Sound (Functions.defines_well m.header) _ (λ y. kind_body lams leaves s st n f kind m t own)

read_again : (c : Ctx) (f : ℕ) (h : Header) (closed : ℕ) → Known c → On Known (Members.late_kept c f h closed)
read_again c f h closed own = skip Known (Members.late_agrees h closed (func_at c.funcs f)) _ (λ y. own)

late_method : (lams : Lambdas) → LeavesFrame lams → (s : List Lexeme) (st : State) (n : ℕ) (kind : FuncKind) (m : Method) (o : Option syntax.Tree) → Sound st
    → On Sound (Members.late_method lams s st n kind m o)
late_method lams leaves s st n kind m (Some body) own = skip Sound (Members.place_of_header st.ctx m.header) _
    (λ f. bind Known Sound (Members.late_kept st.ctx f m.header (Classes.token_end (slice_get s (Classes.last_token (Some body))))) _
    (read_again st.ctx f m.header (Classes.token_end (slice_get s (Classes.last_token (Some body)))) own)
    (λ c h. method_body lams leaves s (record st { ctx = c }) n f kind m body h))
late_method lams leaves s st n kind m None own = own

late_function : (lams : Lambdas) → LeavesFrame lams → (s : List Lexeme) (st : State) (n : ℕ) (name : List ℕ) (at : At) (kind : FuncKind) (kids : syntax.Trees)
    → Sound st → On Sound (Members.late_function lams s st n name at kind kids)
late_function lams leaves s st n name at kind kids own = skip Sound (Classes.method_of s st n name at kind kids) _
    (λ (m : Method). late_method lams leaves s st n kind m (Classes.body_in kids) own)

late_of : (lams : Lambdas) → LeavesFrame lams → (s : List Lexeme) (n : ℕ) (name : List ℕ) (st : State) (t : syntax.Tree) → Sound st
    → On Sound (Members.late_of lams s n name st t)
late_of lams leaves s n name st (syntax.node k.FunctionDefinition p token kids) own = late_function lams leaves s st n name (at_of p) Plain kids own
late_of lams leaves s n name st (syntax.node k.ConstructorDefinition p token kids) own = late_function lams leaves s st n name (at_of p) Constructor kids own
late_of lams leaves s n name st (syntax.node k.DestructorDefinition p token kids) own = late_function lams leaves s st n name (at_of p) Destructor kids own
late_of lams leaves s n name st t own = own

default_for : (lams : Lambdas) → LeavesFrame lams → (s : List Lexeme) (st : State) (n : ℕ) (i : Option ℕ) (e : Option syntax.Tree) → Sound st
    → On Sound (Members.default_for lams s st n i e)
default_for lams leaves s st n (Some i) (Some e) own =
    default_made lams leaves s st n i (Members.member_type (slice_get (members_in (slice_get st.ctx.classes n)) i)) e own
default_for lams leaves s st n (Some i) None own = own
default_for lams leaves s st n None e own = own

default_of : (lams : Lambdas) → LeavesFrame lams → (s : List Lexeme) (n : ℕ) (st : State) (t : syntax.Tree) → Sound st
    → On Sound (Members.default_of lams s n st t)
default_of lams leaves s n st (syntax.node k.MemberDeclarator p (Some t) kids) own =
    default_for lams leaves s st n (Members.member_index 0 (spelling s t) (members_in (slice_get st.ctx.classes n))) (Members.initialiser_in kids) own
default_of lams leaves s n st t own = own

defaults_of : (lams : Lambdas) → LeavesFrame lams → (s : List Lexeme) (n : ℕ) (st : State) (t : syntax.Tree) → Sound st
    → On Sound (Members.defaults_of lams s n st t)
defaults_of lams leaves s n st (syntax.node k.MemberDeclaration p token kids) own =
    each_keeps Sound (Members.default_of lams s n) (λ r t h. default_of lams leaves s n r t h) st kids own
defaults_of lams leaves s n st t own = own

all_defaults : (lams : Lambdas) → LeavesFrame lams → (s : List Lexeme) (n : ℕ) (st : State) (ts : syntax.Trees) → Sound st
    → On Sound (Members.all_defaults lams s n st ts)
all_defaults lams leaves s n st ts own = each_keeps Sound (Members.defaults_of lams s n) (λ r t h. defaults_of lams leaves s n r t h) st ts own

-- Members outside

outside_body : (lams : Lambdas) → LeavesFrame lams → (s : List Lexeme) (st : State) (n : ℕ) (kind : FuncKind) (first : ℕ) (m : Method) (body : syntax.Tree)
    → Sound st → On Sound (Members.outside_body lams s st n kind first m body)
outside_body lams leaves s st n kind first m body own =
    skip Sound (Functions.text_sized m.header.at (Members.outside_text s m.header.storage first (Classes.last_token (Some body)))) _
    (λ v. skip Sound (Members.outside_words m.header) _ (λ w.
    skip Sound (check m.header.at NoMember (list_any (Members.is_member_named n m.header.name) st.ctx.funcs)) _
    (λ x. skip Sound (expect m.header.at TypeDiffers (Functions.first_from (Functions.is_same_function m.header) 0 st.ctx.funcs)) _
    (λ f. skip Sound (Members.outside_agrees m.header (func_at st.ctx.funcs f)) _
    (λ y. method_body lams leaves s
    (record st { ctx = Members.outside_defined s st.ctx f m.header first (Classes.last_token (Some body)) }) n f kind m body own)))))

outside_with : (lams : Lambdas) → LeavesFrame lams → (s : List Lexeme) (st : State) (at : At) (kind : FuncKind) (first : ℕ) (m : Method)
    (o : Option syntax.Tree) → Sound st → On Sound (Members.outside_with lams s st at kind first m o)
outside_with lams leaves s st at kind first m (Some body) own = skip Sound (expect at BadDeclaration m.header.class) _
    (λ n. outside_body lams leaves s st n kind first m body own)
outside_with lams leaves s st at kind first m None own = tt

outside_started : (lams : Lambdas) → LeavesFrame lams → (s : List Lexeme) (st : State) (at : At) (kind : FuncKind) (first : ℕ) (o : Option syntax.Tree)
    (x : Started) → Sound st → On Sound (Members.outside_started lams s st at kind first o x)
outside_started lams leaves s st at kind first o x own = skip Sound (Members.outside_method s st at x.storage kind x.rest) _
    (λ (m : Method). outside_with lams leaves s st at kind first m o own)

member_defined : (lams : Lambdas) → LeavesFrame lams → (s : List Lexeme) (x : Storage) (st : State) (at : At) (kind : FuncKind) (first : ℕ)
    (kids : syntax.Trees) → Sound st → On Sound (Members.member_defined lams s x st at kind first kids)
member_defined lams leaves s x st at kind first kids own =
    outside_started lams leaves s st at kind first (Classes.body_in kids) (Classes.started_from s x kids) own

abbrev SpecialsKnown : Specials → Type 0
SpecialsKnown x = DefaultsOwn x.ctx.defaults

with_destructor : (c : Ctx) (home : Home) (at : At) (ms : List Member) (o : Option ℕ) → Known c → SpecialsKnown (Classes.with_destructor c home at ms o)
with_destructor c home at ms (Some i) own = own
with_destructor c home at ms None own = choose SpecialsKnown (Classes.all_held (λ n. is_trivial (traits_at c n).destructor) home.base ms) _ _ own own

with_copy : (c : Ctx) (home : Home) (at : At) (ms : List Member) (o : Option ℕ) → Known c → SpecialsKnown (Classes.with_copy c home at ms o)
with_copy c home at ms (Some i) own = own
with_copy c home at ms None own = choose SpecialsKnown (not (Classes.may_copy c home.base ms)) _ _ own
    (choose SpecialsKnown (Classes.has_no_pointer c home && Classes.all_held (λ n. is_trivial (traits_at c n).copy) home.base ms) _ _ own own)

with_default : (c : Ctx) (home : Home) (at : At) (ms : List Member) (is : List ℕ) (b : Bool) → Known c → SpecialsKnown (Classes.with_default c home at ms is b)
with_default c home at ms is false own = own
with_default c home at ms is true own = choose SpecialsKnown (not (Classes.base_default c home.base && Classes.members_default c is 0 ms)) _ _ own
    (choose SpecialsKnown (Classes.is_trivial_default c home ms is) _ _ own own)

pub completed : (c : Ctx) (home : Home) (at : At) (ms : List Member) (is : List ℕ) → Known c → Known (Classes.completed c home at ms is)
completed c home at ms is own = with_default y.ctx home at ms is (Classes.is_no_place (places_from (is_constructor home.number) 0 c.funcs))
    (with_copy x.ctx home at ms (Classes.written_copy x.ctx home)
    (with_destructor c home at ms (Functions.first_from (Classes.is_destructor_of home.number) 0 c.funcs) own))
  where
    x : Specials
    x = Classes.with_destructor c home at ms (Functions.first_from (Classes.is_destructor_of home.number) 0 c.funcs)

    y : Specials
    y = Classes.with_copy x.ctx home at ms (Classes.written_copy x.ctx home)

-- Implicit members

implied_of : (st : State) (i : ℕ) (f : Func) (o : Option ℕ) → Sound st → On Sound (Implicit.implied_of st i f o)
implied_of st i f (Some n) own =
    made_keeps (implied_words f.kind (signature_parameters f.declared.signature)) i st (Implicit.body_implied st f.declared.at i n f.kind (signature_parameters f.declared.signature)) own
    (implied_made st f.declared.at i n f.kind (signature_parameters f.declared.signature) own)
implied_of st i f None own = own

implied : (st : State) (i : ℕ) → Sound st → On Sound (Implicit.implied st i)
implied st i own = either Sound ((func_at st.ctx.funcs i).implicit && Implicit.is_referred st i) _ _
    (implied_of st i (func_at st.ctx.funcs i) (func_at st.ctx.funcs i).class own) own

-- The laws

owned_walks : Walks (λ r. DefaultsOwn r.defaults)
owned_walks = record {
  declared = λ r h e f own. own;
  defined = λ s st x at first d body f own. defined_with s st x at first d body f own;
  member = λ r n of h m o d i own. own;
  completed = λ bodies c home at ms is own. completed c home at ms is own;
  defaults = λ s n st ts own. all_defaults lambdas_of lambdas_law s n st ts own;
  late = λ s n name st t own. late_of lambdas_of lambdas_law s n name st t own;
  outside = λ s x st at of first kids own. member_defined lambdas_of lambdas_law s x st at of first kids own;
}

pub declarations_law : DeclarationsKeep
declarations_law s x st t y own e = held_by Sound (Units.declaration_of s x st t) y (declarations.declaration (λ r. DefaultsOwn r.defaults) owned_walks s x st t own) e

pub all_declarations_law : AllDeclarationsKeep
all_declarations_law s x st ts y own e =
    held_by Sound (Units.declarations_of s x st ts) y (declarations.declarations (λ r. DefaultsOwn r.defaults) owned_walks s x st ts own) e

pub units_law : UnitsKeep
units_law s st ts y own e = held_by Sound (Units.unit_from s st ts) y (declarations.unit (λ r. DefaultsOwn r.defaults) owned_walks implied s st ts own) e

pub begin_law : UnitsBegin
begin_law source p traits = tt

pub all_defaults_law : AllDefaultsOwn
all_defaults_law lams leaves s n st ts y own e = held_by Sound (Members.all_defaults lams s n st ts) y (all_defaults lams leaves s n st ts own) e
