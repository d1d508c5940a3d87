-- Classes as the code makes them are those of the definitions.
use Rattle.std.proofs.Common.{◌≡◌, ℕ, Bool, true, false, List, [], refl, sym, ap, ◌∙◌, subst, Option, Some, None, Result, Ok}
use Rattle.std.specs.Prelude.{if◌then◌else◌, ◌&&◌, not, is_none, is_some, nat_le, ◌||◌, slice_get}
use Rattle.elab_rules.specs.cpp_types.Typ.{Typ, typ, Form, class, func}
use Rattle.elab_rules.specs.cpp_types.Class.{Member, completion_of, held}
use Rattle.elab_rules.specs.cpp_types.Equal.{typ_eq}
use Rattle.elab_rules.specs.cpp_types.declared.classes.At.{At}
use Rattle.elab_rules.specs.cpp_lex.Tokens.{Lexeme}
use Rattle.elab_rules.specs.cpp_ast.declared.kinds.NodeKind.TheVariants as k
use Rattle.elab_rules.specs.cpp_ast.Trees as syntax
use Rattle.elab_rules.specs.cpp_tree.declared.program.FuncKind.{FuncKind}
use Rattle.elab_rules.specs.cpp_tree.declared.program.FuncKind.TheVariants.{Plain, Constructor, Destructor}
use Rattle.elab_rules.specs.cpp_tree.declared.faults.ElabFault.{ElabFault}
use Rattle.elab_rules.specs.elab_ctx.Ctx.{Ctx, Closure}
use Rattle.elab_rules.specs.elab_ctx.Steps.{and_then, at_of, check}
use Rattle.elab_rules.specs.Types.{Declared, has_auto, is_bounded, is_abstract_type, type_named}
use Rattle.elab_rules.specs.Statements.{State, Lambdas, statements_of, initialised, is_own_name, is_trivial, name_of}
use Rattle.elab_rules.specs.Functions.{Header, Storage, function_body, text_sized, with_parameters, entered, first_from, header_sized, is_same_function}
use Rattle.elab_rules.specs.Functions.{new_function, no_storage, within_frame, defines_well, with_definition}
use Rattle.elab_rules.specs.Classes.{Home, Members, Begun, begun, begun_in, members_of, member_of, completed, closed_class, Method, method_of, body_in, last_token, token_end}
use Rattle.elab_rules.specs.Classes.{class_text, Marks, Definition, Started, data_member, member_function, declared_method, declared_member, member_declarator}
use Rattle.elab_rules.specs.Classes.{member_declarators, Specials, with_destructor, with_copy, with_default, all_held, base_default, declarator_among}
use Rattle.elab_rules.specs.Classes.{definition_between, definition_sized, has_equal, has_function, has_initialiser, has_member, has_no_pointer, header_in}
use Rattle.elab_rules.specs.Classes.{is_destructor_of, is_no_place, is_trivial_default, last_token, marks_fit, marks_from, may_copy, member_form, member_named}
use Rattle.elab_rules.specs.Classes.{members_default, no_function_words, no_marks, overridden, overrides_well, started_from, within_bounds, written_copy}
use Rattle.elab_rules.specs.Members as rules
use Rattle.elab_rules.specs.Members.{place_of_header, late_agrees, late_kept, base_named, has_final, members_among, all_given, in_object, parts_built}
use Rattle.class_table.specs.Written.{ClassRead, class_read, read_members, read_closed}
use Rattle.elab_members.specs.Bodies as code_bodies
use Rattle.elab_members.specs.Whole as code
use Rattle.elab_leaving.specs.Kept.{On, Lawful}
use Rattle.elab_leaving.proofs.Keeping.{bind, skip, either}
use Rattle.elab_leaving.proofs.Answers.{same_after, same_behind, nest, each_holds, each_same}
use Rattle.elab_leaving.proofs.Objects.{method_same}
use Rattle.elab_leaving.proofs.Defaults.{Settled, all_same, all_settled}
use Rattle.elab_rules.specs.cpp_tree.declared.faults.IllRule.TheVariants.{AbstractObject, BadDeclaration, Incomplete, OutOfProfile, Redeclared, TypeDiffers}
use Rattle.elab_rules.specs.cpp_layout.Layout.{class_extent}
use Rattle.elab_rules.specs.Expressions.{declared_by, type_of_specifiers}
use Rattle.elab_rules.specs.Objects.{element_of, traits_at}
use Rattle.elab_rules.specs.cpp_tree.Typing.{form_in}
use Rattle.elab_rules.specs.Operators.{is_complete}
use Rattle.elab_rules.specs.Initialising.{func_at, is_constructor, places_from, signature_result}
use Rattle.elab_rules.specs.Sizes.{typ_sized}

-- Behind a body no lambdas are at hand where there were none before

pub function_settled : (lams : Lambdas) (s : List Lexeme) (st : State) (h : Header) (this : Option Typ) (place : ℕ) (t : syntax.Tree) → Settled st
    → On Settled (function_body lams s st h this place t)
function_settled lams s st h this place (syntax.node kind p token kids) e =
    skip Settled (check h.at Incomplete (is_complete st.ctx (held (signature_result h.signature)))) _
    (λ x. skip Settled (with_parameters s (entered st (signature_result h.signature) this h.class) h.params) _
    (λ y. skip Settled (statements_of lams s y kids) _ (λ d. skip Settled (within_frame d.state.ctx h.at d.state.work.frame) _ (λ y. e))))

constructor_settled : (lams : Lambdas) (s : List Lexeme) (st : State) (h : Header) (n place : ℕ) (inits : syntax.Trees) (body : syntax.Tree) → Settled st
    → On Settled (rules.constructor_body lams s st h n place inits body)
constructor_settled lams s st h n place inits (syntax.node kind p token kids) e =
    skip Settled (with_parameters s (in_object st n) h.params) _
    (λ e2. skip Settled (all_given lams s n (record { state = e2; given = [] }) inits) _
    (λ g. skip Settled (parts_built g.state h.at n g.given) _
    (λ parts. skip Settled (statements_of lams s parts.state kids) _ (λ d. skip Settled (within_frame d.state.ctx h.at d.state.work.frame) _ (λ y. e)))))

destructor_settled : (lams : Lambdas) (s : List Lexeme) (st : State) (h : Header) (n place : ℕ) (body : syntax.Tree) → Settled st
    → On Settled (rules.destructor_body lams s st h n place body)
destructor_settled lams s st h n place (syntax.node kind p token kids) e =
    skip Settled (statements_of lams s (in_object st n) kids) _ (λ d. skip Settled (within_frame d.state.ctx h.at d.state.work.frame) _ (λ y. e))

by_kind_settled : (lams : Lambdas) (s : List Lexeme) (st : State) (n place : ℕ) (kind : FuncKind) (m : Method) (body : syntax.Tree) → Settled st
    → On Settled (rules.body_by_kind lams s st n place kind m body)
by_kind_settled lams s st n place Constructor m body e = constructor_settled lams s st m.header n place m.rest body e
by_kind_settled lams s st n place Destructor m body e = destructor_settled lams s st m.header n place body e
by_kind_settled lams s st n place kind m body e = function_settled lams s st m.header (Some (rules.this_type n m.header)) place body e

pub method_settled : (lams : Lambdas) (s : List Lexeme) (st : State) (n place : ℕ) (kind : FuncKind) (m : Method) (body : syntax.Tree) → Settled st
    → On Settled (rules.method_body lams s st n place kind m body)
method_settled lams s st n place kind m body e = skip Settled (defines_well m.header) _ (λ y. by_kind_settled lams s st n place kind m body e)

-- Behind the brace

-- no lambdas are at hand
abbrev Clear : Ctx → Type 0
Clear c = c.closures ≡ []

late_clear : (c : Ctx) (place : ℕ) (h : Header) (closed : ℕ) → Clear c → On Clear (late_kept c place h closed)
late_clear c place h closed e = skip Clear (late_agrees h closed (func_at c.funcs place)) _ (λ y. e)

late_method_same : (lams : Lambdas) → Lawful lams → (s : List Lexeme) (st : State) (n : ℕ) (kind : FuncKind) (m : Method) (body : Option syntax.Tree)
    → Settled st → code.late_method lams s st n kind m body ≡ rules.late_method lams s st n kind m body
late_method_same lams q s st n kind m (Some body) e = same_behind (place_of_header st.ctx m.header) _ _
    (λ place. ap (λ (z : Result Ctx ElabFault). and_then z (λ (c : Ctx). code_bodies.method_body lams s (record st { ctx = c }) n place kind m.header m.rest body))
    (nest (late_agrees m.header (token_end (slice_get s (last_token (Some body)))) (func_at st.ctx.funcs place)) _
    (λ (d : Definition). Ok (with_definition st.ctx place m.header d.text d.closed_at)))
    ∙ same_after Clear (late_kept st.ctx place m.header (token_end (slice_get s (last_token (Some body))))) _ _ (late_clear st.ctx place m.header (token_end (slice_get s (last_token (Some body)))) e)
    (λ c i. method_same lams q s (record st { ctx = c }) n place kind m body i))
late_method_same lams q s st n kind m None e = refl

late_function_same : (lams : Lambdas) → Lawful lams → (s : List Lexeme) (st : State) (n : ℕ) (name : List ℕ) (at : At) (kind : FuncKind) (kids : syntax.Trees)
    → Settled st → code.late_function lams s st n name at kind kids ≡ rules.late_function lams s st n name at kind kids
late_function_same lams q s st n name at kind kids e =
    same_behind (method_of s st n name at kind kids) _ _ (λ m. late_method_same lams q s st n kind m (body_in kids) e)

late_same : (lams : Lambdas) → Lawful lams → (s : List Lexeme) (n : ℕ) (name : List ℕ) (st : State) (t : syntax.Tree) → Settled st
    → code.late_of lams s n name st t ≡ rules.late_of lams s n name st t
late_same lams q s n name st (syntax.node k.FunctionDefinition p token kids) e = late_function_same lams q s st n name (at_of p) Plain kids e
late_same lams q s n name st (syntax.node k.ConstructorDefinition p token kids) e = late_function_same lams q s st n name (at_of p) Constructor kids e
late_same lams q s n name st (syntax.node k.DestructorDefinition p token kids) e = late_function_same lams q s st n name (at_of p) Destructor kids e
late_same lams q s n name st t e = refl

late_method_settled : (lams : Lambdas) (s : List Lexeme) (st : State) (n : ℕ) (kind : FuncKind) (m : Method) (body : Option syntax.Tree) → Settled st
    → On Settled (rules.late_method lams s st n kind m body)
late_method_settled lams s st n kind m (Some body) e =
    skip Settled (place_of_header st.ctx m.header) _
    (λ place. bind Clear Settled (late_kept st.ctx place m.header (token_end (slice_get s (last_token (Some body))))) _
    (late_clear st.ctx place m.header (token_end (slice_get s (last_token (Some body)))) e)
    (λ c i. method_settled lams s (record st { ctx = c }) n place kind m body i))
late_method_settled lams s st n kind m None e = e

late_function_settled : (lams : Lambdas) (s : List Lexeme) (st : State) (n : ℕ) (name : List ℕ) (at : At) (kind : FuncKind) (kids : syntax.Trees) → Settled st
    → On Settled (rules.late_function lams s st n name at kind kids)
late_function_settled lams s st n name at kind kids e =
    skip Settled (method_of s st n name at kind kids) _ (λ m. late_method_settled lams s st n kind m (body_in kids) e)

late_settled : (lams : Lambdas) (s : List Lexeme) (n : ℕ) (name : List ℕ) (st : State) (t : syntax.Tree) → Settled st
    → On Settled (rules.late_of lams s n name st t)
late_settled lams s n name st (syntax.node k.FunctionDefinition p token kids) e = late_function_settled lams s st n name (at_of p) Plain kids e
late_settled lams s n name st (syntax.node k.ConstructorDefinition p token kids) e = late_function_settled lams s st n name (at_of p) Constructor kids e
late_settled lams s n name st (syntax.node k.DestructorDefinition p token kids) e = late_function_settled lams s st n name (at_of p) Destructor kids e
late_settled lams s n name st t e = e

all_late_same : (lams : Lambdas) → Lawful lams → (s : List Lexeme) (n : ℕ) (name : List ℕ) (st : State) (ts : syntax.Trees) → Settled st
    → code.all_late lams s n name st ts ≡ rules.all_late lams s n name st ts
all_late_same lams q s n name st ts e = each_same Settled (code.late_of lams s n name) (rules.late_of lams s n name) st ts e
    (λ x t i. late_same lams q s n name x t i) (λ x t i. late_settled lams s n name x t i)

all_late_settled : (lams : Lambdas) (s : List Lexeme) (n : ℕ) (name : List ℕ) (st : State) (ts : syntax.Trees) → Settled st
    → On Settled (rules.all_late lams s n name st ts)
all_late_settled lams s n name st ts e = each_holds Settled (rules.late_of lams s n name) st ts e (λ x t i. late_settled lams s n name x t i)

-- Up to the brace

pub begun_settled : (c : Ctx) (at : At) (name : List ℕ) (defines : Bool) (o : Option Typ) → c.closures ≡ []
    → On (λ (b : Begun). b.ctx.closures ≡ []) (begun_in c at name defines o)
begun_settled c at name defines (Some (typ (class n) false false)) e =
    skip (λ (b : Begun). b.ctx.closures ≡ []) (check at Redeclared (not defines || is_none (completion_of c.classes n))) _ (λ y. e)
begun_settled c at name defines (Some t) e = tt
begun_settled c at name defines None e = e

abbrev Reads : Members → Type 0
Reads r = Settled r.state

data_settled : (n : ℕ) (r : Members) (at : At) (name : List ℕ) (t : Typ) (b : Bool) → Reads r → On Reads (data_member n r at name t b)
data_settled n r at name t b e = skip Reads (member_form at (form_in t)) _
    (λ a. skip Reads (check at OutOfProfile (not (has_auto t))) _
    (λ b2. skip Reads (check at BadDeclaration (is_bounded t)) _
    (λ d. skip Reads (check at Incomplete (is_complete r.state.ctx (held t))) _
    (λ e2. skip Reads (check at AbstractObject (not (is_abstract_type r.state.ctx (element_of t)))) _
    (λ f. skip Reads (typ_sized r.state.ctx.classes at t) _
    (λ h. skip Reads (check at Redeclared (not (has_member name r.members) && not (has_function n name r.state.ctx.funcs))) _ (λ g. e)))))))

function_member_settled : (home : Home) (r : Members) (h : Header) (m : Marks) (d : Option Definition) → Reads r → On Reads (member_function home r h m d)
function_member_settled home r h m d e = skip Reads (check h.at Redeclared
    (is_none (first_from (is_same_function h) 0 r.state.ctx.funcs) && not (has_member h.name r.members))) _
    (λ y. skip Reads (overrides_well h (overridden r.state.ctx home.base (new_function h).declared)) _
    (λ z. skip Reads (marks_fit h m (is_some (overridden r.state.ctx home.base (new_function h).declared))
    (h.storage.is_virtual || is_some (overridden r.state.ctx home.base (new_function h).declared))) _
    (λ x. skip Reads (header_sized r.state.ctx h) _ (λ w. skip Reads (definition_sized h.at d) _ (λ v. e)))))

method_declared_settled : (s : List Lexeme) (home : Home) (r : Members) (kind : FuncKind) (at : At) (d : Option Definition) (kids : syntax.Trees) → Reads r
    → On Reads (declared_method s home r kind at d kids)
method_declared_settled s home r kind at d kids e = skip Reads (within_bounds (declarator_among s home.number r kids)) _
    (λ w. skip Reads (method_of s r.state home.number home.name at kind kids) _
    (λ m. function_member_settled home r m.header (marks_from s no_marks m.rest) d e))

declared_settled : (home : Home) (r : Members) (at : At) (x : Storage) (m : Marks) (rest : syntax.Trees) (name : List ℕ) (d : Declared) (f : Form) → Reads r
    → On Reads (declared_member home r at x m rest name d f)
declared_settled home r at x m rest name d (func sig) e =
    skip Reads (check at BadDeclaration (not (has_equal rest))) _
    (λ y. skip Reads (header_in home.number x Plain at name d (func sig)) _ (λ h. function_member_settled home r h m None e))
declared_settled home r at x m rest name d f e = skip Reads (check at BadDeclaration (no_function_words x m)) _
    (λ y. data_settled home.number r at name d.typ (has_initialiser rest) e)

declarator_settled : (s : List Lexeme) (home : Home) (x : Storage) (t : Typ) (r : Members) (d : syntax.Tree) → Reads r
    → On Reads (member_declarator s home x t r d)
declarator_settled s home x t r (syntax.node kind p token (syntax.more d rest)) e =
    skip Reads (within_bounds (member_named s home.number r d)) _
    (λ w. skip Reads (declared_by s r.state.ctx r.state.work (at_of p) t d) _
    (λ y. skip Reads (check (at_of p) BadDeclaration (is_own_name y)) _
    (λ z. declared_settled home r (at_of p) x (marks_from s no_marks rest) rest (name_of s y.name) y (form_in y.typ) e)))
declarator_settled s home x t r (syntax.node kind p token syntax.none) e = tt

declarators_settled : (s : List Lexeme) (home : Home) (r : Members) (at : At) (x : Started) (ds : syntax.Trees) → Reads r
    → On Reads (member_declarators s home r at x ds)
declarators_settled s home r at x (syntax.more base ds) e =
    skip Reads (type_of_specifiers s r.state.ctx r.state.work base) _
    (λ t. each_holds Reads (member_declarator s home x.storage t) r ds e (λ y d i. declarator_settled s home x.storage t y d i))
declarators_settled s home r at x syntax.none e = tt

member_settled : (s : List Lexeme) (home : Home) (r : Members) (t : syntax.Tree) → Reads r → On Reads (member_of s home r t)
member_settled s home r (syntax.node k.AccessLabel p token kids) e = e
member_settled s home r (syntax.node k.MemberDeclaration p token kids) e =
    declarators_settled s home r (at_of p) (started_from s no_storage kids) (started_from s no_storage kids).rest e
member_settled s home r (syntax.node k.FunctionDefinition p (Some t) kids) e =
    method_declared_settled s home r Plain (at_of p) (Some (definition_between s t (last_token (body_in kids)))) kids e
member_settled s home r (syntax.node k.ConstructorDeclaration p token kids) e = method_declared_settled s home r Constructor (at_of p) None kids e
member_settled s home r (syntax.node k.ConstructorDefinition p (Some t) kids) e =
    method_declared_settled s home r Constructor (at_of p) (Some (definition_between s t (last_token (body_in kids)))) kids e
member_settled s home r (syntax.node k.DestructorDeclaration p token kids) e = method_declared_settled s home r Destructor (at_of p) None kids e
member_settled s home r (syntax.node k.DestructorDefinition p (Some t) kids) e =
    method_declared_settled s home r Destructor (at_of p) (Some (definition_between s t (last_token (body_in kids)))) kids e
member_settled s home r t e = tt

-- implicit members

if_special : (b : Bool) (x y : Specials) (cs : List Closure) → x.ctx.closures ≡ cs → y.ctx.closures ≡ cs → (if b then x else y).ctx.closures ≡ cs
if_special true x y cs h k = h
if_special false x y cs h k = k

with_destructor_settled : (c : Ctx) (home : Home) (at : At) (ms : List Member) (o : Option ℕ) → (with_destructor c home at ms o).ctx.closures ≡ c.closures
with_destructor_settled c home at ms (Some i) = refl
with_destructor_settled c home at ms None = if_special (all_held (λ n. is_trivial (traits_at c n).destructor) home.base ms) _ _ c.closures refl refl

with_copy_settled : (c : Ctx) (home : Home) (at : At) (ms : List Member) (o : Option ℕ) → (with_copy c home at ms o).ctx.closures ≡ c.closures
with_copy_settled c home at ms (Some i) = refl
with_copy_settled c home at ms None = if_special (not (may_copy c home.base ms)) _ _ c.closures refl
    (if_special (has_no_pointer c home && all_held (λ n. is_trivial (traits_at c n).copy) home.base ms) _ _ c.closures refl refl)

with_default_settled : (c : Ctx) (home : Home) (at : At) (ms : List Member) (initialised : List ℕ) (b : Bool)
    → (with_default c home at ms initialised b).ctx.closures ≡ c.closures
with_default_settled c home at ms initialised false = refl
with_default_settled c home at ms initialised true = if_special (not (base_default c home.base && members_default c initialised 0 ms)) _ _ c.closures refl
    (if_special (is_trivial_default c home ms initialised) _ _ c.closures refl refl)

completed_settled : (c : Ctx) (home : Home) (at : At) (ms : List Member) (initialised : List ℕ) → (completed c home at ms initialised).closures ≡ c.closures
completed_settled c home at ms initialised =
    let d : Specials = with_destructor c home at ms (first_from (is_destructor_of home.number) 0 c.funcs) in
    let k : Specials = with_copy d.ctx home at ms (written_copy d.ctx home) in
    with_default_settled k.ctx home at ms initialised (is_no_place (places_from (is_constructor home.number) 0 c.funcs))
    ∙ with_copy_settled d.ctx home at ms (written_copy d.ctx home)
    ∙ with_destructor_settled c home at ms (first_from (is_destructor_of home.number) 0 c.funcs)

closed_settled : (at : At) (n : ℕ) (c : Ctx) → c.closures ≡ [] → On (λ (d : Ctx). d.closures ≡ []) (closed_class at n c)
closed_settled at n c e = skip (λ (d : Ctx). d.closures ≡ []) _ _
    (λ z. either (λ (d : Ctx). d.closures ≡ []) (nat_le (class_extent c.classes n).size 1048576) (Ok c) _ e tt)

abbrev ReadSettled : ClassRead → Type 0
ReadSettled x = Settled x.state

read_settled : (s : List Lexeme) (st : State) (at : At) (home : Home) (members : syntax.Trees) → Settled st → On ReadSettled (read_members s st at home members)
read_settled s st at home members e = bind Reads ReadSettled (members_of s home (record { state = st; members = []; initialised = [] }) members) _
    (each_holds Reads (member_of s home) (record { state = st; members = []; initialised = [] }) members e (λ r t i. member_settled s home r t i))
    (λ r h. bind (λ (d : Ctx). d.closures ≡ []) ReadSettled (closed_class at home.number (completed r.state.ctx home at r.members r.initialised)) _
    (closed_settled at home.number (completed r.state.ctx home at r.members r.initialised)
    (completed_settled r.state.ctx home at r.members r.initialised ∙ h)) (λ c i. i))

class_settled : (s : List Lexeme) (st : State) (at : At) (name : List ℕ) (kids : syntax.Trees) → Settled st → On ReadSettled (class_read s st at name kids)
class_settled s st at name kids e = skip ReadSettled (text_sized at (class_text s kids)) _
    (λ z. bind (λ (b : Begun). b.ctx.closures ≡ []) ReadSettled (begun st.ctx at name true) _
    (begun_settled st.ctx at name true (type_named name st.ctx.types) e)
    (λ b i. skip ReadSettled (base_named s b.ctx kids) _
    (λ base. read_settled s (record st { ctx = b.ctx }) at (record { number = b.number; name = name; base = base; is_final = has_final kids })
    (members_among kids) i)))

-- The class

-- what the definitions have behind the brace
abbrev brace : Lambdas → List Lexeme → syntax.Trees → ClassRead → Result State ElabFault
brace lams s members x = and_then (rules.all_defaults lams s x.home.number x.state members)
    (λ (st : State). rules.all_late lams s x.home.number x.home.name st members)

closed_steps : (lams : Lambdas) (s : List Lexeme) (home : Home) (at : At) (r : Members) (members : syntax.Trees)
    → rules.class_closed lams s home at r members ≡ and_then (read_closed at home r) (brace lams s members)
closed_steps lams s home at r members = sym (nest (closed_class at home.number (completed r.state.ctx home at r.members r.initialised)) _
    (brace lams s members))

members_steps : (lams : Lambdas) (s : List Lexeme) (st : State) (at : At) (home : Home) (members : syntax.Trees)
    → rules.class_with lams s st at home members ≡ and_then (read_members s st at home members) (brace lams s members)
members_steps lams s st at home members =
    same_behind (members_of s home (record { state = st; members = []; initialised = [] }) members) _ _ (λ r. closed_steps lams s home at r members)
    ∙ sym (nest (members_of s home (record { state = st; members = []; initialised = [] }) members) (read_closed at home) (brace lams s members))

class_steps : (lams : Lambdas) (s : List Lexeme) (st : State) (at : At) (name : List ℕ) (kids : syntax.Trees)
    → rules.class_defined lams s st at name kids ≡ and_then (class_read s st at name kids) (brace lams s (members_among kids))
class_steps lams s st at name kids =
    let g : ClassRead → Result State ElabFault = brace lams s (members_among kids) in
    same_behind (text_sized at (class_text s kids)) _ _
    (λ z. same_behind (begun st.ctx at name true) _ _
    (λ b. same_behind (base_named s b.ctx kids) _ _
    (λ base. members_steps lams s (record st { ctx = b.ctx }) at (record { number = b.number; name = name; base = base; is_final = has_final kids })
    (members_among kids))
    ∙ sym (nest (base_named s b.ctx kids) _ g)) ∙ sym (nest (begun st.ctx at name true) _ g)) ∙ sym (nest (text_sized at (class_text s kids)) _ g)

brace_same : (lams : Lambdas) → Lawful lams → (s : List Lexeme) (members : syntax.Trees) (x : ClassRead) → Settled x.state
    → code.behind_brace lams s members x ≡ brace lams s members x
brace_same lams q s members x e = ap (λ z. and_then z (λ (st : State). code.all_late lams s x.home.number x.home.name st members))
    (all_same lams q s x.home.number x.state members e)
    ∙ same_after Settled (rules.all_defaults lams s x.home.number x.state members) (λ (st : State). code.all_late lams s x.home.number x.home.name st members)
    (λ (st : State). rules.all_late lams s x.home.number x.home.name st members) (all_settled lams s x.home.number x.state members e)
    (λ y i. all_late_same lams q s x.home.number x.home.name y members i)

brace_settled : (lams : Lambdas) (s : List Lexeme) (members : syntax.Trees) (x : ClassRead) → Settled x.state → On Settled (brace lams s members x)
brace_settled lams s members x e = bind Settled Settled (rules.all_defaults lams s x.home.number x.state members) _
    (all_settled lams s x.home.number x.state members e) (λ y i. all_late_settled lams s x.home.number x.home.name y members i)

pub class_same : (lams : Lambdas) → Lawful lams → (s : List Lexeme) (st : State) (at : At) (name : List ℕ) (kids : syntax.Trees) → Settled st
    → code.class_defined lams s st at name kids ≡ rules.class_defined lams s st at name kids
class_same lams q s st at name kids e = same_after ReadSettled (class_read s st at name kids) (code.behind_brace lams s (members_among kids))
    (brace lams s (members_among kids)) (class_settled s st at name kids e) (λ x h. brace_same lams q s (members_among kids) x h)
    ∙ sym (class_steps lams s st at name kids)

-- behind a class no lambdas are at hand
pub class_stands : (lams : Lambdas) (s : List Lexeme) (st : State) (at : At) (name : List ℕ) (kids : syntax.Trees) → Settled st
    → On Settled (rules.class_defined lams s st at name kids)
class_stands lams s st at name kids e = subst (On Settled) (sym (class_steps lams s st at name kids))
    (bind ReadSettled Settled (class_read s st at name kids) _ (class_settled s st at name kids e) (λ x h. brace_settled lams s (members_among kids) x h))
