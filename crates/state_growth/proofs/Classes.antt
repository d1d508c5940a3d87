-- Behind a class that is defined stands what stood before it; the class itself becomes complete.
use Rattle.std.proofs.Common.{◌≡◌, ℕ, Bool, true, false, List, [], ◌∷◌, ◌++◌, length, refl, ap, ◌∙◌, Option, Some, None, Result, Ok}
use Rattle.std.specs.Prelude.{if◌then◌else◌, ◌&&◌, not, is_none, is_some, nat_le, ◌||◌}
use Rattle.elab_rules.specs.cpp_types.Typ.{Typ, typ, Form, class, func}
use Rattle.elab_rules.specs.cpp_types.Class.{Class, Member, completion_of, held}
use Rattle.elab_rules.specs.cpp_types.declared.classes.At.{At}
use Rattle.elab_rules.specs.cpp_lex.Tokens.{Lexeme}
use Rattle.elab_rules.specs.cpp_ast.declared.kinds.NodeKind.TheVariants as k
use Rattle.elab_rules.specs.cpp_ast.Trees as syntax
use Rattle.elab_rules.specs.cpp_tree.declared.program.FuncKind.{FuncKind}
use Rattle.elab_rules.specs.cpp_tree.declared.program.FuncKind.TheVariants.{Plain, Constructor, Destructor}
use Rattle.elab_rules.specs.cpp_tree.declared.faults.ElabFault.{ElabFault}
use Rattle.elab_rules.specs.elab_ctx.Ctx.{Ctx, Func}
use Rattle.elab_rules.specs.elab_ctx.Steps.{and_then, at_of, check}
use Rattle.elab_rules.specs.Types.{Declared, has_auto, is_bounded, is_abstract_type, type_named}
use Rattle.elab_rules.specs.Statements.{State, Lambdas, initialised, is_own_name, is_trivial, name_of}
use Rattle.elab_rules.specs.Functions.{Header, Storage, text_sized, first_from, header_sized, is_same_function}
use Rattle.elab_rules.specs.Functions.{new_function, no_storage}
use Rattle.elab_rules.specs.Classes.{Home, Members, Begun, begun, begun_in, members_of, member_of, completed, closed_class, method_of, body_in}
use Rattle.elab_rules.specs.Classes.{class_text, Marks, Definition, Started, data_member, member_function, declared_method, declared_member, member_declarator}
use Rattle.elab_rules.specs.Classes.{member_declarators, Specials, with_destructor, with_copy, with_default, all_held, base_default, declarator_among}
use Rattle.elab_rules.specs.Classes.{definition_between, definition_sized, has_equal, has_function, has_initialiser, has_member, has_no_pointer, header_in}
use Rattle.elab_rules.specs.Classes.{is_destructor_of, is_no_place, is_trivial_default, last_token, marks_fit, marks_from, may_copy, member_form, member_named}
use Rattle.elab_rules.specs.Classes.{members_default, no_function_words, no_marks, overridden, overrides_well, started_from, within_bounds, written_copy}
use Rattle.elab_rules.specs.Members.{base_named, has_final, members_among}
use Rattle.elab_rules.specs.cpp_tree.declared.faults.IllRule.TheVariants.{AbstractObject, BadDeclaration, Incomplete, OutOfProfile, Redeclared}
use Rattle.elab_rules.specs.cpp_layout.Layout.{class_extent}
use Rattle.elab_rules.specs.Expressions.{declared_by, type_of_specifiers}
use Rattle.elab_rules.specs.Objects.{element_of, traits_at}
use Rattle.elab_rules.specs.cpp_tree.Typing.{form_in}
use Rattle.elab_rules.specs.Operators.{is_complete}
use Rattle.elab_rules.specs.Initialising.{is_constructor, places_from}
use Rattle.elab_rules.specs.Sizes.{typ_sized}
use Rattle.elab_rules.specs.Classes.{with_class, begun_by, with_function, with_implicit, with_record, class_named, own_functions, slots_of}
use Rattle.elab_rules.specs.Classes.{is_completed, as_written, member_func}
use Rattle.elab_rules.specs.Members.{declared_only, class_closed, class_with, class_defined, all_defaults, all_late}
use Rattle.std.specs.Prelude.{count_by}
use Rattle.elab_rules.specs.cpp_tree.declared.faults.IllRule.{IllRule}
use Rattle.elab_fits.specs.Standing.{On}
use Rattle.setting_growth.proofs.Settings.{classes_stay, slots_stay, globals_stay}
use Rattle.state_growth.proofs.Numbers.{numbers_stay, numbers_added}
use Rattle.state_growth.proofs.Steps.{seen, Leaves, stays, after, funcs_stay, bind, skip, either}
use Rattle.state_growth.proofs.Items.{Lawful}
use Rattle.state_growth.proofs.Bodies.{classes_added, slots_added, funcs_added, tidy_added}
use Rattle.state_growth.proofs.Members.{each_holds, defaults_kept, all_late_kept}
use Rattle.state_growth.proofs.Changing.{From, since, leaves_from, completed_since, Further, no_further, further_on}

-- Up to the name

checked : {B : Type 0} (Q : B → Type 0) (at : At) (rule : IllRule) (b : Bool) (f : Bool → Result B ElabFault) → (b ≡ true → On Q (f true))
    → On Q (and_then (check at rule b) f)
checked Q at rule true f h = h refl
checked Q at rule false f h = tt

is_nothing : (o : Option ℕ) → is_none o ≡ true → o ≡ None
is_nothing None h = refl
is_nothing (Some n) h = absurd cc

at_end : (cs : List Class) (c : Class) → completion_of (cs ++ c ∷ []) (length cs) ≡ c.complete
at_end [] c = refl
at_end (d ∷ cs) c = at_end cs c

no_number : (st : State) (k : ℕ) → None ≡ Some k → k ≡ count_by is_completed st.ctx.classes
no_number st k h = absurd cc

-- a class is begun behind the others
class_begun : (st : State) (name : List ℕ) → Leaves st (record st { ctx = with_class st.ctx name })
class_begun st name = record {
  kept = record {
    classes = classes_added st.ctx.classes (class_named name None false [] [] None);
    numbers = numbers_added st.ctx.classes (class_named name None false [] [] None) (no_number st);
    slots = slots_added st.ctx.slots [];
    funcs = funcs_stay st.ctx.funcs;
    globals = globals_stay st.work.globals;
    frame = λ i t h. h;
  };
  tidy = tidy_added (seen st) (class_named name None false [] [] None) (seen (record st { ctx = with_class st.ctx name })) refl refl
      (no_number st);
}

pub record IsBegun (st : State) (defines : Bool) (b : Begun) : Type 0 where
  pub leaves : Leaves st (record st { ctx = b.ctx })
  pub incomplete : defines ≡ true → completion_of b.ctx.classes b.number ≡ None

defined_once : (b : Bool) (o : Option ℕ) → (not b || is_none o) ≡ true → b ≡ true → o ≡ None
defined_once true o h e = is_nothing o h
defined_once false o h e = absurd cc

begun_typ : (st : State) (at : At) (defines : Bool) (t : Typ) → On (IsBegun st defines) (begun_by st.ctx at defines t)
begun_typ st at defines (typ (class n) false false) = checked (IsBegun st defines) at Redeclared (not defines || is_none (completion_of st.ctx.classes n)) _
    (λ h. record { leaves = stays st; incomplete = defined_once defines (completion_of st.ctx.classes n) h })
begun_typ st at defines t = tt

pub begun_name : (st : State) (at : At) (name : List ℕ) (defines : Bool) (o : Option Typ) → On (IsBegun st defines) (begun_in st.ctx at name defines o)
begun_name st at name defines (Some t) = begun_typ st at defines t
begun_name st at name defines None =
    record { leaves = class_begun st name; incomplete = λ e. at_end st.ctx.classes (class_named name None false [] [] None) }

pub declared_kept : (st : State) (at : At) (name : List ℕ) → On (Leaves st) (declared_only st at name)
declared_kept st at name = bind (IsBegun st false) (Leaves st) (begun st.ctx at name false) _
    (begun_name st at name false (type_named name st.ctx.types)) (λ b h. h.leaves)

-- Members

pub record ReadTo (st y : State) : Type 0 where
  pub classes : y.ctx.classes ≡ st.ctx.classes
  pub leaves : Leaves st y

abbrev pub Read : State → Members → Type 0
Read st r = ReadTo st r.state

function_added : (st : State) (f : Func) → Leaves st (record st { ctx = record st.ctx { funcs = st.ctx.funcs ++ f ∷ [] } })
function_added st f = record {
  kept = record {
    classes = classes_stay st.ctx.classes;
    numbers = numbers_stay st.ctx.classes;
    slots = slots_stay st.ctx.slots;
    funcs = funcs_added st.ctx.funcs f;
    globals = globals_stay st.work.globals;
    frame = λ i t h. h;
  };
  tidy = λ t. record { many = t.many; empty = t.empty; numbered = t.numbered };
}

with_read : (st : State) (r : Members) (f : Func) → Read st r → Read st (with_function r f)
with_read st r f e = record { classes = e.classes; leaves = after st r.state (with_function r f).state e.leaves (function_added r.state f) }

data_read : (st : State) (n : ℕ) (r : Members) (at : At) (name : List ℕ) (t : Typ) (b : Bool) → Read st r → On (Read st) (data_member n r at name t b)
data_read st n r at name t b e = skip (Read st) (member_form at (form_in t)) _
    (λ a. skip (Read st) (check at OutOfProfile (not (has_auto t))) _
    (λ b2. skip (Read st) (check at BadDeclaration (is_bounded t)) _
    (λ d. skip (Read st) (check at Incomplete (is_complete r.state.ctx (held t))) _
    (λ e2. skip (Read st) (check at AbstractObject (not (is_abstract_type r.state.ctx (element_of t)))) _
    (λ f. skip (Read st) (typ_sized r.state.ctx.classes at t) _
    (λ h. skip (Read st) (check at Redeclared (not (has_member name r.members) && not (has_function n name r.state.ctx.funcs))) _ (λ g. e)))))))

function_member_read : (st : State) (home : Home) (r : Members) (h : Header) (m : Marks) (d : Option Definition) → Read st r → On (Read st) (member_function home r h m d)
function_member_read st home r h m d e = skip (Read st) (check h.at Redeclared
    (is_none (first_from (is_same_function h) 0 r.state.ctx.funcs) && not (has_member h.name r.members))) _
    (λ y. skip (Read st) (overrides_well h (overridden r.state.ctx home.base (new_function h).declared)) _
    (λ z. skip (Read st) (marks_fit h m (is_some (overridden r.state.ctx home.base (new_function h).declared))
    (h.storage.is_virtual || is_some (overridden r.state.ctx home.base (new_function h).declared))) _
    (λ x. skip (Read st) (header_sized r.state.ctx h) _ (λ w. skip (Read st) (definition_sized h.at d) _
    (λ v. with_read st r (as_written d (member_func h m (overridden r.state.ctx home.base (new_function h).declared))) e)))))

method_declared_read : (st : State) (s : List Lexeme) (home : Home) (r : Members) (kind : FuncKind) (at : At) (d : Option Definition) (kids : syntax.Trees) → Read st r
    → On (Read st) (declared_method s home r kind at d kids)
method_declared_read st s home r kind at d kids e = skip (Read st) (within_bounds (declarator_among s home.number r kids)) _
    (λ w. skip (Read st) (method_of s r.state home.number home.name at kind kids) _
    (λ m. function_member_read st home r m.header (marks_from s no_marks m.rest) d e))

declared_read : (st : State) (home : Home) (r : Members) (at : At) (x : Storage) (m : Marks) (rest : syntax.Trees) (name : List ℕ) (d : Declared) (f : Form) → Read st r
    → On (Read st) (declared_member home r at x m rest name d f)
declared_read st home r at x m rest name d (func sig) e =
    skip (Read st) (check at BadDeclaration (not (has_equal rest))) _
    (λ y. skip (Read st) (header_in home.number x Plain at name d (func sig)) _ (λ h. function_member_read st home r h m None e))
declared_read st home r at x m rest name d f e = skip (Read st) (check at BadDeclaration (no_function_words x m)) _
    (λ y. data_read st home.number r at name d.typ (has_initialiser rest) e)

declarator_read : (st : State) (s : List Lexeme) (home : Home) (x : Storage) (t : Typ) (r : Members) (d : syntax.Tree) → Read st r
    → On (Read st) (member_declarator s home x t r d)
declarator_read st s home x t r (syntax.node kind p token (syntax.more d rest)) e =
    skip (Read st) (within_bounds (member_named s home.number r d)) _
    (λ w. skip (Read st) (declared_by s r.state.ctx r.state.work (at_of p) t d) _
    (λ y. skip (Read st) (check (at_of p) BadDeclaration (is_own_name y)) _
    (λ z. declared_read st home r (at_of p) x (marks_from s no_marks rest) rest (name_of s y.name) y (form_in y.typ) e)))
declarator_read st s home x t r (syntax.node kind p token syntax.none) e = tt

declarators_read : (st : State) (s : List Lexeme) (home : Home) (r : Members) (at : At) (x : Started) (ds : syntax.Trees) → Read st r
    → On (Read st) (member_declarators s home r at x ds)
declarators_read st s home r at x (syntax.more base ds) e =
    skip (Read st) (type_of_specifiers s r.state.ctx r.state.work base) _
    (λ t. each_holds (Read st) (member_declarator s home x.storage t) r ds e (λ y d i. declarator_read st s home x.storage t y d i))
declarators_read st s home r at x syntax.none e = tt

pub member_read : (st : State) (s : List Lexeme) (home : Home) (r : Members) (t : syntax.Tree) → Read st r → On (Read st) (member_of s home r t)
member_read st s home r (syntax.node k.AccessLabel p token kids) e = e
member_read st s home r (syntax.node k.MemberDeclaration p token kids) e =
    declarators_read st s home r (at_of p) (started_from s no_storage kids) (started_from s no_storage kids).rest e
member_read st s home r (syntax.node k.FunctionDefinition p (Some t) kids) e =
    method_declared_read st s home r Plain (at_of p) (Some (definition_between s t (last_token (body_in kids)))) kids e
member_read st s home r (syntax.node k.ConstructorDeclaration p token kids) e = method_declared_read st s home r Constructor (at_of p) None kids e
member_read st s home r (syntax.node k.ConstructorDefinition p (Some t) kids) e =
    method_declared_read st s home r Constructor (at_of p) (Some (definition_between s t (last_token (body_in kids)))) kids e
member_read st s home r (syntax.node k.DestructorDeclaration p token kids) e = method_declared_read st s home r Destructor (at_of p) None kids e
member_read st s home r (syntax.node k.DestructorDefinition p (Some t) kids) e =
    method_declared_read st s home r Destructor (at_of p) (Some (definition_between s t (last_token (body_in kids)))) kids e
member_read st s home r t e = tt

-- Implicit members

abbrev Specially : Ctx → Specials → Type 0
Specially c x = Further c x.ctx

one_further : (c : Ctx) (f : Func) → Specially c (with_implicit c f)
one_further c f = record { classes = refl; slots = refl; funcs = funcs_added c.funcs f }

if_special : (c : Ctx) (b : Bool) (x y : Specials) → Specially c x → Specially c y → Specially c (if b then x else y)
if_special c true x y h k = h
if_special c false x y h k = k

destructor_further : (c : Ctx) (home : Home) (at : At) (ms : List Member) (o : Option ℕ) → Specially c (with_destructor c home at ms o)
destructor_further c home at ms (Some i) = no_further c
destructor_further c home at ms None = if_special c (all_held (λ n. is_trivial (traits_at c n).destructor) home.base ms) _ _ (no_further c) (one_further c _)

copy_further : (c : Ctx) (home : Home) (at : At) (ms : List Member) (o : Option ℕ) → Specially c (with_copy c home at ms o)
copy_further c home at ms (Some i) = no_further c
copy_further c home at ms None = if_special c (not (may_copy c home.base ms)) _ _ (no_further c)
    (if_special c (has_no_pointer c home && all_held (λ n. is_trivial (traits_at c n).copy) home.base ms) _ _ (no_further c) (one_further c _))

default_further : (c : Ctx) (home : Home) (at : At) (ms : List Member) (initialised : List ℕ) (b : Bool)
    → Specially c (with_default c home at ms initialised b)
default_further c home at ms initialised false = no_further c
default_further c home at ms initialised true = if_special c (not (base_default c home.base && members_default c initialised 0 ms)) _ _ (no_further c)
    (if_special c (is_trivial_default c home ms initialised) _ _ (no_further c) (one_further c _))

-- The brace

record_since : (a st : State) (d : Ctx) (home : Home) (ms : List Member) → From a st → Further st.ctx d
    → completion_of st.ctx.classes home.number ≡ None → From a (record st { ctx = with_record d home ms })
record_since a st d home ms s f e = completed_since (seen a) (seen st) d.classes d.slots d.funcs home.number (count_by is_completed d.classes)
    (class_named home.name home.base home.is_final ms (own_functions home.number d.funcs) (Some (count_by is_completed d.classes)))
    (slots_of d home (own_functions home.number d.funcs)) refl (ap (count_by is_completed) f.classes) s f.classes f.slots f.funcs e

pub completed_from : (a st : State) (home : Home) (at : At) (ms : List Member) (initialised : List ℕ) → From a st
    → completion_of st.ctx.classes home.number ≡ None → From a (record st { ctx = completed st.ctx home at ms initialised })
completed_from a st home at ms initialised s e =
    let c : Ctx = st.ctx in
    let d : Specials = with_destructor c home at ms (first_from (is_destructor_of home.number) 0 c.funcs) in
    let k : Specials = with_copy d.ctx home at ms (written_copy d.ctx home) in
    let x : Specials = with_default k.ctx home at ms initialised (is_no_place (places_from (is_constructor home.number) 0 c.funcs)) in
    record_since a st x.ctx home ms s
    (further_on c k.ctx x.ctx (further_on c d.ctx k.ctx (destructor_further c home at ms (first_from (is_destructor_of home.number) 0 c.funcs))
    (copy_further d.ctx home at ms (written_copy d.ctx home)))
    (default_further k.ctx home at ms initialised (is_no_place (places_from (is_constructor home.number) 0 c.funcs)))) e

pub closed_from : (a st : State) (at : At) (n : ℕ) (c : Ctx) → From a (record st { ctx = c }) → On (λ (d : Ctx). From a (record st { ctx = d })) (closed_class at n c)
closed_from a st at n c h = skip (λ (d : Ctx). From a (record st { ctx = d })) _ _
    (λ (z : Bool). either (λ (d : Ctx). From a (record st { ctx = d })) (nat_le (class_extent c.classes n).size 1048576) (Ok c) _ h tt)

-- behind the brace
late_from : (lams : Lambdas) → Lawful lams → (s : List Lexeme) (home : Home) (a y : State) (members : syntax.Trees) → From a y
    → On (From a) (and_then (all_defaults lams s home.number y members) (λ (st : State). all_late lams s home.number home.name st members))
late_from lams q s home a y members h = bind (Leaves y) (From a) (all_defaults lams s home.number y members) _ (defaults_kept lams q s home.number y members)
    (λ x i. leaves_from a x (all_late lams s home.number home.name x members) (since a y x h i) (all_late_kept lams q s home.number home.name x members))

class_closed_from : (lams : Lambdas) → Lawful lams → (s : List Lexeme) (home : Home) (at : At) (a : State) (r : Members) (members : syntax.Trees)
    → From a r.state → completion_of r.state.ctx.classes home.number ≡ None → On (From a) (class_closed lams s home at r members)
class_closed_from lams q s home at a r members h e = bind (λ (d : Ctx). From a (record r.state { ctx = d })) (From a)
    (closed_class at home.number (completed r.state.ctx home at r.members r.initialised)) _
    (closed_from a r.state at home.number (completed r.state.ctx home at r.members r.initialised)
    (completed_from a r.state home at r.members r.initialised h e))
    (λ c i. late_from lams q s home a (record r.state { ctx = c }) members i)

class_with_from : (lams : Lambdas) → Lawful lams → (s : List Lexeme) (a st : State) (at : At) (home : Home) (members : syntax.Trees) → From a st
    → completion_of st.ctx.classes home.number ≡ None → On (From a) (class_with lams s st at home members)
class_with_from lams q s a st at home members h e =
    bind (Read st) (From a) (members_of s home (record { state = st; members = []; initialised = [] }) members) _
    (each_holds (Read st) (member_of s home) (record { state = st; members = []; initialised = [] }) members (record { classes = refl; leaves = stays st })
    (λ r t i. member_read st s home r t i))
    (λ r i. class_closed_from lams q s home at a r members (since a st r.state h i.leaves)
    (ap (λ (cs : List Class). completion_of cs home.number) i.classes ∙ e))

pub class_from : (lams : Lambdas) → Lawful lams → (s : List Lexeme) (a st : State) (at : At) (name : List ℕ) (kids : syntax.Trees) → From a st
    → On (From a) (class_defined lams s st at name kids)
class_from lams q s a st at name kids h = skip (From a) (text_sized at (class_text s kids)) _
    (λ z. bind (IsBegun st true) (From a) (begun st.ctx at name true) _ (begun_name st at name true (type_named name st.ctx.types))
    (λ b i. skip (From a) (base_named s b.ctx kids) _
    (λ base. class_with_from lams q s a (record st { ctx = b.ctx }) at
    (record { number = b.number; name = name; base = base; is_final = has_final kids }) (members_among kids)
    (since a st (record st { ctx = b.ctx }) h i.leaves) (i.incomplete refl))))
