-- A class goes on by steps: it is named, its functions are declared, and at its brace it becomes complete.
use Rattle.std.proofs.Common.{◌≡◌, ℕ, zero, suc, Bool, true, false, List, [], ◌∷◌, ◌++◌, length, refl, sym, ◌∙◌, subst, Option, Some, None, Result, Ok, Err}
use Rattle.std.specs.Prelude.{if◌then◌else◌, ◌&&◌, not, is_none, is_some, nat_le, ◌||◌}
use Rattle.elab_rules.specs.cpp_types.Typ.{Typ, typ, Form, class, func}
use Rattle.elab_rules.specs.cpp_types.Class.{Class, Member, completion_of, held}
use Rattle.elab_rules.specs.cpp_types.declared.classes.At.{At}
use Rattle.elab_rules.specs.cpp_lex.Tokens.{Lexeme}
use Rattle.elab_rules.specs.cpp_ast.declared.kinds.NodeKind.TheVariants as k
use Rattle.elab_rules.specs.cpp_ast.Trees as syntax
use Rattle.elab_rules.specs.cpp_tree.declared.program.FuncKind.{FuncKind}
use Rattle.elab_rules.specs.cpp_tree.declared.program.FuncKind.TheVariants.{Plain, Constructor, Destructor, ClosureCall}
use Rattle.elab_rules.specs.cpp_tree.declared.faults.ElabFault.{ElabFault}
use Rattle.elab_rules.specs.elab_ctx.Ctx.{Ctx, Func}
use Rattle.elab_rules.specs.elab_ctx.Steps.{and_then, at_of, check}
use Rattle.elab_rules.specs.Types.{Declared, has_auto, is_bounded, is_abstract_type, type_named}
use Rattle.elab_rules.specs.Statements.{State, Lambdas, initialised, is_own_name, is_trivial, name_of}
use Rattle.elab_rules.specs.Functions.{Header, Storage, text_sized, first_from, header_sized, is_same_function}
use Rattle.elab_rules.specs.Functions.{new_function, no_storage}
use Rattle.elab_rules.specs.Classes.{Home, Members, Begun, begun, begun_in, members_of, member_of, completed, closed_class, Method, method_of, body_in}
use Rattle.elab_rules.specs.Classes.{class_text, Marks, Definition, Started, data_member, member_function, declared_method, declared_member, member_declarator}
use Rattle.elab_rules.specs.Classes.{member_declarators, Specials, with_destructor, with_copy, with_default, all_held, base_default, declarator_among}
use Rattle.elab_rules.specs.Classes.{definition_between, definition_sized, has_equal, has_function, has_initialiser, has_member, has_no_pointer, header_in}
use Rattle.elab_rules.specs.Classes.{is_destructor_of, is_no_place, is_trivial_default, last_token, marks_fit, marks_from, may_copy, member_form, member_named}
use Rattle.elab_rules.specs.Classes.{members_default, no_function_words, no_marks, overridden, overrides_well, started_from, within_bounds, written_copy}
use Rattle.elab_rules.specs.Members.{base_named, has_final, members_among}
use Rattle.elab_rules.specs.cpp_tree.declared.faults.IllRule.TheVariants.{AbstractObject, BadDeclaration, Incomplete, OutOfProfile, Redeclared}
use Rattle.elab_rules.specs.cpp_layout.Layout.{class_extent}
use Rattle.elab_rules.specs.Expressions.{declared_by, type_of_specifiers}
use Rattle.elab_rules.specs.Objects.{element_of, traits_at}
use Rattle.elab_rules.specs.cpp_tree.Typing.{form_in}
use Rattle.elab_rules.specs.Operators.{is_complete}
use Rattle.elab_rules.specs.Initialising.{is_constructor, places_from}
use Rattle.elab_rules.specs.Sizes.{typ_sized}
use Rattle.elab_rules.specs.cpp_tree.Notation.{plain}
use Rattle.elab_rules.specs.Classes.{with_class, begun_by, with_function, class_named}
use Rattle.elab_rules.specs.Classes.{as_written, member_func}
use Rattle.elab_rules.specs.Members.{declared_only, class_with, class_defined, all_defaults, all_late}
use Rattle.std.specs.Prelude.{slice_get}
use Rattle.elab_fits.specs.Standing.{On}
use Rattle.elab_fits.proofs.Steps.{bind, skip, weaken, checked, expected}
use Rattle.elab_contexts.proofs.Items.{Lawful}
use Rattle.elab_contexts.proofs.Members.{each_holds, defaults_kept, all_late_kept}
use Rattle.elab_rules.specs.cpp_tree.Typing.{is_reference}
use Rattle.elab_rules.specs.cpp_types.Typ.{void, int, enum, null, ptr, ref, array, closure, tx_ex}
use Rattle.elab_rules.specs.Classes.{plain_method, special_method, method_started, special_header, special_name, is_special}
use Rattle.elab_contexts.specs.Steps.{class_begun as begun_step, class_completed, function_added as added_step, SameFunction, IsOpen, IsWhole, IsBase, IsMember, has_name, is_written}
use Rattle.elab_contexts.specs.Texts.{is_no_name}
use Rattle.elab_contexts.specs.Holding.{HasTypeNames}
use Rattle.elab_contexts.proofs.Found.{at_the_end}
use Rattle.elab_contexts.proofs.Names.{Listed, ListedDeclared, named_listed, called_listed, specifiers_listed, declared_listed}
use Rattle.elab_contexts.proofs.Going.{From, begin, since, from_on, from_from, names_still, leaves_from, name_added, name_at_end}
use Rattle.elab_contexts.proofs.Walking.{Leaves, naming, follow, of_state, one_step}
use Rattle.elab_contexts.proofs.Makers.{closing}
use Rattle.elab_contexts.proofs.Owned.{overriders_closed}
use Rattle.elab_contexts.proofs.Lists.{one_more}
use Rattle.std.specs.Str.{bytes_eq}
use Rattle.elab_rules.specs.cpp_types.Class.{Function}
use Rattle.std.proofs.lemmas.Option.{same_Some}
use Rattle.elab_rules.specs.elab_ctx.Steps.{spelling, token_place}
use Rattle.elab_rules.specs.Classes.{based_on, base_class, keeps, is_final_class}
use Rattle.elab_rules.specs.cpp_tree.declared.faults.IllRule.TheVariants.{UnknownName}
use Rattle.elab_rules.specs.cpp_tree.declared.faults.OverrideRule.TheVariants.{BaseFinal}
use Rattle.elab_contexts.proofs.Captures.{is_whole}
use Rattle.elab_contexts.specs.Steps.{is_same_declared}

-- Up to the name

is_nothing : (o : Option ℕ) → is_none o ≡ true → o ≡ None
is_nothing None h = refl
is_nothing (Some n) h = absurd cc

-- a class is begun behind the others
class_begun : (st : State) (name : List ℕ) → is_no_name name ≡ false → From st (record st { ctx = with_class st.ctx name })
class_begun st name q =
    let c : Class = class_named name None false [] [] None in
    record {
      walk = one_step (begun_step (record { name = name; named = q; is = refl }));
      enumerators = λ h. h;
      types = λ h. named_listed (st.ctx.classes ++ c ∷ []) st.ctx.types name (plain (class (length st.ctx.classes)))
          (names_still st.ctx.classes (st.ctx.classes ++ c ∷ []) st.ctx.types (name_added st.ctx.classes c) h)
          (name_at_end st.ctx.classes c q);
    }

pub record IsBegun (st : State) (defines : Bool) (b : Begun) : Type 0 where
  pub from : From st (record st { ctx = b.ctx })
  pub unclosed : HasTypeNames st.ctx.classes st.ctx.types → defines ≡ true → IsOpen b.ctx.classes b.number

defined_once : (b : Bool) (o : Option ℕ) → (not b || is_none o) ≡ true → b ≡ true → o ≡ None
defined_once true o h e = is_nothing o h
defined_once false o h e = absurd cc

-- a class that has a name and is not complete is open
open_in : (cs : List Class) (n : ℕ) → has_name cs n ≡ true → completion_of cs n ≡ None → IsOpen cs n
open_in [] n l e = absurd cc
open_in (c ∷ cs) zero l e = record { class = c; at = refl; incomplete = e }
open_in (c ∷ cs) (suc n) l e = let x = open_in cs n l e in record { class = x.class; at = x.at; incomplete = x.incomplete }

begun_typ : (st : State) (at : At) (name : List ℕ) (defines : Bool) (t : Typ) → type_named name st.ctx.types ≡ Some t
    → On (IsBegun st defines) (begun_by st.ctx at defines t)
begun_typ st at name defines (typ (class n) false false) e = checked (IsBegun st defines) at Redeclared (not defines || is_none (completion_of st.ctx.classes n)) _
    (λ h. record {
      from = begin st;
      unclosed = λ l d. open_in st.ctx.classes n
          (called_listed st.ctx.classes st.ctx.types name l (typ (class n) false false) e)
          (defined_once defines (completion_of st.ctx.classes n) h d);
    })
begun_typ st at name defines t e = tt

begun_name : (st : State) (at : At) (name : List ℕ) (defines : Bool) → is_no_name name ≡ false → (o : Option Typ) → type_named name st.ctx.types ≡ o
    → On (IsBegun st defines) (begun_in st.ctx at name defines o)
begun_name st at name defines q (Some t) e = begun_typ st at name defines t e
begun_name st at name defines q None e = record {
  from = class_begun st name q;
  unclosed = λ l d. record { class = class_named name None false [] [] None; at = at_the_end st.ctx.classes _; incomplete = refl };
}

pub begun_from : (st : State) (at : At) (name : List ℕ) (defines : Bool) → is_no_name name ≡ false → On (IsBegun st defines) (begun st.ctx at name defines)
begun_from st at name defines q = begun_name st at name defines q (type_named name st.ctx.types) refl

pub declared_from : (st : State) (at : At) (name : List ℕ) → is_no_name name ≡ false → On (From st) (declared_only st at name)
declared_from st at name q = bind (IsBegun st false) (From st) (begun st.ctx at name false) _ (begun_from st at name false q) (λ b h. h.from)

-- The header of a member

abbrev Owned : ℕ → Header → Type 0
Owned n h = h.class ≡ Some n

abbrev OwnedMethod : ℕ → Method → Type 0
OwnedMethod n m = Owned n m.header

header_owned : (n : ℕ) (x : Storage) (kind : FuncKind) (at : At) (name : List ℕ) (r : Declared) (f : Form) → On (Owned n) (header_in n x kind at name r f)
header_owned n x kind at name r (func sig) = refl
header_owned n x kind at name r void = tt
header_owned n x kind at name r (int k) = tt
header_owned n x kind at name r (enum e s) = tt
header_owned n x kind at name r null = tt
header_owned n x kind at name r (ptr t) = tt
header_owned n x kind at name r (ref t) = tt
header_owned n x kind at name r (array t b) = tt
header_owned n x kind at name r (class m) = tt
header_owned n x kind at name r (closure m) = tt
header_owned n x kind at name r (tx_ex t) = tt

plain_owned : (s : List Lexeme) (st : State) (n : ℕ) (at : At) (x : Storage) (ts : syntax.Trees) → On (OwnedMethod n) (plain_method s st n at x ts)
plain_owned s st n at x syntax.none = tt
plain_owned s st n at x (syntax.more base syntax.none) = tt
plain_owned s st n at x (syntax.more base (syntax.more d rest)) = skip (OwnedMethod n) (type_of_specifiers s st.ctx st.work base) _
    (λ t. skip (OwnedMethod n) (declared_by s st.ctx st.work at t d) _
    (λ r. bind (Owned n) (OwnedMethod n) (header_in n x Plain at (name_of s r.name) r (form_in r.typ)) _
    (header_owned n x Plain at (name_of s r.name) r (form_in r.typ)) (λ h i. i)))

special_owned : (n : ℕ) (class_name : List ℕ) (at : At) (x : Storage) (kind : FuncKind) (r : Declared) (name : List ℕ)
    → On (Owned n) (special_header n class_name at x kind r name)
special_owned n class_name at x kind r name = skip (Owned n) (check at BadDeclaration (bytes_eq name class_name && not r.qualifiers.is_const)) _
    (λ y. bind (Owned n) (Owned n) (header_in n x kind at (special_name kind class_name) r (form_in r.typ)) _
    (header_owned n x kind at (special_name kind class_name) r (form_in r.typ))
    (λ h i. skip (Owned n) (check at BadDeclaration (is_special kind n h.signature)) _ (λ z. i)))

method_special_owned : (s : List Lexeme) (st : State) (n : ℕ) (class_name : List ℕ) (at : At) (x : Storage) (kind : FuncKind) (ts : syntax.Trees)
    → On (OwnedMethod n) (special_method s st n class_name at x kind ts)
method_special_owned s st n class_name at x kind syntax.none = tt
method_special_owned s st n class_name at x kind (syntax.more d rest) = skip (OwnedMethod n) (declared_by s st.ctx st.work at (plain void) d) _
    (λ r. bind (Owned n) (OwnedMethod n) (special_header n class_name at x kind r (name_of s r.name)) _
    (special_owned n class_name at x kind r (name_of s r.name)) (λ h i. i))

started_owned : (s : List Lexeme) (st : State) (n : ℕ) (class_name : List ℕ) (at : At) (kind : FuncKind) (x : Started)
    → On (OwnedMethod n) (method_started s st n class_name at kind x)
started_owned s st n class_name at Plain x = plain_owned s st n at x.storage x.rest
started_owned s st n class_name at Constructor x = method_special_owned s st n class_name at x.storage Constructor x.rest
started_owned s st n class_name at Destructor x = method_special_owned s st n class_name at x.storage Destructor x.rest
started_owned s st n class_name at ClosureCall x = method_special_owned s st n class_name at x.storage ClosureCall x.rest

method_owned : (s : List Lexeme) (st : State) (n : ℕ) (class_name : List ℕ) (at : At) (kind : FuncKind) (kids : syntax.Trees)
    → On (OwnedMethod n) (method_of s st n class_name at kind kids)
method_owned s st n class_name at kind kids = started_owned s st n class_name at kind (started_from s no_storage kids)

-- Members

abbrev pub AreMembers : List Class → List Member → Type 0
AreMembers cs ms = (i : ℕ) (m : Member) → slice_get ms i ≡ Some m → IsMember cs m

pub record ReadTo (n : ℕ) (st : State) (r : Members) : Type 0 where
  pub classes : r.state.ctx.classes ≡ st.ctx.classes
  pub leaves : From st r.state
  pub unclosed : IsOpen r.state.ctx.classes n
  pub are : AreMembers st.ctx.classes r.members
  pub types : HasTypeNames r.state.ctx.classes r.state.ctx.types

abbrev pub Read : ℕ → State → Members → Type 0
Read n st r = ReadTo n st r

no_function_here : (c : Option ℕ) (n : ℕ) (A : Type 0) → c ≡ Some n → c ≡ None → A
no_function_here None n A h e = absurd cc
no_function_here (Some m) n A h e = absurd cc

defined_same : (d : Option Definition) (f : Func) → SameFunction f (as_written d f)
defined_same (Some d) f = record { declared = refl; kind = refl; class = refl; builtin = refl; implicit = refl }
defined_same None f = record { declared = refl; kind = refl; class = refl; builtin = refl; implicit = refl }

same_declared : (d : Option Definition) (f : Func) (fs : List Func) → first_from (is_same_declared f) 0 fs ≡ None
    → first_from (is_same_declared (as_written d f)) 0 fs ≡ None
same_declared (Some d) f fs h = h
same_declared None f fs h = h

function_added : (n : ℕ) (st : State) (h : Header) (m : Marks) (o : Option Function) (d : Option Definition) → Owned n h
    → IsOpen st.ctx.classes n → first_from (is_same_function h) 0 st.ctx.funcs ≡ None
    → From st (record st { ctx = record st.ctx { funcs = st.ctx.funcs ++ as_written d (member_func h m o) ∷ [] } })
function_added n st h m o d w z q =
    let f : Func = as_written d (member_func h m o) in
    let s = defined_same d (member_func h m o) in
    record {
      walk = one_step (added_step (record {
        func = f;
        is = refl;
        unknown = s.builtin;
        written = s.implicit;
        free = λ e. no_function_here h.class n (f.kind ≡ Plain) w (sym s.class ∙ e);
        unclosed = λ i e. subst (λ (j : ℕ). IsOpen st.ctx.classes j) (same_Some n i (sym w ∙ sym s.class ∙ e)) z;
        fresh = same_declared d (member_func h m o) st.ctx.funcs q;
      }));
      enumerators = λ e. e;
      types = λ e. e;
    }

with_read : (n : ℕ) (st : State) (r : Members) (h : Header) (m : Marks) (o : Option Function) (d : Option Definition) → Owned n h
    → first_from (is_same_function h) 0 r.state.ctx.funcs ≡ None → Read n st r → Read n st (with_function r (as_written d (member_func h m o)))
with_read n st r h m o d w q e = record {
  classes = e.classes;
  leaves = from_on st r.state (with_function r (as_written d (member_func h m o))).state e.leaves (function_added n r.state h m o d w e.unclosed q);
  unclosed = e.unclosed;
  are = e.are;
  types = e.types;
}

no_first : (o : Option ℕ) (b : Bool) → (is_none o && b) ≡ true → o ≡ None
no_first None b h = refl
no_first (Some n) b h = absurd cc

form_object : (at : At) (t : Typ) → On (λ (b : Bool). is_reference t ≡ false) (member_form at (form_in t))
form_object at (typ void c v) = tt
form_object at (typ (ref t) c v) = tt
form_object at (typ (int k) c v) = refl
form_object at (typ (enum n s) c v) = refl
form_object at (typ null c v) = refl
form_object at (typ (ptr t) c v) = refl
form_object at (typ (array t n) c v) = refl
form_object at (typ (func s) c v) = refl
form_object at (typ (class n) c v) = refl
form_object at (typ (closure n) c v) = refl
form_object at (typ (tx_ex t) c v) = refl

data_read : (st : State) (n : ℕ) (r : Members) (at : At) (name : List ℕ) (t : Typ) (b : Bool) → is_written r.state.ctx.classes t ≡ true
    → Read n st r → On (Read n st) (data_member n r at name t b)
data_read st n r at name t b w e = bind (λ (x : Bool). is_reference t ≡ false) (Read n st) (member_form at (form_in t)) _ (form_object at t)
    (λ a q. skip (Read n st) (check at OutOfProfile (not (has_auto t))) _
    (λ b2. checked (Read n st) at BadDeclaration (is_bounded t) _
    (λ d. checked (Read n st) at Incomplete (is_complete r.state.ctx (held t)) _
    (λ e2. skip (Read n st) (check at AbstractObject (not (is_abstract_type r.state.ctx (element_of t)))) _
    (λ f. skip (Read n st) (typ_sized r.state.ctx.classes at t) _
    (λ h. skip (Read n st) (check at Redeclared (not (has_member name r.members) && not (has_function n name r.state.ctx.funcs))) _
    (λ g. record {
      classes = e.classes;
      leaves = e.leaves;
      unclosed = e.unclosed;
      types = e.types;
      are = one_more (IsMember st.ctx.classes) r.members (record { name = name; typ = t }) e.are (record {
        written = subst (λ (cs : List Class). is_written cs t ≡ true) e.classes w;
        object = q;
        bounded = d;
        whole = subst (λ (cs : List Class). IsWhole cs (held t)) e.classes (is_whole r.state.ctx (held t) e2);
      });
    })))))))

function_member_read : (st : State) (home : Home) (r : Members) (h : Header) (m : Marks) (d : Option Definition) → Owned home.number h → Read home.number st r
    → On (Read home.number st) (member_function home r h m d)
function_member_read st home r h m d w e = checked (Read home.number st) h.at Redeclared
    (is_none (first_from (is_same_function h) 0 r.state.ctx.funcs) && not (has_member h.name r.members)) _
    (λ y. skip (Read home.number st) (overrides_well h (overridden r.state.ctx home.base (new_function h).declared)) _
    (λ z. skip (Read home.number st) (marks_fit h m (is_some (overridden r.state.ctx home.base (new_function h).declared))
    (h.storage.is_virtual || is_some (overridden r.state.ctx home.base (new_function h).declared))) _
    (λ x. skip (Read home.number st) (header_sized r.state.ctx h) _ (λ u. skip (Read home.number st) (definition_sized h.at d) _
    (λ v. with_read home.number st r h m (overridden r.state.ctx home.base (new_function h).declared) d w (no_first _ _ y) e)))))

method_declared_read : (st : State) (s : List Lexeme) (home : Home) (r : Members) (kind : FuncKind) (at : At) (d : Option Definition) (kids : syntax.Trees) → Read home.number st r
    → On (Read home.number st) (declared_method s home r kind at d kids)
method_declared_read st s home r kind at d kids e = skip (Read home.number st) (within_bounds (declarator_among s home.number r kids)) _
    (λ w. bind (OwnedMethod home.number) (Read home.number st) (method_of s r.state home.number home.name at kind kids) _
    (method_owned s r.state home.number home.name at kind kids)
    (λ m i. function_member_read st home r m.header (marks_from s no_marks m.rest) d i e))

declared_read : (st : State) (home : Home) (r : Members) (at : At) (x : Storage) (m : Marks) (rest : syntax.Trees) (name : List ℕ) (d : Declared) (f : Form)
    → is_written r.state.ctx.classes d.typ ≡ true → Read home.number st r → On (Read home.number st) (declared_member home r at x m rest name d f)
declared_read st home r at x m rest name d (func sig) w e =
    skip (Read home.number st) (check at BadDeclaration (not (has_equal rest))) _
    (λ y. bind (Owned home.number) (Read home.number st) (header_in home.number x Plain at name d (func sig)) _ (header_owned home.number x Plain at name d (func sig))
    (λ h i. function_member_read st home r h m None i e))
declared_read st home r at x m rest name d f w e = skip (Read home.number st) (check at BadDeclaration (no_function_words x m)) _
    (λ y. data_read st home.number r at name d.typ (has_initialiser rest) w e)

declarator_read : (st : State) (s : List Lexeme) (home : Home) (x : Storage) (t : Typ) (r : Members) (d : syntax.Tree) → is_written st.ctx.classes t ≡ true
    → Read home.number st r → On (Read home.number st) (member_declarator s home x t r d)
declarator_read st s home x t r (syntax.node kind p token (syntax.more d rest)) q e =
    skip (Read home.number st) (within_bounds (member_named s home.number r d)) _
    (λ w. bind (ListedDeclared r.state.ctx) (Read home.number st) (declared_by s r.state.ctx r.state.work (at_of p) t d) _
    (declared_listed s r.state.ctx r.state.ctx.closures r.state.work (at_of p) t d (subst (λ (cs : List Class). is_written cs t ≡ true) (sym e.classes) q))
    (λ y i. skip (Read home.number st) (check (at_of p) BadDeclaration (is_own_name y)) _
    (λ z. declared_read st home r (at_of p) x (marks_from s no_marks rest) rest (name_of s y.name) y (form_in y.typ) i e)))
declarator_read st s home x t r (syntax.node kind p token syntax.none) q e = tt

declarators_read : (st : State) (s : List Lexeme) (home : Home) (r : Members) (at : At) (x : Started) (ds : syntax.Trees) → Read home.number st r
    → On (Read home.number st) (member_declarators s home r at x ds)
declarators_read st s home r at x (syntax.more base ds) e =
    bind (Listed r.state.ctx) (Read home.number st) (type_of_specifiers s r.state.ctx r.state.work base) _
    (specifiers_listed s r.state.ctx r.state.ctx.closures r.state.work base e.types)
    (λ t i. each_holds (Read home.number st) (member_declarator s home x.storage t) r ds e
    (λ y d j. declarator_read st s home x.storage t y d (subst (λ (cs : List Class). is_written cs t ≡ true) e.classes i) j))
declarators_read st s home r at x syntax.none e = tt

member_read : (st : State) (s : List Lexeme) (home : Home) (r : Members) (t : syntax.Tree) → Read home.number st r → On (Read home.number st) (member_of s home r t)
member_read st s home r (syntax.node k.AccessLabel p token kids) e = e
member_read st s home r (syntax.node k.MemberDeclaration p token kids) e =
    declarators_read st s home r (at_of p) (started_from s no_storage kids) (started_from s no_storage kids).rest e
member_read st s home r (syntax.node k.FunctionDefinition p (Some t) kids) e =
    method_declared_read st s home r Plain (at_of p) (Some (definition_between s t (last_token (body_in kids)))) kids e
member_read st s home r (syntax.node k.ConstructorDeclaration p token kids) e = method_declared_read st s home r Constructor (at_of p) None kids e
member_read st s home r (syntax.node k.ConstructorDefinition p (Some t) kids) e =
    method_declared_read st s home r Constructor (at_of p) (Some (definition_between s t (last_token (body_in kids)))) kids e
member_read st s home r (syntax.node k.DestructorDeclaration p token kids) e = method_declared_read st s home r Destructor (at_of p) None kids e
member_read st s home r (syntax.node k.DestructorDefinition p (Some t) kids) e =
    method_declared_read st s home r Destructor (at_of p) (Some (definition_between s t (last_token (body_in kids)))) kids e
member_read st s home r t e = tt

-- Implicit members say nothing of enumerators and of names of types

abbrev Specially : Ctx → Specials → Type 0
Specially c x = naming x.ctx ≡ naming c

if_special : (c : Ctx) (b : Bool) (x y : Specials) → Specially c x → Specially c y → Specially c (if b then x else y)
if_special c true x y h k = h
if_special c false x y h k = k

destructor_same : (c : Ctx) (home : Home) (at : At) (ms : List Member) (o : Option ℕ) → Specially c (with_destructor c home at ms o)
destructor_same c home at ms (Some i) = refl
destructor_same c home at ms None = if_special c (all_held (λ n. is_trivial (traits_at c n).destructor) home.base ms) _ _ refl refl

copy_same : (c : Ctx) (home : Home) (at : At) (ms : List Member) (o : Option ℕ) → Specially c (with_copy c home at ms o)
copy_same c home at ms (Some i) = refl
copy_same c home at ms None = if_special c (not (may_copy c home.base ms)) _ _ refl
    (if_special c (has_no_pointer c home && all_held (λ n. is_trivial (traits_at c n).copy) home.base ms) _ _ refl refl)

default_same : (c : Ctx) (home : Home) (at : At) (ms : List Member) (initialised : List ℕ) (b : Bool)
    → Specially c (with_default c home at ms initialised b)
default_same c home at ms initialised false = refl
default_same c home at ms initialised true = if_special c (not (base_default c home.base && members_default c initialised 0 ms)) _ _ refl
    (if_special c (is_trivial_default c home ms initialised) _ _ refl refl)

completed_same : (c : Ctx) (home : Home) (at : At) (ms : List Member) (initialised : List ℕ)
    → naming (completed c home at ms initialised) ≡ naming c
completed_same c home at ms initialised =
    let d : Specials = with_destructor c home at ms (first_from (is_destructor_of home.number) 0 c.funcs) in
    let k : Specials = with_copy d.ctx home at ms (written_copy d.ctx home) in
    default_same k.ctx home at ms initialised (is_no_place (places_from (is_constructor home.number) 0 c.funcs))
    ∙ copy_same d.ctx home at ms (written_copy d.ctx home)
    ∙ destructor_same c home at ms (first_from (is_destructor_of home.number) 0 c.funcs)

-- The brace

if_closed : (P : Ctx → Type 0) (c : Ctx) (e : ElabFault) (t : Result Bool ElabFault) (b : Bool) → (b ≡ true → P c)
    → On P (and_then t (λ z. if b then Ok c else Err e))
if_closed P c e (Ok z) true h = h refl
if_closed P c e (Ok z) false h = tt
if_closed P c e (Err f) b h = tt

completed_leaves : (st : State) (home : Home) (at : At) (ms : List Member) (initialised : List ℕ) → IsOpen st.ctx.classes home.number
    → is_no_name home.name ≡ false → IsWhole st.ctx.classes home.base → IsBase st.ctx.classes home.base → AreMembers st.ctx.classes ms
    → nat_le (class_extent (completed st.ctx home at ms initialised).classes home.number).size 1048576 ≡ true
    → Leaves st (record st { ctx = completed st.ctx home at ms initialised })
completed_leaves st home at ms initialised e q b f o z = record {
  walk = one_step (class_completed (record {
    ctx = st.ctx;
    home = home;
    at = at;
    members = ms;
    initialised = initialised;
    before = refl;
    is = refl;
    unclosed = e;
    named = q;
    based = b;
    base = f;
    are = o;
    sized = z;
  }));
  same = completed_same st.ctx home at ms initialised;
  overrides = λ w. overriders_closed w st.ctx.funcs (completed st.ctx home at ms initialised).funcs home.number (closing st.ctx home at ms initialised).added;
}

closed_leaves : (st : State) (home : Home) (at : At) (ms : List Member) (initialised : List ℕ) → IsOpen st.ctx.classes home.number
    → is_no_name home.name ≡ false → IsWhole st.ctx.classes home.base → IsBase st.ctx.classes home.base → AreMembers st.ctx.classes ms
    → On (λ (d : Ctx). Leaves st (record st { ctx = d })) (closed_class at home.number (completed st.ctx home at ms initialised))
closed_leaves st home at ms initialised e q b f o = if_closed (λ (d : Ctx). Leaves st (record st { ctx = d })) (completed st.ctx home at ms initialised) _ _
    (nat_le (class_extent (completed st.ctx home at ms initialised).classes home.number).size 1048576) (completed_leaves st home at ms initialised e q b f o)

-- behind the brace
late_leaves : (lams : Lambdas) → Lawful lams → (s : List Lexeme) (home : Home) (y : State) (members : syntax.Trees)
    → On (Leaves y) (and_then (all_defaults lams s home.number y members) (λ (st : State). all_late lams s home.number home.name st members))
late_leaves lams q s home y members = follow of_state of_state y (all_defaults lams s home.number y members) _ (defaults_kept lams q s home.number y members)
    (λ x. all_late_kept lams q s home.number home.name x members)

-- The base

abbrev pub IsWholeBase : List Class → Option ℕ → Type 0
IsWholeBase classes o = IsWhole classes o × IsBase classes o

class_written : (c : Ctx) (at : At) (t : Typ) → is_written c.classes t ≡ true → On (λ n. has_name c.classes n ≡ true) (base_class at t)
class_written c at (typ (class n) q v) h = h
class_written c at (typ void q v) h = tt
class_written c at (typ (int i) q v) h = tt
class_written c at (typ (enum n s) q v) h = tt
class_written c at (typ null q v) h = tt
class_written c at (typ (ptr t) q v) h = tt
class_written c at (typ (ref t) q v) h = tt
class_written c at (typ (array t n) q v) h = tt
class_written c at (typ (func s) q v) h = tt
class_written c at (typ (closure n) q v) h = tt
class_written c at (typ (tx_ex t) q v) h = tt

abbrev IsOne : Ctx → ℕ → Type 0
IsOne c n = (is_some (completion_of c.classes n) ≡ true) × (has_name c.classes n ≡ true)

based_whole : (c : Ctx) (at : At) (name : List ℕ) → HasTypeNames c.classes c.types → On (IsOne c) (based_on c at name)
based_whole c at name l = expected (IsOne c) at UnknownName (type_named name c.types) _
    (λ t e. bind (λ n. has_name c.classes n ≡ true) (IsOne c) (base_class at t) _ (class_written c at t (called_listed c.classes c.types name l t e))
    (λ n i. checked (IsOne c) at Incomplete (is_some (completion_of c.classes n)) _
    (λ h. skip (IsOne c) (keeps at BaseFinal (not (is_final_class (slice_get c.classes n)))) _ (λ z. (h, i)))))

pub base_whole : (s : List Lexeme) (c : Ctx) (ts : syntax.Trees) → HasTypeNames c.classes c.types → On (IsWholeBase c.classes) (base_named s c ts)
base_whole s c syntax.none l = (λ n e. absurd cc, λ n e. absurd cc)
base_whole s c (syntax.more (syntax.node k.BaseSpecifier p (Some t) kids) ts) l =
    bind (IsOne c) (IsWholeBase c.classes) (based_on c (token_place s p.source t) (spelling s t)) _
    (based_whole c (token_place s p.source t) (spelling s t) l)
    (λ b h. (
      λ n e. subst (λ m. is_some (completion_of c.classes m) ≡ true) (same_Some b n e) h.0,
      λ n e. subst (λ m. has_name c.classes m ≡ true) (same_Some b n e) h.1,
    ))
base_whole s c (syntax.more t ts) l = base_whole s c ts l

-- The brace, and what stands behind it

-- up to the brace
pub members_read : (s : List Lexeme) (st : State) (home : Home) (members : syntax.Trees) → IsOpen st.ctx.classes home.number
    → HasTypeNames st.ctx.classes st.ctx.types → On (Read home.number st) (members_of s home (record { state = st; members = []; initialised = [] }) members)
members_read s st home members e l = each_holds (Read home.number st) (member_of s home) (record { state = st; members = []; initialised = [] }) members
    (record { classes = refl; leaves = begin st; unclosed = e; are = λ i m h. absurd cc; types = l }) (λ r t i. member_read st s home r t i)

pub brace_leaves : (st : State) (home : Home) (at : At) (r : Members) → Read home.number st r → is_no_name home.name ≡ false
    → IsWhole st.ctx.classes home.base → IsBase st.ctx.classes home.base
    → On (λ (d : Ctx). From st (record r.state { ctx = d })) (closed_class at home.number (completed r.state.ctx home at r.members r.initialised))
brace_leaves st home at r i q b f = weaken (λ (d : Ctx). Leaves r.state (record r.state { ctx = d })) (λ (d : Ctx). From st (record r.state { ctx = d }))
    (closed_class at home.number (completed r.state.ctx home at r.members r.initialised))
    (λ c j. since st r.state (record r.state { ctx = c }) i.leaves j)
    (closed_leaves r.state home at r.members r.initialised i.unclosed q
    (subst (λ (cs : List Class). IsWhole cs home.base) (sym i.classes) b)
    (subst (λ (cs : List Class). IsBase cs home.base) (sym i.classes) f) (subst (λ (cs : List Class). AreMembers cs r.members) (sym i.classes) i.are))

with_kept : (lams : Lambdas) → Lawful lams → (s : List Lexeme) (st : State) (at : At) (home : Home) (members : syntax.Trees)
    → is_no_name home.name ≡ false → IsWholeBase st.ctx.classes home.base → IsOpen st.ctx.classes home.number
    → HasTypeNames st.ctx.classes st.ctx.types
    → On (From st) (class_with lams s st at home members)
with_kept lams q s st at home members n b e l =
    bind (Read home.number st) (From st) (members_of s home (record { state = st; members = []; initialised = [] }) members) _
    (members_read s st home members e l)
    (λ r i. bind (λ (d : Ctx). From st (record r.state { ctx = d })) (From st)
    (closed_class at home.number (completed r.state.ctx home at r.members r.initialised)) _ (brace_leaves st home at r i n b.0 b.1)
    (λ c j. leaves_from st (record r.state { ctx = c }) _ j (late_leaves lams q s home (record r.state { ctx = c }) members)))

pub class_from : (lams : Lambdas) → Lawful lams → (s : List Lexeme) (st : State) (at : At) (name : List ℕ) (kids : syntax.Trees)
    → is_no_name name ≡ false → HasTypeNames st.ctx.classes st.ctx.types → On (From st) (class_defined lams s st at name kids)
class_from lams q s st at name kids n l = skip (From st) (text_sized at (class_text s kids)) _
    (λ z. bind (IsBegun st true) (From st) (begun st.ctx at name true) _ (begun_from st at name true n)
    (λ b i. bind (IsWholeBase b.ctx.classes) (From st) (base_named s b.ctx kids) _ (base_whole s b.ctx kids (i.from.types l))
    (λ base w. from_from st (record st { ctx = b.ctx }) _ i.from
    (with_kept lams q s (record st { ctx = b.ctx }) at
    (record { number = b.number; name = name; base = base; is_final = has_final kids }) (members_among kids) n w (i.unclosed l refl) (i.from.types l)))))
