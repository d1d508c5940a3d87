-- Classes up to the closing brace: members in order, overriding, special members, slots (C++14 clauses 9, 10, 12; the TS, [class.virtual]).
use Rattle.std.specs.Prelude.{ℕ, suc, ◌==◌, nat_le, Bool, true, false, not, ◌&&◌, ◌||◌, List, [], ◌∷◌, ◌++◌, length, map, Option, Some, None, is_some, is_none}
use Rattle.std.specs.Prelude.{Result, Ok, Err, if◌then◌else◌, slice_get, slice_set, codes, unwrap_or, count_by, filter}
use Rattle.std.specs.List.{list_all, list_any}
use Rattle.std.specs.Str.{bytes_eq}
use Rattle.elab_ctx.specs.cpp_types.Typ.{Typ, typ, Form, void, ref, func, class, tx_ex, Signature, signature, Typs, none as no_typs, more as and_typ}
use Rattle.elab_ctx.specs.cpp_types.Equal.{typ_eq, typs_eq, flag_eq}
use Rattle.elab_ctx.specs.cpp_types.Class.{Class, Member, Function, held, completion_of}
use Rattle.elab_ctx.specs.cpp_types.Conversion.{volatile_of}
use Rattle.elab_ctx.specs.cpp_types.Trivial.{is_destructor_name, is_copy_constructor, is_plain}
use Rattle.elab_ctx.specs.cpp_types.declared.classes.At.{At}
use Rattle.elab_ctx.specs.cpp_types.declared.classes.Safety.{Safety}
use Rattle.elab_ctx.specs.cpp_types.declared.classes.Safety.TheVariants.{Safe, Dynamic}
use Rattle.elab_ctx.specs.cpp_lex.Tokens.{Lexeme}
use Rattle.elab_ctx.specs.cpp_layout.Layout.{class_extent}
use Rattle.elab_ctx.specs.cpp_layout.declared.extents.TheConstants.{GREATEST_SIZE}
use Rattle.elab_ctx.specs.cpp_ast.declared.kinds.NodeKind.TheVariants as k
use Rattle.elab_ctx.specs.cpp_ast.Trees as syntax
use Rattle.elab_ctx.specs.cpp_tree.declared.program.FuncKind.{FuncKind}
use Rattle.elab_ctx.specs.cpp_tree.declared.program.FuncKind.TheVariants.{Plain, Constructor, Destructor}
use Rattle.elab_ctx.specs.cpp_tree.declared.program.Linkage.TheVariants.{Inline}
use Rattle.elab_ctx.specs.cpp_tree.declared.faults.ElabFault.{ElabFault}
use Rattle.elab_ctx.specs.cpp_tree.declared.faults.ElabFault.TheVariants.{Ill, Override, Limit}
use Rattle.elab_ctx.specs.cpp_tree.declared.faults.LimitKind.TheVariants.{Size}
use Rattle.elab_ctx.specs.cpp_tree.declared.faults.OverrideRule.{OverrideRule}
use Rattle.elab_ctx.specs.cpp_tree.declared.faults.OverrideRule.TheVariants.{OverrideNothing, OverridesFinal, BaseFinal, ReturnDiffers, LooserNoexcept}
use Rattle.elab_ctx.specs.cpp_tree.declared.faults.OverrideRule.TheVariants.{DynamicOverSafe, DynamicNotVirtual}
use Rattle.elab_ctx.specs.cpp_tree.declared.faults.IllRule.TheVariants.{UnknownName, Redeclared, BadDeclaration, Incomplete, AbstractObject, OutOfProfile}
use Rattle.elab_ctx.specs.cpp_tree.Units.{SlotFunc, Param}
use Rattle.elab_ctx.specs.cpp_tree.Notation.{plain}
use Rattle.elab_ctx.specs.cpp_tree.Typing.{form_in, is_void}
use Rattle.elab_ctx.specs.Ctx.{Ctx, Func, Special, absent, trivial, function, Traits}
use Rattle.elab_ctx.specs.Steps.{and_then, expect, check, each_of, at_of, spelling}
use Rattle.elab_rules.specs.Objects.{no_traits, traits_at, element_of}
use Rattle.elab_rules.specs.Initialising.{same_number, is_constructor, makes, places_from, func_at, signature_parameters, signature_result, no_function}
use Rattle.elab_rules.specs.Operators.{is_complete}
use Rattle.elab_rules.specs.Calls.{is_of_class}
use Rattle.elab_rules.specs.Types.{Declared, has_auto, type_named, is_abstract_type, is_bounded}
use Rattle.elab_rules.specs.Sizes.{typ_sized}
use Rattle.elab_rules.specs.Expressions.{type_of_specifiers, declared_by}
use Rattle.elab_rules.specs.Statements.{State, is_own_name, name_of, is_const_element, has_written_default, is_trivial}
use Rattle.elab_rules.specs.Functions.{Storage, no_storage, with_specifier, Header, new_function, is_same_function, first_from, text_between, header_sized}
use Rattle.elab_rules.specs.Functions.{text_sized, is_none_typs, same_kind}
use Rattle.elab_rules.specs.Globals.{with_type}

-- The name (9.1): a new class, or one that is only declared

abbrev pub class_named : List ℕ → Option ℕ → Bool → List Member → List Function → Option ℕ → Class
class_named name base is_final members functions complete =
    record { name = name; base = base; members = members; functions = functions; is_final = is_final; complete = complete }

pub record Begun : Type 0 where
  pub ctx : Ctx
  pub number : ℕ

abbrev pub with_class : Ctx → List ℕ → Ctx
with_class c name = record (with_type c name (plain (class (length c.classes)))) {
  classes = c.classes ++ class_named name None false [] [] None ∷ [];
  traits =
      c.traits ++ no_traits ∷ [];
  slots = c.slots ++ [] ∷ [];
}

abbrev pub begun_by : Ctx → At → Bool → Typ → Result Begun ElabFault
begun_by c at defines (typ (class n) false false) = and_then (check at Redeclared (not defines || is_none (completion_of c.classes n)))
    (λ y. Ok (record { ctx = c; number = n }))
begun_by c at defines t = Err (Ill at Redeclared)

abbrev pub begun_in : Ctx → At → List ℕ → Bool → Option Typ → Result Begun ElabFault
begun_in c at name defines (Some t) = begun_by c at defines t
begun_in c at name defines None = Ok (record { ctx = with_class c name; number = length c.classes })

abbrev pub begun : Ctx → At → List ℕ → Bool → Result Begun ElabFault
begun c at name defines = begun_in c at name defines (type_named name c.types)

-- The base (clause 10): a complete class that is not final

abbrev pub base_class : At → Typ → Result ℕ ElabFault
base_class at (typ (class n) c v) = Ok n
base_class at t = Err (Ill at BadDeclaration)

abbrev pub is_final_class : Option Class → Bool
is_final_class (Some k) = k.is_final
is_final_class None = false

abbrev pub keeps : At → OverrideRule → Bool → Result Bool ElabFault
keeps at rule true = Ok true
keeps at rule false = Err (Override at rule)

abbrev pub based_on : Ctx → At → List ℕ → Result ℕ ElabFault
based_on c at name = and_then (expect at UnknownName (type_named name c.types))
    (λ (t : Typ). and_then (base_class at t) (λ n. and_then (check at Incomplete (is_some (completion_of c.classes n)))
    (λ y. and_then (keeps at BaseFinal (not (is_final_class (slice_get c.classes n)))) (λ z. Ok n))))

-- The class that is being read
pub record Home : Type 0 where
  pub number : ℕ
  pub name : List ℕ
  pub base : Option ℕ
  pub is_final : Bool

-- what is declared, the data members so far, and the indices of those with an initialiser of their own
pub record Members : Type 0 where
  pub state : State
  pub members : List Member
  pub initialised : List ℕ

-- Data members (9.2)

abbrev pub member_form : At → Form → Result Bool ElabFault
member_form at void = Err (Ill at BadDeclaration)
member_form at (ref t) = Err (Ill at OutOfProfile)
member_form at f = Ok true

abbrev pub has_member : List ℕ → List Member → Bool
has_member name ms = list_any (λ (m : Member). bytes_eq m.name name) ms

abbrev pub has_function : ℕ → List ℕ → List Func → Bool
has_function n name fs = list_any (λ (f : Func). same_number n f.class && bytes_eq f.declared.name name) fs

abbrev pub index_if : Bool → ℕ → List ℕ
index_if true i = i ∷ []
index_if false i = []

abbrev pub with_member : Members → List ℕ → Typ → Bool → Members
with_member r name t has_initialiser = record r {
  members = r.members ++ record { name = name; typ = t } ∷ [];
  initialised = r.initialised
      ++ index_if has_initialiser (length r.members);
}

abbrev pub data_member : ℕ → Members → At → List ℕ → Typ → Bool → Result Members ElabFault
data_member n r at name t has_initialiser = and_then (member_form at (form_in t))
    (λ a. and_then (check at OutOfProfile (not (has_auto t)))
    (λ b. and_then (check at BadDeclaration (is_bounded t)) (λ d. and_then (check at Incomplete (is_complete r.state.ctx (held t))) (λ e.
    and_then (check at AbstractObject (not (is_abstract_type r.state.ctx (element_of t))))
    (λ f. and_then (typ_sized r.state.ctx.classes at t)
    (λ h. and_then (check at Redeclared (not (has_member name r.members) && not (has_function n name r.state.ctx.funcs)))
    (λ g. Ok (with_member r name t has_initialiser))))))))

-- Overriding (10.3): a function with the name, the parameters and `const` of one in a slot of the base; destructors override each other

abbrev pub same_virtual : Function → Function → Bool
same_virtual g f = (is_destructor_name g.name && is_destructor_name f.name)
    || (bytes_eq g.name f.name && typs_eq (signature_parameters g.signature) (signature_parameters f.signature) && flag_eq g.is_const f.is_const)

abbrev pub functions_in : Option Class → List Function
functions_in (Some c) = c.functions
functions_in None = []

-- the final overrider that stands in a slot
abbrev pub slot_function : List Class → SlotFunc → Option Function
slot_function classes x = slice_get (functions_in (slice_get classes x.class)) x.func

abbrev pub overridden_by : Function → Option Function → Bool
overridden_by g (Some f) = same_virtual g f
overridden_by g None = false

abbrev pub chosen_if : Bool → Option Function → Option Function → Option Function
chosen_if true f rest = f
chosen_if false f rest = rest

abbrev pub overridden_from : List Class → Function → List SlotFunc → Option Function
overridden_from classes g [] = None
overridden_from classes g (x ∷ xs) = chosen_if (overridden_by g (slot_function classes x)) (slot_function classes x) (overridden_from classes g xs)

abbrev pub base_slots : Ctx → Option ℕ → List SlotFunc
base_slots c (Some b) = unwrap_or (slice_get c.slots b) []
base_slots c None = []

abbrev pub overridden : Ctx → Option ℕ → Function → Option Function
overridden c base g = overridden_from c.classes g (base_slots c base)

-- the words `override` and `final`, and whether it is pure
pub record Marks : Type 0 where
  pub is_override : Bool
  pub is_final : Bool
  pub is_pure : Bool

abbrev pub no_marks : Marks
no_marks = record { is_override = false; is_final = false; is_pure = false }

abbrev pub with_mark : List Lexeme → Marks → syntax.Tree → Marks
with_mark s m (syntax.node k.VirtSpecifier p (Some t) kids) =
    if bytes_eq (spelling s t) (codes "override") then record m { is_override = true } else record m { is_final = true }
with_mark s m (syntax.node k.PureSpecifier p token kids) = record m { is_pure = true }
with_mark s m t = m

abbrev pub marks_from : List Lexeme → Marks → syntax.Trees → Marks
marks_from s m syntax.none = m
marks_from s m (syntax.more t ts) = marks_from s (with_mark s m t) ts

abbrev pub is_safe : Safety → Bool
is_safe Safe = true
is_safe x = false

abbrev pub is_dynamic : Safety → Bool
is_dynamic Dynamic = true
is_dynamic x = false

-- a destructor lets no exception out (profile)
abbrev pub stops_exceptions : Header → Bool
stops_exceptions h = h.qualifiers.no_except || is_destructor_name h.name

-- what it overrides is not final, has its result, and is looser neither in exceptions nor in safety
abbrev pub overrides_well : Header → Option Function → Result Bool ElabFault
overrides_well h (Some f) = and_then (keeps h.at OverridesFinal (not f.is_final))
    (λ a. and_then (keeps h.at ReturnDiffers (typ_eq (signature_result h.signature) (signature_result f.signature))) (λ b.
    and_then (keeps h.at LooserNoexcept (not f.no_except || stops_exceptions h))
    (λ d. keeps h.at DynamicOverSafe (not (h.qualifiers.is_dynamic && (is_safe f.safety || f.considered))))))
overrides_well h None = Ok true

abbrev pub marks_fit : Header → Marks → Bool → Bool → Result Bool ElabFault
marks_fit h m overrides is_virtual = and_then (keeps h.at OverrideNothing (overrides || not m.is_override))
    (λ a. and_then (keeps h.at OverrideNothing (is_virtual || not m.is_final))
    (λ b. and_then (keeps h.at DynamicNotVirtual (is_virtual || not h.qualifiers.is_dynamic)) (λ d. check h.at BadDeclaration (is_virtual || not m.is_pure))))

-- considered safe: it overrides a function that is declared transaction_safe or is itself so considered
abbrev pub is_considered : Option Function → Bool
is_considered (Some f) = is_safe f.safety || f.considered
is_considered None = false

abbrev pub member_record : Function → Marks → Option Function → Bool → Function
member_record g m o is_virtual = record g {
  is_virtual = is_virtual || is_some o;
  is_override = m.is_override;
  is_final = m.is_final;
  pure_virtual = m.is_pure;
  considered = is_considered o;
  no_except = g.no_except || is_destructor_name g.name;
}

-- where its body stands in the class, it is inline, with its text (7.1.2, 9.3); it is defined behind the brace, when the body is read
pub record Definition : Type 0 where
  pub text : List ℕ
  pub closed_at : ℕ

abbrev pub as_written : Option Definition → Func → Func
as_written (Some d) f = record f { linkage = Inline; text = d.text; closed_at = d.closed_at }
as_written None f = f

abbrev pub definition_sized : At → Option Definition → Result Bool ElabFault
definition_sized at (Some d) = text_sized at d.text
definition_sized at None = Ok true

abbrev pub with_function : Members → Func → Members
with_function r f = record r { state = record r.state { ctx = record r.state.ctx { funcs = r.state.ctx.funcs ++ f ∷ [] } } }

abbrev pub member_func : Header → Marks → Option Function → Func
member_func h m o = record (new_function h) { declared = member_record (new_function h).declared m o h.storage.is_virtual }

-- A bound of an array in the class names none of its members (profile)

abbrev pub is_own_member : ℕ → Members → List ℕ → Bool
is_own_member n r name = has_member name r.members || has_function n name r.state.ctx.funcs

abbrev pub place_if : Bool → At → Option At
place_if true at = Some at
place_if false at = None

abbrev pub or_place : Option At → Option At → Option At
or_place (Some a) b = Some a
or_place None b = b

abbrev mutual
  -- the first name of a member in an expression
  pub member_named : List Lexeme → ℕ → Members → syntax.Tree → Option At
  member_named s n r (syntax.node k.UnqualifiedId p (Some t) kids) = place_if (is_own_member n r (spelling s t)) (at_of p)
  member_named s n r (syntax.node kind p token kids) = member_among s n r kids

  pub member_among : List Lexeme → ℕ → Members → syntax.Trees → Option At
  member_among s n r syntax.none = None
  member_among s n r (syntax.more t ts) = or_place (member_named s n r t) (member_among s n r ts)

abbrev pub within_bounds : Option At → Result Bool ElabFault
within_bounds (Some at) = Err (Ill at OutOfProfile)
within_bounds None = Ok true

-- a member function, a constructor or a destructor
abbrev pub member_function : Home → Members → Header → Marks → Option Definition → Result Members ElabFault
member_function home r h m d = and_then (check h.at Redeclared
    (is_none (first_from (is_same_function h) 0 r.state.ctx.funcs) && not (has_member h.name r.members)))
    (λ y. and_then (overrides_well h (overridden r.state.ctx home.base (new_function h).declared)) (λ z.
    and_then (marks_fit h m (is_some (overridden r.state.ctx home.base (new_function h).declared))
    (h.storage.is_virtual || is_some (overridden r.state.ctx home.base (new_function h).declared))) (λ x.
    and_then (header_sized r.state.ctx h) (λ w. and_then (definition_sized h.at d)
    (λ v. Ok (with_function r (as_written d (member_func h m (overridden r.state.ctx home.base (new_function h).declared)))))))))

-- Declarations of members

-- what stands before the type, and the rest
pub record Started : Type 0 where
  pub storage : Storage
  pub rest : syntax.Trees

abbrev pub started_from : List Lexeme → Storage → syntax.Trees → Started
started_from s x (syntax.more (syntax.node k.Attribute p token kids) ts) = started_from s x ts
started_from s x (syntax.more (syntax.node k.DeclSpecifier p (Some t) kids) ts) = started_from s (with_specifier x (spelling s t)) ts
started_from s x ts = record { storage = x; rest = ts }

-- a function with what stands behind its declarator
pub record Method : Type 0 where
  pub header : Header
  pub rest : syntax.Trees

abbrev pub header_in : ℕ → Storage → FuncKind → At → List ℕ → Declared → Form → Result Header ElabFault
header_in n x kind at name r (func sig) = Ok (record {
  name = name;
  at = at;
  signature = sig;
  params = r.params;
  qualifiers = r.qualifiers;
  storage = x;
  kind =
      kind;
  class = Some n;
})
header_in n x kind at name r f = Err (Ill at BadDeclaration)

abbrev pub plain_method : List Lexeme → State → ℕ → At → Storage → syntax.Trees → Result Method ElabFault
plain_method s st n at x (syntax.more base (syntax.more d rest)) =
    and_then (type_of_specifiers s st.ctx st.work base) (λ (t : Typ). and_then (declared_by s st.ctx st.work at t d) (λ (r : Declared).
    and_then (header_in n x Plain at (name_of s r.name) r (form_in r.typ)) (λ (h : Header). Ok (record { header = h; rest = rest }))))
plain_method s st n at x ts = Err (Ill at OutOfProfile)

-- a destructor's name begins with `~`
abbrev pub special_name : FuncKind → List ℕ → List ℕ
special_name Destructor name = 126 ∷ name
special_name kind name = name

-- a constructor does not take an object of its class by value (12.8 p6)
abbrev pub takes_own_value : ℕ → Typs → Bool
takes_own_value n (and_typ (typ (class m) c v) no_typs) = m == n
takes_own_value n ps = false

-- no result; a destructor has no parameters either
abbrev pub is_special : FuncKind → ℕ → Signature → Bool
is_special kind n (signature ps r safe) = is_void r && (if makes kind then not (takes_own_value n ps) else is_none_typs ps)

-- a constructor or a destructor has the name of its class, no result and no `const` (12.1, 12.4)
abbrev pub special_header : ℕ → List ℕ → At → Storage → FuncKind → Declared → List ℕ → Result Header ElabFault
special_header n class_name at x kind r name = and_then (check at BadDeclaration (bytes_eq name class_name && not r.qualifiers.is_const))
    (λ y. and_then (header_in n x kind at (special_name kind class_name) r (form_in r.typ)) (λ (h : Header).
    and_then (check at BadDeclaration (is_special kind n h.signature)) (λ z. Ok h)))

abbrev pub special_method : List Lexeme → State → ℕ → List ℕ → At → Storage → FuncKind → syntax.Trees → Result Method ElabFault
special_method s st n class_name at x kind (syntax.more d rest) =
    and_then (declared_by s st.ctx st.work at (plain void) d)
    (λ (r : Declared). and_then (special_header n class_name at x kind r (name_of s r.name)) (λ (h : Header). Ok (record { header = h; rest = rest })))
special_method s st n class_name at x kind ts = Err (Ill at OutOfProfile)

-- the function that a member with a body defines, or a constructor or destructor without one declares
abbrev pub method_started : List Lexeme → State → ℕ → List ℕ → At → FuncKind → Started → Result Method ElabFault
method_started s st n class_name at Plain x = plain_method s st n at x.storage x.rest
method_started s st n class_name at kind x = special_method s st n class_name at x.storage kind x.rest

abbrev pub method_of : List Lexeme → State → ℕ → List ℕ → At → FuncKind → syntax.Trees → Result Method ElabFault
method_of s st n class_name at kind kids = method_started s st n class_name at kind (started_from s no_storage kids)

abbrev pub body_in : syntax.Trees → Option syntax.Tree
body_in syntax.none = None
body_in (syntax.more t syntax.none) = Some t
body_in (syntax.more t ts) = body_in ts

abbrev pub last_token : Option syntax.Tree → ℕ
last_token (Some (syntax.node kind p (Some t) kids)) = t
last_token t = 0

abbrev pub token_end : Option Lexeme → ℕ
token_end (Some l) = l.to
token_end None = 0

-- the text of a definition from its first token to the brace, and where it ends
abbrev pub definition_between : List Lexeme → ℕ → ℕ → Definition
definition_between s first last = record { text = text_between s first last; closed_at = token_end (slice_get s last) }

-- in the declarator alone, not in the body
abbrev pub declarator_among : List Lexeme → ℕ → Members → syntax.Trees → Option At
declarator_among s n r syntax.none = None
declarator_among s n r (syntax.more (syntax.node k.FunctionDeclarator p token kids) ts) = member_among s n r kids
declarator_among s n r (syntax.more (syntax.node k.PointerDeclarator p token kids) ts) = member_among s n r kids
declarator_among s n r (syntax.more (syntax.node k.ReferenceDeclarator p token kids) ts) = member_among s n r kids
declarator_among s n r (syntax.more t ts) = declarator_among s n r ts

abbrev pub declared_method : List Lexeme → Home → Members → FuncKind → At → Option Definition → syntax.Trees → Result Members ElabFault
declared_method s home r kind at d kids = and_then (within_bounds (declarator_among s home.number r kids))
    (λ w. and_then (method_of s r.state home.number home.name at kind kids) (λ (m : Method). member_function home r m.header (marks_from s no_marks m.rest) d))

abbrev pub is_initialiser : syntax.Tree → Bool
is_initialiser (syntax.node k.EqualInitializer p token kids) = true
is_initialiser (syntax.node k.PureSpecifier p token kids) = true
is_initialiser t = false

abbrev pub has_initialiser : syntax.Trees → Bool
has_initialiser syntax.none = false
has_initialiser (syntax.more t ts) = is_initialiser t || has_initialiser ts

abbrev pub has_equal : syntax.Trees → Bool
has_equal syntax.none = false
has_equal (syntax.more (syntax.node k.EqualInitializer p token kids) ts) = true
has_equal (syntax.more t ts) = has_equal ts

-- what is no function is neither `virtual` nor `override`
abbrev pub no_function_words : Storage → Marks → Bool
no_function_words x m = not x.is_virtual && not m.is_override && not m.is_final

abbrev pub declared_member : Home → Members → At → Storage → Marks → syntax.Trees → List ℕ → Declared → Form → Result Members ElabFault
declared_member home r at x m rest name d (func sig) =
    and_then (check at BadDeclaration (not (has_equal rest)))
    (λ y. and_then (header_in home.number x Plain at name d (func sig)) (λ (h : Header). member_function home r h m None))
declared_member home r at x m rest name d f = and_then (check at BadDeclaration (no_function_words x m))
    (λ y. data_member home.number r at name d.typ (has_initialiser rest))

abbrev pub member_declarator : List Lexeme → Home → Storage → Typ → Members → syntax.Tree → Result Members ElabFault
member_declarator s home x t r (syntax.node kind p token (syntax.more d rest)) =
    and_then (within_bounds (member_named s home.number r d))
    (λ w. and_then (declared_by s r.state.ctx r.state.work (at_of p) t d) (λ (y : Declared). and_then (check (at_of p) BadDeclaration (is_own_name y)) (λ z.
    declared_member home r (at_of p) x (marks_from s no_marks rest) rest (name_of s y.name) y (form_in y.typ))))
member_declarator s home x t r (syntax.node kind p token syntax.none) = Err (Ill (at_of p) OutOfProfile)

abbrev pub member_declarators : List Lexeme → Home → Members → At → Started → syntax.Trees → Result Members ElabFault
member_declarators s home r at x (syntax.more base ds) =
    and_then (type_of_specifiers s r.state.ctx r.state.work base) (λ (t : Typ). each_of (member_declarator s home x.storage t) r ds)
member_declarators s home r at x syntax.none = Err (Ill at OutOfProfile)

abbrev pub member_declaration : List Lexeme → Home → Members → At → Started → Result Members ElabFault
member_declaration s home r at x = member_declarators s home r at x x.rest

-- a member, in the order of the text; what stands in bodies and initialisers comes behind the brace
abbrev pub member_of : List Lexeme → Home → Members → syntax.Tree → Result Members ElabFault
member_of s home r (syntax.node k.AccessLabel p token kids) = Ok r
member_of s home r (syntax.node k.MemberDeclaration p token kids) = member_declaration s home r (at_of p) (started_from s no_storage kids)
member_of s home r (syntax.node k.FunctionDefinition p (Some t) kids) =
    declared_method s home r Plain (at_of p) (Some (definition_between s t (last_token (body_in kids)))) kids
member_of s home r (syntax.node k.ConstructorDeclaration p token kids) = declared_method s home r Constructor (at_of p) None kids
member_of s home r (syntax.node k.ConstructorDefinition p (Some t) kids) =
    declared_method s home r Constructor (at_of p) (Some (definition_between s t (last_token (body_in kids)))) kids
member_of s home r (syntax.node k.DestructorDeclaration p token kids) = declared_method s home r Destructor (at_of p) None kids
member_of s home r (syntax.node k.DestructorDefinition p (Some t) kids) =
    declared_method s home r Destructor (at_of p) (Some (definition_between s t (last_token (body_in kids)))) kids
member_of s home r (syntax.node kind p token kids) = Err (Ill (at_of p) OutOfProfile)

abbrev pub members_of : List Lexeme → Home → Members → syntax.Trees → Result Members ElabFault
members_of s home = each_of (member_of s home)

-- Special members (12.1, 12.4, 12.8): from those of the base and of what the members hold

abbrev pub is_there : Special → Bool
is_there absent = false
is_there x = true

-- an object of the type may be left without an initialiser
abbrev pub default_of_class : Ctx → Bool → Special → Bool
default_of_class c true x = has_written_default c x
default_of_class c false x = is_there x

abbrev pub may_default_in : Ctx → Bool → Form → Bool
may_default_in c is_const (class n) = default_of_class c is_const (traits_at c n).default && not (traits_at c n).is_abstract
may_default_in c is_const (tx_ex t) = false
may_default_in c is_const f = not is_const

abbrev pub may_default : Ctx → Typ → Bool
may_default c t = may_default_in c (is_const_element t) (form_in (element_of t))

abbrev pub base_default : Ctx → Option ℕ → Bool
base_default c (Some b) = is_there (traits_at c b).default
base_default c None = true

abbrev pub base_test : (ℕ → Bool) → Option ℕ → Bool
base_test test (Some b) = test b
base_test test None = true

abbrev pub class_test : (ℕ → Bool) → Option ℕ → Bool
class_test test (Some n) = test n
class_test test None = true

-- each class of which the base or a member holds objects passes
abbrev pub all_held : (ℕ → Bool) → Option ℕ → List Member → Bool
all_held test base ms = base_test test base && list_all (λ (m : Member). class_test test (held m.typ)) ms

abbrev pub is_listed : ℕ → List ℕ → Bool
is_listed i is = list_any (λ (j : ℕ). j == i) is

abbrev pub members_default : Ctx → List ℕ → ℕ → List Member → Bool
members_default c initialised i [] = true
members_default c initialised i (m ∷ ms) = (is_listed i initialised || may_default c m.typ) && members_default c initialised (suc i) ms

-- a member with qualifiers can be copied: not an object of a class that is volatile, nor one that is `const` where the copy is not
abbrev pub copies_member : Ctx → Typ → Option ℕ → Bool
copies_member c t (Some n) = is_there (traits_at c n).copy && not (volatile_of t) && (not (is_const_element t) || (traits_at c n).copies_const)
copies_member c t None = true

abbrev pub class_copied : Ctx → ℕ → Bool
class_copied c n = is_there (traits_at c n).copy

abbrev pub may_copy : Ctx → Option ℕ → List Member → Bool
may_copy c base ms = base_test (class_copied c) base && list_all (λ (m : Member). copies_member c m.typ (held m.typ)) ms

-- an object that is assigned: neither `const` nor of a class without an assignment, nor of one that is volatile (12.8 p23)
abbrev pub assigns_member : Ctx → Typ → Option ℕ → Bool
assigns_member c t (Some n) = not (is_const_element t) && not (volatile_of t) && (traits_at c n).is_assignable
assigns_member c t None = not (is_const_element t)

abbrev pub may_assign : Ctx → Option ℕ → List Member → Bool
may_assign c base ms = base_test (λ n. (traits_at c n).is_assignable) base && list_all (λ (m : Member). assigns_member c m.typ (held m.typ)) ms

abbrev pub no_virtual : Ctx → ℕ → Bool
no_virtual c n = not (list_any (λ (f : Func). same_number n f.class && f.declared.is_virtual) c.funcs)

-- neither the class nor a base has a virtual function
abbrev pub is_no_slot : List SlotFunc → Bool
is_no_slot [] = true
is_no_slot (x ∷ xs) = false

abbrev pub has_no_pointer : Ctx → Home → Bool
has_no_pointer c home = no_virtual c home.number && is_no_slot (base_slots c home.base)

-- the functions of the unit with a special member among them
pub record Specials : Type 0 where
  pub ctx : Ctx
  pub special : Special

abbrev pub implicit_record : List ℕ → At → Typs → Function
implicit_record name at ps = record no_function.declared {
  name = name;
  signature = signature ps (plain void) false;
  at = at;
  no_except =
      is_destructor_name name;
}

-- a member that no text declares (inline, at the name of its class)
abbrev pub implicit_function : ℕ → FuncKind → List Param → Function → Func
implicit_function n kind ps g = record no_function {
  declared = g;
  kind = kind;
  class = Some n;
  linkage = Inline;
  implicit = true;
  is_defined = true;
  params =
      ps;
}

abbrev pub with_implicit : Ctx → Func → Specials
with_implicit c f = record { ctx = record c { funcs = c.funcs ++ f ∷ [] }; special = function (length c.funcs) }

abbrev pub kept_special : Ctx → Special → Specials
kept_special c x = record { ctx = c; special = x }

abbrev pub is_destructor_of : ℕ → Func → Bool
is_destructor_of n f = same_number n f.class && same_kind f.kind Destructor

-- the destructor: written, trivial, or that of each part (12.4)
abbrev pub with_destructor : Ctx → Home → At → List Member → Option ℕ → Specials
with_destructor c home at ms (Some i) = kept_special c (function i)
with_destructor c home at ms None = if all_held (λ n. is_trivial (traits_at c n).destructor) home.base ms then kept_special c trivial else
    with_implicit c (implicit_function home.number Destructor []
    (member_record (implicit_record (126 ∷ home.name) at no_typs) no_marks (overridden c home.base (implicit_record (126 ∷ home.name) at no_typs)) false))

abbrev pub own_reference : ℕ → Bool → Typ
own_reference n is_const = plain (ref (typ (class n) is_const false))

-- the written copy constructor that takes `const` objects, else another one
abbrev pub is_copy_from : ℕ → Bool → Func → Bool
is_copy_from n is_const f = is_constructor n f && typs_eq (signature_parameters f.declared.signature) (and_typ (own_reference n is_const) no_typs)

abbrev pub is_written_copy : ℕ → List ℕ → Func → Bool
is_written_copy n name f = is_constructor n f && is_copy_constructor n name f.declared

abbrev pub either : Option ℕ → Option ℕ → Option ℕ
either (Some a) b = Some a
either None b = b

abbrev pub written_copy : Ctx → Home → Option ℕ
written_copy c home = either (first_from (is_copy_from home.number true) 0 c.funcs) (first_from (is_written_copy home.number home.name) 0 c.funcs)

abbrev pub copies_const_parts : Ctx → Option ℕ → List Member → Bool
copies_const_parts c base ms = all_held (λ n. (traits_at c n).copies_const) base ms

-- the copy (12.8): written, not there, trivial, or that of each part
abbrev pub with_copy : Ctx → Home → At → List Member → Option ℕ → Specials
with_copy c home at ms (Some i) = kept_special c (function i)
with_copy c home at ms None = if not (may_copy c home.base ms) then kept_special c absent else
    (if has_no_pointer c home && all_held (λ n. is_trivial (traits_at c n).copy) home.base ms then kept_special c trivial else
    with_implicit c (implicit_function home.number Constructor (record { typ = own_reference home.number (copies_const_parts c home.base ms); at = at } ∷ [])
    (implicit_record home.name at (and_typ (own_reference home.number (copies_const_parts c home.base ms)) no_typs))))

abbrev pub is_default_constructor : ℕ → Func → Bool
is_default_constructor n f = is_constructor n f && typs_eq (signature_parameters f.declared.signature) no_typs

abbrev pub is_no_place : List ℕ → Bool
is_no_place [] = true
is_no_place is = false

abbrev pub written_default : Option ℕ → Special
written_default (Some i) = function i
written_default None = absent

-- without an initialiser of a member, a class pointer, or a part that is more than trivial
abbrev pub is_trivial_default : Ctx → Home → List Member → List ℕ → Bool
is_trivial_default c home ms initialised = is_no_place initialised && has_no_pointer c home && all_held (λ n. is_trivial (traits_at c n).default) home.base ms

-- the constructor without arguments (12.1): where no constructor is written, there is one if each part has one
abbrev pub with_default : Ctx → Home → At → List Member → List ℕ → Bool → Specials
with_default c home at ms initialised false = kept_special c (written_default (first_from (is_default_constructor home.number) 0 c.funcs))
with_default c home at ms initialised true = if not (base_default c home.base && members_default c initialised 0 ms) then kept_special c absent else
    (if is_trivial_default c home ms initialised then kept_special c trivial else
    with_implicit c (implicit_function home.number Constructor [] (implicit_record home.name at no_typs)))

-- Slots: those of the base in order, each with its final overrider, then new virtual functions in the order of the text (10.3)

abbrev pub own_functions : ℕ → List Func → List Function
own_functions n fs = map (λ (f : Func). f.declared) (filter (is_of_class n) fs)

abbrev pub slot_of : ℕ → ℕ → Function → SlotFunc
slot_of n i f = record {
  name = f.name;
  signature = f.signature;
  class = n;
  func = i;
  safe = is_safe f.safety || is_dynamic f.safety || f.considered;
  dynamic =
      is_dynamic f.safety;
}

-- the slot with the function of the class that overrides it, if one does
abbrev pub overrider_from : ℕ → ℕ → Option Function → SlotFunc → List Function → SlotFunc
overrider_from n i o x [] = x
overrider_from n i o x (f ∷ fs) = if f.is_virtual && overridden_by f o then slot_of n i f else overrider_from n (suc i) o x fs

abbrev pub overriding : List Class → ℕ → List Function → List SlotFunc → List SlotFunc
overriding classes n fs xs = map (λ (x : SlotFunc). overrider_from n 0 (slot_function classes x) x fs) xs

abbrev pub slot_if : Bool → SlotFunc → List SlotFunc → List SlotFunc
slot_if true x xs = x ∷ xs
slot_if false x xs = xs

abbrev pub new_slots : Ctx → Option ℕ → ℕ → ℕ → List Function → List SlotFunc
new_slots c base n i [] = []
new_slots c base n i (f ∷ fs) = slot_if (f.is_virtual && is_none (overridden c base f)) (slot_of n i f) (new_slots c base n (suc i) fs)

abbrev pub slots_of : Ctx → Home → List Function → List SlotFunc
slots_of c home fs = overriding c.classes home.number fs (base_slots c home.base) ++ new_slots c home.base home.number 0 fs

-- The closing brace

abbrev pub is_completed : Class → Bool
is_completed k = is_some k.complete

abbrev pub is_pure : Option Function → Bool
is_pure (Some f) = f.pure_virtual
is_pure None = false

abbrev pub with_record : Ctx → Home → List Member → Ctx
with_record c home ms = record c {
  classes = slice_set c.classes home.number
      (class_named home.name home.base home.is_final ms (own_functions home.number c.funcs) (Some (count_by is_completed c.classes)));
  slots =
      slice_set c.slots home.number (slots_of c home (own_functions home.number c.funcs));
}

-- it is copied byte by byte: by its own members and functions, and so is each part (3.9)
abbrev pub is_copied_by_bytes : Ctx → Home → List Member → Bool
is_copied_by_bytes c home ms = is_plain home.number (slice_get c.classes home.number) && all_held (λ n. (traits_at c n).is_trivially_copyable) home.base ms

abbrev pub takes_const : Ctx → Home → List Member → Option ℕ → Bool
takes_const c home ms (Some i) = is_copy_from home.number true (func_at c.funcs i)
takes_const c home ms None = copies_const_parts c home.base ms

abbrev pub traits_of : Ctx → Home → List Member → Bool → Special → Special → Special → Traits
traits_of c home ms const default copy destructor = record {
  default = default;
  copy = copy;
  copies_const = const;
  destructor = destructor;
  is_assignable = may_assign c home.base ms;
  is_abstract = list_any (λ (x : SlotFunc). is_pure (slot_function c.classes x)) (unwrap_or (slice_get c.slots home.number) []);
  is_volatile = not (all_held (λ n. not (traits_at c n).is_volatile) home.base ms) || list_any (λ (m : Member). volatile_of m.typ) ms;
  is_trivially_copyable = is_copied_by_bytes c home ms;
}

abbrev pub with_traits : Ctx → Home → Traits → Ctx
with_traits c home t = record c { traits = slice_set c.traits home.number t }

abbrev pub with_specials : Home → List Member → Bool → Special → Special → Specials → Ctx
with_specials home ms const copy destructor d = with_traits (with_record d.ctx home ms) home
    (traits_of (with_record d.ctx home ms) home ms const d.special copy destructor)

abbrev pub default_completed : Home → At → List Member → List ℕ → Bool → Bool → Special → Specials → Ctx
default_completed home at ms initialised none_written const destructor k =
    with_specials home ms const k.special destructor (with_default k.ctx home at ms initialised none_written)

abbrev pub copy_completed : Home → At → List Member → List ℕ → Bool → Bool → Specials → Ctx
copy_completed home at ms initialised none_written const d =
    default_completed home at ms initialised none_written const d.special (with_copy d.ctx home at ms (written_copy d.ctx home))

-- implicit members stand behind the written ones: the destructor, the copy, the constructor without arguments, each of which may name those before it
abbrev pub completed : Ctx → Home → At → List Member → List ℕ → Ctx
completed c home at ms initialised = copy_completed home at ms initialised (is_no_place (places_from (is_constructor home.number) 0 c.funcs))
    (takes_const c home ms (written_copy c home)) (with_destructor c home at ms (first_from (is_destructor_of home.number) 0 c.funcs))

-- a slot of the base has a destructor that is final: that of the class would override it, and be it implicit (10.3 p4, 12.4 p9)
abbrev pub is_final_destructor : Option Function → Bool
is_final_destructor (Some f) = is_destructor_name f.name && f.is_final
is_final_destructor None = false

abbrev pub base_of : Option Class → Option ℕ
base_of (Some k) = k.base
base_of None = None

abbrev pub inherits_final_destructor : Ctx → ℕ → Bool
inherits_final_destructor c n =
    list_any (λ (x : SlotFunc). is_final_destructor (slot_function c.classes x)) (base_slots c (base_of (slice_get c.classes n)))

-- not too large
abbrev pub sized_class : At → ℕ → Ctx → Result Ctx ElabFault
sized_class at n c = if nat_le (class_extent c.classes n).size GREATEST_SIZE then Ok c else Err (Limit at Size)

-- complete, unless its destructor overrides one that it must not, or it is too large
abbrev pub closed_class : At → ℕ → Ctx → Result Ctx ElabFault
closed_class at n c = and_then (keeps at OverridesFinal (not (inherits_final_destructor c n))) (λ z. sized_class at n c)

-- Its text, from the first word to the `;` behind the brace

abbrev pub class_key : syntax.Trees → ℕ
class_key (syntax.more (syntax.node kind p (Some t) kids) ts) = t
class_key ts = 0

abbrev pub class_brace : syntax.Trees → ℕ
class_brace syntax.none = 0
class_brace (syntax.more (syntax.node k.MemberSpecification p (Some t) kids) ts) = t
class_brace (syntax.more t ts) = class_brace ts

abbrev pub class_text : List Lexeme → syntax.Trees → List ℕ
class_text s kids = text_between s (class_key kids) (suc (class_brace kids))
