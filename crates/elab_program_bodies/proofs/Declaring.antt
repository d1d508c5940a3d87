-- Functions that are declared and defined: at file scope, behind the brace of their class, and outside it.
use Rattle.std.proofs.Common.{◌≡◌, refl, sym, ap, ◌∙◌, subst, ℕ, suc, ◌+◌, Bool, true, false, not, ◌&&◌, ◌||◌, List, [], ◌∷◌, length, slice_get}
use Rattle.std.proofs.Common.{Option, Some, None, is_some, arith}
use Rattle.std.specs.Prelude.{slice_set, if◌then◌else◌, ◌==◌}
use Rattle.std.specs.List.{list_any}
use Rattle.std.proofs.lemmas.Bool.{and_parts}
use Rattle.std.proofs.lemmas.Option.{same_Some}
use Rattle.elab_rules.specs.cpp_types.Typ.{Form, void, func, Signature, none as no_typs}
use Rattle.elab_rules.specs.cpp_tree.Notation.{plain}
use Rattle.elab_rules.specs.cpp_types.Class.{Function}
use Rattle.elab_rules.specs.cpp_types.Equal.{typ_eq, typs_eq, flag_eq}
use Rattle.elab_rules.specs.cpp_types.declared.classes.At.{At}
use Rattle.elab_rules.specs.cpp_lex.Tokens.{Lexeme}
use Rattle.elab_rules.specs.cpp_ast.declared.kinds.NodeKind.TheVariants as k
use Rattle.elab_rules.specs.cpp_ast.Trees as syntax
use Rattle.elab_rules.specs.cpp_names.Names.{innermost_of}
use Rattle.elab_rules.specs.cpp_names.declared.entity.Entity.{Entity}
use Rattle.elab_rules.specs.cpp_tree.declared.program.Linkage.TheVariants.{Inline}
use Rattle.elab_rules.specs.cpp_tree.declared.program.FuncKind.{FuncKind}
use Rattle.elab_rules.specs.cpp_tree.declared.program.FuncKind.TheVariants.{Plain, Constructor, Destructor, ClosureCall}
use Rattle.elab_rules.specs.cpp_tree.declared.faults.IllRule.{IllRule}
use Rattle.elab_rules.specs.cpp_tree.declared.faults.IllRule.TheVariants.{BadDeclaration, NoMember, OutOfProfile, Redeclared, SafetyDiffers, TypeDiffers}
use Rattle.elab_rules.specs.cpp_tree.Rows.{is_special}
use Rattle.elab_rules.specs.cpp_tree.Typing.{is_class_typ, form_in}
use Rattle.elab_rules.specs.elab_ctx.Ctx.{Ctx, Func}
use Rattle.elab_rules.specs.elab_ctx.Steps.{check, expect, at_of}
use Rattle.elab_rules.specs.Initialising.{func_at, signature_parameters, signature_result}
use Rattle.elab_rules.specs.Types.{Declared, Parameter, types_of}
use Rattle.elab_rules.specs.Expressions.{type_of_specifiers, declared_by}
use Rattle.elab_rules.specs.Statements.{State, Body, name_of}
use Rattle.elab_rules.specs.Functions
use Rattle.elab_rules.specs.Functions.{Storage, Header, Placed, param_of, new_function, is_same_function, first_from, agrees, same_safety, safety_of, is_internal}
use Rattle.elab_rules.specs.Functions.{defines_well, with_definition, defined_function}
use Rattle.elab_rules.specs.Classes
use Rattle.elab_rules.specs.Classes.{Method, Started, Marks, Definition, body_in, last_token, token_end}
use Rattle.elab_rules.specs.Members
use Rattle.elab_rules.specs.Members.{outside_linkage, outside_text, linked_definition, outside_defined, with_noexcept}
use Rattle.elab_rules.specs.Units
use Rattle.elab_rules.specs.Units.{header_of, definition_text, closing_offset}
use Rattle.elab_rules.specs.Lambdas.{lambdas_of}
use Rattle.elab_fits.proofs.Equal.{typ_same}
use Rattle.elab_bodies.specs.Bodies.{number_of}
use Rattle.elab_bodies.proofs.Closures.{at_end}
use Rattle.elab_places.specs.Functions.{copy_words}
use Rattle.elab_places.specs.Round.{Round}
use Rattle.elab_places.proofs.Steps.{On, bind, skip}
use Rattle.elab_places.proofs.Rounds.{bodies_more}
use Rattle.elab_places.proofs.Walks.{checked, IsHeader, HasKind, header_in, special_header, Method_is, method_of, with_func, round_with}
use Rattle.elab_program_bodies.specs.Known.{IsKnown, all_wait, HoldsOf, Holds}
use Rattle.elab_program_bodies.proofs.Lists.{not_both, at_func, set_at, set_again}
use Rattle.elab_program_bodies.proofs.Known.{stand_more}
use Rattle.elab_program_bodies.proofs.Special.{typs_same, special_result, special_params, same_function}
use Rattle.elab_program_bodies.proofs.Defining.{Finds, Becomes, becomes, ready, Ready, function_holds, method_holds}

-- A function that is declared

pub holds_more : (r : Round) (f : Func) → IsKnown f → f.implicit ≡ false → HoldsOf all_wait r → HoldsOf all_wait (with_func r f)
holds_more r f i j h = record {
  stand = stand_more all_wait None r.funcs r.bodies f i j h.stand;
  owned = record { defaults = h.owned.defaults; bodies = bodies_more r.funcs f r.bodies h.owned.bodies };
}

no_destructor : (A : Type 0) (kind : FuncKind) → kind ≡ Plain → kind ≡ Destructor → A
no_destructor A kind e f = let z : Plain ≡ Destructor = sym e ∙ f in absurd cc

no_class : (A : Type 0) (o : Option ℕ) (n : ℕ) → o ≡ Some n → o ≡ None → A
no_class A o n e f = let z : Some n ≡ None = sym e ∙ f in absurd cc

new_known : (h : Header) → h.kind ≡ Plain → IsKnown (new_function h)
new_known h e = record {
  inside = λ z. ap is_special e;
  result = λ t. not_both (is_class_typ (signature_result h.signature) ≡ false) (is_special h.kind) (ap is_special e) t;
  params = λ q. no_destructor (signature_parameters h.signature ≡ no_typs) h.kind e q;
  source = λ t e. not_both (number_of (signature_parameters h.signature) ≡ copy_words (signature_parameters h.signature)) false refl t;
}

pub declared_holds : (r : Round) (h : Header) → h.kind ≡ Plain → h.class ≡ None → HoldsOf all_wait r → HoldsOf all_wait (with_func r (new_function h))
declared_holds r h e f i = holds_more r (new_function h) (new_known h e) refl i

member_result : (n : ℕ) (of : FuncKind) (h : Header) → IsHeader n of h → is_special h.kind ≡ true → is_class_typ (signature_result h.signature) ≡ false
member_result n of h i t = special_result of n h.signature (i.special (ap is_special (sym i.kind) ∙ t))

member_params : (n : ℕ) (of : FuncKind) (h : Header) → IsHeader n of h → h.kind ≡ Destructor → signature_parameters h.signature ≡ no_typs
member_params n of h i e = special_params n h.signature (subst (λ (z : FuncKind). Classes.is_special z n h.signature ≡ true) (sym i.kind ∙ e)
    (i.special (ap is_special (sym i.kind ∙ e))))

pub member_holds : (r : Round) (n : ℕ) (of : FuncKind) (h : Header) (m : Marks) (o : Option Function) (d : Option Definition) → IsHeader n of h
    → HoldsOf all_wait r → HoldsOf all_wait (with_func r (Classes.as_written d (Classes.member_func h m o)))
member_holds r n of h m o (Some d) i j = holds_more r (Classes.as_written (Some d) (Classes.member_func h m o)) (record {
  inside = λ z. no_class (is_special h.kind ≡ false) h.class n i.class z;
  result = λ t. member_result n of h i t;
  params = λ e. member_params n of h i e;
  source = λ t e. not_both (number_of (signature_parameters h.signature) ≡ copy_words (signature_parameters h.signature)) false refl t;
}) refl j
member_holds r n of h m o None i j = holds_more r (Classes.member_func h m o) (record {
  inside = λ z. no_class (is_special h.kind ≡ false) h.class n i.class z;
  result = λ t. member_result n of h i t;
  params = λ e. member_params n of h i e;
  source = λ t e. not_both (number_of (signature_parameters h.signature) ≡ copy_words (signature_parameters h.signature)) false refl t;
}) refl j

-- The function of a header

record Found (test : Func → Bool) (fs : List Func) (i j : ℕ) : Type 0 where
  off : ℕ
  is : i ≡ j + off
  func : Func
  at : slice_get fs off ≡ Some func
  passes : test func ≡ true

found_by : (test : Func → Bool) (j : ℕ) (f : Func) (fs : List Func) (i : ℕ) (b : Bool) → test f ≡ b → (first_from test (suc j) fs ≡ Some i → Found test fs i (suc j))
    → (if b then Some j else first_from test (suc j) fs) ≡ Some i → Found test (f ∷ fs) i j
found_by test j f fs i true e l h = let g = same_Some j i h in record { off = 0; is = omega arith; func = f; at = refl; passes = e }
found_by test j f fs i false e l h = let r = l h in let g = r.is in
    record { off = suc r.off; is = omega arith; func = r.func; at = r.at; passes = r.passes }

found : (test : Func → Bool) (j : ℕ) (fs : List Func) (i : ℕ) → first_from test j fs ≡ Some i → Found test fs i j
found test j [] i h = absurd cc
found test j (f ∷ fs) i h = found_by test j f fs i (test f) refl (found test (suc j) fs i) h

-- it has this result, and is not defined yet
record Agrees (sig : Signature) (f : Func) : Type 0 where
  result : signature_result f.declared.signature ≡ signature_result sig
  undefined : f.is_defined ≡ false

finds : (fs : List Func) (h : Header) (i : ℕ) → first_from (is_same_function h) 0 fs ≡ Some i → Agrees h.signature (func_at fs i) → Finds fs h i
finds fs h i e q = let r = found (is_same_function h) 0 fs i e in let g = r.is in
    let a : slice_get fs i ≡ Some r.func = ap (λ (n : ℕ). slice_get fs n) (omega arith) ∙ r.at in
    let s = same_function h r.func r.passes in record {
      func = r.func;
      at = a;
      undefined = ap (λ (f : Func). f.is_defined) (sym (at_func fs i r.func a)) ∙ q.undefined;
      kind = s.kind;
      class = s.class;
      params = ap number_of s.params;
      result = ap (λ (f : Func). signature_result f.declared.signature) (sym (at_func fs i r.func a)) ∙ q.result;
    }

expected : {A : Type 0} (at : At) (rule : IllRule) (o : Option A) → On (λ (a : A). o ≡ Some a) (expect at rule o)
expected at rule (Some a) = refl
expected at rule None = tt

-- as many parameters as the type of the header has
as_written : (ps : List Parameter) → number_of (types_of ps) ≡ length ps
as_written [] = refl
as_written (p ∷ ps) = ap suc (as_written ps)

many : (h : Header) → typs_eq (types_of h.params) (signature_parameters h.signature) ≡ true → number_of (signature_parameters h.signature) ≡ length h.params
many h e = ap number_of (sym (typs_same (types_of h.params) (signature_parameters h.signature) e)) ∙ as_written h.params

-- it is defined
defined : (st : State) (h : Header) (place : ℕ) (text : List ℕ) (closed : ℕ) → Holds st → Finds st.ctx.funcs h place
    → typs_eq (types_of h.params) (signature_parameters h.signature) ≡ true → Ready (record st { ctx = with_definition st.ctx place h text closed }) place h
defined st h place text closed i x e = ready st h place (with_definition st.ctx place h text closed) (defined_function (func_at st.ctx.funcs place) h text closed) i x
    (subst (λ (f : Func). Becomes h f (defined_function (func_at st.ctx.funcs place) h text closed)) (at_func st.ctx.funcs place x.func x.at)
    (becomes h (func_at st.ctx.funcs place) text closed (ap (λ (f : Func). number_of (signature_parameters f.declared.signature))
    (at_func st.ctx.funcs place x.func x.at) ∙ x.params) (many h e))) refl refl

-- Behind the brace

record Again (c : Ctx) (place : ℕ) (h : Header) (d : Ctx) : Type 0 where
  agrees : Agrees h.signature (func_at c.funcs place)
  is : d ≡ with_definition c place h (func_at c.funcs place).text (func_at c.funcs place).closed_at

-- what follows from what is checked
said : (P : Type 0) (at : At) (rule : IllRule) (b : Bool) → (b ≡ true → P) → On (λ (y : Bool). P) (check at rule b)
said P at rule true f = f refl
said P at rule false f = tt

is_not : (b : Bool) → not b ≡ true → b ≡ false
is_not false h = refl
is_not true h = absurd cc

agrees_late : (h : Header) (closed : ℕ) (f : Func) → On (λ (y : Bool). Agrees h.signature f) (Members.late_agrees h closed f)
agrees_late h closed f = checked (λ (y : Bool). Agrees h.signature f) h.at Redeclared (not f.is_defined && f.closed_at == closed) _
    (λ u. said (Agrees h.signature f) h.at TypeDiffers (typ_eq (signature_result f.declared.signature) (signature_result h.signature)) (λ e. record {
      result = typ_same (signature_result f.declared.signature) (signature_result h.signature) e;
      undefined = is_not f.is_defined (and_parts (not f.is_defined) (f.closed_at == closed) u).0;
    }))

read_again : (c : Ctx) (place : ℕ) (h : Header) (closed : ℕ) → On (Again c place h) (Members.late_kept c place h closed)
read_again c place h closed = bind (λ y. Agrees h.signature (func_at c.funcs place)) (Again c place h)
    (Members.late_agrees h closed (func_at c.funcs place)) _ (agrees_late h closed (func_at c.funcs place)) (λ y a. record { agrees = a; is = refl })

late_body : (s : List Lexeme) (st : State) (n place : ℕ) (of : FuncKind) (m : Method) (body : syntax.Tree) → Holds st → IsHeader n of m.header
    → Finds st.ctx.funcs m.header place → (text : List ℕ) (closed : ℕ)
    → On Holds (Members.method_body lambdas_of s (record st { ctx = with_definition st.ctx place m.header text closed }) n place of m body)
late_body s st n place of m body h i x text closed = checked Holds m.header.at BadDeclaration
    (typs_eq (types_of m.header.params) (signature_parameters m.header.signature)) _
    (λ e. method_holds s (record st { ctx = with_definition st.ctx place m.header text closed }) n place of m body
    (defined st m.header place text closed h x e) i.kind i.class)

late_method : (s : List Lexeme) (st : State) (n : ℕ) (of : FuncKind) (m : Method) (o : Option syntax.Tree) → Holds st → IsHeader n of m.header
    → On Holds (Members.late_method lambdas_of s st n of m o)
late_method s st n of m (Some body) h i = bind (λ (p : ℕ). first_from (is_same_function m.header) 0 st.ctx.funcs ≡ Some p) Holds
    (Members.place_of_header st.ctx m.header) _ (expected m.header.at NoMember (first_from (is_same_function m.header) 0 st.ctx.funcs))
    (λ p e. bind (Again st.ctx p m.header) Holds (Members.late_kept st.ctx p m.header (Classes.token_end (slice_get s (Classes.last_token (Some body))))) _
    (read_again st.ctx p m.header (Classes.token_end (slice_get s (Classes.last_token (Some body)))))
    (λ c q. subst (λ (z : Ctx). On Holds (Members.method_body lambdas_of s (record st { ctx = z }) n p of m body)) (sym q.is)
    (late_body s st n p of m body h i (finds st.ctx.funcs m.header p e q.agrees) (func_at st.ctx.funcs p).text (func_at st.ctx.funcs p).closed_at)))
late_method s st n of m None h i = h

late_function : (s : List Lexeme) (st : State) (n : ℕ) (name : List ℕ) (at : At) (of : FuncKind) (kids : syntax.Trees) → Holds st
    → On Holds (Members.late_function lambdas_of s st n name at of kids)
late_function s st n name at of kids h = bind (Method_is n of) Holds (Classes.method_of s st n name at of kids) _ (method_of s st n name at of kids)
    (λ m i. late_method s st n of m (body_in kids) h i)

pub late_holds : (s : List Lexeme) (n : ℕ) (name : List ℕ) (st : State) (t : syntax.Tree) → Holds st → On Holds (Members.late_of lambdas_of s n name st t)
late_holds s n name st (syntax.node k.FunctionDefinition p token kids) h = late_function s st n name (at_of p) Plain kids h
late_holds s n name st (syntax.node k.ConstructorDefinition p token kids) h = late_function s st n name (at_of p) Constructor kids h
late_holds s n name st (syntax.node k.DestructorDefinition p token kids) h = late_function s st n name (at_of p) Destructor kids h
late_holds s n name st t h = h

-- Outside the class

linked : (h : Header) (f g : Func) (b : Bool) → Becomes h f g → Becomes h f (if b then record g { linkage = Inline } else g)
linked h f g true b = record {
  redefined = record {
    declared = b.redefined.declared;
    kind = b.redefined.kind;
    class = b.redefined.class;
    implicit = b.redefined.implicit;
    defined = b.redefined.defined;
    counted = b.redefined.counted;
  };
  params = b.params;
}
linked h f g false b = b

outside_ready : (s : List Lexeme) (st : State) (h : Header) (place first last : ℕ) → Holds st → Finds st.ctx.funcs h place
    → typs_eq (types_of h.params) (signature_parameters h.signature) ≡ true → Ready (record st { ctx = outside_defined s st.ctx place h first last }) place h
outside_ready s st h place first last i x e = ready st h place (outside_defined s st.ctx place h first last) (outside_linkage h.storage f) i x
    (linked h x.func f h.storage.is_inline (subst (λ (z : Func). Becomes h x.func z) (sym same)
    (subst (λ (z : Func). Becomes h z g) (at_func st.ctx.funcs place x.func x.at)
    (becomes h (func_at st.ctx.funcs place) text closed (ap (λ (z : Func). number_of (signature_parameters z.declared.signature))
    (at_func st.ctx.funcs place x.func x.at) ∙ x.params) (many h e)))))
    (set_again st.ctx.funcs place g (outside_linkage h.storage f)) refl
  where
    text : List ℕ
    text = outside_text s h.storage first last

    closed : ℕ
    closed = token_end (slice_get s last)

    g : Func
    g = defined_function (func_at st.ctx.funcs place) h text closed

    f : Func
    f = func_at (slice_set st.ctx.funcs place g) place

    same : f ≡ g
    same = at_func (slice_set st.ctx.funcs place g) place g (set_at st.ctx.funcs place g x.func x.at)

neither : (a b : Bool) → not (a || b) ≡ true → a ≡ false
neither false b h = refl
neither true b h = absurd cc

-- a definition agrees with the declarations before, and is the only one
agreeing : (h : Header) (f : Func) → On (λ (b : Bool). Agrees h.signature f) (agrees h f true)
agreeing h f = checked P h.at TypeDiffers (typ_eq (signature_result f.declared.signature) (signature_result h.signature)) _
    (λ r. skip P (check h.at SafetyDiffers (same_safety f.declared.safety (safety_of h.qualifiers))) _
    (λ b. skip P (check h.at BadDeclaration
    (flag_eq f.declared.no_except h.qualifiers.no_except && not (h.storage.is_static && not (is_internal f.linkage)))) _
    (λ d. said (Agrees h.signature f) h.at Redeclared (not (f.is_defined || is_some f.builtin)) (λ u. record {
      result = typ_same (signature_result f.declared.signature) (signature_result h.signature) r;
      undefined = neither f.is_defined (is_some f.builtin) u;
    }))))
  where
    P : Bool → Type 0
    P b = Agrees h.signature f

outside_body : (s : List Lexeme) (st : State) (n : ℕ) (of : FuncKind) (first : ℕ) (m : Method) (body : syntax.Tree) → Holds st → m.header.kind ≡ of
    → m.header.class ≡ Some n → On Holds (Members.outside_body lambdas_of s st n of first m body)
outside_body s st n of first m body h e c =
    skip Holds (Functions.text_sized m.header.at (outside_text s m.header.storage first (last_token (Some body)))) _
    (λ v. skip Holds (Members.outside_words m.header) _
    (λ w. skip Holds (check m.header.at NoMember (list_any (Members.is_member_named n m.header.name) st.ctx.funcs)) _
    (λ x. bind (λ (p : ℕ). first_from (is_same_function m.header) 0 st.ctx.funcs ≡ Some p) Holds
    (expect m.header.at TypeDiffers (first_from (is_same_function m.header) 0 st.ctx.funcs)) _
    (expected m.header.at TypeDiffers (first_from (is_same_function m.header) 0 st.ctx.funcs))
    (λ p q. bind (λ (b : Bool). Agrees m.header.signature (func_at st.ctx.funcs p)) Holds
    (Members.outside_agrees m.header (func_at st.ctx.funcs p)) _ (agreeing (with_noexcept m.header) (func_at st.ctx.funcs p))
    (λ y r. checked Holds m.header.at BadDeclaration (typs_eq (types_of m.header.params) (signature_parameters m.header.signature)) _
    (λ z. method_holds s (record st { ctx = outside_defined s st.ctx p m.header first (last_token (Some body)) }) n p of m body
    (outside_ready s st m.header p first (last_token (Some body)) h (finds st.ctx.funcs m.header p q r) z) e c))))))

outside_with : (s : List Lexeme) (st : State) (at : At) (of : FuncKind) (first : ℕ) (m : Method) (o : Option syntax.Tree) → Holds st → m.header.kind ≡ of
    → On Holds (Members.outside_with lambdas_of s st at of first m o)
outside_with s st at of first m (Some body) h e = bind (λ (n : ℕ). m.header.class ≡ Some n) Holds (expect at BadDeclaration m.header.class) _
    (expected at BadDeclaration m.header.class) (λ n c. outside_body s st n of first m body h e c)
outside_with s st at of first m None h e = tt

abbrev OfKind : FuncKind → Method → Type 0
OfKind of m = m.header.kind ≡ of

outside_plain : (s : List Lexeme) (st : State) (at : At) (x : Storage) (rest : syntax.Trees) (r : Declared)
    → On (OfKind Plain) (Members.outside_plain s st at x rest r)
outside_plain s st at x rest r = skip (OfKind Plain) (Members.owner_named s st.ctx at r.owner) _
    (λ n. bind (HasKind n Plain) (OfKind Plain) (Classes.header_in n x Plain at (name_of s r.name) r (form_in r.typ)) _
    (header_in n x Plain at (name_of s r.name) r (form_in r.typ)) (λ h i. i.kind))

outside_special : (s : List Lexeme) (st : State) (at : At) (x : Storage) (of : FuncKind) (rest : syntax.Trees) (r : Declared)
    → On (OfKind of) (Members.outside_special s st at x of rest r)
outside_special s st at x of rest r = skip (OfKind of) (Members.owner_named s st.ctx at r.owner) _
    (λ n. bind (IsHeader n of) (OfKind of)
    (Classes.special_header n (Members.name_of_class (slice_get st.ctx.classes n)) at x of r (name_of s r.name)) _
    (special_header n (Members.name_of_class (slice_get st.ctx.classes n)) at x of r (name_of s r.name)) (λ h i. i.kind))

outside_method : (s : List Lexeme) (st : State) (at : At) (x : Storage) (of : FuncKind) (ts : syntax.Trees)
    → On (OfKind of) (Members.outside_method s st at x of ts)
outside_method s st at x Plain (syntax.more base (syntax.more d rest)) = skip (OfKind Plain) (type_of_specifiers s st.ctx st.work base) _
    (λ t. skip (OfKind Plain) (declared_by s st.ctx st.work at t d) _ (λ r. outside_plain s st at x rest r))
outside_method s st at x Plain (syntax.more base syntax.none) = tt
outside_method s st at x Plain syntax.none = tt
outside_method s st at x Constructor (syntax.more d rest) = skip (OfKind Constructor) (declared_by s st.ctx st.work at (plain void) d) _
    (λ r. outside_special s st at x Constructor rest r)
outside_method s st at x Constructor syntax.none = tt
outside_method s st at x Destructor (syntax.more d rest) = skip (OfKind Destructor) (declared_by s st.ctx st.work at (plain void) d) _
    (λ r. outside_special s st at x Destructor rest r)
outside_method s st at x Destructor syntax.none = tt
outside_method s st at x ClosureCall (syntax.more d rest) = skip (OfKind ClosureCall) (declared_by s st.ctx st.work at (plain void) d) _
    (λ r. outside_special s st at x ClosureCall rest r)
outside_method s st at x ClosureCall syntax.none = tt

pub outside_holds : (s : List Lexeme) (x : Storage) (st : State) (at : At) (of : FuncKind) (first : ℕ) (kids : syntax.Trees) → Holds st
    → On Holds (Members.member_defined lambdas_of s x st at of first kids)
outside_holds s x st at of first kids h = bind (OfKind of) Holds
    (Members.outside_method s st at (Classes.started_from s x kids).storage of (Classes.started_from s x kids).rest) _
    (outside_method s st at (Classes.started_from s x kids).storage of (Classes.started_from s x kids).rest)
    (λ m e. outside_with s st at of first m (body_in kids) h e)

-- At file scope

named : (bodies : List Body) (c : Ctx) (at : At) (name : List ℕ) (o : Option Entity) → HoldsOf all_wait (round_with bodies c)
    → On (λ (d : Ctx). HoldsOf all_wait (round_with bodies d)) (Functions.function_named c at name o)
named bodies c at name None h = h
named bodies c at name (Some e) h =
    skip (λ (d : Ctx). HoldsOf all_wait (round_with bodies d)) (check at Redeclared (Functions.is_function_entity e.kind)) _ (λ y. h)

name_declared : (bodies : List Body) (c : Ctx) (h : Header) (o : Option ℕ) → HoldsOf all_wait (round_with bodies c)
    → On (λ (d : Ctx). HoldsOf all_wait (round_with bodies d)) (Functions.name_declared c h o)
name_declared bodies c h (Some n) i = i
name_declared bodies c h None i = named bodies c h.at h.name (innermost_of c.scopes h.name) i

record Placing (bodies : List Body) (h : Header) (p : Placed) : Type 0 where
  holds : HoldsOf all_wait (round_with bodies p.ctx)
  finds : Finds p.ctx.funcs h p.place

placing : (bodies : List Body) (c : Ctx) (h : Header) (o : Option ℕ) → h.kind ≡ Plain → h.class ≡ None → HoldsOf all_wait (round_with bodies c)
    → first_from (is_same_function h) 0 c.funcs ≡ o → On (Placing bodies h) (Functions.declared_in c h true o)
placing bodies c h (Some i) e f j q = bind (λ (b : Bool). Agrees h.signature (func_at c.funcs i)) (Placing bodies h)
    (agrees h (func_at c.funcs i) true) _ (agreeing h (func_at c.funcs i)) (λ y r. record { holds = j; finds = finds c.funcs h i q r })
placing bodies c h None e f j q = bind (λ (d : Ctx). HoldsOf all_wait (round_with bodies d)) (Placing bodies h) (Functions.name_declared c h h.class) _
    (name_declared bodies c h h.class j)
    (λ d i. record {
      holds = declared_holds (round_with bodies d) h e f i;
      finds = record {
        func = new_function h;
        at = at_end d.funcs (new_function h);
        undefined = refl;
        kind = refl;
        class = refl;
        params = refl;
        result = refl;
      };
    })

function_placed : (bodies : List Body) (c : Ctx) (h : Header) → h.kind ≡ Plain → h.class ≡ None → HoldsOf all_wait (round_with bodies c)
    → On (Placing bodies h) (Functions.function_declared c h true)
function_placed bodies c h e f i = skip (Placing bodies h) (Functions.main_fits h) _
    (λ a. skip (Placing bodies h) (check h.at BadDeclaration (not h.qualifiers.is_const)) _
    (λ b. skip (Placing bodies h) (Functions.dynamic_fits h) _
    (λ d. skip (Placing bodies h) (check h.at OutOfProfile (not h.storage.is_c || Functions.may_be_c h)) _
    (λ y. skip (Placing bodies h) (Functions.header_sized c h) _
    (λ z. placing bodies c h (first_from (is_same_function h) 0 c.funcs) e f i refl)))))

pub file_holds : (s : List Lexeme) (st : State) (x : Storage) (at : At) (first : ℕ) (d : Declared) (body : syntax.Tree) (f : Form) → Holds st
    → On Holds (Units.defined_with s st x at first d body f)
file_holds s st x at first d body (func sig) h = skip Holds (Functions.text_sized at (definition_text s x first body)) _
    (λ y. checked Holds at BadDeclaration (typs_eq (types_of d.params) (signature_parameters sig)) _
    (λ e. bind (Placing st.bodies (header_of s at x d sig)) Holds (Functions.function_declared st.ctx (header_of s at x d sig) true) _
    (function_placed st.bodies st.ctx (header_of s at x d sig) refl refl h)
    (λ p i. function_holds s (record st {
      ctx = with_definition p.ctx p.place (header_of s at x d sig) (definition_text s x first body)
          (closing_offset s body);
    }) (header_of s at x d sig) None p.place body
    (defined (record st { ctx = p.ctx }) (header_of s at x d sig) p.place (definition_text s x first body) (closing_offset s body) i.holds i.finds e) refl refl)))
file_holds s st x at first d body f h = tt
