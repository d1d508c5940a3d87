-- Functions that are declared at file scope, and members that are defined outside their class, keep the types of the context sound.
use Rattle.std.proofs.Common.{◌≡◌, refl, sym, ◌∙◌, subst, ℕ, Bool, true, false, List, [], ◌∷◌, ◌++◌, Option, Some, None}
use Rattle.std.specs.Prelude.{slice_get, slice_set, not, ◌||◌, if◌then◌else◌, is_some}
use Rattle.std.specs.List.{list_any}
use Rattle.std.proofs.lemmas.Option.{same_Some}
use Rattle.elab_rules.specs.cpp_types.Typ.{Typ, typ, void, int, enum, null, ptr, ref, array, func, class, closure, tx_ex}
use Rattle.elab_rules.specs.cpp_types.Class.{Class, completion_of}
use Rattle.elab_rules.specs.cpp_types.declared.classes.At.{At}
use Rattle.elab_rules.specs.cpp_lex.Tokens.{Lexeme}
use Rattle.elab_rules.specs.cpp_ast.Trees as syntax
use Rattle.elab_rules.specs.cpp_names.Names.{innermost_of}
use Rattle.elab_rules.specs.cpp_names.declared.entity.Entity.{Entity}
use Rattle.elab_rules.specs.cpp_tree.declared.faults.IllRule.TheVariants.{BadDeclaration, Incomplete, NoMember, OutOfProfile, Redeclared, TypeDiffers}
use Rattle.elab_rules.specs.cpp_tree.declared.faults.IllRule.TheVariants.{UnknownName}
use Rattle.elab_rules.specs.cpp_tree.declared.program.FuncKind.{FuncKind}
use Rattle.elab_rules.specs.cpp_tree.declared.program.FuncKind.TheVariants.{Plain, Constructor, Destructor, ClosureCall}
use Rattle.elab_rules.specs.cpp_tree.Notation.{plain}
use Rattle.elab_rules.specs.cpp_tree.Typing.{form_in}
use Rattle.elab_rules.specs.elab_ctx.Ctx.{Ctx, Func}
use Rattle.elab_rules.specs.elab_ctx.Steps.{and_then, check, expect, spelling}
use Rattle.elab_rules.specs.Initialising.{func_at, class_number}
use Rattle.elab_rules.specs.Types.{Declared, type_named}
use Rattle.elab_rules.specs.Expressions.{declared_by, type_of_specifiers}
use Rattle.elab_rules.specs.Statements.{State, Lambdas, name_of}
use Rattle.elab_rules.specs.Functions.{Storage, Header, Placed, new_function, is_same_function, first_from, agrees, is_function_entity, function_named}
use Rattle.elab_rules.specs.Functions.{name_declared, declared_in, main_fits, may_be_c, dynamic_fits, header_sized, text_sized, function_declared}
use Rattle.elab_rules.specs.Functions.{with_definition}
use Rattle.elab_rules.specs.Classes.{Method, Started, started_from, body_in, last_token, token_end, header_in, special_header}
use Rattle.elab_rules.specs.Members.{outside_linkage, outside_text, linked_definition, outside_defined, outside_body, outside_words, is_member_named}
use Rattle.elab_rules.specs.Members.{outside_agrees, outside_plain, outside_special, outside_method, outside_with, outside_started, member_defined, method_body}
use Rattle.elab_rules.specs.Members.{owner_class, owner_named, name_of_class}
use Rattle.elab_fits.specs.Standing.{On}
use Rattle.elab_fits.proofs.Steps.{bind, skip, expected}
use Rattle.elab_sound_types.specs.Types.{is_class}
use Rattle.elab_sound_types.specs.Laws.{IsSoundDeclared}
use Rattle.elab_sound_types.specs.Contexts.{is_sound_function, is_spelled, are_spelled}
use Rattle.elab_sound_types.specs.States.{IsSoundState, IsSoundAfter, KeepsSound}
use Rattle.elab_sound_types.proofs.Closures.{all_and_one}
use Rattle.elab_sound_types.proofs.Expressions.{rest_spelled}
use Rattle.elab_sound_types.proofs.States.{all_but, nothing, later}
use Rattle.elab_sound_units.specs.Headers.{IsSoundHeader, IsOwnHeader, IsRead, IsOutside}
use Rattle.elab_sound_units.proofs.Below.{After, IsDenoted, specifiers_sound, declarator_sound}
use Rattle.elab_sound_units.proofs.Contexts.{function_at, functions_state, names_state}
use Rattle.elab_sound_units.proofs.Headers.{header_sound, special_sound, started_spelled, body_spelled, SpelledIf}
use Rattle.elab_sound_units.proofs.Bodies.{behind, definition_after, method_after}
use Rattle.elab_sound_units.proofs.Classes.{DenotedIf, called_sound}

-- A declaration

abbrev pub PlacedAfter : State → Placed → Type 0
PlacedAfter st p = IsSoundAfter true st (record st { ctx = p.ctx })

abbrev ContextAfter : State → Ctx → Type 0
ContextAfter st c = IsSoundAfter true st (record st { ctx = c })

-- a context in which only a name is more
record IsNamed (st : State) (c : Ctx) : Type 0 where
  after : IsSoundAfter true st (record st { ctx = c })
  same : c.classes ≡ st.ctx.classes

named_only : (st : State) (at : At) (name : List ℕ) (o : Option Entity) → IsSoundState st → On (IsNamed st) (function_named st.ctx at name o)
named_only st at name None h = record { after = names_state st _ st.ctx.types h h.context.types; same = refl }
named_only st at name (Some x) h =
    skip (IsNamed st) (check at Redeclared (is_function_entity x.kind)) _ (λ y. record { after = nothing true st h; same = refl })

name_only : (st : State) (h : Header) (o : Option ℕ) → IsSoundState st → On (IsNamed st) (name_declared st.ctx h o)
name_only st h (Some n) i = record { after = nothing true st i; same = refl }
name_only st h None i = named_only st h.at h.name (innermost_of st.ctx.scopes h.name) i

added_after : (st : State) (h : Header) → IsSoundState st → IsSoundHeader st.ctx.classes h
    → After st (record st { ctx = record st.ctx { funcs = st.ctx.funcs ++ new_function h ∷ [] } })
added_after st h i g = functions_state st (st.ctx.funcs ++ new_function h ∷ []) i
    (all_and_one (is_sound_function st.ctx.classes) st.ctx.funcs (new_function h) i.context.functions g.signature)

in_after : (st : State) (h : Header) (defines : Bool) (o : Option ℕ) → IsSoundState st → IsSoundHeader st.ctx.classes h
    → On (PlacedAfter st) (declared_in st.ctx h defines o)
in_after st h defines (Some i) j g = skip (PlacedAfter st) (agrees h (func_at st.ctx.funcs i) defines) _ (λ y. nothing true st j)
in_after st h defines None j g = bind (IsNamed st) (PlacedAfter st) (name_declared st.ctx h h.class) _ (name_only st h h.class j)
    (λ d x. let y : State = record st { ctx = d } in later true st y (record y { ctx = record d { funcs = d.funcs ++ new_function h ∷ [] } }) x.after
    (added_after y h x.after.sound (subst (λ (cs : List Class). IsSoundHeader cs h) (sym x.same) g)))

pub function_after : (st : State) (h : Header) (defines : Bool) → IsSoundState st → IsSoundHeader st.ctx.classes h
    → On (PlacedAfter st) (function_declared st.ctx h defines)
function_after st h defines i g = skip (PlacedAfter st) (main_fits h) _
    (λ a. skip (PlacedAfter st) (check h.at BadDeclaration (not h.qualifiers.is_const)) _
    (λ b. skip (PlacedAfter st) (dynamic_fits h) _ (λ d. skip (PlacedAfter st) (check h.at OutOfProfile (not h.storage.is_c || may_be_c h)) _
    (λ e. skip (PlacedAfter st) (header_sized st.ctx h) _ (λ z. in_after st h defines (first_from (is_same_function h) 0 st.ctx.funcs) i g)))))

-- The class before `::`

is_named_class : (classes : List Class) (t : Typ) (n : ℕ) → IsDenoted classes t → class_number t ≡ Some n → is_class classes n ≡ true
is_named_class classes (typ (class m) c v) n h e = subst (λ (i : ℕ). is_class classes i ≡ true) (same_Some m n e) h
is_named_class classes (typ (closure m) c v) n h e = absurd cc
is_named_class classes (typ void c v) n h e = absurd cc
is_named_class classes (typ (int k) c v) n h e = absurd cc
is_named_class classes (typ (enum i s) c v) n h e = absurd cc
is_named_class classes (typ null c v) n h e = absurd cc
is_named_class classes (typ (ptr t) c v) n h e = absurd cc
is_named_class classes (typ (ref t) c v) n h e = absurd cc
is_named_class classes (typ (array t b) c v) n h e = absurd cc
is_named_class classes (typ (func s) c v) n h e = absurd cc
is_named_class classes (typ (tx_ex t) c v) n h e = absurd cc

abbrev IsClassOf : Ctx → ℕ → Type 0
IsClassOf c n = is_class c.classes n ≡ true

owner_sound : (c : Ctx) (at : At) (t : Typ) → IsDenoted c.classes t → On (IsClassOf c) (owner_class c at t)
owner_sound c at t h = expected (IsClassOf c) at OutOfProfile (class_number t) _
    (λ n e. skip (IsClassOf c) (check at Incomplete (is_some (completion_of c.classes n))) _ (λ y. is_named_class c.classes t n h e))

found_denoted : (classes : List Class) (o : Option Typ) (u : Typ) → DenotedIf classes o → o ≡ Some u → IsDenoted classes u
found_denoted classes None u h e = absurd cc
found_denoted classes (Some t) u h e = subst (λ (v : Typ). IsDenoted classes v) (same_Some t u e) h

owners_sound : (s : List Lexeme) (st : State) (at : At) (o : Option ℕ) → IsSoundState st → On (IsClassOf st.ctx) (owner_named s st.ctx at o)
owners_sound s st at o h = skip (IsClassOf st.ctx) (expect at BadDeclaration o) _
    (λ t. expected (IsClassOf st.ctx) at UnknownName (type_named (spelling s t) st.ctx.types) _
    (λ u e. owner_sound st.ctx at u (found_denoted st.ctx.classes (type_named (spelling s t) st.ctx.types) u
    (called_sound st.ctx.classes (spelling s t) st.ctx.types h.context.types) e)))

module _ (s : List Lexeme) (st : State) (h : IsSoundState st) where
  abbrev Outside : Method → Type 0
  Outside m = IsOutside s st.ctx.classes m

  plain_outside : (at : At) (x : Storage) (rest : syntax.Trees) (r : Declared) → IsSoundDeclared st.ctx.classes r → are_spelled s rest ≡ true
      → On Outside (outside_plain s st at x rest r)
  plain_outside at x rest r g i = bind (IsClassOf st.ctx) Outside (owner_named s st.ctx at r.owner) _ (owners_sound s st at r.owner h)
      (λ n c. bind (IsOwnHeader st.ctx.classes n) Outside (header_in n x Plain at (name_of s r.name) r (form_in r.typ)) _
      (header_sound st.ctx.classes n x Plain at (name_of s r.name) r (form_in r.typ) g refl)
      (λ f j. record { number = n; class = c; read = record { header = j; rest = i } }))

  special_outside : (at : At) (x : Storage) (kind : FuncKind) (rest : syntax.Trees) (r : Declared) → IsSoundDeclared st.ctx.classes r
      → are_spelled s rest ≡ true → On Outside (outside_special s st at x kind rest r)
  special_outside at x kind rest r g i = bind (IsClassOf st.ctx) Outside (owner_named s st.ctx at r.owner) _ (owners_sound s st at r.owner h)
      (λ n c. bind (IsOwnHeader st.ctx.classes n) Outside
      (special_header n (name_of_class (slice_get st.ctx.classes n)) at x kind r (name_of s r.name)) _
      (special_sound st.ctx.classes n (name_of_class (slice_get st.ctx.classes n)) at x kind r (name_of s r.name) g)
      (λ f j. record { number = n; class = c; read = record { header = j; rest = i } }))

  special_method : (at : At) (x : Storage) (kind : FuncKind) (d : syntax.Tree) (rest : syntax.Trees) → are_spelled s rest ≡ true
      → On Outside (and_then (declared_by s st.ctx st.work at (plain void) d)
      (λ (r : Declared). outside_special s st at x kind rest r))
  special_method at x kind d rest i = bind (IsSoundDeclared st.ctx.classes) Outside (declared_by s st.ctx st.work at (plain void) d) _
      (declarator_sound s st.ctx st.work at (plain void) d h.context refl) (λ r g. special_outside at x kind rest r g i)

  pub methods_outside : (at : At) (x : Storage) (kind : FuncKind) (ts : syntax.Trees) → are_spelled s ts ≡ true → On Outside (outside_method s st at x kind ts)
  methods_outside at x Plain (syntax.more base (syntax.more d rest)) i =
      bind (IsDenoted st.ctx.classes) Outside (type_of_specifiers s st.ctx st.work base) _ (specifiers_sound s st.ctx st.work base h.context)
      (λ t j. bind (IsSoundDeclared st.ctx.classes) Outside (declared_by s st.ctx st.work at t d) _ (declarator_sound s st.ctx st.work at t d h.context j)
      (λ r g. plain_outside at x rest r g (rest_spelled s d rest (rest_spelled s base (syntax.more d rest) i))))
  methods_outside at x Plain syntax.none i = tt
  methods_outside at x Plain (syntax.more base syntax.none) i = tt
  methods_outside at x Constructor syntax.none i = tt
  methods_outside at x Constructor (syntax.more d rest) i = special_method at x Constructor d rest (rest_spelled s d rest i)
  methods_outside at x Destructor syntax.none i = tt
  methods_outside at x Destructor (syntax.more d rest) i = special_method at x Destructor d rest (rest_spelled s d rest i)
  methods_outside at x ClosureCall syntax.none i = tt
  methods_outside at x ClosureCall (syntax.more d rest) i = special_method at x ClosureCall d rest (rest_spelled s d rest i)

-- Members that are defined outside their class

linked_if : (classes : List Class) (b : Bool) (f g : Func) → is_sound_function classes f ≡ true → is_sound_function classes g ≡ true
    → is_sound_function classes (if b then f else g) ≡ true
linked_if classes true f g h i = h
linked_if classes false f g h i = i

linked_after : (st : State) (i : ℕ) (x : Storage) → IsSoundState st → After st (record st { ctx = linked_definition st.ctx i x })
linked_after st i x h = let f = function_at st.ctx.classes st.ctx.funcs i h.context.functions in
    functions_state st (slice_set st.ctx.funcs i (outside_linkage x (func_at st.ctx.funcs i))) h
    (all_but (is_sound_function st.ctx.classes) st.ctx.funcs i _ (linked_if st.ctx.classes x.is_inline _ _ f f) h.context.functions)

pub defined_after : (s : List Lexeme) (st : State) (i : ℕ) (h : Header) (first last : ℕ) → IsSoundState st
    → After st (record st { ctx = outside_defined s st.ctx i h first last })
defined_after s st i h first last g =
    let text : List ℕ = outside_text s h.storage first last in
    let closed : ℕ = token_end (slice_get s last) in
    let a = definition_after st i h text closed g in
    let y : State = record st { ctx = with_definition st.ctx i h text closed } in
    later true st y (record y { ctx = linked_definition y.ctx i h.storage }) a (linked_after y i h.storage a.sound)

module _ (lams : Lambdas) (s : List Lexeme) (keeps : KeepsSound true s lams) where
  pub body_after : (st : State) (n : ℕ) (kind : FuncKind) (first : ℕ) (m : Method) (body : syntax.Tree) → IsSoundState st → is_class st.ctx.classes n ≡ true
      → IsRead s st.ctx.classes n m → is_spelled s body ≡ true → On (After st) (outside_body lams s st n kind first m body)
  body_after st n kind first m body h c r i =
      skip (After st) (text_sized m.header.at (outside_text s m.header.storage first (last_token (Some body)))) _
      (λ v. skip (After st) (outside_words m.header) _ (λ w. skip (After st)
      (check m.header.at NoMember (list_any (is_member_named n m.header.name) st.ctx.funcs)) _
      (λ x. skip (After st) (expect m.header.at TypeDiffers (first_from (is_same_function m.header) 0 st.ctx.funcs)) _
      (λ place. skip (After st) (outside_agrees m.header (func_at st.ctx.funcs place)) _ (λ y.
      let d : Ctx = outside_defined s st.ctx place m.header first (last_token (Some body)) in
      let a = defined_after s st place m.header first (last_token (Some body)) h in
      behind st (record st { ctx = d }) (method_body lams s (record st { ctx = d }) n place kind m body) a
      (method_after lams s keeps (record st { ctx = d }) n place kind m body a.sound c r i))))))

  -- the class of the header is the one before `::`
  with_after : (st : State) (at : At) (kind : FuncKind) (first : ℕ) (m : Method) (body : Option syntax.Tree) → IsSoundState st
      → IsOutside s st.ctx.classes m → SpelledIf s body → On (After st) (outside_with lams s st at kind first m body)
  with_after st at kind first m (Some body) h o i = expected (After st) at BadDeclaration m.header.class _
      (λ n e. let q : o.number ≡ n = same_Some o.number n (sym o.read.header.class ∙ e) in
      body_after st n kind first m body h (subst (λ (j : ℕ). is_class st.ctx.classes j ≡ true) q o.class)
      (subst (λ (j : ℕ). IsRead s st.ctx.classes j m) q o.read) i)
  with_after st at kind first m None h o i = tt

  started_after : (st : State) (at : At) (kind : FuncKind) (first : ℕ) (body : Option syntax.Tree) (x : Started) → IsSoundState st
      → are_spelled s x.rest ≡ true → SpelledIf s body → On (After st) (outside_started lams s st at kind first body x)
  started_after st at kind first body x h i j =
      bind (IsOutside s st.ctx.classes) (After st) (outside_method s st at x.storage kind x.rest) _ (methods_outside s st h at x.storage kind x.rest i)
      (λ m o. with_after st at kind first m body h o j)

  pub outside_after : (x : Storage) (st : State) (at : At) (kind : FuncKind) (first : ℕ) (kids : syntax.Trees) → IsSoundState st → are_spelled s kids ≡ true
      → On (After st) (member_defined lams s x st at kind first kids)
  outside_after x st at kind first kids h i =
      started_after st at kind first (body_in kids) (started_from s x kids) h (started_spelled s x kids i) (body_spelled s kids i)
