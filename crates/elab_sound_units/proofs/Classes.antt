-- A class keeps the types of the context sound: it is named, its members are declared, and behind its brace stand initialisers and bodies.
use Rattle.std.proofs.Common.{◌≡◌, refl, sym, ap, subst, ℕ, Bool, true, false, List, [], ◌∷◌, ◌++◌, Option, Some, None}
use Rattle.std.specs.Prelude.{◌&&◌, ◌||◌, not, is_none, is_some, if◌then◌else◌}
use Rattle.std.specs.List.{list_all}
use Rattle.std.specs.Str.{bytes_eq}
use Rattle.std.proofs.lemmas.Bool.{and_parts}
use Rattle.elab_rules.specs.cpp_types.Typ.{Typ, typ, Form, void, int, enum, null, ptr, ref, array, func, class, closure, tx_ex}
use Rattle.elab_rules.specs.cpp_types.Class.{Class, completion_of, held}
use Rattle.elab_rules.specs.cpp_types.declared.classes.At.{At}
use Rattle.elab_rules.specs.cpp_lex.Tokens.{Lexeme}
use Rattle.elab_rules.specs.cpp_ast.declared.kinds.NodeKind.TheVariants as k
use Rattle.elab_rules.specs.cpp_ast.Trees as syntax
use Rattle.elab_rules.specs.cpp_tree.declared.program.FuncKind.{FuncKind}
use Rattle.elab_rules.specs.cpp_tree.declared.program.FuncKind.TheVariants.{Plain, Constructor, Destructor}
use Rattle.elab_rules.specs.cpp_tree.declared.faults.IllRule.TheVariants.{AbstractObject, BadDeclaration, Incomplete, OutOfProfile, Redeclared}
use Rattle.elab_rules.specs.cpp_tree.Typing.{form_in}
use Rattle.elab_rules.specs.elab_ctx.Ctx.{Ctx, Func}
use Rattle.elab_rules.specs.elab_ctx.Types.{Named, type_called}
use Rattle.elab_rules.specs.elab_ctx.Steps.{and_then, at_of, check, each_of}
use Rattle.elab_rules.specs.Objects.{element_of}
use Rattle.elab_rules.specs.Operators.{is_complete}
use Rattle.elab_rules.specs.Sizes.{typ_sized}
use Rattle.elab_rules.specs.Types.{Declared, has_auto, is_bounded, is_nothing, is_abstract_type, is_function_form, type_named}
use Rattle.elab_rules.specs.Expressions.{declared_by, type_of_specifiers}
use Rattle.elab_rules.specs.Statements.{State, Lambdas, is_own_name, name_of}
use Rattle.elab_rules.specs.Functions.{Header, Storage, first_from, header_sized, is_same_function, new_function, no_storage, text_sized}
use Rattle.elab_rules.specs.Classes.{Home, Members, Begun, begun, begun_by, begun_in, with_class, members_of, member_of, completed, closed_class, Method}
use Rattle.elab_rules.specs.Classes.{method_of}
use Rattle.elab_rules.specs.Classes.{body_in, class_text, Marks, Definition, Started, data_member, member_function, declared_method, declared_member}
use Rattle.elab_rules.specs.Classes.{member_declarator, member_declarators, declarator_among, definition_between, definition_sized, has_equal, has_function}
use Rattle.elab_rules.specs.Classes.{has_initialiser, has_member, header_in, last_token, marks_fit, marks_from, member_form, member_named, no_function_words}
use Rattle.elab_rules.specs.Classes.{no_marks, overridden, overrides_well, started_from, within_bounds, with_function, as_written, member_func}
use Rattle.elab_rules.specs.Members.{declared_only, class_closed, class_with, class_defined, all_defaults, all_late, base_named, has_final, members_among}
use Rattle.elab_fits.specs.Standing.{On}
use Rattle.elab_fits.proofs.Steps.{bind, skip, checked}
use Rattle.elab_sound_types.specs.Types.{is_class, is_sound, object, variable}
use Rattle.elab_sound_types.specs.Laws.{IsSoundDeclared}
use Rattle.elab_sound_types.specs.Contexts.{is_sound_function, is_sound_name, is_sound_member, member_use, is_spelled, are_spelled}
use Rattle.elab_sound_types.specs.States.{IsSoundState, IsSoundAfter, Grown, KeepsSound}
use Rattle.elab_sound_types.proofs.Sound.{sound_as, object_variable, denoted_object}
use Rattle.elab_sound_types.proofs.Growth.{grown_same, class_more}
use Rattle.elab_sound_types.proofs.Closures.{all_and_one, one_kept, closures_more, return_more}
use Rattle.elab_sound_types.proofs.Expressions.{first_spelled, rest_spelled, kids_spelled}
use Rattle.elab_sound_types.proofs.States.{nothing, later}
use Rattle.elab_sound_units.specs.Headers.{IsSoundHeader, IsOwnHeader, IsRead, IsSoundClass}
use Rattle.elab_sound_units.proofs.Below.{After, IsDenoted, specifiers_sound, declarator_sound}
use Rattle.elab_sound_units.proofs.Contexts.{functions_state, IsPlainForm}
use Rattle.elab_sound_units.proofs.Adding.{named_sound, last_class}
use Rattle.elab_sound_units.proofs.Headers.{header_sound, method_read}
use Rattle.elab_sound_units.proofs.Bodies.{each_sound, behind, defaults_after, all_late_after}
use Rattle.elab_sound_units.proofs.Completing.{closed_after}

-- What a name of a type stands for

abbrev pub DenotedIf : List Class → Option Typ → Type 0
DenotedIf classes (Some t) = IsDenoted classes t
DenotedIf classes None = Unit {0}

called_if : (classes : List Class) (b : Bool) (x y : Option Typ) → DenotedIf classes x → DenotedIf classes y → DenotedIf classes (if b then x else y)
called_if classes true x y h g = h
called_if classes false x y h g = g

pub called_sound : (classes : List Class) (name : List ℕ) (xs : List Named) → list_all (is_sound_name classes) xs ≡ true
    → DenotedIf classes (type_called name xs)
called_sound classes name [] h = tt
called_sound classes name (x ∷ xs) h = let p = and_parts (is_sound_name classes x) (list_all (is_sound_name classes) xs) h in
    called_if classes (bytes_eq name x.name) _ _ p.0 (called_sound classes name xs p.1)

-- Up to the name

pub record IsBegun (st : State) (b : Begun) : Type 0 where
  pub after : IsSoundAfter true st (record st { ctx = b.ctx })
  pub class : is_class b.ctx.classes b.number ≡ true

begun_typ : (st : State) (at : At) (defines : Bool) (t : Typ) → IsSoundState st → IsDenoted st.ctx.classes t → On (IsBegun st) (begun_by st.ctx at defines t)
begun_typ st at defines (typ (class n) false false) h g = skip (IsBegun st) (check at Redeclared (not defines || is_none (completion_of st.ctx.classes n))) _
    (λ y. record { after = nothing true st h; class = g })
begun_typ st at defines t h g = tt

named_after : (st : State) (name : List ℕ) → is_nothing name ≡ false → IsSoundState st → After st (record st { ctx = with_class st.ctx name })
named_after st name e h = record {
  sound = record {
    context = named_sound st.ctx st.work name e h.context;
    closures = closures_more st.ctx.classes (with_class st.ctx name).classes (one_kept st.ctx.classes _) st.ctx.closures h.closures;
    returned = return_more st.ctx.classes (with_class st.ctx name).classes (one_kept st.ctx.classes _) st.ctx.returns h.returned;
  };
  grown = record { kept = one_kept st.ctx.classes _; same = λ b. absurd cc };
}

begun_name : (st : State) (at : At) (name : List ℕ) (defines : Bool) (o : Option Typ) → is_nothing name ≡ false → IsSoundState st
    → DenotedIf st.ctx.classes o → On (IsBegun st) (begun_in st.ctx at name defines o)
begun_name st at name defines (Some t) e h g = begun_typ st at defines t h g
begun_name st at name defines None e h g = record { after = named_after st name e h; class = last_class st.ctx.classes _ e }

pub begun_after : (st : State) (at : At) (name : List ℕ) (defines : Bool) → is_nothing name ≡ false → IsSoundState st
    → On (IsBegun st) (begun st.ctx at name defines)
begun_after st at name defines e h = begun_name st at name defines (type_named name st.ctx.types) e h
    (called_sound st.ctx.classes name st.ctx.types h.context.types)

pub declared_after : (st : State) (at : At) (name : List ℕ) → is_nothing name ≡ false → IsSoundState st → On (After st) (declared_only st at name)
declared_after st at name e h = bind (IsBegun st) (After st) (begun st.ctx at name false) _ (begun_after st at name false e h) (λ b i. i.after)

-- Members

-- an object is one wherever a member may stand
object_member : (classes : List Class) (b : Bool) (t : Typ) → is_sound classes object t ≡ true → is_sound classes (member_use b) t ≡ true
object_member classes true t h = sound_as classes object variable t object_variable h
object_member classes false t h = h

plain_form : (at : At) (t : Typ) → On (λ (b : Bool). IsPlainForm t) (member_form at (form_in t))
plain_form at (typ void c v) = tt
plain_form at (typ (ref t) c v) = tt
plain_form at (typ (int k) c v) = record { no_reference = refl; no_void = refl }
plain_form at (typ (enum n s) c v) = record { no_reference = refl; no_void = refl }
plain_form at (typ null c v) = record { no_reference = refl; no_void = refl }
plain_form at (typ (ptr t) c v) = record { no_reference = refl; no_void = refl }
plain_form at (typ (array t n) c v) = record { no_reference = refl; no_void = refl }
plain_form at (typ (func s) c v) = record { no_reference = refl; no_void = refl }
plain_form at (typ (class n) c v) = record { no_reference = refl; no_void = refl }
plain_form at (typ (closure n) c v) = record { no_reference = refl; no_void = refl }
plain_form at (typ (tx_ex t) c v) = record { no_reference = refl; no_void = refl }

module _ (classes : List Class) where
  -- with one function more
  function_more : (r : Members) (f : Func) → is_sound_function classes f ≡ true → IsSoundClass classes r → IsSoundClass classes (with_function r f)
  function_more r f g h = record {
    state = (functions_state r.state (r.state.ctx.funcs ++ f ∷ []) h.state (all_and_one (is_sound_function r.state.ctx.classes) r.state.ctx.funcs f
        h.state.context.functions (subst (λ (cs : List Class). is_sound_function cs f ≡ true) (sym h.same) g))).sound;
    same = h.same;
    members = h.members;
  }

  defined_sound : (d : Option Definition) (f : Func) → is_sound_function classes f ≡ true → is_sound_function classes (as_written d f) ≡ true
  defined_sound (Some d) f h = h
  defined_sound None f h = h

  data_sound : (n : ℕ) (r : Members) (at : At) (name : List ℕ) (t : Typ) (b : Bool) → is_function_form (form_in t) ≡ false → IsDenoted classes t
      → IsSoundClass classes r → On (IsSoundClass classes) (data_member n r at name t b)
  data_sound n r at name t b f g h = bind (λ (x : Bool). IsPlainForm t) (IsSoundClass classes) (member_form at (form_in t)) _ (plain_form at t)
      (λ a q. skip (IsSoundClass classes) (check at OutOfProfile (not (has_auto t))) _
      (λ b2. checked (IsSoundClass classes) at BadDeclaration (is_bounded t) _
      (λ d. skip (IsSoundClass classes) (check at Incomplete (is_complete r.state.ctx (held t))) _
      (λ e2. skip (IsSoundClass classes) (check at AbstractObject (not (is_abstract_type r.state.ctx (element_of t)))) _
      (λ f2. skip (IsSoundClass classes) (typ_sized r.state.ctx.classes at t) _
      (λ h2. skip (IsSoundClass classes) (check at Redeclared (not (has_member name r.members) && not (has_function n name r.state.ctx.funcs))) _
      (λ g2. record {
        state = h.state;
        same = h.same;
        members = all_and_one (is_sound_member classes) r.members (record { name = name; typ = t }) h.members
            (object_member classes (is_nothing name) t (denoted_object classes t q.no_reference q.no_void f d g));
      })))))))

  function_sound : (home : Home) (r : Members) (h : Header) (m : Marks) (d : Option Definition) → IsSoundHeader classes h → IsSoundClass classes r
      → On (IsSoundClass classes) (member_function home r h m d)
  function_sound home r h m d g e = skip (IsSoundClass classes) (check h.at Redeclared
      (is_none (first_from (is_same_function h) 0 r.state.ctx.funcs) && not (has_member h.name r.members))) _
      (λ y. skip (IsSoundClass classes) (overrides_well h (overridden r.state.ctx home.base (new_function h).declared)) _
      (λ z. skip (IsSoundClass classes) (marks_fit h m (is_some (overridden r.state.ctx home.base (new_function h).declared))
      (h.storage.is_virtual || is_some (overridden r.state.ctx home.base (new_function h).declared))) _
      (λ x. skip (IsSoundClass classes) (header_sized r.state.ctx h) _ (λ u. skip (IsSoundClass classes) (definition_sized h.at d) _
      (λ v. function_more r (as_written d (member_func h m (overridden r.state.ctx home.base (new_function h).declared)))
      (defined_sound d (member_func h m (overridden r.state.ctx home.base (new_function h).declared)) g.signature) e)))))

  -- what a declarator in the class says is said of these classes
  of_class : (s : List Lexeme) (n : ℕ) (r : Members) (m : Method) → IsSoundClass classes r → IsRead s r.state.ctx.classes n m → IsRead s classes n m
  of_class s n r m h i = subst (λ (cs : List Class). IsRead s cs n m) h.same i

  method_sound : (s : List Lexeme) (home : Home) (r : Members) (kind : FuncKind) (at : At) (d : Option Definition) (kids : syntax.Trees)
      → IsSoundClass classes r → are_spelled s kids ≡ true → On (IsSoundClass classes) (declared_method s home r kind at d kids)
  method_sound s home r kind at d kids h i = skip (IsSoundClass classes) (within_bounds (declarator_among s home.number r kids)) _
      (λ w. bind (IsRead s r.state.ctx.classes home.number) (IsSoundClass classes) (method_of s r.state home.number home.name at kind kids) _
      (method_read s r.state home.number home.name at kind kids h.state i)
      (λ m j. function_sound home r m.header (marks_from s no_marks m.rest) d (of_class s home.number r m h j).header.sound h))

  data_declared : (home : Home) (r : Members) (at : At) (x : Storage) (m : Marks) (rest : syntax.Trees) (name : List ℕ) (d : Declared)
      → is_function_form (form_in d.typ) ≡ false → IsSoundDeclared classes d → IsSoundClass classes r
      → On (IsSoundClass classes) (and_then (check at BadDeclaration (no_function_words x m))
      (λ y. data_member home.number r at name d.typ (has_initialiser rest)))
  data_declared home r at x m rest name d f g h = skip (IsSoundClass classes) (check at BadDeclaration (no_function_words x m)) _
      (λ y. data_sound home.number r at name d.typ (has_initialiser rest) f g.typ h)

  declared_sound : (home : Home) (r : Members) (at : At) (x : Storage) (m : Marks) (rest : syntax.Trees) (name : List ℕ) (d : Declared) (f : Form)
      → form_in d.typ ≡ f → IsSoundDeclared classes d → IsSoundClass classes r → On (IsSoundClass classes) (declared_member home r at x m rest name d f)
  declared_sound home r at x m rest name d (func sig) q g h = skip (IsSoundClass classes) (check at BadDeclaration (not (has_equal rest))) _
      (λ y. bind (IsOwnHeader classes home.number) (IsSoundClass classes) (header_in home.number x Plain at name d (func sig)) _
      (header_sound classes home.number x Plain at name d (func sig) g q) (λ z i. function_sound home r z m None i.sound h))
  declared_sound home r at x m rest name d void q g h = data_declared home r at x m rest name d (ap is_function_form q) g h
  declared_sound home r at x m rest name d (int k) q g h = data_declared home r at x m rest name d (ap is_function_form q) g h
  declared_sound home r at x m rest name d (enum e s) q g h = data_declared home r at x m rest name d (ap is_function_form q) g h
  declared_sound home r at x m rest name d null q g h = data_declared home r at x m rest name d (ap is_function_form q) g h
  declared_sound home r at x m rest name d (ptr t) q g h = data_declared home r at x m rest name d (ap is_function_form q) g h
  declared_sound home r at x m rest name d (ref t) q g h = data_declared home r at x m rest name d (ap is_function_form q) g h
  declared_sound home r at x m rest name d (array t n) q g h = data_declared home r at x m rest name d (ap is_function_form q) g h
  declared_sound home r at x m rest name d (class n) q g h = data_declared home r at x m rest name d (ap is_function_form q) g h
  declared_sound home r at x m rest name d (closure n) q g h = data_declared home r at x m rest name d (ap is_function_form q) g h
  declared_sound home r at x m rest name d (tx_ex t) q g h = data_declared home r at x m rest name d (ap is_function_form q) g h

  member_declared : (s : List Lexeme) (home : Home) (x : Storage) (t : Typ) (r : Members) (d : syntax.Tree) → IsDenoted classes t → IsSoundClass classes r
      → On (IsSoundClass classes) (member_declarator s home x t r d)
  member_declared s home x t r (syntax.node kind p token (syntax.more d rest)) g h =
      skip (IsSoundClass classes) (within_bounds (member_named s home.number r d)) _
      (λ w. bind (IsSoundDeclared r.state.ctx.classes) (IsSoundClass classes) (declared_by s r.state.ctx r.state.work (at_of p) t d) _
      (declarator_sound s r.state.ctx r.state.work (at_of p) t d h.state.context (subst (λ (cs : List Class). IsDenoted cs t) (sym h.same) g))
      (λ y i. skip (IsSoundClass classes) (check (at_of p) BadDeclaration (is_own_name y)) _
      (λ z. declared_sound home r (at_of p) x (marks_from s no_marks rest) rest (name_of s y.name) y (form_in y.typ) refl
      (subst (λ (cs : List Class). IsSoundDeclared cs y) h.same i) h)))
  member_declared s home x t r (syntax.node kind p token syntax.none) g h = tt

  members_declared : (s : List Lexeme) (home : Home) (r : Members) (at : At) (x : Started) (ds : syntax.Trees) → IsSoundClass classes r
      → On (IsSoundClass classes) (member_declarators s home r at x ds)
  members_declared s home r at x (syntax.more base ds) h =
      bind (IsDenoted r.state.ctx.classes) (IsSoundClass classes) (type_of_specifiers s r.state.ctx r.state.work base) _
      (specifiers_sound s r.state.ctx r.state.work base h.state.context)
      (λ t i. each_member t (subst (λ (cs : List Class). IsDenoted cs t) h.same i) r ds h)
    where
      each_member : (t : Typ) → IsDenoted classes t → (y : Members) (es : syntax.Trees) → IsSoundClass classes y
          → On (IsSoundClass classes) (each_of (member_declarator s home x.storage t) y es)
      each_member t i y syntax.none j = j
      each_member t i y (syntax.more e es) j = bind (IsSoundClass classes) (IsSoundClass classes) (member_declarator s home x.storage t y e) _
          (member_declared s home x.storage t y e i j) (λ z m. each_member t i z es m)
  members_declared s home r at x syntax.none h = tt

  member_sound : (s : List Lexeme) (home : Home) (r : Members) (t : syntax.Tree) → IsSoundClass classes r → is_spelled s t ≡ true
      → On (IsSoundClass classes) (member_of s home r t)
  member_sound s home r (syntax.node k.AccessLabel p token kids) h i = h
  member_sound s home r (syntax.node k.MemberDeclaration p token kids) h i =
      members_declared s home r (at_of p) (started_from s no_storage kids) (started_from s no_storage kids).rest h
  member_sound s home r (syntax.node k.FunctionDefinition p (Some t) kids) h i =
      method_sound s home r Plain (at_of p) (Some (definition_between s t (last_token (body_in kids)))) kids h
      (kids_spelled s k.FunctionDefinition p (Some t) kids i)
  member_sound s home r (syntax.node k.ConstructorDeclaration p token kids) h i =
      method_sound s home r Constructor (at_of p) None kids h (kids_spelled s k.ConstructorDeclaration p token kids i)
  member_sound s home r (syntax.node k.ConstructorDefinition p (Some t) kids) h i =
      method_sound s home r Constructor (at_of p) (Some (definition_between s t (last_token (body_in kids)))) kids h
      (kids_spelled s k.ConstructorDefinition p (Some t) kids i)
  member_sound s home r (syntax.node k.DestructorDeclaration p token kids) h i =
      method_sound s home r Destructor (at_of p) None kids h (kids_spelled s k.DestructorDeclaration p token kids i)
  member_sound s home r (syntax.node k.DestructorDefinition p (Some t) kids) h i =
      method_sound s home r Destructor (at_of p) (Some (definition_between s t (last_token (body_in kids)))) kids h
      (kids_spelled s k.DestructorDefinition p (Some t) kids i)
  member_sound s home r t h i = tt

  pub members_sound : (s : List Lexeme) (home : Home) (r : Members) (ts : syntax.Trees) → IsSoundClass classes r → are_spelled s ts ≡ true
      → On (IsSoundClass classes) (members_of s home r ts)
  members_sound s home r ts h i = each_sound (IsSoundClass classes) s (member_of s home) r ts h i (λ x t j m. member_sound s home x t j m)

-- The brace, and what stands behind it

pub members_spelled : (s : List Lexeme) (ts : syntax.Trees) → are_spelled s ts ≡ true → are_spelled s (members_among ts) ≡ true
members_spelled s syntax.none h = refl
members_spelled s (syntax.more (syntax.node k.MemberSpecification p token members) ts) h =
    kids_spelled s k.MemberSpecification p token members (first_spelled s (syntax.node k.MemberSpecification p token members) ts h)
members_spelled s (syntax.more t ts) h = members_spelled s ts (rest_spelled s t ts h)

pub same_state : (st : State) (r : Members) → IsSoundClass st.ctx.classes r → After st r.state
same_state st r h = record { sound = h.state; grown = subst (λ (cs : List Class). Grown true st.ctx.classes cs) (sym h.same) (grown_same true st.ctx.classes) }

module _ (lams : Lambdas) (s : List Lexeme) (keeps : KeepsSound true s lams) where
  behind_brace : (home : Home) (y : State) (members : syntax.Trees) → IsSoundState y → is_class y.ctx.classes home.number ≡ true
      → are_spelled s members ≡ true
      → On (After y) (and_then (all_defaults lams s home.number y members) (λ (st : State). all_late lams s home.number home.name st members))
  behind_brace home y members h c i = bind (After y) (After y) (all_defaults lams s home.number y members) _
      (defaults_after lams s keeps home.number y members h c i)
      (λ x j. behind y x (all_late lams s home.number home.name x members) j
      (all_late_after lams s keeps home.number home.name x members j.sound (class_more y.ctx.classes x.ctx.classes j.grown.kept home.number c) i))

  pub class_closed_after : (st : State) (home : Home) (at : At) (r : Members) (members : syntax.Trees) → is_class st.ctx.classes home.number ≡ true
      → is_nothing home.name ≡ false → IsSoundClass st.ctx.classes r → are_spelled s members ≡ true
      → On (After st) (class_closed lams s home at r members)
  class_closed_after st home at r members c e h i =
      let d : is_class r.state.ctx.classes home.number ≡ true = subst (λ (cs : List Class). is_class cs home.number ≡ true) (sym h.same) c in
      bind (λ (x : Ctx). After r.state (record r.state { ctx = x })) (After st)
      (closed_class at home.number (completed r.state.ctx home at r.members r.initialised)) _
      (closed_after r.state home at r.members r.initialised h.state d e
      (subst (λ (cs : List Class). list_all (is_sound_member cs) r.members ≡ true) (sym h.same) h.members))
      (λ x j. let y : State = record r.state { ctx = x } in
      behind st y (and_then (all_defaults lams s home.number y members) (λ (z : State). all_late lams s home.number home.name z members))
      (later true st r.state y (same_state st r h) j)
      (behind_brace home y members j.sound (class_more r.state.ctx.classes x.classes j.grown.kept home.number d) i))

  pub class_with_after : (st : State) (at : At) (home : Home) (members : syntax.Trees) → IsSoundState st → is_class st.ctx.classes home.number ≡ true
      → is_nothing home.name ≡ false → are_spelled s members ≡ true → On (After st) (class_with lams s st at home members)
  class_with_after st at home members h c e i =
      bind (IsSoundClass st.ctx.classes) (After st) (members_of s home (record { state = st; members = []; initialised = [] }) members) _
      (members_sound st.ctx.classes s home (record { state = st; members = []; initialised = [] }) members
      (record { state = h; same = refl; members = refl }) i)
      (λ r j. class_closed_after st home at r members c e j i)

  pub class_after : (st : State) (at : At) (name : List ℕ) (kids : syntax.Trees) → IsSoundState st → is_nothing name ≡ false → are_spelled s kids ≡ true
      → On (After st) (class_defined lams s st at name kids)
  class_after st at name kids h e i = skip (After st) (text_sized at (class_text s kids)) _
      (λ z. bind (IsBegun st) (After st) (begun st.ctx at name true) _ (begun_after st at name true e h)
      (λ b j. skip (After st) (base_named s b.ctx kids) _
      (λ base. let y : State = record st { ctx = b.ctx } in
      let home : Home = record { number = b.number; name = name; base = base; is_final = has_final kids } in
      behind st y (class_with lams s y at home (members_among kids)) j.after
      (class_with_after y at home (members_among kids) j.after.sound j.class e (members_spelled s kids i)))))
