-- Variables at file scope and names of types keep the types of the context sound.
use Rattle.std.proofs.Common.{◌≡◌, refl, ℕ, zero, Bool, true, false, List, [], Option, Some, None, unwrap_or, codes, Result, Ok, Err}
use Rattle.std.specs.Prelude.{not, slice_get}
use Rattle.std.specs.Str.{bytes_eq}
use Rattle.elab_rules.specs.cpp_types.Typ.{Typ, typ, void, int, enum, null, ptr, ref, array, func, class, closure, tx_ex}
use Rattle.elab_rules.specs.cpp_types.Class.{Class, held}
use Rattle.elab_rules.specs.cpp_types.declared.classes.At.{At}
use Rattle.elab_rules.specs.cpp_lex.Tokens.{Lexeme}
use Rattle.elab_rules.specs.cpp_ast.declared.kinds.NodeKind.TheVariants as k
use Rattle.elab_rules.specs.cpp_ast.Trees as syntax
use Rattle.elab_rules.specs.cpp_names.Names.{innermost_of}
use Rattle.elab_rules.specs.cpp_names.declared.entity.Entity.{Entity}
use Rattle.elab_rules.specs.cpp_names.declared.entity.EntityKind.{EntityKind}
use Rattle.elab_rules.specs.cpp_names.declared.entity.EntityKind.TheVariants as entities
use Rattle.elab_rules.specs.cpp_tree.declared.faults.ElabFault.{ElabFault}
use Rattle.elab_rules.specs.cpp_tree.declared.faults.IllRule.TheVariants.{BadDeclaration, BadMain, Incomplete, NotConstant, OutOfProfile, Redeclared}
use Rattle.elab_rules.specs.cpp_tree.Typing.{form_in}
use Rattle.elab_rules.specs.cpp_tree.Units.{Cell}
use Rattle.elab_rules.specs.elab_ctx.Ctx.{Ctx, Work}
use Rattle.elab_rules.specs.elab_ctx.Steps.{and_then, check, spelling, expect, Made}
use Rattle.elab_rules.specs.Objects.{element_of}
use Rattle.elab_rules.specs.Initialising.{class_number}
use Rattle.elab_rules.specs.Operators.{is_complete, within_if_sized}
use Rattle.elab_rules.specs.Sizes.{typ_sized}
use Rattle.elab_rules.specs.Types.{has_auto, is_bounded, is_function_form, type_named}
use Rattle.elab_rules.specs.Strings.{string_bytes}
use Rattle.elab_rules.specs.Braces.{is_char_array, item_of, string_object, string_token, syntax_place}
use Rattle.elab_rules.specs.Expressions.{chosen_operand, expression_of, operands_of, type_id_of}
use Rattle.elab_rules.specs.Statements as statements
use Rattle.elab_rules.specs.Statements.{State, copy_initialised, default_object, directly_initialised}
use Rattle.elab_rules.specs.Functions.{Storage}
use Rattle.elab_rules.specs.Globals.{PlacedGlobal, added_global, global_again, global_named, global_agrees, global_declarable, global_defined}
use Rattle.elab_rules.specs.Globals.{global_declared_as, global_declared, global_from, global_object, from_expression, defined_global, new_global}
use Rattle.elab_rules.specs.Globals.{no_global_storage, not_void, is_definition, is_trivial_class, cells_of, alias_declared, type_agrees}
use Rattle.elab_rules.specs.Units.{alias_of}
use Rattle.elab_fits.specs.Standing.{On}
use Rattle.elab_fits.proofs.Steps.{bind, skip, checked}
use Rattle.elab_sound_types.specs.Types.{is_sound, object, target}
use Rattle.elab_sound_types.specs.Contexts.{HasSoundTypes, is_sound_global, is_spelled, are_spelled}
use Rattle.elab_sound_types.specs.States.{IsSoundState, IsSoundAfter}
use Rattle.elab_sound_types.proofs.Sound.{sound_as, object_target, denoted_object}
use Rattle.elab_sound_types.proofs.Growth.{sound_more}
use Rattle.elab_sound_types.proofs.Closures.{all_and_one}
use Rattle.elab_sound_types.proofs.Braces.{copy_kept, direct_kept, item_kept}
use Rattle.elab_sound_types.proofs.Expressions.{first_spelled, kids_spelled}
use Rattle.elab_sound_types.proofs.States.{all_but, nothing, later, since, one_spelled}
use Rattle.elab_sound_units.proofs.Below.{After, MadeBehind, TypedIn, AllTypedIn, IsDenoted, expression_sound, operands_sound, type_id_sound}
use Rattle.elab_sound_units.proofs.Contexts.{at_or, moved, with_globals, names_with, names_state, globals_state, IsPlainForm}
use Rattle.elab_sound_units.proofs.Bodies.{behind}

-- Variables

-- an array whose bound its initialiser gives
closed_denoted : (classes : List Class) (m : ℕ) (t : Typ) → IsDenoted classes t → IsDenoted classes (statements.closed_bound m t)
closed_denoted classes m (typ (array e zero) d v) h = h
closed_denoted classes m t h = h

pub bound_denoted : (classes : List Class) (s : List Lexeme) (t : Typ) (init : syntax.Trees) → IsDenoted classes t
    → IsDenoted classes (statements.bound_by_initialiser s t init)
bound_denoted classes s t
    (syntax.more (syntax.node k.EqualInitializer p token (syntax.more (syntax.node k.BracedInitList q brace items) syntax.none)) syntax.none) h =
    closed_denoted classes (statements.count items) t h
bound_denoted classes s t (syntax.more (syntax.node k.EqualInitializer p token (syntax.more e syntax.none)) syntax.none) h =
    closed_denoted classes (statements.string_length s (string_token e)) t h
bound_denoted classes s t kids h = h

closed_function : (m : ℕ) (t : Typ) → is_function_form (form_in t) ≡ false → is_function_form (form_in (statements.closed_bound m t)) ≡ false
closed_function m (typ (array e zero) d v) h = refl
closed_function m t h = h

pub bound_function : (s : List Lexeme) (t : Typ) (init : syntax.Trees) → is_function_form (form_in t) ≡ false
    → is_function_form (form_in (statements.bound_by_initialiser s t init)) ≡ false
bound_function s t
    (syntax.more (syntax.node k.EqualInitializer p token (syntax.more (syntax.node k.BracedInitList q brace items) syntax.none)) syntax.none) h =
    closed_function (statements.count items) t h
bound_function s t (syntax.more (syntax.node k.EqualInitializer p token (syntax.more e syntax.none)) syntax.none) h =
    closed_function (statements.string_length s (string_token e)) t h
bound_function s t kids h = h

plain_form : (at : At) (t : Typ) → On (λ (b : Bool). IsPlainForm t) (not_void at (form_in t))
plain_form at (typ void c v) = tt
plain_form at (typ (ref t) c v) = tt
plain_form at (typ (int k) c v) = record { no_reference = refl; no_void = refl }
plain_form at (typ (enum n s) c v) = record { no_reference = refl; no_void = refl }
plain_form at (typ null c v) = record { no_reference = refl; no_void = refl }
plain_form at (typ (ptr t) c v) = record { no_reference = refl; no_void = refl }
plain_form at (typ (array t n) c v) = record { no_reference = refl; no_void = refl }
plain_form at (typ (func s) c v) = record { no_reference = refl; no_void = refl }
plain_form at (typ (class n) c v) = record { no_reference = refl; no_void = refl }
plain_form at (typ (closure n) c v) = record { no_reference = refl; no_void = refl }
plain_form at (typ (tx_ex t) c v) = record { no_reference = refl; no_void = refl }

abbrev IsObject : List Class → Typ → Type 0
IsObject classes t = is_sound classes object t ≡ true

declarable_object : (st : State) (at : At) (name : List ℕ) (t : Typ) → is_function_form (form_in t) ≡ false → IsDenoted st.ctx.classes t
    → On (λ (b : Bool). IsObject st.ctx.classes t) (global_declarable st at name t)
declarable_object st at name t f h =
    skip (λ (b : Bool). IsObject st.ctx.classes t) (check at BadMain (not (bytes_eq name (codes "main")))) _
    (λ a. skip (λ (b : Bool). IsObject st.ctx.classes t) (check at OutOfProfile (not (has_auto t))) _
    (λ b. bind (λ (x : Bool). IsPlainForm t) (λ (x : Bool). IsObject st.ctx.classes t) (not_void at (form_in t)) _ (plain_form at t)
    (λ d q. checked (λ (x : Bool). IsObject st.ctx.classes t) at BadDeclaration (is_bounded t) _
    (λ e. skip (λ (x : Bool). IsObject st.ctx.classes t) (typ_sized st.ctx.classes at t) _
    (λ g. sized_object (within_if_sized st.ctx at t) (denoted_object st.ctx.classes t q.no_reference q.no_void f e h))))))
  where
    sized_object : (r : Result Bool ElabFault) → IsObject st.ctx.classes t
        → On (λ (b : Bool). IsObject st.ctx.classes t) r
    sized_object (Ok b) i = i
    sized_object (Err e) i = tt

abbrev PlacedAfter : State → PlacedGlobal → Type 0
PlacedAfter st p = IsSoundAfter true st p.state

added_after : (st : State) (name : List ℕ) (x : Storage) (t : Typ) → IsObject st.ctx.classes t → IsSoundState st → After st (added_global st name x t).state
added_after st name x t g h =
    let a = names_state st (added_global st name x t).state.ctx.scopes st.ctx.types h h.context.types in
    let y : State = record st { ctx = (added_global st name x t).state.ctx } in
    later true st y (added_global st name x t).state a (globals_state y (added_global st name x t).state.work a.sound
    (with_globals y.ctx y.work (added_global st name x t).state.work a.sound.context
    (all_and_one (is_sound_global st.ctx.classes) st.work.globals (new_global name x t) h.context.globals
    (sound_as st.ctx.classes object target t object_target g))))

again_after : (st : State) (at : At) (x : Storage) (t : Typ) (defines : Bool) (kind : EntityKind) (g : ℕ) → IsSoundState st
    → On (PlacedAfter st) (global_again st at x t defines kind g)
again_after st at x t defines entities.Global g h =
    skip (PlacedAfter st) (expect at Redeclared (slice_get st.work.globals g)) _
    (λ old. skip (PlacedAfter st) (global_agrees at x t defines old) _ (λ y. nothing true st h))
again_after st at x t defines kind g h = tt

named_after : (st : State) (at : At) (name : List ℕ) (x : Storage) (t : Typ) (defines : Bool) (o : Option Entity) → IsObject st.ctx.classes t
    → IsSoundState st → On (PlacedAfter st) (global_named st at name x t defines o)
named_after st at name x t defines (Some z) g h = again_after st at x t defines z.kind z.id h
named_after st at name x t defines None g h = added_after st name x t g h

-- what is made beside an initialiser
abbrev MadeIn : Ctx → Made → Type 0
MadeIn c m = HasSoundTypes c m.work

copied_made : (s : List Lexeme) (st : State) (t : Typ) (e : syntax.Tree) → IsSoundState st → is_spelled s e ≡ true
    → On (MadeIn st.ctx) (from_expression s st t e false None)
copied_made s st t e h i = bind (TypedIn st.ctx) (MadeIn st.ctx) (and_then (expression_of s st.ctx st.work e) (chosen_operand st.ctx)) _
    (expression_sound s st e h i)
    (λ o j. since (MadeBehind o.work) (MadeIn st.ctx) (copy_initialised st.ctx o.work t o.operand) (copy_kept st.ctx o.work t o.operand)
    (λ m b. moved st.ctx o.work m.work j b))

expression_made : (s : List Lexeme) (st : State) (t : Typ) (e : syntax.Tree) (b : Bool) (n : Option ℕ) → IsSoundState st → is_spelled s e ≡ true
    → On (MadeIn st.ctx) (from_expression s st t e b n)
expression_made s st t e true (Some n) h i = skip (MadeIn st.ctx) (string_object st.ctx t (syntax_place e) (string_bytes (spelling s n))) _ (λ x. h.context)
expression_made s st t e true None h i = copied_made s st t e h i
expression_made s st t e false n h i = copied_made s st t e h i

global_made : (s : List Lexeme) (st : State) (t : Typ) (at : At) (g : ℕ) (init : syntax.Trees) → IsSoundState st → are_spelled s init ≡ true
    → On (MadeIn st.ctx) (global_from s st t at g init)
global_made s st t at g syntax.none h i = skip (MadeIn st.ctx) (default_object st.ctx t at) _ (λ e. h.context)
global_made s st t at g (syntax.more (syntax.node k.ParenthesizedInitializer p token es) syntax.none) h i =
    bind (AllTypedIn st.ctx) (MadeIn st.ctx) (operands_of s st.ctx st.work es) _ (operands_sound s st es h
    (kids_spelled s k.ParenthesizedInitializer p token es (first_spelled s (syntax.node k.ParenthesizedInitializer p token es) syntax.none i)))
    (λ xs j. since (MadeBehind xs.work) (MadeIn st.ctx) (directly_initialised st.ctx xs.work t at xs.operands)
    (direct_kept st.ctx xs.work t at xs.operands) (λ m b. moved st.ctx xs.work m.work j b))
global_made s st t at g (syntax.more (syntax.node k.EqualInitializer p token
    (syntax.more (syntax.node k.BracedInitList q brace items) syntax.none)) syntax.none) h i =
    since (MadeBehind st.work) (MadeIn st.ctx) (item_of s st.ctx st.work (global_object g t at) t (syntax.node k.BracedInitList q brace items))
    (item_kept s st.ctx st.work (global_object g t at) t (syntax.node k.BracedInitList q brace items))
    (λ m b. moved st.ctx st.work m.work h.context b)
global_made s st t at g (syntax.more (syntax.node k.EqualInitializer p token (syntax.more e syntax.none)) syntax.none) h i =
    expression_made s st t e (is_char_array t) (string_token e) h (one_spelled s k.EqualInitializer p token e i)
global_made s st t at g kids h i = tt

-- a global that is defined keeps its type
defined_made : (st : State) (g : ℕ) (t : Typ) (w : Work) (cells : List Cell) → IsObject st.ctx.classes t → IsSoundState st → HasSoundTypes st.ctx w
    → After st (defined_global st g t w cells)
defined_made st g t w cells o h i = globals_state st (defined_global st g t w cells).work h
    (with_globals st.ctx w (defined_global st g t w cells).work i
    (all_but (is_sound_global st.ctx.classes) w.globals g
    (record (unwrap_or (slice_get w.globals g) (new_global [] no_global_storage t)) { init = cells; defined = true })
    (at_or (is_sound_global st.ctx.classes) w.globals g (new_global [] no_global_storage t) i.globals
    (sound_as st.ctx.classes object target t object_target o)) i.globals))

defined_after : (s : List Lexeme) (at : At) (t : Typ) (init : syntax.Trees) (p : PlacedGlobal) → IsObject p.state.ctx.classes t → IsSoundState p.state
    → are_spelled s init ≡ true → On (After p.state) (global_defined s at t init p)
defined_after s at t init p o h i = skip (After p.state) (check at Incomplete (is_complete p.state.ctx (held t))) _
    (λ x. skip (After p.state) (check at NotConstant (is_trivial_class p.state.ctx (class_number (element_of t)))) _
    (λ y. bind (MadeIn p.state.ctx) (After p.state) (global_from s p.state t at p.place init) _ (global_made s p.state t at p.place init h i)
    (λ m g. skip (After p.state) (cells_of p.state.ctx m.work m.tree) _ (λ cells. defined_made p.state p.place t m.work cells o h g))))

as_after : (s : List Lexeme) (b : Bool) (at : At) (t : Typ) (init : syntax.Trees) (p : PlacedGlobal) → IsObject p.state.ctx.classes t → IsSoundState p.state
    → are_spelled s init ≡ true → On (After p.state) (global_declared_as s b at t init p)
as_after s true at t init p o h i = defined_after s at t init p o h i
as_after s false at t init p o h i = nothing true p.state h

pub global_after : (s : List Lexeme) (st : State) (x : Storage) (at : At) (name : List ℕ) (t : Typ) (init : syntax.Trees)
    → is_function_form (form_in t) ≡ false → IsDenoted st.ctx.classes t → IsSoundState st → are_spelled s init ≡ true
    → On (After st) (global_declared s st x at name t init)
global_after s st x at name t init f g h i =
    bind (λ (b : Bool). IsObject st.ctx.classes t) (After st) (global_declarable st at name t) _ (declarable_object st at name t f g)
    (λ y o. bind (PlacedAfter st) (After st) (global_named st at name x t (is_definition x init) (innermost_of st.ctx.scopes name)) _
    (named_after st at name x t (is_definition x init) (innermost_of st.ctx.scopes name) o h)
    (λ p j. behind st p.state (global_declared_as s (is_definition x init) at t init p) j
    (as_after s (is_definition x init) at t init p (sound_more st.ctx.classes p.state.ctx.classes j.grown.kept object t o) j.sound i)))

-- Names of types

alias_after : (st : State) (at : At) (name : List ℕ) (t : Typ) → IsDenoted st.ctx.classes t → IsSoundState st → On (After st) (alias_declared st at name t)
alias_after st at name t g h = skip (After st) (check at OutOfProfile (not (has_auto t))) _
    (λ x. skip (After st) (typ_sized st.ctx.classes at t) _ (λ z. skip (After st) (type_agrees at t (type_named name st.ctx.types)) _
    (λ y. names_state st st.ctx.scopes _ h (names_with st.ctx.classes st.ctx.types name t g h.context.types))))

pub aliases_after : (s : List Lexeme) (st : State) (at : At) (name : List ℕ) (ts : syntax.Trees) → IsSoundState st
    → On (After st) (alias_of s st at name ts)
aliases_after s st at name (syntax.more t ts) h =
    bind (IsDenoted st.ctx.classes) (After st) (type_id_of s st.ctx st.work t) _ (type_id_sound s st.ctx st.work t h.context)
    (λ u g. alias_after st at name u g h)
aliases_after s st at name syntax.none h = tt
