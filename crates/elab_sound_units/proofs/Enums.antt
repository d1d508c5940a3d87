-- Enums keep the types of the context sound.
use Rattle.std.proofs.Common.{◌≡◌, refl, ℕ, zero, suc, Bool, true, false, List, [], ◌∷◌, length, Some, None}
use Rattle.std.specs.Prelude.{ℤ, pos, if◌then◌else◌, is_none, map}
use Rattle.std.specs.List.{list_all}
use Rattle.std.proofs.lemmas.Bool.{and_parts}
use Rattle.elab_rules.specs.tx_ints.declared.kinds.IntKind.TheVariants.{Int}
use Rattle.elab_rules.specs.tx_ints.Integers.{is_in_range}
use Rattle.elab_rules.specs.tx_ints.Words.{word_of}
use Rattle.elab_rules.specs.cpp_types.Typ.{enum}
use Rattle.elab_rules.specs.cpp_types.declared.classes.At.{At}
use Rattle.elab_rules.specs.cpp_lex.Tokens.{Lexeme}
use Rattle.elab_rules.specs.cpp_ast.declared.kinds.NodeKind.TheVariants as k
use Rattle.elab_rules.specs.cpp_ast.Trees as syntax
use Rattle.elab_rules.specs.cpp_names.Names.{innermost_of}
use Rattle.elab_rules.specs.cpp_tree.declared.faults.IllRule.TheVariants.{Narrowing, Redeclared}
use Rattle.elab_rules.specs.cpp_tree.Notation.{plain}
use Rattle.elab_rules.specs.elab_ctx.Ctx.{Enumerator}
use Rattle.elab_rules.specs.elab_ctx.Steps.{and_then, check, at_of, spelling}
use Rattle.elab_rules.specs.Types.{type_named}
use Rattle.elab_rules.specs.Expressions.{chosen_operand, expression_of, scope_name}
use Rattle.elab_rules.specs.Statements.{State}
use Rattle.elab_rules.specs.Globals.{Enumerating, named_enumerator, with_enumerator, second_name, enumerator_made, enumerator_declared, enumerator_value}
use Rattle.elab_rules.specs.Globals.{enumerators_declared, typed_from, closed_enum, enum_with, enum_declared, with_type}
use Rattle.elab_fits.specs.Standing.{On}
use Rattle.elab_fits.proofs.Steps.{bind, skip}
use Rattle.elab_sound_types.specs.Contexts.{is_sound_enumerator}
use Rattle.elab_sound_types.specs.States.{IsSoundState, IsSoundAfter}
use Rattle.elab_sound_types.proofs.Sound.{both}
use Rattle.elab_sound_types.proofs.Closures.{all_and_one}
use Rattle.elab_sound_types.proofs.States.{later}
use Rattle.elab_sound_units.proofs.Below.{After}
use Rattle.elab_sound_units.proofs.Contexts.{names_with, names_state, enumerators_state}

abbrev EnumAfter : State → Enumerating → Type 0
EnumAfter a x = IsSoundAfter true a x.state

one_named : (st : State) (name : List ℕ) (w : ℕ) → IsSoundState st → After st (with_enumerator st name w)
one_named st name w h = enumerators_state st _ _ h (all_and_one is_sound_enumerator st.ctx.enumerators _ h.context.enumerators refl)

name_after : (b : Bool) (st : State) (e name : List ℕ) (w : ℕ) → IsSoundState st → After st (named_enumerator b st e name w)
name_after true st e name w h = one_named st (scope_name e name) w h
name_after false st e name w h =
    let y : State = with_enumerator st name w in
    let a = one_named st name w h in
    later true st y (second_name y (scope_name e name)) a (names_state y _ y.ctx.types a.sound a.sound.context.types)

made_after : (scoped : Bool) (e : List ℕ) (st : State) (at p : At) (name : List ℕ) (v : ℤ) → IsSoundState st
    → On (EnumAfter st) (enumerator_made scoped e st at p name v)
made_after scoped e st at p name v h = skip (EnumAfter st) (check p Narrowing (is_in_range Int v)) _
    (λ y. skip (EnumAfter st) (check at Redeclared (is_none (innermost_of st.ctx.scopes (if scoped then scope_name e name else name)))) _
    (λ z. name_after scoped st e name (word_of v) h))

one_after : (s : List Lexeme) (scoped : Bool) (e : List ℕ) (x : Enumerating) (t : syntax.Tree) → IsSoundState x.state
    → On (EnumAfter x.state) (enumerator_declared s scoped e x t)
one_after s scoped e x (syntax.node kind p (Some t) syntax.none) h = made_after scoped e x.state (at_of p) (at_of p) (spelling s t) x.next h
one_after s scoped e x (syntax.node kind p (Some t) (syntax.more v ts)) h =
    skip (EnumAfter x.state) (and_then (expression_of s x.state.ctx x.state.work v) (chosen_operand x.state.ctx)) _
    (λ o. skip (EnumAfter x.state) (enumerator_value (at_of p) x.state.work o.operand) _
    (λ n. made_after scoped e x.state (at_of p) o.operand.at (spelling s t) n h))
one_after s scoped e x (syntax.node kind p None kids) h = tt

all_after : (a : State) (s : List Lexeme) (scoped : Bool) (e : List ℕ) (x : Enumerating) (ts : syntax.Trees) → After a x.state
    → On (EnumAfter a) (enumerators_declared s scoped e x ts)
all_after a s scoped e x syntax.none h = h
all_after a s scoped e x (syntax.more t ts) h =
    bind (EnumAfter x.state) (EnumAfter a) (enumerator_declared s scoped e x t) _ (one_after s scoped e x t h.sound)
    (λ y i. all_after a s scoped e y ts (later true a x.state y.state h i))

-- behind the brace they have the type of the enum

retyped : (name : List ℕ) (scoped : Bool) (es : List Enumerator)
    → list_all is_sound_enumerator (map (λ (e : Enumerator). record e { typ = plain (enum name scoped) }) es) ≡ true
retyped name scoped [] = refl
retyped name scoped (e ∷ es) = retyped name scoped es

typed_sound : (n : ℕ) (name : List ℕ) (scoped : Bool) (es : List Enumerator) → list_all is_sound_enumerator es ≡ true
    → list_all is_sound_enumerator (typed_from n (plain (enum name scoped)) es) ≡ true
typed_sound zero name scoped es h = retyped name scoped es
typed_sound (suc n) name scoped [] h = refl
typed_sound (suc n) name scoped (e ∷ es) h = let p = and_parts (is_sound_enumerator e) (list_all is_sound_enumerator es) h in
    both p.0 (typed_sound n name scoped es p.1)

with_after : (s : List Lexeme) (st : State) (at : At) (name : List ℕ) (scoped : Bool) (ts : syntax.Trees) → IsSoundState st
    → On (After st) (enum_with s st at name scoped ts)
with_after s st at name scoped ts h =
    let y : State = record st { ctx = with_type st.ctx name (plain (enum name scoped)) } in
    let x : Enumerating = record { state = y; next = pos 0 } in
    let a = names_state st st.ctx.scopes _ h (names_with st.ctx.classes st.ctx.types name (plain (enum name scoped)) refl h.context.types) in
    skip (After st) (check at Redeclared (is_none (type_named name st.ctx.types))) _
    (λ b. bind (EnumAfter st) (After st) (enumerators_declared s scoped name x ts) _ (all_after st s scoped name x ts a)
    (λ z i. later true st z.state (closed_enum (length st.ctx.enumerators) (plain (enum name scoped)) z.state) i
    (enumerators_state z.state z.state.ctx.scopes _ i.sound
    (typed_sound (length st.ctx.enumerators) name scoped z.state.ctx.enumerators i.sound.context.enumerators))))

pub enum_after : (s : List Lexeme) (st : State) (at : At) (name : List ℕ) (ts : syntax.Trees) → IsSoundState st
    → On (After st) (enum_declared s st at name ts)
enum_after s st at name (syntax.more (syntax.node k.ClassKey p token kids) ts) h = with_after s st at name true ts h
enum_after s st at name ts h = with_after s st at name false ts h
