-- Names of types, enums and classes that are only declared leave the functions as they are.
use Rattle.std.proofs.Common.{ℕ, Bool, true, false, List, Option, Some, None}
use Rattle.std.specs.Prelude.{ℤ, pos, if◌then◌else◌, not, is_none}
use Rattle.elab_rules.specs.cpp_types.Typ.{Typ, typ, class, enum}
use Rattle.elab_rules.specs.cpp_types.declared.classes.At.{At}
use Rattle.elab_rules.specs.cpp_lex.Tokens.{Lexeme}
use Rattle.elab_rules.specs.cpp_ast.declared.kinds.NodeKind.TheVariants as k
use Rattle.elab_rules.specs.cpp_ast.Trees as syntax
use Rattle.elab_rules.specs.cpp_names.Names.{innermost_of}
use Rattle.elab_rules.specs.cpp_tree.Notation.{plain}
use Rattle.elab_rules.specs.cpp_tree.declared.faults.IllRule.TheVariants.{Narrowing, OutOfProfile, Redeclared}
use Rattle.elab_rules.specs.tx_ints.Integers.{is_in_range}
use Rattle.elab_rules.specs.tx_ints.Words.{word_of}
use Rattle.elab_rules.specs.tx_ints.declared.kinds.IntKind.TheVariants.{Int}
use Rattle.elab_rules.specs.elab_ctx.Steps.{and_then, check, at_of, spelling}
use Rattle.elab_rules.specs.Types.{has_auto, type_named}
use Rattle.elab_rules.specs.Sizes.{typ_sized}
use Rattle.elab_rules.specs.Expressions.{chosen_operand, expression_of, scope_name, type_id_of}
use Rattle.elab_rules.specs.Statements.{State}
use Rattle.elab_rules.specs.Classes.{Begun, begun, begun_in, begun_by}
use Rattle.elab_rules.specs.Globals.{Enumerating, type_agrees, with_type, named_enumerator, enumerator_made, enumerator_value, enumerator_declared}
use Rattle.elab_rules.specs.Globals.{enumerators_declared, enum_with}
use Rattle.elab_fits.specs.Standing.{On}
use Rattle.elab_fits.proofs.Steps.{bind, skip}
use Rattle.elab_contexts.specs.Overriders.{HasOverridersBy, Overrides, AliasesOverride, EnumsOverride, NamesOverride}

pub aliases_override : AliasesOverride
aliases_override s st at name syntax.none = tt
aliases_override s st at name (syntax.more t ts) = skip (Overrides st) (type_id_of s st.ctx st.work t) _
    (λ u. skip (Overrides st) (check at OutOfProfile (not (has_auto u))) _
    (λ x. skip (Overrides st) (typ_sized st.ctx.classes at u) _ (λ z. skip (Overrides st) (type_agrees at u (type_named name st.ctx.types)) _ (λ y w h. h))))

-- Classes

abbrev Begins : State → Begun → Type 0
Begins st b = (w : List ℕ → Bool) → HasOverridersBy w st.ctx.funcs → HasOverridersBy w b.ctx.funcs

begins_typ : (st : State) (at : At) (t : Typ) → On (Begins st) (begun_by st.ctx at false t)
begins_typ st at (typ (class n) false false) = λ w h. h
begins_typ st at t = tt

begins : (st : State) (at : At) (name : List ℕ) (o : Option Typ) → On (Begins st) (begun_in st.ctx at name false o)
begins st at name (Some t) = begins_typ st at t
begins st at name None = λ w h. h

pub names_override : NamesOverride
names_override st at name = bind (Begins st) (Overrides st) (begun st.ctx at name false) _ (begins st at name (type_named name st.ctx.types)) (λ b h. h)

-- Enums

abbrev Keeps : State → Enumerating → Type 0
Keeps st x = (w : List ℕ → Bool) → HasOverridersBy w st.ctx.funcs → HasOverridersBy w x.state.ctx.funcs

name_keeps : (a : State) (b : Bool) (st : State) (x name : List ℕ) (w : ℕ) → Overrides a st → Overrides a (named_enumerator b st x name w)
name_keeps a true st x name w h = h
name_keeps a false st x name w h = h

made_keeps : (a : State) (scoped : Bool) (e : List ℕ) (st : State) (at p : At) (name : List ℕ) (v : ℤ) → Overrides a st
    → On (Keeps a) (enumerator_made scoped e st at p name v)
made_keeps a scoped e st at p name v h = skip (Keeps a) (check p Narrowing (is_in_range Int v)) _
    (λ y. skip (Keeps a) (check at Redeclared (is_none (innermost_of st.ctx.scopes (if scoped then scope_name e name else name)))) _
    (λ z. name_keeps a scoped st e name (word_of v) h))

one_keeps : (a : State) (s : List Lexeme) (scoped : Bool) (e : List ℕ) (x : Enumerating) (t : syntax.Tree) → Keeps a x
    → On (Keeps a) (enumerator_declared s scoped e x t)
one_keeps a s scoped e x (syntax.node kind p (Some t) syntax.none) h = made_keeps a scoped e x.state (at_of p) (at_of p) (spelling s t) x.next h
one_keeps a s scoped e x (syntax.node kind p (Some t) (syntax.more v ts)) h =
    skip (Keeps a) (and_then (expression_of s x.state.ctx x.state.work v) (chosen_operand x.state.ctx)) _
    (λ o. skip (Keeps a) (enumerator_value (at_of p) x.state.work o.operand) _ (λ n. made_keeps a scoped e x.state (at_of p) o.operand.at (spelling s t) n h))
one_keeps a s scoped e x (syntax.node kind p None kids) h = tt

all_keep : (a : State) (s : List Lexeme) (scoped : Bool) (e : List ℕ) (x : Enumerating) (ts : syntax.Trees) → Keeps a x
    → On (Keeps a) (enumerators_declared s scoped e x ts)
all_keep a s scoped e x syntax.none h = h
all_keep a s scoped e x (syntax.more t ts) h =
    bind (Keeps a) (Keeps a) (enumerator_declared s scoped e x t) _ (one_keeps a s scoped e x t h) (λ y g. all_keep a s scoped e y ts g)

with_override : (s : List Lexeme) (st : State) (at : At) (name : List ℕ) (scoped : Bool) (ts : syntax.Trees)
    → On (Overrides st) (enum_with s st at name scoped ts)
with_override s st at name scoped ts = skip (Overrides st) (check at Redeclared (is_none (type_named name st.ctx.types))) _
    (λ y. bind (Keeps st) (Overrides st) (enumerators_declared s scoped name
    (record { state = record st { ctx = with_type st.ctx name (plain (enum name scoped)) }; next = pos 0 }) ts) _
    (all_keep st s scoped name (record { state = record st { ctx = with_type st.ctx name (plain (enum name scoped)) }; next = pos 0 }) ts (λ w h. h))
    (λ x h. h))

pub enums_override : EnumsOverride
enums_override s st at name (syntax.more (syntax.node k.ClassKey p token kids) ts) = with_override s st at name true ts
enums_override s st at name ts = with_override s st at name false ts
