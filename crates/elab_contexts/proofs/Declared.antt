-- Declarations of variables, functions, names of types and enums.
use Rattle.std.proofs.Common.{◌≡◌, refl, ap, ℕ, Bool, true, false, List, [], ◌∷◌, ◌++◌, Option, Some, None}
use Rattle.std.specs.Prelude.{ℤ, pos, if◌then◌else◌, not, is_none, pos, slice_get}
use Rattle.elab_rules.specs.cpp_types.Typ.{Typ, Form, func, enum}
use Rattle.elab_rules.specs.cpp_types.declared.classes.At.{At}
use Rattle.elab_rules.specs.cpp_lex.Tokens.{Lexeme}
use Rattle.elab_rules.specs.cpp_ast.declared.kinds.NodeKind.TheVariants as k
use Rattle.elab_rules.specs.cpp_ast.Trees as syntax
use Rattle.elab_rules.specs.cpp_names.declared.entity.Entity.{Entity}
use Rattle.elab_rules.specs.cpp_names.declared.entity.EntityKind.{EntityKind}
use Rattle.elab_rules.specs.cpp_names.declared.entity.EntityKind.TheVariants as entities
use Rattle.elab_rules.specs.cpp_tree.Notation.{plain}
use Rattle.elab_rules.specs.elab_ctx.Steps.{and_then, check, at_of, spelling, expect}
use Rattle.elab_rules.specs.Types.{Declared, has_auto, type_named}
use Rattle.elab_rules.specs.Statements.{State, name_of, bound_by_initialiser, is_own_name}
use Rattle.elab_rules.specs.Functions.{Storage, with_specifier, function_declared}
use Rattle.elab_rules.specs.Globals.{PlacedGlobal, Enumerating, global_again, global_named, global_defined, global_declared_as, global_declared, alias_declared}
use Rattle.elab_rules.specs.Globals.{named_enumerator, enumerator_made, enumerator_declared, enumerators_declared, enum_with, enum_declared, with_type}
use Rattle.elab_rules.specs.Globals.{cells_of, enumerator_value, global_agrees, global_declarable, global_from, is_definition, is_trivial_class, type_agrees}
use Rattle.elab_rules.specs.Units.{header_of, declared_of_type, file_declarator, file_declarators, file_declaration, alias_of}
use Rattle.elab_rules.specs.cpp_tree.declared.faults.IllRule.TheVariants.{BadDeclaration, Incomplete, Narrowing, NotConstant, OutOfProfile, Redeclared}
use Rattle.elab_rules.specs.tx_ints.declared.kinds.IntKind.TheVariants.{Int}
use Rattle.elab_rules.specs.Expressions.{chosen_operand, declared_by, expression_of, scope_name, type_id_of, type_of_specifiers}
use Rattle.elab_rules.specs.Initialising.{class_number}
use Rattle.elab_rules.specs.Objects.{element_of}
use Rattle.elab_rules.specs.cpp_tree.Typing.{form_in}
use Rattle.elab_rules.specs.cpp_types.Class.{held}
use Rattle.elab_rules.specs.cpp_names.Names.{innermost_of}
use Rattle.elab_rules.specs.Operators.{is_complete}
use Rattle.elab_rules.specs.tx_ints.Integers.{is_in_range}
use Rattle.elab_rules.specs.Sizes.{typ_sized}
use Rattle.elab_rules.specs.tx_ints.Words.{word_of}
use Rattle.elab_rules.specs.cpp_tree.Units.{Cell, Global}
use Rattle.elab_rules.specs.elab_ctx.Ctx.{Work}
use Rattle.elab_rules.specs.Braces.{is_char_array, string_object, string_token, syntax_place}
use Rattle.elab_rules.specs.Expressions.{operands_of}
use Rattle.elab_rules.specs.Globals.{added_global, defined_global, global_object, from_expression}
use Rattle.elab_rules.specs.Statements.{copy_initialised, default_object, directly_initialised}
use Rattle.elab_rules.specs.Strings.{string_bytes}
use Rattle.elab_fits.specs.Standing.{On}
use Rattle.elab_fits.proofs.Steps.{bind, skip, checked}
use Rattle.elab_contexts.proofs.Works.{same, made_after}
use Rattle.elab_contexts.proofs.Walking.{Leaves, stays, behind, of_state}
use Rattle.elab_contexts.proofs.Works.{Grows, Mades, Types, TypesAll, operand_grows, operands_grow, copy_grows, directly_grows, item_grows}
use Rattle.elab_contexts.proofs.Members.{each_leaves}
use Rattle.elab_contexts.proofs.Defined.{further_leaves}
use Rattle.elab_contexts.proofs.Outside.{Placing, function_further}
use Rattle.std.proofs.Common.{subst, zero, suc, length}
use Rattle.std.specs.Prelude.{map}
use Rattle.std.proofs.Common.{eq-eqb}
use Rattle.std.proofs.lemmas.Option.{same_Some}
use Rattle.std.proofs.lemmas.Bool.{and_parts, and_from}
use Rattle.tx_ints.proofs.Values.{in_range}
use Rattle.tx_ints.proofs.WordLaws.{word_back}
use Rattle.elab_rules.specs.tx_ints.Words.{value_of_word}
use Rattle.elab_rules.specs.cpp_tree.Typing.{is_word_of}
use Rattle.elab_rules.specs.cpp_types.Typ.{int}
use Rattle.elab_rules.specs.elab_ctx.Ctx.{Enumerator}
use Rattle.elab_rules.specs.Globals.{typed_from}
use Rattle.elab_contexts.specs.Steps.{none_yet}
use Rattle.elab_contexts.specs.Holding.{HasEnumerators, HasTypeNames, is_enumerator, is_enumerator_type}
use Rattle.elab_contexts.specs.Steps.{is_written}
use Rattle.elab_contexts.proofs.Names.{named_listed, type_id_listed}
use Rattle.elab_contexts.proofs.Lists.{one_more, with_first}
use Rattle.elab_contexts.proofs.Going.{From}

-- Variables

-- of globals nothing is asked
globals_only : (st : State) (vs : List Global) → Leaves st (record st { work = record st.work { globals = vs } })
globals_only st vs = record { walk = none_yet; same = refl; overrides = λ w h. h }

abbrev PlacedAt : State → PlacedGlobal → Type 0
PlacedAt st p = Leaves st p.state

global_added : (st : State) (name : List ℕ) (x : Storage) (t : Typ) → Leaves st (added_global st name x t).state
global_added st name x t = record { walk = none_yet; same = refl; overrides = λ w h. h }

from_grows : (s : List Lexeme) (st : State) (t : Typ) (e : syntax.Tree) (b : Bool) (n : Option ℕ) → On (Mades st.work) (from_expression s st t e b n)
from_grows s st t e true (Some n) = skip (Mades st.work) (string_object st.ctx t (syntax_place e) (string_bytes (spelling s n))) _ (λ x. same st.work)
from_grows s st t e b n = bind (Types st.work) (Mades st.work) (and_then (expression_of s st.ctx st.work e) (chosen_operand st.ctx)) _
    (operand_grows s st.ctx st.work e)
    (λ o g. made_after st.work o.work (copy_initialised st.ctx o.work t o.operand) g (copy_grows st.ctx o.work t o.operand))

global_grows : (s : List Lexeme) (st : State) (t : Typ) (at : At) (g : ℕ) (init : syntax.Trees) → On (Mades st.work) (global_from s st t at g init)
global_grows s st t at g syntax.none = skip (Mades st.work) (default_object st.ctx t at) _ (λ e. same st.work)
global_grows s st t at g (syntax.more (syntax.node k.ParenthesizedInitializer p token es) syntax.none) =
    bind (TypesAll st.work) (Mades st.work) (operands_of s st.ctx st.work es) _ (operands_grow s st.ctx st.work es)
    (λ xs a. made_after st.work xs.work (directly_initialised st.ctx xs.work t at xs.operands) a (directly_grows st.ctx xs.work t at xs.operands))
global_grows s st t at g (syntax.more (syntax.node k.EqualInitializer p token
    (syntax.more (syntax.node k.BracedInitList q brace items) syntax.none)) syntax.none) =
    item_grows s st.ctx st.work (global_object g t at) t (syntax.node k.BracedInitList q brace items)
global_grows s st t at g (syntax.more (syntax.node k.EqualInitializer p token (syntax.more e syntax.none)) syntax.none) =
    from_grows s st t e (is_char_array t) (string_token e)
global_grows s st t at g kids = tt

global_made : (st : State) (g : ℕ) (t : Typ) (w : Work) (cells : List Cell) → Grows st.work w → Leaves st (defined_global st g t w cells)
global_made st g t w cells h = record { walk = none_yet; same = refl; overrides = λ w h. h }

again_kept : (st : State) (at : At) (x : Storage) (t : Typ) (defines : Bool) (kind : EntityKind) (g : ℕ)
    → On (PlacedAt st) (global_again st at x t defines kind g)
again_kept st at x t defines entities.Global g =
    skip (PlacedAt st) (expect at Redeclared (slice_get st.work.globals g)) _
    (λ old. skip (PlacedAt st) (global_agrees at x t defines old) _ (λ y. stays st))
again_kept st at x t defines kind g = tt

named_kept : (st : State) (at : At) (name : List ℕ) (x : Storage) (t : Typ) (defines : Bool) (o : Option Entity)
    → On (PlacedAt st) (global_named st at name x t defines o)
named_kept st at name x t defines (Some z) = again_kept st at x t defines z.kind z.id
named_kept st at name x t defines None = global_added st name x t

defined_kept : (s : List Lexeme) (at : At) (t : Typ) (init : syntax.Trees) (p : PlacedGlobal) → On (Leaves p.state) (global_defined s at t init p)
defined_kept s at t init p = skip (Leaves p.state) (check at Incomplete (is_complete p.state.ctx (held t))) _
    (λ x. skip (Leaves p.state) (check at NotConstant (is_trivial_class p.state.ctx (class_number (element_of t)))) _
    (λ y. bind (Mades p.state.work) (Leaves p.state) (global_from s p.state t at p.place init) _ (global_grows s p.state t at p.place init)
    (λ m g. skip (Leaves p.state) (cells_of p.state.ctx m.work m.tree) _ (λ cells. global_made p.state p.place t m.work cells g))))

as_kept : (s : List Lexeme) (b : Bool) (at : At) (t : Typ) (init : syntax.Trees) (p : PlacedGlobal) → On (Leaves p.state) (global_declared_as s b at t init p)
as_kept s true at t init p = defined_kept s at t init p
as_kept s false at t init p = stays p.state

global_kept : (s : List Lexeme) (st : State) (x : Storage) (at : At) (name : List ℕ) (t : Typ) (init : syntax.Trees)
    → On (Leaves st) (global_declared s st x at name t init)
global_kept s st x at name t init = skip (Leaves st) (global_declarable st at name t) _
    (λ y. bind (PlacedAt st) (Leaves st) (global_named st at name x t (is_definition x init) (innermost_of st.ctx.scopes name)) _
    (named_kept st at name x t (is_definition x init) (innermost_of st.ctx.scopes name))
    (λ p i. behind st p.state of_state (global_declared_as s (is_definition x init) at t init p) i (as_kept s (is_definition x init) at t init p)))

typed_kept : (s : List Lexeme) (st : State) (x : Storage) (at : At) (d : Declared) (init : syntax.Trees) (f : Form)
    → On (Leaves st) (declared_of_type s st x at d init f)
typed_kept s st x at d syntax.none (func sig) = bind (Placing st.ctx) (Leaves st) (function_declared st.ctx (header_of s at x d sig) false) _
    (function_further st.ctx (header_of s at x d sig) false (refl, refl)) (λ p i. further_leaves st p.ctx i)
typed_kept s st x at d (syntax.more i is) (func sig) = tt
typed_kept s st x at d init f = global_kept s st x at (name_of s d.name) (bound_by_initialiser s d.typ init) init

declarator_kept : (s : List Lexeme) (x : Storage) (t : Typ) (st : State) (d : syntax.Tree) → On (Leaves st) (file_declarator s x t st d)
declarator_kept s x t st (syntax.node k.InitDeclarator p token (syntax.more d init)) =
    skip (Leaves st) (declared_by s st.ctx st.work (at_of p) t d) _
    (λ r. skip (Leaves st) (check (at_of p) BadDeclaration (is_own_name r)) _ (λ z. typed_kept s st x (at_of p) r init (form_in r.typ)))
declarator_kept s x t st d = tt

declarators_kept : (s : List Lexeme) (x : Storage) (t : Typ) (st : State) (ts : syntax.Trees) → On (Leaves st) (file_declarators s x t st ts)
declarators_kept s x t st ts = each_leaves (file_declarator s x t) (declarator_kept s x t) st ts

pub declaration_kept : (s : List Lexeme) (st : State) (x : Storage) (at : At) (ts : syntax.Trees) → On (Leaves st) (file_declaration s st x at ts)
declaration_kept s st x at (syntax.more (syntax.node k.Attribute p token kids) ts) = declaration_kept s st x at ts
declaration_kept s st x at (syntax.more (syntax.node k.DeclSpecifier p (Some t) kids) ts) =
    declaration_kept s st (with_specifier x (spelling s t)) at ts
declaration_kept s st x at (syntax.more (syntax.node k.TypeSpecifierSeq p token kids) ts) =
    skip (Leaves st) (type_of_specifiers s st.ctx st.work (syntax.node k.TypeSpecifierSeq p token kids)) _ (λ t. declarators_kept s x t st ts)
declaration_kept s st x at ts = tt

-- Names of types

alias_from : (st : State) (at : At) (name : List ℕ) (t : Typ) → is_written st.ctx.classes t ≡ true → On (From st) (alias_declared st at name t)
alias_from st at name t l = skip (From st) (check at OutOfProfile (not (has_auto t))) _
    (λ x. skip (From st) (typ_sized st.ctx.classes at t) _
    (λ z. skip (From st) (type_agrees at t (type_named name st.ctx.types)) _
    (λ y. record { walk = none_yet; enumerators = λ h. h; types = λ h. named_listed st.ctx.classes st.ctx.types name t h l })))

pub aliases_from : (s : List Lexeme) (st : State) (at : At) (name : List ℕ) (ts : syntax.Trees) → HasTypeNames st.ctx.classes st.ctx.types
    → On (From st) (alias_of s st at name ts)
aliases_from s st at name (syntax.more t ts) n = bind (λ u. is_written st.ctx.classes u ≡ true) (From st) (type_id_of s st.ctx st.work t) _
    (type_id_listed s st.ctx st.ctx.closures st.work t n) (λ u l. alias_from st at name u l)
aliases_from s st at name syntax.none n = tt

-- Enums

abbrev Enumerates : State → Enumerating → Type 0
Enumerates st x = From st x.state

int_word : (v : ℤ) → is_in_range Int v ≡ true → is_enumerator (record { typ = plain (int Int); word = word_of v }) ≡ true
int_word v h = and_from (is_word_of Int (word_of v)) true
    (eq-eqb (word_of (value_of_word Int (word_of v))) (word_of v) (ap word_of (word_back Int v (in_range Int v h)))) refl

one_added : (a st : State) (v : ℤ) → is_in_range Int v ≡ true → From a st
    → HasEnumerators a.ctx.enumerators → HasEnumerators (st.ctx.enumerators ++ record { typ = plain (int Int); word = word_of v } ∷ [])
one_added a st v q e h = one_more (λ (x : Enumerator). is_enumerator x ≡ true) st.ctx.enumerators _ (λ i x f. e.enumerators h i x f) (int_word v q)

name_kept : (a : State) (b : Bool) (st : State) (x name : List ℕ) (v : ℤ) → is_in_range Int v ≡ true → From a st
    → From a (named_enumerator b st x name (word_of v))
name_kept a true st x name v q e = record { walk = e.walk; enumerators = one_added a st v q e; types = e.types }
name_kept a false st x name v q e = record { walk = e.walk; enumerators = one_added a st v q e; types = e.types }

one_kept : (a : State) (scoped : Bool) (x : List ℕ) (st : State) (at p : At) (name : List ℕ) (v : ℤ) → From a st
    → On (Enumerates a) (enumerator_made scoped x st at p name v)
one_kept a scoped x st at p name v e = checked (Enumerates a) p Narrowing (is_in_range Int v) _
    (λ y. skip (Enumerates a) (check at Redeclared (is_none (innermost_of st.ctx.scopes (if scoped then scope_name x name else name)))) _
    (λ z. name_kept a scoped st x name v y e))

enumerator_kept : (a : State) (s : List Lexeme) (scoped : Bool) (name : List ℕ) (x : Enumerating) (t : syntax.Tree) → Enumerates a x
    → On (Enumerates a) (enumerator_declared s scoped name x t)
enumerator_kept a s scoped name x (syntax.node kind p (Some t) syntax.none) e = one_kept a scoped name x.state (at_of p) (at_of p) (spelling s t) x.next e
enumerator_kept a s scoped name x (syntax.node kind p (Some t) (syntax.more v ts)) e =
    skip (Enumerates a) (and_then (expression_of s x.state.ctx x.state.work v) (chosen_operand x.state.ctx)) _
    (λ o. skip (Enumerates a) (enumerator_value (at_of p) x.state.work o.operand) _
    (λ n. one_kept a scoped name x.state (at_of p) o.operand.at (spelling s t) n e))
enumerator_kept a s scoped name x (syntax.node kind p None kids) e = tt

enumerators_kept : (a : State) (s : List Lexeme) (scoped : Bool) (name : List ℕ) (x : Enumerating) (ts : syntax.Trees) → Enumerates a x
    → On (Enumerates a) (enumerators_declared s scoped name x ts)
enumerators_kept a s scoped name x syntax.none e = e
enumerators_kept a s scoped name x (syntax.more t ts) e =
    bind (Enumerates a) (Enumerates a) (enumerator_declared s scoped name x t) _ (enumerator_kept a s scoped name x t e)
    (λ y i. enumerators_kept a s scoped name y ts i)

-- behind the brace they have the type of the enum
retyped : (name : List ℕ) (scoped : Bool) (x : Enumerator) → is_enumerator x ≡ true → is_enumerator (record x { typ = plain (enum name scoped) }) ≡ true
retyped name scoped x h = and_from (is_word_of Int x.word) true (and_parts (is_word_of Int x.word) (is_enumerator_type x.typ) h).0 refl

all_retyped : (name : List ℕ) (scoped : Bool) (es : List Enumerator) → HasEnumerators es
    → HasEnumerators (map (λ (e : Enumerator). record e { typ = plain (enum name scoped) }) es)
all_retyped name scoped [] h i x e = absurd cc
all_retyped name scoped (y ∷ es) h zero x e = subst (λ (z : Enumerator). is_enumerator z ≡ true) (same_Some _ x e) (retyped name scoped y (h zero y refl))
all_retyped name scoped (y ∷ es) h (suc i) x e = all_retyped name scoped es (λ j z f. h (suc j) z f) i x e

closed_kept : (n : ℕ) (name : List ℕ) (scoped : Bool) (es : List Enumerator) → HasEnumerators es → HasEnumerators (typed_from n (plain (enum name scoped)) es)
closed_kept zero name scoped es h = all_retyped name scoped es h
closed_kept (suc n) name scoped [] h = h
closed_kept (suc n) name scoped (y ∷ es) h = with_first (λ (z : Enumerator). is_enumerator z ≡ true) y (typed_from n (plain (enum name scoped)) es) (h zero y refl)
    (closed_kept n name scoped es (λ j z f. h (suc j) z f))

with_kept : (s : List Lexeme) (st : State) (at : At) (name : List ℕ) (scoped : Bool) (ts : syntax.Trees) → On (From st) (enum_with s st at name scoped ts)
with_kept s st at name scoped ts =
    let x : Enumerating = record { state = record st { ctx = with_type st.ctx name (plain (enum name scoped)) }; next = pos 0 } in
    skip (From st) (check at Redeclared (is_none (type_named name st.ctx.types))) _
    (λ y. bind (Enumerates st) (From st) (enumerators_declared s scoped name x ts) _
    (enumerators_kept st s scoped name x ts (record {
      walk = none_yet;
      enumerators = λ h. h;
      types = λ h. named_listed st.ctx.classes st.ctx.types name (plain (enum name scoped)) h refl;
    }))
    (λ z i. record {
      walk = i.walk;
      enumerators = λ h. closed_kept (length st.ctx.enumerators) name scoped z.state.ctx.enumerators (i.enumerators h);
      types = i.types;
    }))

pub enum_kept : (s : List Lexeme) (st : State) (at : At) (name : List ℕ) (ts : syntax.Trees) → On (From st) (enum_declared s st at name ts)
enum_kept s st at name (syntax.more (syntax.node k.ClassKey p token kids) ts) = with_kept s st at name true ts
enum_kept s st at name ts = with_kept s st at name false ts
