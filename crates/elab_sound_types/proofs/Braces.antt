-- Initialisers keep the types of globals sound.
use Rattle.std.proofs.Common.{ℕ, zero, suc, ◌-◌, Bool, not, ◌&&◌, List, [], ◌∷◌, drop, Option, Some, None, Result}
use Rattle.std.specs.Prelude.{if◌then◌else◌, slice_get}
use Rattle.elab_rules.specs.cpp_types.Typ.{Typ, typ, Form, ref, array, class}
use Rattle.elab_rules.specs.cpp_types.Class.{Member}
use Rattle.elab_rules.specs.cpp_types.declared.classes.At.{At}
use Rattle.elab_rules.specs.cpp_lex.Tokens.{Lexeme}
use Rattle.elab_rules.specs.cpp_ast.declared.kinds.NodeKind.TheVariants as k
use Rattle.elab_rules.specs.cpp_ast.Trees as syntax
use Rattle.elab_rules.specs.cpp_tree.declared.faults.ElabFault.{ElabFault}
use Rattle.elab_rules.specs.cpp_tree.declared.faults.IllRule.TheVariants.{OutOfProfile, Narrowing, BadInit}
use Rattle.elab_rules.specs.cpp_tree.Trees.{Tree}
use Rattle.elab_rules.specs.cpp_tree.Notation.{plain}
use Rattle.elab_rules.specs.cpp_tree.Typing.{form_in, qualified, is_class_typ}
use Rattle.elab_rules.specs.elab_ctx.Ctx.{Ctx, Work, Default}
use Rattle.elab_rules.specs.elab_ctx.Steps.{and_then, expect, check, at_of, spelling, Operand, Made, MadeAll, Typed}
use Rattle.elab_rules.specs.Values
use Rattle.elab_rules.specs.Strings.{string_bytes}
use Rattle.elab_rules.specs.Names.{is_const_typ, is_volatile_object, offset_at, members_in}
use Rattle.elab_rules.specs.Initialising.{class_from, scalar_from, from_nothing, conversion}
use Rattle.elab_rules.specs.Braces as braces
use Rattle.elab_rules.specs.Braces.{ThisAt, syntax_place, string_token}
use Rattle.elab_rules.specs.Expressions.{expression_of, chosen_operand}
use Rattle.elab_rules.specs.Statements.{is_lasting, bound_reference, copy_initialised, directly_initialised}
use Rattle.elab_fits.specs.Standing.{On}
use Rattle.elab_fits.proofs.Steps.{bind, skip, either_way as either}
use Rattle.elab_sound_types.proofs.Globals as globals
use Rattle.elab_sound_types.proofs.Globals.{Behind, same, after, made, all_made, typed}

-- Initialisers (C++14 8.5)

reference_kept : (c : Ctx) (w : Work) (t : Typ) (o : Operand) → On (made w) (bound_reference c w t o)
reference_kept c w t o = skip (made w) (check o.at OutOfProfile (is_lasting (conversion c t o) o)) _ (λ y. globals.scalar_from c w t o)

by_class : (c : Ctx) (w : Work) (t : Typ) (o : Operand) → On (made w) (if is_class_typ t then class_from c w t o.at o else scalar_from c w t o)
by_class c w t o = either (made w) (is_class_typ t) _ _ (globals.class_from c w t o.at o) (globals.scalar_from c w t o)

pub copy_kept : (c : Ctx) (w : Work) (t : Typ) (o : Operand) → On (made w) (copy_initialised c w t o)
copy_kept c w (typ (ref t) d v) o = reference_kept c w (typ (ref t) d v) o
copy_kept c w (typ (array e n) d v) o = tt
copy_kept c w t o = by_class c w t o

pub direct_kept : (c : Ctx) (w : Work) (t : Typ) (at : At) (os : List Operand) → On (made w) (directly_initialised c w t at os)
direct_kept c w (typ (ref t) d v) at (o ∷ []) = reference_kept c w (typ (ref t) d v) o
direct_kept c w t at os = globals.from_values c w t at os

-- Braces (8.5.1, 8.5.4)

scalar_item : (c : Ctx) (w : Work) (t : Typ) (o : Operand)
    → On (made w) (if is_class_typ t then class_from c w t o.at o else and_then (scalar_from c w t o) (braces.not_narrowed w t o))
scalar_item c w t o = either (made w) (is_class_typ t) _ _ (globals.class_from c w t o.at o)
    (bind (made w) (made w) (scalar_from c w t o) _ (globals.scalar_from c w t o)
    (λ m g. skip (made w) (check o.at Narrowing (braces.is_not_narrowed w t o)) _ (λ y. g)))

item_in : (c : Ctx) (w : Work) (t : Typ) (f : Form) (o : Operand) → On (made w) (braces.item_in c w t f o)
item_in c w t (array e n) o = tt
item_in c w t (class n) o = either (made w) (braces.is_aggregate_class c n && not (braces.is_object_of c n o)) _ _ tt (globals.class_from c w t o.at o)
item_in c w t f o = scalar_item c w t o

item_after : (c : Ctx) (w x : Work) (t : Typ) (o : Operand) → Behind w x → On (made w) (braces.item_in c x t (form_in t) o)
item_after c w x t o h = globals.moved w x (braces.item_in c x t (form_in t) o) h (item_in c x t (form_in t) o)

default_member : (c : Ctx) (w : Work) (q v : Bool) (this : ThisAt) (t : Typ) (at : At) (o : Option Default)
    → On (made w) (braces.default_member c w q v this t at o)
default_member c w q v this t at (Some d) = record { kept = λ n h. h }
default_member c w q v this t at None = skip (made w) (from_nothing c t at) _ (λ e. same w)

with_piece : (c : Ctx) (w x : Work) (offset : ℕ) (t : Typ) (at : At) (m : Made) (r : Result MadeAll ElabFault) → Behind w x → On (all_made x) r
    → On (all_made w) (braces.with_piece c offset t at m r)
with_piece c w x offset t at m r h g = bind (all_made x) (all_made w) r _ g (λ a i. after h i)

rest_members : (c : Ctx) (w : Work) (at : At) (object : Tree) (t : Typ) (n i : ℕ) (ms : List Member)
    → On (all_made w) (braces.rest_members c w at object t n i ms)
rest_members c w at object t n i [] = same w
rest_members c w at object t n i (m ∷ ms) = bind (made w) (all_made w)
    (braces.default_member c w (is_const_typ t) (is_volatile_object t) (braces.this_of t object) (qualified (is_const_typ t) (is_volatile_object t) m.typ) at
    (braces.default_at n i c.defaults)) _
    (default_member c w (is_const_typ t) (is_volatile_object t) (braces.this_of t object) (qualified (is_const_typ t) (is_volatile_object t) m.typ) at
    (braces.default_at n i c.defaults))
    (λ x g. with_piece c w x.work (offset_at c.classes n i) (qualified (is_const_typ t) (is_volatile_object t) m.typ) _ x
    (braces.rest_members c x.work at object t n (suc i) ms) g (rest_members c x.work at object t n (suc i) ms))

rest_piece : (c : Ctx) (w : Work) (e : Typ) (i n : ℕ) (at : At) → On (all_made w) (braces.rest_piece c w e i n at)
rest_piece c w e i zero at = same w
rest_piece c w e i (suc n) at = skip (all_made w) (from_nothing c (plain (array e (suc n))) at) _ (λ t. same w)

rest_in : (c : Ctx) (w : Work) (at : At) (object : Tree) (t : Typ) (f : Form) (i : ℕ) → On (all_made w) (braces.rest_in c w at object t f i)
rest_in c w at object t (array e n) i = rest_piece c w (qualified (is_const_typ t) (is_volatile_object t) e) i (n - i) at
rest_in c w at object t (class n) i = rest_members c w at object t n i (drop i (members_in (slice_get c.classes n)))
rest_in c w at object t f i = same w

item_expression : (s : List Lexeme) (c : Ctx) (w : Work) (t : Typ) (o : Option ℕ) (at : At) (r : Result Typed ElabFault) → On (typed w) r
    → On (made w) (braces.item_expression s c w t o at r)
item_expression s c w t (Some n) at r h = either (made w) (braces.is_char_array t) _ _
    (skip (made w) (braces.string_object c t at (string_bytes (spelling s n))) _ (λ x. same w))
    (bind (typed w) (made w) r _ h (λ o g. item_after c w o.work t o.operand g))
item_expression s c w t None at r h = bind (typed w) (made w) r _ h (λ o g. item_after c w o.work t o.operand g)

expression_kept : (s : List Lexeme) (c : Ctx) (w : Work) (e : syntax.Tree) → On (typed w) (and_then (expression_of s c w e) (chosen_operand c))
expression_kept s c w e = globals.chosen c w (expression_of s c w e) (globals.expression s c c.closures w e)

module _ (s : List Lexeme) (c : Ctx) where
  mutual
    pub item_kept : (w : Work) (object : Tree) (t : Typ) (e : syntax.Tree) → On (made w) (braces.item_of s c w object t e)
    item_kept w object t (syntax.node k.BracedInitList p token items) = skip (made w) (braces.braceable c (at_of p) (form_in t)) _
        (λ y. bind (all_made w) (made w) (braces.items_of s c w object t 0 (at_of p) items) _ (items_kept w object t 0 (at_of p) items) (λ r g. g))
    item_kept w object t (syntax.node kind p token kids) = item_expression s c w t (string_token (syntax.node kind p token kids)) (at_of p)
        (and_then (expression_of s c w (syntax.node kind p token kids)) (chosen_operand c)) (expression_kept s c w (syntax.node kind p token kids))

    items_kept : (w : Work) (object : Tree) (t : Typ) (i : ℕ) (at : At) (es : syntax.Trees) → On (all_made w) (braces.items_of s c w object t i at es)
    items_kept w object t i at syntax.none = rest_in c w at object t (form_in t) i
    items_kept w object t i at (syntax.more x ts) = skip (all_made w) (expect (syntax_place x) BadInit (braces.part_in c t (form_in t) i)) _
        (λ p. bind (made w) (all_made w) (braces.item_of s c w (Values.part_at p.offset p.typ at object) p.typ x) _
        (item_kept w (Values.part_at p.offset p.typ at object) p.typ x)
        (λ m g. with_piece c w m.work p.offset p.typ (braces.tree_place m.tree) m (braces.items_of s c m.work object t (suc i) at ts) g
        (items_kept m.work object t (suc i) at ts)))
