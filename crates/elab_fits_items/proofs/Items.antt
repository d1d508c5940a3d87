-- Items, in braces or not.
use Rattle.std.proofs.Common.{◌≡◌, refl, ap, ℕ, suc, Bool, true, not, ◌&&◌, List, Option, Some, None, Result, Ok, Err, arith}
use Rattle.std.proofs.lemmas.Bool.{and_parts}
use Rattle.std.specs.Prelude.{if◌then◌else◌}
use Rattle.elab_rules.specs.tx_ints.declared.kinds.IntKind.TheVariants.{ULong}
use Rattle.elab_rules.specs.cpp_types.Typ.{Typ, typ, Form, void, int, enum, null, ptr, ref, array, func, class, closure, tx_ex}
use Rattle.elab_rules.specs.cpp_types.Class.{Class}
use Rattle.elab_rules.specs.cpp_types.declared.classes.At.{At}
use Rattle.elab_rules.specs.cpp_types.declared.ranks.Cat.{Cat}
use Rattle.elab_rules.specs.cpp_types.declared.ranks.Cat.TheVariants.{Lvalue}
use Rattle.elab_rules.specs.cpp_lex.Tokens.{Lexeme}
use Rattle.elab_rules.specs.cpp_ast.declared.kinds.NodeKind.TheVariants as k
use Rattle.elab_rules.specs.cpp_ast.Trees as syntax
use Rattle.elab_rules.specs.cpp_tree.declared.faults.ElabFault.{ElabFault}
use Rattle.elab_rules.specs.cpp_tree.declared.faults.IllRule.TheVariants.{BadInit, Narrowing}
use Rattle.elab_rules.specs.cpp_tree.declared.roles.Role.TheVariants.{Value}
use Rattle.elab_rules.specs.cpp_tree.Trees.{Tree, typ_in, cat_of}
use Rattle.elab_rules.specs.cpp_tree.Typing.{form_in, is_class_typ, word_kind}
use Rattle.elab_rules.specs.cpp_tree.Rows.{Setting}
use Rattle.elab_rules.specs.elab_ctx.Ctx.{Ctx, Work}
use Rattle.elab_rules.specs.elab_ctx.Steps.{and_then, check, at_of, spelling, Operand, Made, Typed}
use Rattle.elab_rules.specs.Values.{part_at}
use Rattle.elab_rules.specs.Initialising.{class_from, scalar_from}
use Rattle.elab_rules.specs.Strings.{string_bytes}
use Rattle.elab_rules.specs.Expressions.{expression_of, chosen_operand}
use Rattle.elab_rules.specs.Braces.{item_in, item_expression, item_of, items_of, part_in, braceable, string_object, string_token, is_char_array}
use Rattle.elab_rules.specs.Braces.{is_aggregate_class, is_object_of, not_narrowed, is_not_narrowed, syntax_place, tree_place}
use Rattle.elab_fits.specs.Standing.{FitsAs, BuildsOne, Reaches, On}
use Rattle.elab_fits.proofs.Objects.{sized_from}
use Rattle.elab_fits.proofs.Steps.{bind, skip, expected, either_way as either}
use Rattle.elab_fits.proofs.Steps as steps
use Rattle.elab_fits_objects.specs.Making.{Makes}
use Rattle.elab_fits_objects.proofs.Items.{items_build}
use Rattle.elab_fits_forms.specs.Types.{is_lambda, is_target}
use Rattle.elab_fits_forms.specs.Meaning.{ProperOperand}
use Rattle.elab_fits_forms.specs.Context.{Holds}
use Rattle.elab_fits_forms.specs.Expressions.{is_spelled_token, is_spelled, are_spelled}
use Rattle.elab_fits_forms.proofs.Proper.{part_fits}
use Rattle.elab_fits_forms.proofs.Sources.{source_of}
use Rattle.elab_fits_expressions.specs.Growing.{Behind}
use Rattle.elab_fits_expressions.proofs.Behind as growing
use Rattle.elab_fits_expressions.proofs.Behind.{same, after, made}
use Rattle.elab_fits_expressions.proofs.Growing.{chosen, expression}
use Rattle.elab_fits_expressions.proofs.Expressions.{chosen_law}
use Rattle.elab_fits_expressions.proofs.Holding.{held, reached}
use Rattle.elab_fits_braces.proofs.Strings.{strings_build}
use Rattle.elab_fits_items.specs.Items.{ItemsHold, IsBraced, PartBuilt, PartsBuild}
use Rattle.elab_fits_items.proofs.Types.{IsItem, initialised_is, size_some}
use Rattle.elab_fits_items.proofs.Pieces.{IsIndex, Taken, taken_is, placed, object_made}
use Rattle.elab_fits_items.proofs.Rest.{AllBuilt, piece_made, rest_made}

-- What is made for an item that is an expression stands behind it

scalar_grows : (c : Ctx) (w : Work) (t : Typ) (o : Operand) → On (made w) (if is_class_typ t then class_from c w t o.at o else
    and_then (scalar_from c w t o) (not_narrowed w t o))
scalar_grows c w t o = either (made w) (is_class_typ t) _ _ (growing.class_from c w t o.at o)
    (bind (made w) (made w) (scalar_from c w t o) (not_narrowed w t o) (growing.scalar_from c w t o)
    (λ m g. skip (made w) (check o.at Narrowing (is_not_narrowed w t o)) _ (λ y. g)))

item_grows : (c : Ctx) (w : Work) (t : Typ) (f : Form) (o : Operand) → On (made w) (item_in c w t f o)
item_grows c w t (array e n) o = tt
item_grows c w t (class n) o = either (made w) (is_aggregate_class c n && not (is_object_of c n o)) _ _ tt (growing.class_from c w t o.at o)
item_grows c w t void o = scalar_grows c w t o
item_grows c w t (int j) o = scalar_grows c w t o
item_grows c w t (enum n x) o = scalar_grows c w t o
item_grows c w t null o = scalar_grows c w t o
item_grows c w t (ptr u) o = scalar_grows c w t o
item_grows c w t (ref u) o = scalar_grows c w t o
item_grows c w t (func g) o = scalar_grows c w t o
item_grows c w t (closure n) o = scalar_grows c w t o
item_grows c w t (tx_ex u) o = scalar_grows c w t o

-- an operand that was read
record IsOperandRead (s : Setting) (c : Ctx) (w : Work) (x : Typed) : Type 0 where
  behind : Behind w x.work
  proper : Reaches s x.work → ProperOperand s c x.operand

operand_read : (s : Setting) (c : Ctx) (w : Work) (r : Result Typed ElabFault) → On (λ (x : Typed). Behind w x.work) r
    → On (λ (x : Typed). Reaches s x.work → ProperOperand s c x.operand) r → On (IsOperandRead s c w) r
operand_read s c w (Ok x) g h = record { behind = g; proper = h }
operand_read s c w (Err e) g h = tt

-- what stands in the later setting stood in the earlier one
late : (s : Setting) (w x : Work) (t : Typ) (r : Result Made ElabFault) → Behind w x → On (made x) r
    → (Reaches s x → On (λ (m : Made). Reaches s m.work → Makes s t m.tree) r) → On (PartBuilt s w t) r
late s w x t (Ok m) b g f = record { behind = after b g; builds = λ r. (f (reached s x m.work g r) r).one }
late s w x t (Err e) b g f = tt

lvalue_word : (e : Tree) → cat_of e ≡ Lvalue → word_kind (typ_in e) (cat_of e) ≡ Some ULong
lvalue_word e l = ap (λ (z : Cat). word_kind (typ_in e) z) l

pub first_index : (classes : List Class) (t : Typ) → IsIndex classes t 0
first_index classes (typ (class n) q v) = omega arith
first_index classes (typ (array u n) q v) = omega arith
first_index classes (typ u q v) = tt

module _ (lexemes : List Lexeme) (s : Setting) (c : Ctx) (w0 : Work) (h0 : Holds s c w0) (x : ItemsHold s c) where
  -- Expressions

  operand_item : (w : Work) (t : Typ) (e : syntax.Tree) → Holds s c w → IsItem c t → is_spelled lexemes e ≡ true
      → On (PartBuilt s w t) (and_then (and_then (expression_of lexemes c w e) (chosen_operand c)) (λ (o : Typed). item_in c o.work t (form_in t) o.operand))
  operand_item w t e h i g = bind (IsOperandRead s c w) (PartBuilt s w t) (and_then (expression_of lexemes c w e) (chosen_operand c)) _
      (operand_read s c w (and_then (expression_of lexemes c w e) (chosen_operand c))
      (chosen c w (expression_of lexemes c w e) (expression lexemes c c.closures w e)) (chosen_law lexemes s c c.closures w e h x.closures g))
      (λ o y. late s w o.work t (item_in c o.work t (form_in t) o.operand) y.behind (item_grows c o.work t (form_in t) o.operand)
      (λ r. items_build s c (is_lambda c.classes) o.work t o.operand h.setting h.makers (source_of s c o.operand (y.proper r)) (initialised_is s c w0 h0 t i)))

  expression_item : (w : Work) (t : Typ) (e : syntax.Tree) (o : Option ℕ) (at : At) → Holds s c w → IsItem c t → is_spelled lexemes e ≡ true
      → On (PartBuilt s w t) (item_expression lexemes c w t o at (and_then (expression_of lexemes c w e) (chosen_operand c)))
  expression_item w t e (Some n) at h i g = steps.either (PartBuilt s w t) (is_char_array t) _ _
      (λ k. bind (BuildsOne s t) (PartBuilt s w t) (string_object c t at (string_bytes (spelling lexemes n))) _
      (strings_build s c t at (string_bytes (spelling lexemes n)) h.setting (size_some s c w0 h0 t i) k)
      (λ y b. record { behind = same w; builds = λ r. b }))
      (λ k. operand_item w t e h i g)
  expression_item w t e None at h i g = operand_item w t e h i g

  mutual
    pub item_made : (w : Work) (object : Tree) (t : Typ) (e : syntax.Tree) → Holds s c w → IsItem c t → FitsAs s Value object → cat_of object ≡ Lvalue
        → is_spelled lexemes e ≡ true → On (PartBuilt s w t) (item_of lexemes c w object t e)
    item_made w object t (syntax.node k.BracedInitList p token items) h i f l g =
        bind (λ (b : Bool). Taken s c w0 h0 x.single t) (PartBuilt s w t) (braceable c (at_of p) (form_in t)) _ (taken_is s c w0 h0 x.single t (at_of p) i)
        (λ b y. bind (AllBuilt s c w t 0) (PartBuilt s w t) (items_of lexemes c w object t 0 (at_of p) items) _
        (items_made w object t 0 (at_of p) items h y (first_index c.classes t) f l (and_parts (is_spelled_token lexemes token) (are_spelled lexemes items) g).1)
        (λ r z. record { behind = z.behind; builds = λ reached. object_made s c w0 h0 x.single t (at_of p) r.trees y (z.pieces reached) }))
    item_made w object t (syntax.node kind p token kids) h i f l g =
        expression_item w t (syntax.node kind p token kids) (string_token (syntax.node kind p token kids)) (at_of p) h i g

    pub items_made : (w : Work) (object : Tree) (t : Typ) (i : ℕ) (at : At) (es : syntax.Trees) → Holds s c w → Taken s c w0 h0 x.single t
        → IsIndex c.classes t i → FitsAs s Value object → cat_of object ≡ Lvalue → are_spelled lexemes es ≡ true
        → On (AllBuilt s c w t i) (items_of lexemes c w object t i at es)
    items_made w object t i at syntax.none h y n f l g = rest_made s c w0 h0 x.single x.defaults t i object w at y n f l
    items_made w object t i at (syntax.more e es) h y n f l g =
        let j = and_parts (is_spelled lexemes e) (are_spelled lexemes es) g in
        expected (AllBuilt s c w t i) (syntax_place e) BadInit (part_in c t (form_in t) i) _ (λ p k.
        let z = placed s c w0 h0 x.single t i p y k in
        bind (PartBuilt s w p.typ) (AllBuilt s c w t i) (item_of lexemes c w (part_at p.offset p.typ at object) p.typ e) _
        (item_made w (part_at p.offset p.typ at object) p.typ e h z.item
        (part_fits s p.offset p.typ at object (lvalue_word object l) f z.word) refl j.0)
        (λ m b. piece_made s c w0 h0 x.single x.defaults t i p (tree_place m.tree) w m (items_of lexemes c m.work object t (suc i) at es) z b
        (items_made m.work object t (suc i) at es (held s c w m.work b.behind h) y z.next f l j.1)))

-- Laws

pub item_is : (c : Ctx) (t : Typ) → IsBraced c t → is_target c.classes t ≡ true → IsItem c t
item_is c t i a = record { target = a; sized = sized_from c.classes t i.sized; ready = i.ready; single = i.single }

pub parts_build : PartsBuild
parts_build lexemes s c w object t e h x i a f l g = item_made lexemes s c w h x w object t e h (item_is c t i a) f l g
