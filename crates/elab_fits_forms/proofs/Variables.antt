-- Variables, captures and `this`.
use Rattle.std.proofs.Common.{◌≡◌, refl, sym, ap, ◌∙◌, subst, ℕ, suc, Bool, true, false, ◌&&◌, nat_lt, List, [], ◌∷◌, slice_get, Option, Some}
use Rattle.std.proofs.Common.{None, unwrap_or}
use Rattle.std.proofs.lemmas.Bool.{and_parts}
use Rattle.std.specs.Prelude.{if◌then◌else◌}
use Rattle.elab_rules.specs.tx_ints.declared.kinds.IntKind.TheVariants.{ULong}
use Rattle.elab_rules.specs.cpp_types.Typ.{Typ, typ, void, ptr, ref}
use Rattle.elab_rules.specs.cpp_types.Equal.{typ_eq}
use Rattle.elab_rules.specs.cpp_types.declared.classes.At.{At}
use Rattle.elab_rules.specs.cpp_types.declared.ranks.Cat.TheVariants.{Lvalue, Prvalue}
use Rattle.elab_rules.specs.cpp_tree.declared.kinds.TKind.TheVariants.{Local, Load}
use Rattle.elab_rules.specs.cpp_tree.declared.faults.IllRule.TheVariants.{UnknownName, BadInit, Capture as CaptureRule}
use Rattle.elab_rules.specs.cpp_tree.declared.roles.Role.TheVariants.{Value}
use Rattle.elab_rules.specs.cpp_tree.Trees.{Tree, node, none, one}
use Rattle.elab_rules.specs.cpp_tree.Notation.{plain}
use Rattle.elab_rules.specs.cpp_tree.Typing.{passes, is_class_typ, qualified, word_kind}
use Rattle.elab_rules.specs.cpp_tree.Roles.{only}
use Rattle.elab_rules.specs.cpp_tree.Rows.{Setting, at_place, is_slot}
use Rattle.elab_rules.specs.elab_ctx.Ctx.{Ctx, Work, Variable, This, Capture, Lambda}
use Rattle.elab_rules.specs.Names.{held_by, is_pointer, variable_tree, item_at, this_pointer, Captured, captured_from, same_variable, offset_at, is_const_typ}
use Rattle.elab_rules.specs.Names.{captured_place, in_capture, captured_tree, is_outer, own_variable, variable_in, this_in, this_tree}
use Rattle.elab_fits.specs.Standing.{FitsAs, Reaches, On}
use Rattle.elab_fits.specs.Scalars.{Gives}
use Rattle.elab_fits.proofs.Equal.{typ_refl, typ_same}
use Rattle.elab_fits.proofs.Nodes.{both, clash, Simple, no_kids, one_kid}
use Rattle.elab_fits.proofs.Steps.{expected}
use Rattle.elab_fits.proofs.Values.{load_gives, loads}
use Rattle.elab_fits.proofs.Arithmetic.{or_case}
use Rattle.elab_fits_forms.specs.Types.{is_target, is_declared}
use Rattle.elab_fits_forms.specs.Meaning.{Proper}
use Rattle.elab_fits_forms.specs.Context.{is_item_of, IsVariable, IsThis, Holds}
use Rattle.elab_fits_forms.proofs.Types.{qualified_target, class_target}
use Rattle.elab_fits_forms.proofs.Proper.{lvalue_node, proper_value, proper_part, part_fits, proper_valued}

-- Kinds of nodes

locals : (place : ℕ) → Simple (Local place) (only [])
locals place = record { is_value = refl; anywhere = λ f p n. refl; unbranched = λ t hs. refl; asks = λ a b. refl; no_switch = refl }

-- Slots

place_row : (s : Setting) (w : Work) (place : ℕ) (t item : Typ) → Reaches s w → slice_get w.frame place ≡ Some item → typ_eq t item ≡ true
    → at_place s.function.frame place t ≡ true
place_row s w place t item r h e = ap (λ (x : Option Typ). passes (typ_eq t) x) (r.frame place item h) ∙ e

slot_fits : (s : Setting) (w : Work) (place : ℕ) (t item : Typ) (at : At) → Reaches s w → slice_get w.frame place ≡ Some item → typ_eq t item ≡ true
    → FitsAs s Value (node (Local place) t Lvalue at none)
slot_fits s w place t item at r h e = no_kids s (Local place) t Lvalue at (locals place) refl (place_row s w place t item r h e)

-- what a slot has the address of
held_proper : (s : Setting) (c : Ctx) (w : Work) (place : ℕ) (t item : Typ) (at : At) → Reaches s w → slice_get w.frame place ≡ Some item
    → is_slot t item ≡ true → is_target c.classes t ≡ true → Proper s c (held_by t item at place)
held_proper s c w place t item at r h e i = lvalue_node s c (Load ULong false) t at (one (node (Local place) item Lvalue at none))
    (one_kid s (Load ULong false) t Lvalue at (node (Local place) item Lvalue at none) (loads ULong false) refl e
    (slot_fits s w place item item at r h (typ_refl item))) i

-- Variables

class_no_pointer : (t : Typ) → is_class_typ t ≡ true → is_pointer t ≡ false
class_no_pointer (typ (ptr u) c v) h = absurd cc
class_no_pointer (typ f c v) h = refl

pointer_slot : (t : Typ) → is_class_typ t ≡ true → is_slot t (plain (ptr t)) ≡ true
pointer_slot t h = both h h

variable_by : (s : Setting) (c : Ctx) (w : Work) (at : At) (place : ℕ) (t item : Typ) (b : Bool) → (is_class_typ t && is_pointer item) ≡ b → Reaches s w
    → slice_get w.frame place ≡ Some item → is_item_of t item ≡ true → is_target c.classes t ≡ true
    → Proper s c (if b then held_by t item at place else node (Local place) t Lvalue at none)
variable_by s c w at place t item true b r h e i = held_proper s c w place t item at r h slot i
  where
    p : (is_class_typ t ≡ true) × (is_pointer item ≡ true)
    p = and_parts (is_class_typ t) (is_pointer item) b

    slot : is_slot t item ≡ true
    slot = or_case (is_slot t item ≡ true) (typ_eq t item) (is_class_typ t && typ_eq item (plain (ptr t))) e
        (λ q. clash (is_slot t item ≡ true) (is_pointer item) (ap is_pointer (sym (typ_same t item q)) ∙ class_no_pointer t p.0) p.1)
        (λ q. ap (λ (u : Typ). is_slot t u) (typ_same item (plain (ptr t)) (and_parts (is_class_typ t) (typ_eq item (plain (ptr t))) q).1) ∙ pointer_slot t p.0)
variable_by s c w at place t item false b r h e i = lvalue_node s c (Local place) t at none (slot_fits s w place t item at r h own) i
  where
    own : typ_eq t item ≡ true
    own = or_case (typ_eq t item ≡ true) (typ_eq t item) (is_class_typ t && typ_eq item (plain (ptr t))) e (λ q. q)
        (λ q. let p = and_parts (is_class_typ t) (typ_eq item (plain (ptr t))) q in
        clash (typ_eq t item ≡ true) (is_class_typ t && is_pointer item) b (both p.0 (ap is_pointer (typ_same item (plain (ptr t)) p.1))))

reference_item : (t item : Typ) (q v : Bool) → is_item_of (typ (ref t) q v) item ≡ true → typ_eq (typ (ref t) q v) item ≡ true
reference_item t item q v e = or_case (typ_eq (typ (ref t) q v) item ≡ true) (typ_eq (typ (ref t) q v) item) false e (λ h. h) (λ h. absurd cc)

tree_proper : (s : Setting) (c : Ctx) (w : Work) (at : At) (place : ℕ) (t item : Typ) → Reaches s w → slice_get w.frame place ≡ Some item
    → is_item_of t item ≡ true → is_declared c.classes t ≡ true → Proper s c (variable_tree at place item t)
tree_proper s c w at place (typ (ref t) q v) item r h e i = held_proper s c w place t (typ (ref t) q v) at r
    (h ∙ ap Some (sym (typ_same (typ (ref t) q v) item (reference_item t item q v e)))) (typ_refl t) i
tree_proper s c w at place (typ void q v) item r h e i = absurd cc
tree_proper s c w at place (typ f q v) item r h e i = variable_by s c w at place (typ f q v) item (is_class_typ (typ f q v) && is_pointer item) refl r h e i

own_proper : (s : Setting) (c : Ctx) (w : Work) (at : At) (v : Variable) → Reaches s w
    → ((t : Typ) → v.typ ≡ Some t → IsVariable c.classes w v.place t) → On (Proper s c) (own_variable w at v)
own_proper s c w at v r h = expected (Proper s c) at BadInit v.typ _ (λ t e. by t (h t e))
  where
    by : (t : Typ) → IsVariable c.classes w v.place t → Proper s c (variable_tree at v.place (item_at w v.place t) t)
    by t x = subst (λ (u : Typ). Proper s c (variable_tree at v.place u t)) (sym (ap (λ (o : Option Typ). unwrap_or o t) x.at))
        (tree_proper s c w at v.place t x.item r x.at x.is x.declared)

-- The object at hand

pub this_gives : (s : Setting) (classes : _) (w : Work) (at : At) (t : This) → Reaches s w → IsThis classes w t → Gives s (ptr t.typ) (this_pointer at t)
this_gives s classes w at t r h = load_gives s at at (ptr t.typ) false false (Local t.place) none ULong refl refl
    (slot_fits s w t.place (plain (ptr t.typ)) (plain (ptr t.typ)) at r h.at (typ_refl (plain (ptr t.typ))))

this_word : (at : At) (t : This) → word_kind (plain (ptr t.typ)) Prvalue ≡ Some ULong
this_word at t = refl

-- Captures (C++14 5.1.2 p17)

abbrev capture_in : Option Captured → Option Capture
capture_in (Some z) = Some z.capture
capture_in None = None

held_capture : (A : Type 0) (variable : Option ℕ) (i : ℕ) (xs : List Capture) (x : Captured) → captured_from i variable xs ≡ Some x
    → ((j : ℕ) → slice_get xs j ≡ Some x.capture → A) → A
held_capture A variable i [] x h g = absurd cc
held_capture A variable i (y ∷ ys) x h g = by (λ e. held_capture A variable (suc i) ys x e (λ j d. g (suc j) d)) (same_variable variable y.variable) h
  where
    by : (captured_from (suc i) variable ys ≡ Some x → A) → (b : Bool)
        → (if b then Some (record { index = i; capture = y }) else captured_from (suc i) variable ys) ≡ Some x → A
    by rest true e = g 0 (ap (λ (o : Option Captured). capture_in o) e)
    by rest false e = rest e

captured_proper : (s : Setting) (c : Ctx) (w : Work) (at : At) (t : This) (l : Lambda) (i : ℕ) (u : Typ) → Holds s c w → Reaches s w → c.this ≡ Some t
    → c.lambda ≡ Some l → is_declared c.classes u ≡ true → Proper s c (in_capture c at t l i u)
captured_proper s c w at t l i (typ (ref u) d v) h r e k p = lvalue_node s c (Load ULong false) u at
    (one (captured_place c at t l i (typ (ref u) d v)))
    (one_kid s (Load ULong false) u Lvalue at (captured_place c at t l i (typ (ref u) d v)) (loads ULong false) refl (typ_refl u)
    (part_fits s (offset_at c.classes l.class i) (typ (ref u) d v) at (this_pointer at t) refl
    (this_gives s c.classes w at t r (h.this t e)).fits ((h.complete l.class (h.lambda l k)).offsets i))) p
captured_proper s c w at t l i (typ void d v) h r e k p = absurd cc
captured_proper s c w at t l i (typ f d v) h r e k p = proper_part s c (offset_at c.classes l.class i) (qualified (is_const_typ t.typ) false (typ f d v)) at
    (this_pointer at t) refl (this_gives s c.classes w at t r (h.this t e)).fits ((h.complete l.class (h.lambda l k)).offsets i)
    (qualified_target c.classes (is_const_typ t.typ) false (typ f d v) p)

pub capture_proper : (s : Setting) (c : Ctx) (w : Work) (at : At) (variable : Option ℕ) (t : This) (l : Lambda) (x : Captured) → Holds s c w → Reaches s w
    → c.this ≡ Some t → c.lambda ≡ Some l → captured_from 0 variable l.captures ≡ Some x → Proper s c (captured_tree c at t l x)
capture_proper s c w at variable t l x h r e k f = held_capture (Proper s c (captured_tree c at t l x)) variable 0 l.captures x f
    (λ j d. captured_proper s c w at t l x.index x.capture.typ h r e k (h.captures l j x.capture k d))

-- Variables by their number

outer_lambda : (i : ℕ) (o : Option Lambda) (l : Lambda) → is_outer i o ≡ Some l → o ≡ Some l
outer_lambda i (Some k) l h = by (nat_lt i k.outer) h
  where
    by : (b : Bool) → (if b then Some k else None) ≡ Some l → Some k ≡ Some l
    by true e = e
    by false e = absurd cc
outer_lambda i None l h = absurd cc

variable_by_lambda : (s : Setting) (c : Ctx) (w : Work) (at : At) (i : ℕ) (o : Option Lambda) → is_outer i c.lambda ≡ o → Holds s c w → Reaches s w
    → On (Proper s c) (variable_in c w at i o)
variable_by_lambda s c w at i (Some l) k h r = expected (Proper s c) at CaptureRule (captured_from 0 (Some i) l.captures) _
    (λ x f. expected (Proper s c) at UnknownName c.this _
    (λ t e. capture_proper s c w at (Some i) t l x h r e (outer_lambda i c.lambda l k) f))
variable_by_lambda s c w at i None k h r = expected (Proper s c) at UnknownName (slice_get c.variables i) _
    (λ v f. own_proper s c w at v r (λ t e. h.variables i v t k f e))

pub variable_stands : (s : Setting) (c : Ctx) (w : Work) (at : At) (i : ℕ) → Holds s c w → Reaches s w
    → On (Proper s c) (variable_in c w at i (is_outer i c.lambda))
variable_stands s c w at i h r = variable_by_lambda s c w at i (is_outer i c.lambda) refl h r

-- `this`

pub record IsThisTree (s : Setting) (c : Ctx) (e : Tree) : Type 0 where
  pub proper : Proper s c e
  pub this : This
  pub is : c.this ≡ Some this

this_by : (s : Setting) (c : Ctx) (w : Work) (at : At) (o : Option Lambda) → c.lambda ≡ o → Holds s c w → Reaches s w
    → On (IsThisTree s c) (this_in c at o)
this_by s c w at None k h r = expected (IsThisTree s c) at UnknownName c.this _ (λ t e. record {
  proper = proper_value s c (ptr t.typ) (this_pointer at t) (this_gives s c.classes w at t r (h.this t e))
      (class_target c.classes t.typ (h.this t e).sound (h.this t e).object);
  this = t;
  is = e;
})
this_by s c w at (Some l) k h r = expected (IsThisTree s c) at CaptureRule (captured_from 0 None l.captures) _
    (λ x f. expected (IsThisTree s c) at UnknownName c.this _ (λ t e. record {
      proper = proper_valued s c at (captured_tree c at t l x) (capture_proper s c w at None t l x h r e k f);
      this = t;
      is = e;
    }))

pub this_tree_is : (s : Setting) (c : Ctx) (w : Work) (at : At) → Holds s c w → Reaches s w → On (IsThisTree s c) (this_tree c at)
this_tree_is s c w at h r = this_by s c w at c.lambda refl h r
