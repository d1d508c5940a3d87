-- Conditions, variables and `return`.
use Rattle.std.proofs.Common.{◌≡◌, refl, sym, ap, ◌∙◌, subst, ℕ, Bool, true, false, not, ◌&&◌, ◌||◌, [], ◌∷◌, Option, Some}
use Rattle.std.specs.Prelude.{if◌then◌else◌, cond}
use Rattle.std.proofs.lemmas.Bool.{and_parts}
use Rattle.elab_rules.specs.tx_ints.declared.kinds.IntKind.{IntKind}
use Rattle.elab_rules.specs.tx_ints.declared.kinds.IntKind.TheVariants.{Bool as BoolKind, ULong}
use Rattle.elab_rules.specs.cpp_types.Typ.{Typ, typ, Form, void, int, enum, null, ptr, ref}
use Rattle.elab_rules.specs.cpp_types.Equal.{typ_eq}
use Rattle.elab_rules.specs.cpp_types.Conversion.{is_lvalue}
use Rattle.elab_rules.specs.cpp_types.declared.classes.At.{At}
use Rattle.elab_rules.specs.cpp_types.declared.ranks.Cat.{Cat}
use Rattle.elab_rules.specs.cpp_types.declared.ranks.Cat.TheVariants.{Lvalue, Prvalue}
use Rattle.elab_rules.specs.cpp_tree.declared.kinds.TKind.TheVariants as forms
use Rattle.elab_rules.specs.cpp_tree.declared.roles.Position.{Position}
use Rattle.elab_rules.specs.cpp_tree.declared.roles.Role.TheVariants.{Value, Initialiser, Zero, Statement, BlockItem, Destruction}
use Rattle.elab_rules.specs.cpp_tree.Trees.{Tree, node, Trees, none, more, one, two, kind_of, typ_in, cat_of}
use Rattle.elab_rules.specs.cpp_tree.Notation.{plain}
use Rattle.elab_rules.specs.cpp_tree.Typing.{Head, head_of, is_prvalue, is_class_typ, is_void, builds, initialises, is_bound}
use Rattle.elab_rules.specs.cpp_tree.Typing.{is_prvalue_of, is_temporary, unqualified, word_kind, same_kind}
use Rattle.elab_rules.specs.cpp_tree.Roles.{only, and_any}
use Rattle.elab_rules.specs.cpp_tree.Rows.{Setting, is_retyped, result_of, has_value, are_destructions}
use Rattle.elab_rules.specs.cpp_tree.WellFormed.{fits, heads_of}
use Rattle.elab_rules.specs.elab_ctx.Ctx.{next_place}
use Rattle.elab_rules.specs.elab_ctx.Steps.{Made}
use Rattle.elab_rules.specs.Initialising.{seen_as}
use Rattle.elab_rules.specs.Objects.{destroys}
use Rattle.elab_rules.specs.Operators.{is_throw, without_value}
use Rattle.elab_rules.specs.Values.{place_of, retyped}
use Rattle.elab_rules.specs.Statements as statements
use Rattle.elab_rules.specs.Statements.{State, Full, full, whole_of, whole_if, holds_temporary, throws_object, statement, variable_tree, init_node, return_node}
use Rattle.elab_rules.specs.Statements.{result_object, class_returned}
use Rattle.elab_fits.specs.Standing.{FitsAs}
use Rattle.elab_fits.specs.Scalars.{is_scalar, Gives, Initialises}
use Rattle.elab_fits.specs.Objects.{AllFit, DestroysOne}
use Rattle.elab_fits.proofs.Equal.{typ_refl, typ_same}
use Rattle.elab_fits.proofs.Nodes.{both, or_left, clash, head_typ, head_cat, node_fits, Simple, one_kid, initial_kid}
use Rattle.elab_fits.proofs.Unary.{lvalue_is}
use Rattle.elab_fits_statements.specs.Anywhere.{FitsAnywhere, BuildsAnywhere, Serves, AllServe}
use Rattle.elab_fits_statements.specs.Forms.{IsCondition}
use Rattle.elab_fits_statements.specs.Variables.{HasItem, BuildsWhole}
use Rattle.elab_fits_statements.proofs.Anywhere.{fitting}
use Rattle.elab_fits_statements.proofs.Wholes.{whole_value, whole_object}
use Rattle.elab_fits_statements.proofs.Forms.{value_kid, nowhere_open, as_item, all_kids, from_two, block_serves, two_enough}

-- The type and the category of a whole

pub whole_typ : (at : At) (e : Tree) → throws_object e ≡ false → typ_in (full at e) ≡ typ_in e
whole_typ at e n = by_hold (holds_temporary e)
  where
    by_hold : (b : Bool) → typ_in (whole_if b at e) ≡ typ_in e
    by_hold true = ap (λ (x : Bool). typ_in (whole_of at (if x then without_value (place_of e) e else e))) n
    by_hold false = refl

pub whole_cat : (at : At) (e : Tree) → throws_object e ≡ false → cat_of (full at e) ≡ cat_of e
whole_cat at e n = by_hold (holds_temporary e)
  where
    by_hold : (b : Bool) → cat_of (whole_if b at e) ≡ cat_of e
    by_hold true = ap (λ (x : Bool). cat_of (whole_of at (if x then without_value (place_of e) e else e))) n
    by_hold false = refl

and_false : (a : Bool) {b : Bool} → b ≡ false → (a && b) ≡ false
and_false true h = h
and_false false h = refl

no_class_thrown : (e : Tree) → is_class_typ (typ_in e) ≡ false → throws_object e ≡ false
no_class_thrown e h = and_false (is_throw (kind_of e)) h

-- no `throw` is an lvalue
lvalue_thrown : (s : Setting) (p : Position) (e : Tree) → fits s p Value e ≡ true → cat_of e ≡ Lvalue → throws_object e ≡ false
lvalue_thrown s p (node forms.Throw t Prvalue at kids) h c = absurd cc
lvalue_thrown s p (node forms.Throw t Lvalue at kids) h c = clash _ false refl (fitting s p Value forms.Throw t Lvalue kids h).row
lvalue_thrown s p (node forms.Rethrow t Prvalue at kids) h c = absurd cc
lvalue_thrown s p (node forms.Rethrow t Lvalue at kids) h c = clash _ false refl (fitting s p Value forms.Rethrow t Lvalue kids h).row
lvalue_thrown s p (node kind t cat at kids) h c = refl

-- Conditions

scalar_class : (f : Form) → is_scalar f ≡ true → is_class_typ (plain f) ≡ false
scalar_class (int k) h = refl
scalar_class (enum n x) h = refl
scalar_class null h = refl
scalar_class (ptr t) h = refl
scalar_class f h = absurd cc

pub given_thrown : (s : Setting) (f : Form) (e : Tree) → Gives s f e → throws_object e ≡ false
given_thrown s f e h = no_class_thrown e (ap is_class_typ h.typed ∙ scalar_class f h.scalar)

pub condition_fits : (s : Setting) (at : At) (e : Tree) → Gives s (int BoolKind) e → IsCondition s (full at e)
condition_fits s at e h = record {
  fits = whole_value s at e h.fits;
  truth = both (ap is_prvalue (head_cat (full at e) ∙ whole_cat at e n ∙ h.category))
      (ap (λ (t : Typ). typ_eq t (plain (int BoolKind))) (head_typ (full at e) ∙ whole_typ at e n ∙ h.typed));
}
  where
    n : throws_object e ≡ false
    n = given_thrown s (int BoolKind) e h

-- Variables

locals : (place : ℕ) → Simple (forms.Local place) (only [])
locals place = record { is_value = refl; anywhere = λ f p n. refl; unbranched = λ t hs. refl; asks = λ a b. refl; no_switch = refl }

pub local_fits : (s : Setting) (place : ℕ) (t : Typ) (at : At) → HasItem s place t → FitsAnywhere s Value (node (forms.Local place) t Lvalue at none)
local_fits s place t at h = λ p. node_fits s p Value (forms.Local place) t Lvalue at none (only []) refl refl refl refl h refl refl refl refl

-- the item of a place whose variable fits
pub item_of_fit : (s : Setting) (place : ℕ) (t : Typ) (at : At) → FitsAnywhere s Value (node (forms.Local place) t Lvalue at none) → HasItem s place t
item_of_fit s place t at h = (fitting s nowhere_open Value (forms.Local place) t Lvalue none (h nowhere_open)).row

pub variable_stands : (s : Setting) (st : State) (t : Typ) (at : At) → HasItem s (next_place st.work) t → FitsAnywhere s Value (variable_tree st t at)
variable_stands s st t at h = local_fits s (next_place st.work) t at h

-- a destruction asks nothing of its position
destruction_serves : (s : Setting) (b c : Bool) (e : Tree) → FitsAs s Destruction e → Serves s b c Destruction e
destruction_serves s b c (node (forms.Destroy f o k d) t cat at none) h = record { fits = λ p a. h within refl; kid = refl }
  where
    within : Position
    within = record { full = true; breaks = false; continues = false }
destruction_serves s b c (node (forms.Destroy f o k d) t cat at (more e es)) h = clash _ false refl
    (fitting s within Destruction (forms.Destroy f o k d) t cat (more e es) (h within refl)).within
  where
    within : Position
    within = record { full = true; breaks = false; continues = false }
destruction_serves s b c (node kind t cat at kids) h = clash _ false refl (h within refl)
  where
    within : Position
    within = record { full = true; breaks = false; continues = false }

pub destructions_serve : (s : Setting) (b c : Bool) (ts : Trees) → AllFit s Destruction ts → AllServe s b c Destruction ts
destructions_serve s b c none h = tt
destructions_serve s b c (more t ts) (h, hs) = (destruction_serves s b c t h, destructions_serve s b c ts hs)

-- an object with what builds and destroys it
declares : (s : Setting) (at : At) (t : Typ) (variable init : Tree) (ds : Trees) → FitsAnywhere s Value variable → typ_in variable ≡ t
    → cat_of variable ≡ Lvalue
    → BuildsAnywhere s t init → DestroysOne s t ds → Serves s false false BlockItem (statement forms.Init at (more variable (more init ds)))
declares s at t variable init ds v e l b d = record {
  fits = λ p a. node_fits s p BlockItem forms.Init (plain void) Prvalue at (more variable (more init ds)) (and_any (Value ∷ Initialiser ∷ []) Destruction)
      refl refl
      refl refl (or_left _ (both (both (ap is_lvalue (head_cat variable ∙ l))
      (ap (λ (u : Typ). builds u (head_of init)) (head_typ variable ∙ e) ∙ b.builds))
      (ap (λ (u : Typ). are_destructions s u (heads_of ds)) (head_typ variable ∙ e) ∙ d.right)))
      (ap (λ (c : Cat). and_any (Value ∷ cond (is_prvalue c) Zero Initialiser ∷ []) Destruction) (head_cat variable ∙ l)) (two_enough ds) refl
      (both (both (value_kid s p variable (v p)) (v p)) (both (both (initial_kid s p init (b.fits p)) (b.fits p))
      (all_kids s false false p (and_any (Value ∷ Initialiser ∷ []) Destruction) Destruction 2 ds a (from_two Value Initialiser Destruction) refl
      (destructions_serve s false false ds d.fit))));
  kid = refl;
}

pub variable_fits : (s : Setting) (st : State) (t : Typ) (at p : At) (variable init : Tree) → FitsAnywhere s Value variable → typ_in variable ≡ t
    → cat_of variable ≡ Lvalue → BuildsWhole s t init → DestroysOne s t (destroys st.ctx at t)
    → Serves s false false BlockItem (init_node st t at p variable init)
variable_fits s st t at p variable init v e l b d = declares s at t variable (full p init) (destroys st.ctx at t) v e l
    (whole_object s p t init b.one b.no_throw) d

-- `return`

pub end_fits : (s : Setting) (at : At) → has_value (result_of s.function) ≡ false → Serves s false false Statement (return_node at none)
end_fits s at h = record {
  fits = λ p a. node_fits s p Statement forms.Return (plain void) Prvalue at none (and_any [] Value) refl refl refl refl (ap not h) refl refl refl refl;
  kid = refl;
}

value_returned : (s : Setting) (at : At) (e : Tree) → has_value (result_of s.function) ≡ true → FitsAnywhere s Value e
    → initialises (result_of s.function) (head_of e) ≡ true → Serves s false false Statement (return_node at (one e))
value_returned s at e h f i = record {
  fits = λ p a. node_fits s p Statement forms.Return (plain void) Prvalue at (one e) (and_any [] Value) refl refl refl refl (both h (or_left _ i)) refl refl
      refl
      (both (both (value_kid s p e (f p)) (f p)) refl);
  kid = refl;
}

lvalue_row : (u : Typ) (h : Head) → word_kind h.typ h.cat ≡ Some ULong → is_retyped u Lvalue h ≡ true
lvalue_row (typ void c v) h e = or_left _ (ap (λ (o : Option IntKind). same_kind (Some ULong) o) e)
lvalue_row (typ f c v) h e = or_left _ (ap (λ (o : Option IntKind). same_kind (Some ULong) o) e)

lvalue_word : (e : Tree) → cat_of e ≡ Lvalue → word_kind (head_of e).typ (head_of e).cat ≡ Some ULong
lvalue_word (node kind t Lvalue at kids) h = refl
lvalue_word (node kind t Prvalue at kids) h = absurd cc

retypes : Simple forms.Retype (only (Value ∷ []))
retypes = record { is_value = refl; anywhere = λ f p n. refl; unbranched = λ t hs. refl; asks = λ a b. refl; no_switch = refl }

-- an lvalue seen as one of another type
record IsSeen (s : Setting) (u : Typ) (e : Tree) : Type 0 where
  fits : FitsAs s Value e
  category : cat_of e ≡ Lvalue
  typed : typ_eq u (typ_in e) ≡ true

seen : (s : Setting) (p : At) (u : Typ) (e : Tree) → FitsAs s Value e → cat_of e ≡ Lvalue → IsSeen s u (seen_as p u e)
seen s p u e h l = by_type (typ_eq u (typ_in e)) refl
  where
    by_type : (b : Bool) → typ_eq u (typ_in e) ≡ b → IsSeen s u (if b then e else retyped p u Lvalue e)
    by_type true k = record { fits = h; category = l; typed = k }
    by_type false k = record {
      fits = one_kid s forms.Retype u Lvalue p e retypes refl (lvalue_row u (head_of e) (lvalue_word e l)) h;
      category = refl;
      typed = typ_refl u;
    }

abbrev within : Position
within = record { full = true; breaks = false; continues = false }

-- what a reference refers to, behind the temporaries of the whole
bound_whole : (s : Setting) (p : At) (u : Typ) (c v : Bool) (e : Tree) → Initialises s (typ (ref u) c v) e
    → initialises (typ (ref u) c v) (head_of (full p (statements.result_of (typ (ref u) c v) p e))) ≡ true
bound_whole s p u c v e h = by_hold (holds_temporary e) refl
  where
    parts : (is_lvalue (head_of e).cat ≡ true) × ((typ_eq u (head_of e).typ || (is_temporary (head_of e).kind && typ_eq (unqualified u) (head_of e).typ)) ≡
        true)
    parts = and_parts (is_lvalue (head_of e).cat) (typ_eq u (head_of e).typ || (is_temporary (head_of e).kind && typ_eq (unqualified u) (head_of e).typ))
        h.initialises

    lvalue : cat_of e ≡ Lvalue
    lvalue = lvalue_is (cat_of e) (ap is_lvalue (sym (head_cat e)) ∙ parts.0)

    told : (x : Tree) → IsSeen s u x → is_bound u (head_of (full p x)) ≡ true
    told x k =
        let n = lvalue_thrown s within x (k.fits within refl) k.category in
        both (ap is_lvalue (head_cat (full p x) ∙ whole_cat p x n ∙ k.category))
        (or_left _ (ap (λ (t : Typ). typ_eq u t) (head_typ (full p x) ∙ whole_typ p x n) ∙ k.typed))

    by_hold : (b : Bool) → holds_temporary e ≡ b → is_bound u (head_of (full p (if b then seen_as p u e else e))) ≡ true
    by_hold true k = told (seen_as p u e) (seen s p u e h.fits lvalue)
    by_hold false k = subst (λ (b : Bool). is_bound u (head_of (whole_if b p e)) ≡ true) (sym k) h.initialises

seen_if : (s : Setting) (p : At) (u : Typ) (e : Tree) (b : Bool) → FitsAs s Value e → cat_of e ≡ Lvalue → FitsAs s Value (if b then seen_as p u e else e)
seen_if s p u e true h l = (seen s p u e h l).fits
seen_if s p u e false h l = h

unqualified_class : (t : Typ) → is_class_typ (unqualified t) ≡ is_class_typ t
unqualified_class (typ f c v) = refl

-- a scalar
scalar_whole : (s : Setting) (p : At) (t : Typ) (e : Tree) → is_class_typ t ≡ false → FitsAs s Value e → is_prvalue_of (unqualified t) (head_of e) ≡ true
    → is_prvalue_of (unqualified t) (head_of (full p e)) ≡ true
scalar_whole s p t e n h i =
    let a = and_parts (is_prvalue (head_of e).cat) (typ_eq (unqualified t) (head_of e).typ) i in
    let same : unqualified t ≡ typ_in e = typ_same (unqualified t) (head_of e).typ a.1 ∙ head_typ e in
    let m = no_class_thrown e (ap is_class_typ (sym same) ∙ unqualified_class t ∙ n) in
    both (ap is_prvalue (head_cat (full p e) ∙ whole_cat p e m ∙ sym (head_cat e)) ∙ a.0)
    (ap (λ (u : Typ). typ_eq (unqualified t) u) (head_typ (full p e) ∙ whole_typ p e m ∙ sym (head_typ e)) ∙ a.1)

valued_class : (t : Typ) → has_value t ≡ true → is_class_typ t ≡ false
valued_class t h = not_true (is_class_typ t) (and_parts (not (is_void t)) (not (is_class_typ t)) h).1
  where
    not_true : (b : Bool) → not b ≡ true → b ≡ false
    not_true true k = absurd cc
    not_true false k = refl

record IsReturned (s : Setting) (t : Typ) (e : Tree) : Type 0 where
  fits : FitsAnywhere s Value e
  initialises : initialises t (head_of e) ≡ true

returned_whole : (s : Setting) (p : At) (t : Typ) (e : Tree) → has_value t ≡ true → Initialises s t e → IsReturned s t (full p (statements.result_of t p e))
returned_whole s p (typ (ref u) c v) e h i = record {
  fits = whole_value s p (statements.result_of (typ (ref u) c v) p e) (seen_if s p u e (holds_temporary e) i.fits
      (lvalue_is (cat_of e) (ap is_lvalue (sym (head_cat e)) ∙ (and_parts (is_lvalue (head_of e).cat) _ i.initialises).0)));
  initialises = bound_whole s p u c v e i;
}
returned_whole s p (typ f c v) e h i = record {
  fits = whole_value s p e i.fits;
  initialises = scalar_whole s p (typ f c v) e (valued_class (typ f c v) h) i.fits i.initialises;
}

pub return_fits : (s : Setting) (at p : At) (e : Tree) → has_value (result_of s.function) ≡ true → Initialises s (result_of s.function) e
    → Serves s false false Statement (return_node at (one (full p (statements.result_of (result_of s.function) p e))))
return_fits s at p e h i =
    let r = returned_whole s p (result_of s.function) e h i in
    value_returned s at (full p (statements.result_of (result_of s.function) p e)) h r.fits r.initialises

-- Objects of classes

loads : (k : IntKind) (v : Bool) → Simple (forms.Load k v) (only (Value ∷ []))
loads k v = record { is_value = refl; anywhere = λ f p n. refl; unbranched = λ t hs. refl; asks = λ a b. refl; no_switch = refl }

pub result_stands : (s : Setting) (t : Typ) (at : At) → is_class_typ t ≡ true → HasItem s 0 (plain (ptr t)) → FitsAnywhere s Value (result_object t at)
result_stands s t at c h = λ p. node_fits s p Value (forms.Load ULong false) t Lvalue at (one (node (forms.Local 0) (plain (ptr t)) Lvalue at none))
    (only (Value ∷ [])) refl refl refl refl (both refl (both c c)) refl refl refl
    (both (both refl (local_fits s 0 (plain (ptr t)) at h p)) refl)

class_value : (t : Typ) → is_class_typ t ≡ true → has_value t ≡ false
class_value t h = and_false (not (is_void t)) (ap not h)

pub object_returned : (s : Setting) (at : At) (f : Full) (m : Made) → is_class_typ (result_of s.function) ≡ true
    → HasItem s 0 (plain (ptr (result_of s.function))) → BuildsWhole s (result_of s.function) m.tree
    → Serves s false false Statement (class_returned at (result_of s.function) f m)
object_returned s at f m c h b = (block_serves s false false at
    (two (statement forms.Init at (two (result_object (result_of s.function) at) (full f.operand.at m.tree))) (return_node at none)) (
      declares s at (result_of s.function) (result_object (result_of s.function) at) (full f.operand.at m.tree) none
          (result_stands s (result_of s.function) at c h) refl refl (whole_object s f.operand.at (result_of s.function) m.tree b.one b.no_throw)
          (record { fit = tt; right = refl }),
      (as_item s false false (return_node at none) (end_fits s at (class_value (result_of s.function) c)), tt),
    )).0
