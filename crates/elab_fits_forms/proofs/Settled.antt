-- Operands beside others, and `,` with objects of classes.
use Rattle.std.proofs.Common.{◌≡◌, refl, sym, ap, ◌∙◌, subst, ℕ, zero, suc, Bool, true, false, not, ◌||◌, List, [], ◌∷◌, ◌++◌, slice_get, Some, eq-eqb}
use Rattle.elab_rules.specs.cpp_types.Typ.{Typ, typ, void, int, enum, null, ptr, ref, array, func, class, closure, tx_ex}
use Rattle.elab_rules.specs.cpp_types.Conversion.{is_lvalue}
use Rattle.elab_rules.specs.cpp_types.Equal.{typ_eq, form_eq}
use Rattle.elab_rules.specs.cpp_types.declared.classes.At.{At}
use Rattle.elab_rules.specs.cpp_types.declared.ranks.Cat.{Cat}
use Rattle.elab_rules.specs.cpp_types.declared.ranks.Cat.TheVariants.{Lvalue, Prvalue}
use Rattle.elab_rules.specs.cpp_tree.declared.kinds.TKind.TheVariants.{Comma, CopyFrom, Retype}
use Rattle.elab_rules.specs.cpp_tree.declared.roles.Position.{Position}
use Rattle.elab_rules.specs.cpp_tree.declared.roles.Role.TheVariants.{Value, Initialiser, CopyInit}
use Rattle.elab_rules.specs.cpp_tree.Trees.{Tree, node, two, typ_in, cat_of}
use Rattle.elab_rules.specs.cpp_tree.Typing.{head_of, form_in, is_prvalue, is_class_typ, is_class_prvalue, builds, same_shape}
use Rattle.elab_rules.specs.cpp_tree.Typing.{goes_both_ways}
use Rattle.elab_rules.specs.cpp_tree.Roles.{only, is_throw as is_thrown, is_full}
use Rattle.elab_rules.specs.cpp_tree.Rows.{Setting, is_copied_from}
use Rattle.elab_rules.specs.cpp_tree.WellFormed.{fits, kids_fit}
use Rattle.elab_rules.specs.elab_ctx.Ctx.{Ctx, Work, with_item}
use Rattle.elab_rules.specs.elab_ctx.Steps.{Operand, Made}
use Rattle.elab_rules.specs.Values.{builder}
use Rattle.elab_rules.specs.Objects.{copies}
use Rattle.elab_rules.specs.Initialising.{object_of, exception_copied, is_written_exception}
use Rattle.elab_rules.specs.Operators.{dropped, settled, comma_of, comma}
use Rattle.elab_fits.specs.Standing.{FitsAs, IsExpressionType, Reaches}
use Rattle.elab_fits.specs.Objects.{CopiesOne, is_closure}
use Rattle.elab_fits.proofs.Equal.{typ_refl, form_refl}
use Rattle.elab_fits.proofs.Nodes.{both, or_left, or_right, clash, head_typ, head_cat, node_fits, value_kid, copy_kid, initial_kid}
use Rattle.elab_fits.proofs.Comma.{pair_stands, written_object, same_row}
use Rattle.elab_fits.proofs.Copies.{copies_law}
use Rattle.elab_fits_forms.specs.Types.{is_sound, IsWhole}
use Rattle.elab_fits_objects.specs.Contexts.{copies_itself}
use Rattle.elab_fits_objects.proofs.Types.{ready_more}
use Rattle.elab_fits_forms.specs.Meaning.{Proper, IsObject, ProperOperand}
use Rattle.elab_fits_forms.specs.Context.{Holds}
use Rattle.elab_fits_forms.specs.Forms.{MadeStands}
use Rattle.elab_fits_forms.proofs.Proper.{object_fits}
use Rattle.elab_fits_forms.proofs.Temporaries.{prvalue_class, object_is, object_typ}
use Rattle.elab_fits_forms.proofs.Dropped.{if_made, dropped_value}

-- Objects that are built as prvalues

-- an expression that is its own initialiser
pub record IsBuilt (s : Setting) (c : Ctx) (e : Tree) : Type 0 where
  pub typed : is_class_typ (typ_in e) ≡ true
  pub category : cat_of e ≡ Prvalue
  pub sound : is_sound c.classes (typ_in e) ≡ true
  pub whole : IsWhole c.classes (typ_in e)
  pub itself : builder e ≡ e
  pub copied : copies_itself e ≡ true
  pub fits : FitsAs s Initialiser e
  pub builds : builds (typ_in e) (head_of e) ≡ true

class_expression : (t : Typ) (cat : Cat) → is_class_typ t ≡ true → cat ≡ Prvalue → IsExpressionType t cat
class_expression (typ (class n) q v) cat k e = subst (λ (z : Cat). IsExpressionType (typ (class n) q v) z) (sym e) (λ n. absurd cc)
class_expression (typ (closure n) q v) cat k e = subst (λ (z : Cat). IsExpressionType (typ (closure n) q v) z) (sym e) (λ n. absurd cc)
class_expression (typ (tx_ex u) q v) cat k e = subst (λ (z : Cat). IsExpressionType (typ (tx_ex u) q v) z) (sym e) (λ n. absurd cc)
class_expression (typ f q v) cat k e = absurd cc

built_class : (t : Typ) (cat : Cat) → is_class_typ t ≡ true → cat ≡ Prvalue → is_class_prvalue t cat ≡ true
built_class t cat k e = ap (λ (z : Cat). is_class_prvalue t z) e ∙ k

pub proper_built : (s : Setting) (c : Ctx) (e : Tree) → IsBuilt s c e → Proper s c e
proper_built s c e h = record {
  stands = record {
    typed = class_expression (typ_in e) (cat_of e) h.typed h.category;
    value = λ n. clash (FitsAs s Value e) (is_class_prvalue (typ_in e) (cat_of e)) n (built_class (typ_in e) (cat_of e) h.typed h.category);
    object = λ n. subst (λ (x : Tree). FitsAs s Initialiser x) (sym h.itself) h.fits;
    built = λ n. ap (λ (x : Tree). builds (typ_in e) (head_of x)) h.itself ∙ h.builds;
  };
  sound = h.sound;
  nothing = λ v. h.category;
  whole = λ n. h.whole;
  copied = λ n. ap copies_itself h.itself ∙ h.copied;
}

pub own_builds : (e : Tree) → cat_of e ≡ Prvalue → builds (typ_in e) (head_of e) ≡ true
own_builds e h = both (ap is_prvalue (head_cat e ∙ h)) (or_left _ (or_left _ (ap (λ (t : Typ). typ_eq (typ_in e) t) (head_typ e) ∙ typ_refl (typ_in e))))

-- A `std::tx_exception` that is written with its value is copied (C++14 5.16, 5.18)

pub copy_made : (s : Setting) (c : Ctx) (w : Work) (at : At) (t : Typ) → Holds s c w → IsWhole c.classes t → CopiesOne s t (copies c.classes at t)
copy_made s c w at t h x = copies_law s c at t h.setting x.sized (ready_more c.classes (is_closure (form_in t)) t x.ready)

copied_kids : (s : Setting) (p : Position) (a b : Tree) → fits s p Value a ≡ true → fits s p CopyInit b ≡ true
    → kids_fit s p (only (Value ∷ CopyInit ∷ [])) 0 (two a b) ≡ true
copied_kids s p a b h g = both (both (value_kid s p a h) h) (both (both (copy_kid s p b g) g) refl)

pub copy_fits : (s : Setting) (at : At) (t : Typ) (a b : Tree) → FitsAs s Value a → FitsAs s CopyInit b → is_copied_from t (head_of a) ≡ true
    → builds t (head_of b) ≡ true → FitsAs s Initialiser (node CopyFrom t Prvalue at (two a b))
copy_fits s at t a b h g i j = λ p full. node_fits s p Initialiser CopyFrom t Prvalue at (two a b) (only (Value ∷ CopyInit ∷ [])) refl refl refl refl
    (both (both refl i) j) refl refl refl (copied_kids s p a b (h p full) (g p full))

shape_refl : (t : Typ) → same_shape t t ≡ true
shape_refl (typ (array t n) q v) = both (eq-eqb n n refl) (shape_refl t)
shape_refl (typ void q v) = refl
shape_refl (typ (int k) q v) = form_refl (int k)
shape_refl (typ (enum n e) q v) = form_refl (enum n e)
shape_refl (typ null q v) = refl
shape_refl (typ (ptr t) q v) = form_refl (ptr t)
shape_refl (typ (ref t) q v) = form_refl (ref t)
shape_refl (typ (func g) q v) = form_refl (func g)
shape_refl (typ (class n) q v) = form_refl (class n)
shape_refl (typ (closure n) q v) = form_refl (closure n)
shape_refl (typ (tx_ex t) q v) = form_refl (tx_ex t)

record IsException (t : Typ) : Type 0 where
  pub value : Typ
  pub const : Bool
  pub volatile : Bool
  pub is : t ≡ typ (tx_ex value) const volatile

written_typ : (e : Tree) → is_written_exception e ≡ true → IsException (typ_in e)
written_typ (node Retype (typ (tx_ex u) q v) Prvalue at kids) h = record { value = u; const = q; volatile = v; is = refl }
written_typ (node kind t cat at kids) h = absurd cc

exception_built : (s : Setting) (c : Ctx) (w : Work) (at : At) (u : Typ) (q v : Bool) (e : Tree) → Holds s c w → IsObject s c e → typ_in e ≡ typ (tx_ex u) q v
    → is_sound c.classes (typ (tx_ex u) q v) ≡ true → IsWhole c.classes (typ (tx_ex u) q v) → IsBuilt s c (exception_copied c (typ (tx_ex u) q v) at e)
exception_built s c w at (typ f d y) q v e h o t i x = record {
  typed = refl;
  category = refl;
  sound = i;
  whole = x;
  itself = refl;
  copied = sym (ap (λ (z : Typ). form_eq (tx_ex (typ f d y)) (form_in z)) (sym t)) ∙ form_refl (tx_ex (typ f d y));
  fits = copy_fits s at (typ (tx_ex (typ f d y)) q v) e (copies c.classes at (typ f q v)) (object_fits s c e o)
      (copy_made s c w at (typ (tx_ex (typ f d y)) q v) h x).fits from (copy_made s c w at (typ (tx_ex (typ f d y)) q v) h x).builds;
  builds = or_left _ (or_left _ (typ_refl (typ (tx_ex (typ f d y)) q v)));
}
  where
    from : is_copied_from (typ (tx_ex (typ f d y)) q v) (head_of e) ≡ true
    from = both (ap is_lvalue (head_cat e ∙ o.category)) (or_left _ (ap (λ (z : Typ). same_shape (typ (tx_ex (typ f d y)) q v) z) (head_typ e ∙ t)
        ∙ shape_refl (typ (tx_ex (typ f d y)) q v)))

-- an operand beside another, which builds itself what it stands for
pub record IsSettled (s : Setting) (c : Ctx) (e : Tree) : Type 0 where
  pub proper : Proper s c e
  pub itself : is_class_prvalue (typ_in e) (cat_of e) ≡ true → builder e ≡ e

unwritten : (e : Tree) → is_written_exception e ≡ false → builder e ≡ e
unwritten (node Retype (typ (tx_ex u) q v) Prvalue at kids) h = absurd cc
unwritten (node kind t cat at kids) h = refl

pub settled_is : (s : Setting) (c : Ctx) (w w' : Work) (o : Operand) → Holds s c w' → ProperOperand s c o → Reaches s (settled c w o).work
    → IsSettled s c (settled c w o).tree
settled_is s c w w' o h x = if_made (λ (m : Made). Reaches s m.work → IsSettled s c m.tree) (is_written_exception o.tree) _ _
    (λ k r. written k r) (λ k r. record { proper = x.proper; itself = λ n. unwritten o.tree k })
  where
    written : is_written_exception o.tree ≡ true → Reaches s (object_of c w o.at o.tree).work
        → IsSettled s c (exception_copied c (typ_in o.tree) o.at (object_of c w o.at o.tree).tree)
    written k r =
        let n = written_object o.tree k in
        let t = written_typ o.tree k in
        let b : IsBuilt s c (exception_copied c (typ (tx_ex t.value) t.const t.volatile) o.at (object_of c w o.at o.tree).tree) =
        exception_built s c w' o.at t.value t.const t.volatile (object_of c w o.at o.tree).tree h
        (object_is s c w o.at o.tree h.setting h.makers.specials x.proper (prvalue_class (typ_in o.tree) (cat_of o.tree) n) r)
        (object_typ c w o.at o.tree ∙ t.is) (subst (λ (z : Typ). is_sound c.classes z ≡ true) t.is x.proper.sound)
        (subst (λ (z : Typ). IsWhole c.classes z) t.is (x.proper.whole n)) in
        subst (λ (z : Typ). IsSettled s c (exception_copied c z o.at (object_of c w o.at o.tree).tree)) (sym t.is)
        (record { proper = proper_built s c _ b; itself = λ m. b.itself })

-- What was made before

item_before : (xs : List Typ) (x t : Typ) (i : ℕ) → slice_get xs i ≡ Some t → slice_get (xs ++ x ∷ []) i ≡ Some t
item_before [] x t i h = absurd cc
item_before (y ∷ ys) x t zero h = h
item_before (y ∷ ys) x t (suc i) h = item_before ys x t i h

pub before_item : (s : Setting) (w : Work) (t : Typ) → Reaches s (with_item w t) → Reaches s w
before_item s w t r = record { frame = λ i u h. r.frame i u (item_before w.frame t u i h); globals = r.globals }

pub before_object : (s : Setting) (c : Ctx) (w : Work) (at : At) (e : Tree) → Reaches s (object_of c w at e).work → Reaches s w
before_object s c w at e = if_made (λ (m : Made). Reaches s m.work → Reaches s w) (is_class_prvalue (typ_in e) (cat_of e)) _ _
    (λ k r. before_item s w (typ_in e) r) (λ k r. r)

pub before_settled : (s : Setting) (c : Ctx) (w : Work) (o : Operand) → Reaches s (settled c w o).work → Reaches s w
before_settled s c w o = if_made (λ (m : Made). Reaches s m.work → Reaches s w) (is_written_exception o.tree) _ _
    (λ k r. before_object s c w o.at o.tree r) (λ k r. r)

-- `a, b` (C++14 5.18)

pair_kids : (s : Setting) (p : Position) (a b : Tree) → fits s p Value a ≡ true → fits s p Initialiser b ≡ true
    → kids_fit s p (only (Value ∷ Initialiser ∷ [])) 0 (two a b) ≡ true
pair_kids s p a b h g = both (both (value_kid s p a h) h) (both (both (initial_kid s p b g) g) refl)

pair_built : (s : Setting) (c : Ctx) (at : At) (x y : Tree) → FitsAs s Value x → IsSettled s c y → is_class_prvalue (typ_in y) (cat_of y) ≡ true
    → IsBuilt s c (comma_of at x y)
pair_built s c at x y h g n = record {
  typed = prvalue_class (typ_in y) (cat_of y) n;
  category = class_category (typ_in y) (cat_of y) n;
  sound = g.proper.sound;
  whole = g.proper.whole n;
  itself = refl;
  copied = refl;
  fits = λ p full. node_fits s p Initialiser Comma (typ_in y) (cat_of y) at (two x y) (only (Value ∷ Initialiser ∷ [])) refl
      (or_right (not (goes_both_ways Comma) || is_thrown Comma || is_full Comma) n) refl refl
      (same_row (typ_in y) (cat_of y) (head_of y) (head_typ y) (head_cat y)) refl refl refl
      (pair_kids s p x y (h p full) (subst (λ (z : Tree). fits s p Initialiser z ≡ true) (g.itself n) (g.proper.stands.object n p full)));
  builds = own_builds (comma_of at x y) (class_category (typ_in y) (cat_of y) n);
}
  where
    class_category : (t : Typ) (cat : Cat) → is_class_prvalue t cat ≡ true → cat ≡ Prvalue
    class_category t Prvalue h = refl
    class_category t Lvalue h = absurd cc

pair_proper : (s : Setting) (c : Ctx) (at : At) (x y : Tree) → FitsAs s Value x → IsSettled s c y → Proper s c (comma_of at x y)
pair_proper s c at x y h g = by (is_class_prvalue (typ_in y) (cat_of y)) refl
  where
    by : (b : Bool) → is_class_prvalue (typ_in y) (cat_of y) ≡ b → Proper s c (comma_of at x y)
    by true n = proper_built s c (comma_of at x y) (pair_built s c at x y h g n)
    by false n = record {
      stands = pair_stands s at x y h g.proper.stands n;
      sound = g.proper.sound;
      nothing = g.proper.nothing;
      whole = g.proper.whole;
      copied = λ m. clash (copies_itself (builder (comma_of at x y)) ≡ true) (is_class_prvalue (typ_in y) (cat_of y)) n m;
    }

pub commas_stand : (s : Setting) (c : Ctx) (w : Work) (at : At) (a b : Operand) → Holds s c w → ProperOperand s c a → ProperOperand s c b
    → MadeStands s c (comma c w at a b)
commas_stand s c w at a b h x y = λ r. pair_proper s c at (dropped c w a).tree (settled c (dropped c w a).work b).tree
    (dropped_value s c w w a h x (before_settled s c (dropped c w a).work b r)) (settled_is s c (dropped c w a).work w b h y r)
