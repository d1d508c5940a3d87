-- Expressions that stand and are of sound types.
use Rattle.std.proofs.Common.{◌≡◌, refl, ap, ◌∙◌, ℕ, Bool, true, ◌||◌, [], ◌∷◌, Option, Some}
use Rattle.elab_rules.specs.tx_ints.declared.kinds.IntKind.{IntKind}
use Rattle.elab_rules.specs.tx_ints.declared.kinds.IntKind.TheVariants.{ULong}
use Rattle.elab_rules.specs.tx_ints.declared.kinds.BinOp.TheVariants.{Add}
use Rattle.elab_rules.specs.cpp_types.Typ.{Typ, typ, Form, void, int, enum, null, ptr, ref, array, func, class, closure, tx_ex}
use Rattle.elab_rules.specs.cpp_types.declared.classes.At.{At}
use Rattle.elab_rules.specs.cpp_types.declared.ranks.Cat.{Cat}
use Rattle.elab_rules.specs.cpp_types.declared.ranks.Cat.TheVariants.{Lvalue, Prvalue}
use Rattle.elab_rules.specs.cpp_tree.declared.kinds.TKind.{TKind}
use Rattle.elab_rules.specs.cpp_tree.declared.kinds.TKind.TheVariants.{Binary}
use Rattle.elab_rules.specs.cpp_tree.declared.roles.Role.TheVariants.{Value}
use Rattle.elab_rules.specs.cpp_tree.Trees.{Tree, node, Trees, typ_in, cat_of}
use Rattle.elab_rules.specs.cpp_tree.Typing.{head_of, is_void, is_class_prvalue, is_kind, word_kind, is_word_of}
use Rattle.elab_rules.specs.cpp_tree.Roles.{only}
use Rattle.elab_rules.specs.cpp_tree.Rows.{Setting}
use Rattle.elab_rules.specs.elab_ctx.Ctx.{Ctx}
use Rattle.elab_rules.specs.Values.{number, part_at, retyped, builder, valued}
use Rattle.elab_fits.specs.Standing.{FitsAs, Stands}
use Rattle.elab_fits.specs.Scalars.{Gives}
use Rattle.elab_fits.proofs.Nodes.{both, clash, head_typ, head_cat, of_value, Simple, two_kids}
use Rattle.elab_fits.proofs.Values.{given_stands, no_object, number_gives, value_gives, lvalue_stands}
use Rattle.elab_fits.proofs.Arithmetic.{part_stands}
use Rattle.elab_fits_forms.specs.Types.{is_sound, is_sound_form, is_target, IsWhole}
use Rattle.elab_fits_objects.specs.Contexts.{copies_itself}
use Rattle.elab_fits_forms.specs.Meaning.{Proper, IsObject}
use Rattle.elab_fits_forms.proofs.Types.{target_type, target_sound, target_no_void, requalified_target}

-- an lvalue that stands
pub proper_lvalue : (s : Setting) (c : Ctx) (e : Tree) → Stands s e → cat_of e ≡ Lvalue → is_target c.classes (typ_in e) ≡ true → Proper s c e
proper_lvalue s c e h l t = record {
  stands = h;
  sound = target_sound c.classes (typ_in e) t;
  nothing = λ v. l' v;
  whole = λ k. clash (IsWhole c.classes (typ_in e)) (is_class_prvalue (typ_in e) (cat_of e)) (ap (λ (z : Cat). is_class_prvalue (typ_in e) z) l) k;
  copied = λ k. clash (copies_itself (builder e) ≡ true) (is_class_prvalue (typ_in e) (cat_of e)) (ap (λ (z : Cat). is_class_prvalue (typ_in e) z) l) k;
}
  where
    l' : is_void (typ_in e) ≡ true → cat_of e ≡ Prvalue
    l' v = clash (cat_of e ≡ Prvalue) (is_void (typ_in e)) (target_no_void c.classes (typ_in e) t) v

pub lvalue_node : (s : Setting) (c : Ctx) (kind : TKind) (t : Typ) (at : At) (kids : Trees) → FitsAs s Value (node kind t Lvalue at kids)
    → is_target c.classes t ≡ true → Proper s c (node kind t Lvalue at kids)
lvalue_node s c kind t at kids h i = proper_lvalue s c (node kind t Lvalue at kids)
    (of_value s (node kind t Lvalue at kids) (target_type c.classes t i) refl h) refl i

-- the value of a scalar
pub proper_value : (s : Setting) (c : Ctx) (f : Form) (e : Tree) → Gives s f e → is_sound_form c.classes f ≡ true → Proper s c e
proper_value s c f e g h = record {
  stands = given_stands s f e g;
  sound = ap (λ (t : Typ). is_sound c.classes t) g.typed ∙ h;
  nothing = λ v. g.category;
  whole = λ k. clash (IsWhole c.classes (typ_in e)) (is_class_prvalue (typ_in e) (cat_of e)) (no_object s f e g) k;
  copied = λ k. clash (copies_itself (builder e) ≡ true) (is_class_prvalue (typ_in e) (cat_of e)) (no_object s f e g) k;
}

-- what lies at an offset in an object, and what a pointer points to
pub object_word : (s : Setting) (c : Ctx) (e : Tree) → IsObject s c e → word_kind (typ_in e) (cat_of e) ≡ Some ULong
object_word s c e o = ap (λ (z : Cat). word_kind (typ_in e) z) o.category

pub object_fits : (s : Setting) (c : Ctx) (e : Tree) → IsObject s c e → FitsAs s Value e
object_fits s c e o = o.proper.stands.value (ap (λ (z : Cat). is_class_prvalue (typ_in e) z) o.category)

pub proper_part : (s : Setting) (c : Ctx) (offset : ℕ) (t : Typ) (at : At) (e : Tree) → word_kind (typ_in e) (cat_of e) ≡ Some ULong → FitsAs s Value e
    → is_word_of ULong offset ≡ true → is_target c.classes t ≡ true → Proper s c (part_at offset t at e)
proper_part s c offset t at e h g w i = proper_lvalue s c (part_at offset t at e) (part_stands s offset t at e h g w (target_type c.classes t i)) refl i

pub proper_retyped : (s : Setting) (c : Ctx) (t : Typ) (at : At) (e : Tree) → word_kind (typ_in e) (cat_of e) ≡ Some ULong → FitsAs s Value e
    → is_target c.classes t ≡ true → Proper s c (retyped at t Lvalue e)
proper_retyped s c t at e h g i = proper_lvalue s c (retyped at t Lvalue e) (lvalue_stands s at t e h g (target_type c.classes t i)) refl i

pub proper_object : (s : Setting) (c : Ctx) (e : Tree) → Proper s c e → cat_of e ≡ Lvalue → IsObject s c e
proper_object s c e p l = record { proper = p; category = l }

-- the same where a reference lies there, which is read at once
binaries : Simple (Binary Add ULong) (only (Value ∷ Value ∷ []))
binaries = record { is_value = refl; anywhere = λ f p n. refl; unbranched = λ t hs. refl; asks = λ a b. refl; no_switch = refl }

pub part_fits : (s : Setting) (offset : ℕ) (t : Typ) (at : At) (e : Tree) → word_kind (typ_in e) (cat_of e) ≡ Some ULong → FitsAs s Value e
    → is_word_of ULong offset ≡ true → FitsAs s Value (part_at offset t at e)
part_fits s offset t at e h g w = two_kids s (Binary Add ULong) t Lvalue at e (number ULong offset at) binaries refl
    (both (both (ap (λ (k : Option IntKind). is_kind ULong k) (ap (λ (u : Typ). word_kind u (head_of e).cat) (head_typ e)
    ∙ ap (λ (z : Cat). word_kind (typ_in e) z) (head_cat e) ∙ h)) refl) refl)
    g (number_gives s ULong offset at w).fits

-- Values (C++14 4.1 to 4.3)

valued_by : (s : Setting) (c : Ctx) (at : At) (kind : TKind) (f : Form) (q v : Bool) (cat : Cat) (p : At) (kids : Trees)
    → Proper s c (node kind (typ f q v) cat p kids) → Proper s c (valued at (node kind (typ f q v) cat p kids))
valued_by s c at kind (func g) q v cat p kids h = proper_value s c _ _ (value_gives s at (node kind (typ (func g) q v) cat p kids) h.stands refl) h.sound
valued_by s c at kind (array (typ g a b) n) q v cat p kids h =
    proper_value s c _ _ (value_gives s at (node kind (typ (array (typ g a b) n) q v) cat p kids) h.stands refl)
    (requalified_target c.classes g a b (a || q) (b || v) h.sound)
valued_by s c at kind (int j) q v Lvalue p kids h = proper_value s c _ _ (value_gives s at (node kind (typ (int j) q v) Lvalue p kids) h.stands refl) h.sound
valued_by s c at kind (enum n e) q v Lvalue p kids h =
    proper_value s c _ _ (value_gives s at (node kind (typ (enum n e) q v) Lvalue p kids) h.stands refl) h.sound
valued_by s c at kind null q v Lvalue p kids h = proper_value s c _ _ (value_gives s at (node kind (typ null q v) Lvalue p kids) h.stands refl) h.sound
valued_by s c at kind (ptr t) q v Lvalue p kids h = proper_value s c _ _ (value_gives s at (node kind (typ (ptr t) q v) Lvalue p kids) h.stands refl) h.sound
valued_by s c at kind (ref t) q v Lvalue p kids h = absurd h.stands.typed
valued_by s c at kind void q v Lvalue p kids h = h
valued_by s c at kind (class n) q v Lvalue p kids h = h
valued_by s c at kind (closure n) q v Lvalue p kids h = h
valued_by s c at kind (tx_ex t) q v Lvalue p kids h = h
valued_by s c at kind f q v Prvalue p kids h = h

pub proper_valued : (s : Setting) (c : Ctx) (at : At) (e : Tree) → Proper s c e → Proper s c (valued at e)
proper_valued s c at (node kind (typ f q v) cat p kids) h = valued_by s c at kind f q v cat p kids h
