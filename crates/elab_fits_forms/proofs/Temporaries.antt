-- The object that a class prvalue stands for, in a temporary.
use Rattle.std.proofs.Common.{◌≡◌, refl, ap, ◌∙◌, ℕ, suc, Bool, true, false, [], ◌∷◌, length}
use Rattle.std.proofs.Common.{Option, arith, le-leb}
use Rattle.std.specs.Prelude.{if◌then◌else◌}
use Rattle.elab_rules.specs.cpp_types.Typ.{Typ, typ, class, closure, tx_ex}
use Rattle.elab_rules.specs.cpp_types.Equal.{typ_eq}
use Rattle.elab_rules.specs.cpp_types.declared.classes.At.{At}
use Rattle.elab_rules.specs.cpp_types.declared.ranks.Cat.{Cat}
use Rattle.elab_rules.specs.cpp_types.declared.ranks.Cat.TheVariants.{Lvalue, Prvalue}
use Rattle.elab_rules.specs.cpp_tree.declared.kinds.TKind.TheVariants.{Materialize}
use Rattle.elab_rules.specs.cpp_tree.declared.roles.Position.{Position}
use Rattle.elab_rules.specs.cpp_tree.declared.roles.Role.TheVariants.{Value, Initialiser, Destruction}
use Rattle.elab_rules.specs.cpp_tree.Trees.{Tree, Trees, none, more, typ_in, cat_of}
use Rattle.elab_rules.specs.cpp_tree.Typing.{head_of, form_in, passes, is_class_typ, is_class_prvalue, builds}
use Rattle.elab_rules.specs.cpp_tree.Roles.{and_any}
use Rattle.elab_rules.specs.cpp_tree.Rows.{Setting, at_place}
use Rattle.elab_rules.specs.cpp_tree.WellFormed.{kids_fit, heads_of}
use Rattle.elab_rules.specs.elab_ctx.Ctx.{Ctx, Work, with_item, next_place}
use Rattle.elab_rules.specs.Values.{temporary, builder}
use Rattle.elab_rules.specs.Objects.{destroys}
use Rattle.elab_rules.specs.Initialising.{object_of}
use Rattle.elab_fits_objects.proofs.Types.{ready_more}
use Rattle.elab_fits.specs.Standing.{FitsAs, IsSetting, Reaches}
use Rattle.elab_fits.specs.Objects.{HasSpecials, AllFit, DestroysOne, has_lambdas, is_closure}
use Rattle.elab_fits.proofs.Equal.{typ_refl}
use Rattle.elab_fits.proofs.Nodes.{both, or_right, clash, node_fits, initial_kid, destruction_kid}
use Rattle.elab_fits.proofs.Destructions.{destructions_law}
use Rattle.elab_fits.proofs.Binding.{last_item}
use Rattle.elab_fits_forms.specs.Types.{IsWhole}
use Rattle.elab_fits_forms.specs.Meaning.{Proper, IsObject}
use Rattle.elab_fits_forms.proofs.Types.{class_target}
use Rattle.elab_fits_forms.proofs.Proper.{lvalue_node, proper_object}

-- Kids

destroying_kids : (s : Setting) (p : Position) (i : ℕ) (ds : Trees) → AllFit s Destruction ds → p.full ≡ true
    → kids_fit s p (and_any (Initialiser ∷ []) Destruction) (suc i) ds ≡ true
destroying_kids s p i none h full = refl
destroying_kids s p i (more d ds) h full = both (both (destruction_kid s p d (h.0 p full)) (h.0 p full)) (destroying_kids s p (suc i) ds h.1 full)

-- Temporaries (C++14 12.2)

pub placed : (s : Setting) (w : Work) (t : Typ) → Reaches s (with_item w t) → at_place s.function.frame (next_place w) t ≡ true
placed s w t h = ap (λ (x : Option Typ). passes (typ_eq t) x) (h.frame (next_place w) t (last_item w.frame t)) ∙ typ_refl t

pub temporary_fits : (s : Setting) (w : Work) (t : Typ) (at : At) (e : Tree) (ds : Trees) → Reaches s (with_item w t) → FitsAs s Initialiser e
    → builds t (head_of e) ≡ true → DestroysOne s t ds → FitsAs s Value (temporary w t at e ds).tree
temporary_fits s w t at e ds h f b d = λ p full. node_fits s p Value (Materialize (next_place w) false) t Lvalue at (more e ds)
    (and_any (Initialiser ∷ []) Destruction) refl refl (or_right _ full) refl (both (both (placed s w t h) b) d.right) refl
    (le-leb 1 (suc (length (heads_of ds))) (omega arith)) refl (both (both (initial_kid s p e (f p full)) (f p full)) (destroying_kids s p 0 ds d.fit full))

-- Objects

pub class_single : (t : Typ) → is_class_typ t ≡ true → has_lambdas t ≡ false
class_single (typ (class n) c v) h = refl
class_single (typ (closure n) c v) h = refl
class_single (typ (tx_ex t) c v) h = refl
class_single (typ f c v) h = absurd cc

pub prvalue_class : (t : Typ) (cat : Cat) → is_class_prvalue t cat ≡ true → is_class_typ t ≡ true
prvalue_class t Prvalue h = h
prvalue_class t Lvalue h = absurd cc

pub destroyed : (s : Setting) (c : Ctx) (at : At) (t : Typ) → IsSetting s c → HasSpecials c → is_class_typ t ≡ true → IsWhole c.classes t
    → DestroysOne s t (destroys c at t)
destroyed s c at t i h k x = destructions_law s c at t i h x.sized (ready_more c.classes (is_closure (form_in t)) t x.ready) (class_single t k)

temporary_proper : (s : Setting) (c : Ctx) (w : Work) (at : At) (e : Tree) → IsSetting s c → HasSpecials c → Proper s c e
    → is_class_prvalue (typ_in e) (cat_of e) ≡ true → Reaches s (with_item w (typ_in e))
    → IsObject s c (temporary w (typ_in e) at (builder e) (destroys c at (typ_in e))).tree
temporary_proper s c w at e i h p k r = let d = prvalue_class (typ_in e) (cat_of e) k in
    proper_object s c (temporary w (typ_in e) at (builder e) (destroys c at (typ_in e))).tree
    (lvalue_node s c (Materialize (next_place w) false) (typ_in e) at (more (builder e) (destroys c at (typ_in e)))
    (temporary_fits s w (typ_in e) at (builder e) (destroys c at (typ_in e)) r (p.stands.object k) (p.stands.built k)
    (destroyed s c at (typ_in e) i h d (p.whole k))) (class_target c.classes (typ_in e) p.sound d)) refl

class_lvalue : (t : Typ) (cat : Cat) → is_class_typ t ≡ true → is_class_prvalue t cat ≡ false → cat ≡ Lvalue
class_lvalue t Lvalue k n = refl
class_lvalue (typ f c v) Prvalue k n = clash (Prvalue ≡ Lvalue) (is_class_typ (typ f c v)) n k

object_by : (s : Setting) (c : Ctx) (w : Work) (at : At) (e : Tree) (b : Bool) → is_class_prvalue (typ_in e) (cat_of e) ≡ b → IsSetting s c → HasSpecials c
    → Proper s c e → is_class_typ (typ_in e) ≡ true
    → Reaches s (if b then temporary w (typ_in e) at (builder e) (destroys c at (typ_in e)) else record { tree = e; work = w }).work
    → IsObject s c (if b then temporary w (typ_in e) at (builder e) (destroys c at (typ_in e)) else record { tree = e; work = w }).tree
object_by s c w at e true b i h p k r = temporary_proper s c w at e i h p b r
object_by s c w at e false b i h p k r = proper_object s c e p (class_lvalue (typ_in e) (cat_of e) k b)

-- an object of a class
pub object_is : (s : Setting) (c : Ctx) (w : Work) (at : At) (e : Tree) → IsSetting s c → HasSpecials c → Proper s c e → is_class_typ (typ_in e) ≡ true
    → Reaches s (object_of c w at e).work → IsObject s c (object_of c w at e).tree
object_is s c w at e i h p k r = object_by s c w at e (is_class_prvalue (typ_in e) (cat_of e)) refl i h p k r

typ_by : (c : Ctx) (w : Work) (at : At) (e : Tree) (b : Bool)
    → typ_in (if b then temporary w (typ_in e) at (builder e) (destroys c at (typ_in e)) else record { tree = e; work = w }).tree ≡ typ_in e
typ_by c w at e true = refl
typ_by c w at e false = refl

pub object_typ : (c : Ctx) (w : Work) (at : At) (e : Tree) → typ_in (object_of c w at e).tree ≡ typ_in e
object_typ c w at e = typ_by c w at e (is_class_prvalue (typ_in e) (cat_of e))

-- any expression as an object, or as it is
other_by : (s : Setting) (c : Ctx) (w : Work) (at : At) (e : Tree) (b : Bool) → is_class_prvalue (typ_in e) (cat_of e) ≡ b → IsSetting s c → HasSpecials c
    → Proper s c e → Reaches s (if b then temporary w (typ_in e) at (builder e) (destroys c at (typ_in e)) else record { tree = e; work = w }).work
    → FitsAs s Value (if b then temporary w (typ_in e) at (builder e) (destroys c at (typ_in e)) else record { tree = e; work = w }).tree
other_by s c w at e true b i h p r = temporary_fits s w (typ_in e) at (builder e) (destroys c at (typ_in e)) r (p.stands.object b) (p.stands.built b)
    (destroyed s c at (typ_in e) i h (prvalue_class (typ_in e) (cat_of e) b) (p.whole b))
other_by s c w at e false b i h p r = p.stands.value b

pub object_value : (s : Setting) (c : Ctx) (w : Work) (at : At) (e : Tree) → IsSetting s c → HasSpecials c → Proper s c e
    → Reaches s (object_of c w at e).work → FitsAs s Value (object_of c w at e).tree
object_value s c w at e i h p r = other_by s c w at e (is_class_prvalue (typ_in e) (cat_of e)) refl i h p r
