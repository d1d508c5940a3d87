-- The object of an operand: itself, or a temporary.
use Rattle.std.proofs.Common.{◌≡◌, refl, ap, ◌∙◌, ℕ, Bool, true, false, [], ◌∷◌}
use Rattle.std.specs.Prelude.{if◌then◌else◌}
use Rattle.elab_rules.specs.cpp_types.Typ.{Typ, typ, class, closure, tx_ex}
use Rattle.elab_rules.specs.cpp_types.declared.classes.At.{At}
use Rattle.elab_rules.specs.cpp_types.declared.ranks.Cat.TheVariants.{Lvalue}
use Rattle.elab_rules.specs.cpp_tree.declared.kinds.TKind.TheVariants.{Materialize}
use Rattle.elab_rules.specs.cpp_tree.declared.roles.Role.TheVariants.{Value, Initialiser, Destruction}
use Rattle.elab_rules.specs.cpp_tree.Trees.{Tree, Trees, more, typ_in, cat_of}
use Rattle.elab_rules.specs.cpp_tree.Typing.{head_of, is_class_typ, is_class_prvalue}
use Rattle.elab_rules.specs.cpp_tree.Roles.{and_any}
use Rattle.elab_rules.specs.cpp_tree.Rows.{Setting}
use Rattle.elab_rules.specs.cpp_tree.WellFormed.{heads_of}
use Rattle.elab_rules.specs.elab_ctx.Ctx.{Ctx, Work, with_item, next_place}
use Rattle.elab_rules.specs.elab_ctx.Steps.{Operand}
use Rattle.elab_rules.specs.Values.{builder, temporary}
use Rattle.elab_rules.specs.Objects.{destroys}
use Rattle.elab_rules.specs.Initialising.{object_of}
use Rattle.elab_fits.specs.Standing.{FitsAs, BuildsOne, IsSetting, Reaches}
use Rattle.elab_fits.specs.Objects.{DestroysOne, has_lambdas}
use Rattle.elab_fits.proofs.Destructions.{destructions_law}
use Rattle.elab_fits.proofs.Nodes.{both, or_right, node_fits, of_value}
use Rattle.elab_fits.proofs.Binding.{place_row}
use Rattle.elab_fits_objects.specs.Contexts.{is_whole, HasMakers, IsSource}
use Rattle.elab_fits_objects.specs.Making.{IsPlaced, ObjectsPlaced}
use Rattle.elab_fits_objects.proofs.Fits.{object_kids, at_least_one}
use Rattle.elab_fits_objects.proofs.Types.{whole_sized, whole_ready, class_typed, prvalue_class, other_lvalue}

no_lambdas : (t : Typ) → is_class_typ t ≡ true → has_lambdas t ≡ false
no_lambdas (typ (class n) c v) h = refl
no_lambdas (typ (closure n) c v) h = refl
no_lambdas (typ (tx_ex t) c v) h = refl
no_lambdas (typ f c v) h = absurd cc

-- the destructions of an object of a class
pub class_destroyed : (s : Setting) (c : Ctx) (lambda : ℕ → Bool) (at : At) (t : Typ) → IsSetting s c → HasMakers c lambda → is_class_typ t ≡ true
    → is_whole c.classes t ≡ true → DestroysOne s t (destroys c at t)
class_destroyed s c lambda at t i m h z =
    destructions_law s c at t i m.specials (whole_sized c.classes t z) (whole_ready c.classes t z) (no_lambdas t h)

-- a temporary with its destructions
temporary_fits : (s : Setting) (w : Work) (t : Typ) (at : At) (e : Tree) (ds : Trees) → Reaches s (with_item w t) → BuildsOne s t e → DestroysOne s t ds
    → FitsAs s Value (temporary w t at e ds).tree
temporary_fits s w t at e ds h b d = λ p full. node_fits s p Value (Materialize (next_place w) false) t Lvalue at (more e ds)
    (and_any (Initialiser ∷ []) Destruction) refl refl (or_right _ full) refl (both (both (place_row s w t h) b.builds) d.right) refl
    (at_least_one (heads_of ds) (head_of e) Initialiser Destruction) refl (object_kids s p e ds full (b.fits p full) d.fit)

pub temporary_placed : (s : Setting) (w : Work) (t : Typ) (at : At) (e : Tree) (ds : Trees) → is_class_typ t ≡ true → Reaches s (with_item w t)
    → BuildsOne s t e → DestroysOne s t ds → IsPlaced s (temporary w t at e ds).tree
temporary_placed s w t at e ds i h b d = record {
  stands = of_value s (temporary w t at e ds).tree (class_typed t i) refl (temporary_fits s w t at e ds h b d);
  value = refl;
}

placed_by : (s : Setting) (c : Ctx) (lambda : ℕ → Bool) (w : Work) (o : Operand) (b : Bool) → is_class_prvalue (typ_in o.tree) (cat_of o.tree) ≡ b
    → IsSetting s c → HasMakers c lambda → IsSource s c lambda o
    → Reaches s (if b then temporary w (typ_in o.tree) o.at (builder o.tree) (destroys c o.at (typ_in o.tree)) else record { tree = o.tree; work = w }).work
    → IsPlaced s (if b then temporary w (typ_in o.tree) o.at (builder o.tree) (destroys c o.at (typ_in o.tree)) else record { tree = o.tree; work = w }).tree
placed_by s c lambda w o true e i m h r = temporary_placed s w (typ_in o.tree) o.at (builder o.tree) (destroys c o.at (typ_in o.tree))
    (prvalue_class (typ_in o.tree) (cat_of o.tree) e) r
    (record { fits = h.operand.stands.object e; builds = h.operand.stands.built e })
    (class_destroyed s c lambda o.at (typ_in o.tree) i m (prvalue_class (typ_in o.tree) (cat_of o.tree) e) (h.whole e))
placed_by s c lambda w o false e i m h r = record { stands = h.operand.stands; value = e }

pub object_placed : ObjectsPlaced
object_placed s c lambda w o i m h r = placed_by s c lambda w o (is_class_prvalue (typ_in o.tree) (cat_of o.tree)) refl i m h r

typ_by : (w : Work) (at : At) (e init : Tree) (ds : Trees) (b : Bool)
    → typ_in (if b then temporary w (typ_in e) at init ds else record { tree = e; work = w }).tree ≡ typ_in e
typ_by w at e init ds true = refl
typ_by w at e init ds false = refl

-- it has the operand's type
pub object_typ : (c : Ctx) (w : Work) (at : At) (e : Tree) → typ_in (object_of c w at e).tree ≡ typ_in e
object_typ c w at e = typ_by w at e (builder e) (destroys c at (typ_in e)) (is_class_prvalue (typ_in e) (cat_of e))

-- where that is a class, it is an lvalue
pub object_lvalue : (s : Setting) (c : Ctx) (w : Work) (at : At) (e : Tree) → is_class_typ (typ_in e) ≡ true → IsPlaced s (object_of c w at e).tree
    → cat_of (object_of c w at e).tree ≡ Lvalue
object_lvalue s c w at e h p = other_lvalue (typ_in (object_of c w at e).tree) (cat_of (object_of c w at e).tree) (ap is_class_typ (object_typ c w at e) ∙ h) p.value

-- and fits as a value
pub placed_fits : (s : Setting) (e : Tree) → IsPlaced s e → FitsAs s Value e
placed_fits s e p = p.stands.value p.value
