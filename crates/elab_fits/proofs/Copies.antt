-- Objects are copied scalar by scalar.
use Rattle.std.proofs.Common.{◌≡◌, refl, Bool, true}
use Rattle.elab_rules.specs.cpp_types.Typ.{typ, Form, void, int, enum, null, ptr, ref, array, func, class, closure, tx_ex}
use Rattle.elab_rules.specs.cpp_types.declared.classes.At.{At}
use Rattle.elab_rules.specs.cpp_tree.Rows.{Setting}
use Rattle.elab_rules.specs.Objects.{copy_leaf}
use Rattle.elab_fits.specs.Objects.{CopiesBuild}
use Rattle.elab_fits.proofs.Pieces.{IsExact, typ_refl}
use Rattle.elab_fits.proofs.Wholes.{is_leaf, fit_in}
use Rattle.elab_fits.proofs.Zeros.{kind_refl, flag_refl}

copy_leaf_fits : (s : Setting) (at : At) (f : Form) (c v : Bool) → is_leaf true f ≡ true → IsExact s true (typ f c v) (copy_leaf (typ f c v) at)
copy_leaf_fits s at void c v h = absurd cc
copy_leaf_fits s at (int k) c v h = record {
  fits = λ p. let a = kind_refl k in let b = flag_refl v in rw (a, b) refl;
  value = refl;
  typed = typ_refl (typ (int k) c v);
  kid = refl;
}
copy_leaf_fits s at (enum n w) c v h = record { fits = λ p. let b = flag_refl v in rw b refl; value = refl; typed = typ_refl (typ (enum n w) c v); kid = refl }
copy_leaf_fits s at null c v h = record { fits = λ p. let b = flag_refl v in rw b refl; value = refl; typed = typ_refl (typ null c v); kid = refl }
copy_leaf_fits s at (ptr t) c v h = record { fits = λ p. let b = flag_refl v in rw b refl; value = refl; typed = typ_refl (typ (ptr t) c v); kid = refl }
copy_leaf_fits s at (ref t) c v h = record { fits = λ p. let b = flag_refl v in rw b refl; value = refl; typed = typ_refl (typ (ref t) c v); kid = refl }
copy_leaf_fits s at (array t n) c v h = absurd cc
copy_leaf_fits s at (func g) c v h = absurd cc
copy_leaf_fits s at (class n) c v h = absurd cc
copy_leaf_fits s at (closure n) c v h = absurd cc
copy_leaf_fits s at (tx_ex t) c v h = absurd cc

pub copies_law : CopiesBuild
copies_law s c at t i z r =
    let h = fit_in s c i true true copy_leaf at (copy_leaf_fits s at) t z r in
    record { fits = λ p full. h.fits p; builds = h.builds }
