-- Zeros are nothing but zeros: a label may stand behind a declaration with them.
use Rattle.std.proofs.Common.{◌≡◌, refl, ℕ, zero, suc, Bool, true, false, ◌||◌, List, [], ◌∷◌, length}
use Rattle.elab_rules.specs.cpp_types.Typ.{Typ, typ, Form, void, int, enum, null, ptr, ref, array, func, class, closure, tx_ex}
use Rattle.elab_rules.specs.cpp_types.Class.{Class}
use Rattle.elab_rules.specs.cpp_types.declared.classes.At.{At}
use Rattle.elab_rules.specs.cpp_tree.Trees.{Tree, node}
use Rattle.elab_rules.specs.cpp_tree.WellFormed.{is_zero, are_zero}
use Rattle.elab_rules.specs.Objects.{Part, whole, whole_form, class_whole, as_closure, pieces, zero_leaf, parts_of}
use Rattle.elab_fits.specs.Objects.{ZerosAreZero}

closure_zero : (n : ℕ) (c v : Bool) (e : Tree) → is_zero e ≡ true → is_zero (as_closure n c v e) ≡ true
closure_zero n c v (node kind t cat at kids) h = h

pieces_zero : (each : Part → Tree) (type : Part → Typ) (at : At) (ps : List Part) → ((p : Part) → is_zero (each p) ≡ true)
    → are_zero (pieces each type at ps) ≡ true
pieces_zero each type at [] h = refl
pieces_zero each type at (p ∷ ps) h = let a = h p in let b = pieces_zero each type at ps h in rw (a, b) refl

module _ (classes : List Class) (at : At) where
  module _ (each : ℕ → Bool → Bool → Tree) (h : (n : ℕ) (c v : Bool) → is_zero (each n c v) ≡ true) where
    form_zero : (c v : Bool) (f : Form) → is_zero (whole_form each zero_leaf classes at c v f) ≡ true
    form_zero c v void = refl
    form_zero c v (int k) = refl
    form_zero c v (enum n s) = refl
    form_zero c v null = refl
    form_zero c v (ptr t) = refl
    form_zero c v (ref t) = refl
    form_zero c v (array (typ f d w) n) = let a = form_zero (c || d) (v || w) f in rw a refl
    form_zero c v (func s) = refl
    form_zero c v (class n) = h n c v
    form_zero c v (closure n) = closure_zero n c v (each n c v) (h n c v)
    form_zero c v (tx_ex (typ f d w)) = form_zero c v f

    whole_zero : (c v : Bool) (t : Typ) → is_zero (whole each zero_leaf classes at c v t) ≡ true
    whole_zero c v (typ f d w) = form_zero (c || d) (v || w) f

  class_zero : (depth n : ℕ) (c v : Bool) → is_zero (class_whole depth zero_leaf classes at n c v) ≡ true
  class_zero zero n c v = refl
  class_zero (suc depth) n c v =
      pieces_zero (λ (p : Part). whole (class_whole depth zero_leaf classes at) zero_leaf classes at c v p.typ) _ at (parts_of classes n)
      (λ p. whole_zero (class_whole depth zero_leaf classes at) (class_zero depth) c v p.typ)

pub are_zero_law : ZerosAreZero
are_zero_law classes at t = whole_zero classes at (class_whole (length classes) zero_leaf classes at) (class_zero classes at (length classes)) false false t
