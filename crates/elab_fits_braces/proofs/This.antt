-- The pointer `this` where an object is built.
use Rattle.std.proofs.Common.{◌≡◌, refl, ap, ◌∙◌, true, false, [], ◌∷◌}
use Rattle.elab_rules.specs.tx_ints.declared.kinds.IntKind.TheVariants.{ULong}
use Rattle.elab_rules.specs.cpp_types.Typ.{Typ, ptr, class}
use Rattle.elab_rules.specs.cpp_types.Equal.{typ_eq}
use Rattle.elab_rules.specs.cpp_types.declared.ranks.Cat.TheVariants.{Lvalue, Prvalue}
use Rattle.elab_rules.specs.cpp_tree.declared.kinds.TKind.TheVariants.{Local, Load, Retype}
use Rattle.elab_rules.specs.cpp_tree.Notation.{plain}
use Rattle.elab_rules.specs.cpp_tree.Trees.{Tree, node, none, cat_of}
use Rattle.elab_rules.specs.cpp_tree.Typing.{head_of, passes, unqualified}
use Rattle.elab_rules.specs.cpp_tree.Rows.{Setting, row_fits, is_retyped}
use Rattle.elab_fits.proofs.Equal.{typ_refl}
use Rattle.elab_fits.proofs.Nodes.{no_kids, one_kid}
use Rattle.elab_fits_braces.specs.Moving.{ObjectsAreThis, OwnIsThis}

-- an address is the pointer to what lies there
address_is : (u : Typ) (e : Tree) → cat_of e ≡ Lvalue → is_retyped (plain (ptr u)) Prvalue (head_of e) ≡ true
address_is u (node kind t Lvalue at kids) h = refl
address_is u (node kind t Prvalue at kids) h = absurd cc

pub object_is_this : ObjectsAreThis
object_is_this s t object h g = record {
  fits = λ at. one_kid s Retype (plain (ptr (unqualified t))) Prvalue at object
      (record { is_value = refl; anywhere = λ f p n. refl; unbranched = λ u hs. refl; asks = λ a b. refl; no_switch = refl }) refl
      (address_is (unqualified t) object g) h;
  typed = λ at. refl;
  category = λ at. refl;
  read = λ at. refl;
}

pointer_row : (s : Setting) (u : Typ)
    → row_fits s (Load ULong false) (plain (ptr u)) Prvalue (record { kind = Local 0; typ = plain (ptr u); cat = Lvalue } ∷ []) ≡ true
pointer_row s u = let e = typ_refl u in rw e refl

pub own_is_this : OwnIsThis
own_is_this s n h = record {
  fits = λ at. one_kid s (Load ULong false) (plain (ptr (plain (class n)))) Prvalue at (node (Local 0) (plain (ptr (plain (class n)))) Lvalue at none)
      (record { is_value = refl; anywhere = λ f p m. refl; unbranched = λ u hs. refl; asks = λ a b. refl; no_switch = refl }) refl
      (pointer_row s (plain (class n)))
      (no_kids s (Local 0) (plain (ptr (plain (class n)))) Lvalue at
      (record { is_value = refl; anywhere = λ f p m. refl; unbranched = λ u hs. refl; asks = λ a b. refl; no_switch = refl }) refl
      (ap (passes (typ_eq (plain (ptr (plain (class n)))))) h ∙ typ_refl (plain (ptr (plain (class n))))));
  typed = λ at. refl;
  category = λ at. refl;
  read = λ at. refl;
}
