-- Sound types: what may be referred to, what is declared, and what an expression may have.
use Rattle.std.proofs.Common.{◌≡◌, refl, Bool, true, false, List}
use Rattle.elab_rules.specs.cpp_types.Typ.{Typ, typ, Form, void, int, enum, null, ptr, ref, array, func, class, closure, tx_ex}
use Rattle.elab_rules.specs.cpp_types.Class.{Class}
use Rattle.elab_rules.specs.cpp_types.declared.ranks.Cat.TheVariants.{Lvalue}
use Rattle.elab_rules.specs.cpp_tree.Typing.{is_void, is_class_typ, is_reference, qualified}
use Rattle.elab_fits.specs.Standing.{IsExpressionType}
use Rattle.elab_fits_forms.specs.Types.{is_sound, is_target, is_declared}

-- What is referred to

pub target_type : (classes : List Class) (t : Typ) → is_target classes t ≡ true → IsExpressionType t Lvalue
target_type classes (typ void c v) h = absurd cc
target_type classes (typ (ref t) c v) h = absurd cc
target_type classes (typ (int k) c v) h = tt
target_type classes (typ (enum n s) c v) h = tt
target_type classes (typ null c v) h = tt
target_type classes (typ (ptr t) c v) h = tt
target_type classes (typ (array t n) c v) h = refl
target_type classes (typ (func s) c v) h = refl
target_type classes (typ (class n) c v) h = tt
target_type classes (typ (closure n) c v) h = tt
target_type classes (typ (tx_ex t) c v) h = tt

pub target_sound : (classes : List Class) (t : Typ) → is_target classes t ≡ true → is_sound classes t ≡ true
target_sound classes (typ void c v) h = absurd cc
target_sound classes (typ (ref t) c v) h = absurd cc
target_sound classes (typ f c v) h = h

pub target_no_void : (classes : List Class) (t : Typ) → is_target classes t ≡ true → is_void t ≡ false
target_no_void classes (typ void c v) h = absurd cc
target_no_void classes (typ f c v) h = refl

pub target_no_reference : (classes : List Class) (t : Typ) → is_target classes t ≡ true → is_reference t ≡ false
target_no_reference classes (typ (ref t) c v) h = absurd cc
target_no_reference classes (typ f c v) h = refl

-- a sound type that is neither
pub sound_target : (classes : List Class) (t : Typ) → is_sound classes t ≡ true → is_void t ≡ false → is_reference t ≡ false → is_target classes t ≡ true
sound_target classes (typ void c v) h n m = absurd cc
sound_target classes (typ (ref t) c v) h n m = absurd cc
sound_target classes (typ f c v) h n m = h

-- What is declared

pub declared_target : (classes : List Class) (t : Typ) → is_declared classes t ≡ true → is_reference t ≡ false → is_target classes t ≡ true
declared_target classes (typ void c v) h n = absurd cc
declared_target classes (typ (ref t) c v) h n = absurd cc
declared_target classes (typ f c v) h n = h

-- Qualifiers

pub qualified_target : (classes : List Class) (c v : Bool) (t : Typ) → is_target classes t ≡ true → is_target classes (qualified c v t) ≡ true
qualified_target classes c v (typ void d w) h = absurd cc
qualified_target classes c v (typ (ref t) d w) h = absurd cc
qualified_target classes c v (typ (array t n) d w) h = qualified_target classes c v t h
qualified_target classes c v (typ (int k) d w) h = h
qualified_target classes c v (typ (enum n s) d w) h = h
qualified_target classes c v (typ null d w) h = h
qualified_target classes c v (typ (ptr t) d w) h = h
qualified_target classes c v (typ (func s) d w) h = h
qualified_target classes c v (typ (class n) d w) h = h
qualified_target classes c v (typ (closure n) d w) h = h
qualified_target classes c v (typ (tx_ex t) d w) h = h

pub class_target : (classes : List Class) (t : Typ) → is_sound classes t ≡ true → is_class_typ t ≡ true → is_target classes t ≡ true
class_target classes (typ void c v) h k = absurd cc
class_target classes (typ (ref t) c v) h k = absurd cc
class_target classes (typ f c v) h k = h

pub class_no_void : (t : Typ) → is_class_typ t ≡ true → is_void t ≡ false
class_no_void (typ void c v) h = absurd cc
class_no_void (typ f c v) h = refl

-- other qualifiers
pub requalified_target : (classes : List Class) (f : Form) (c v d w : Bool) → is_target classes (typ f c v) ≡ true → is_target classes (typ f d w) ≡ true
requalified_target classes void c v d w h = absurd cc
requalified_target classes (ref t) c v d w h = absurd cc
requalified_target classes f c v d w h = h
