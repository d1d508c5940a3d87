-- What the tests' own questions say of a list of classes.
use Rattle.std.proofs.Common.{◌≡◌, ◌∙◌, ◌≤◌, ◌<◌, ◌+◌, ℕ, zero, suc, false, length, get_or, List, [], ◌∷◌, map, drop, Some, slice_get, ap, subst, sym}
use Rattle.std.proofs.lemmas.List.{drop_more}
use Rattle.std.specs.Option.{option_and_then}
use Rattle.cpp_types.specs.declared.types.Ty.{Ty}
use Rattle.cpp_types.specs.Typ.{Typ, typ, class, typ_of, shape_form}
use Rattle.cpp_types.specs.Conversion.{form_of}
use Rattle.cpp_types.specs.Class.{Class}
use Rattle.cpp_layout.specs.declared.extents.SizeAlign.{SizeAlign}
use Rattle.cpp_layout.specs.Layout.{class_extent, extent_of}
use Rattle.cpp_layout.specs.Frames.{AllComplete}
use Rattle.cpp_layout.specs.Measured.{IsComplete, HoldsComplete, Measured}
use Rattle.cpp_layout.specs.declared.extents.TheConstants.{GREATEST_SIZE}

pub complete_by : (classes : List Class) (n : ℕ) (c : Class) (k : ℕ) → slice_get classes n ≡ Some c → c.complete ≡ Some k → IsComplete classes n
complete_by classes n c k found e = record { number = k; complete = ap (option_and_then (λ (x : Class). x.complete)) found ∙ e }

held_is : (classes : List Class) (n : ℕ) → IsComplete classes n → HoldsComplete classes (class n)
held_is classes n h = record { held = λ e q. let k : n ≡ e = cc in subst (IsComplete classes) k h }

-- a type that is a complete class holds one
pub class_holds : (classes : List Class) (n : ℕ) (t : Ty) → typ_of t ≡ typ (class n) false false → IsComplete classes n
    → HoldsComplete classes (shape_form t.shape)
class_holds classes n t e h = subst (λ (z : Typ). HoldsComplete classes (form_of z)) (sym e) (held_is classes n h)

pub size_within : (classes : List Class) (n : ℕ) (t : Typ) (s : SizeAlign) → t ≡ typ (class n) false false → Measured (extent_of classes t) s
    → (class_extent classes n).size ≤ GREATEST_SIZE
size_within classes n t s e m = subst (λ (z : Typ). (extent_of classes z).size ≤ GREATEST_SIZE) e m.within

none_complete : (classes : List Class) → AllComplete classes []
none_complete classes = record { item = λ i t e. absurd cc }

more_item : (classes : List Class) (t : Ty) (ts : List Typ) → HoldsComplete classes (shape_form t.shape) → AllComplete classes ts → (i : ℕ) (u : Typ)
    → slice_get (typ_of t ∷ ts) i ≡ Some u → HoldsComplete classes (form_of u)
more_item classes t ts h a zero u q = let k : typ_of t ≡ u = cc in subst (λ (z : Typ). HoldsComplete classes (form_of z)) k h
more_item classes t ts h a (suc i) u q = a.item i u q

-- one item more in front
pub more_complete : (classes : List Class) (t : Ty) (ts : List Ty) → HoldsComplete classes (shape_form t.shape) → AllComplete classes (map typ_of ts)
    → AllComplete classes (map typ_of (t ∷ ts))
more_complete classes t ts h a = record { item = more_item classes t (map typ_of ts) h a }

pub all_more : (classes : List Class) (ts : List Ty) (i : ℕ) (t : Ty) → i < length ts → t ≡ get_or ts i t → HoldsComplete classes (shape_form t.shape)
    → AllComplete classes (map typ_of (drop (i + 1) ts)) → AllComplete classes (map typ_of (drop i ts))
all_more classes ts i t h e held rest =
    let p : drop i ts ≡ t ∷ drop (i + 1) ts = drop_more ts i t h ∙ ap (λ (z : Ty). z ∷ drop (i + 1) ts) (sym e) in
    subst (λ (z : List Ty). AllComplete classes (map typ_of z)) (sym p) (more_complete classes t (drop (i + 1) ts) held rest)
