-- Lists of types with commas, and texts written one after another.
use Rattle.std.proofs.Common.{◌≡◌, ◌∙◌, ℕ, zero, suc, ◌+◌, ◌<◌, ◌++◌, Bool, true, false, ◌||◌, ltb, length, take, get_or, List, [], ◌∷◌, refl, sym, ap, arith}
use Rattle.std.proofs.Common.{Result, Ok, Err, OnOk, Box, Global, lt-ltb}
use Rattle.std.specs.Prelude.{codes}
use mathlib.Core.List.{append_assoc, append-nil}
use Rattle.cpp_types.specs.declared.types.Ty.{Ty}
use Rattle.cpp_types.specs.declared.types.FnTy.{FnTy, out-FnTy}
use Rattle.cpp_types.specs.declared.types.Shape.{Shape, Func, Func'}
use Rattle.cpp_types.specs.Typ.{typ, shape_form, typs_of, typ_of, signature_of, Signature}
use Rattle.cpp_types.specs.Class.{Class}
use Rattle.cpp_types.specs.Spelling.{listed, spelling, where_set, behind, function_spelling, pointer_spelling}
use Rattle.cpp_types.proofs.Views.{front_more, signature_view}

pub ok_same : {T E : Type 0} (r : Result T E) (u x y : List ℕ) → x ≡ y → OnOk r (u ≡ x) → OnOk r (u ≡ y)
ok_same (Ok v) u x y e h = h ∙ e
ok_same (Err o) u x y e h = h

pub after_three : (o a b c x y z : List ℕ) → x ≡ o ++ a → y ≡ x ++ b → z ≡ y ++ c → z ≡ o ++ (a ++ (b ++ c))
after_three o a b c x y z e f g = let k : z ≡ ((o ++ a) ++ b) ++ c = cc in k ∙ simp append_assoc

pub after_six : (o a b c d e f p q r s t : List ℕ) → p ≡ o ++ a → q ≡ p ++ b → r ≡ q ++ c → s ≡ r ++ d → t ≡ s ++ e
    → t ++ f ≡ o ++ (a ++ (b ++ (c ++ (d ++ (e ++ f)))))
after_six o a b c d e f p q r s t h i j k l = let n : t ≡ ((((o ++ a) ++ b) ++ c) ++ d) ++ e = cc in rw n (simp append_assoc)

has_some : List Ty → Bool
has_some [] = false
has_some (t ∷ ts) = true

listed-snoc : (classes : List Class) (b : Bool) (xs : List Ty) (x : Ty)
    → listed classes b (typs_of (xs ++ (x ∷ []))) ≡ listed classes b (typs_of xs) ++ (where_set (b || has_some xs) (codes ",") ++ spelling classes (typ_of x))
unfolding has_some
listed-snoc classes true [] x = simp append-nil
listed-snoc classes false [] x = simp append-nil
listed-snoc classes true (y ∷ ys) x = let h = listed-snoc classes true ys x in rw h (simp append_assoc)
listed-snoc classes false (y ∷ ys) x = let h = listed-snoc classes true ys x in rw h (simp append_assoc)

has_front : (xs : List Ty) (i : ℕ) → i < length xs → has_some (take i xs) ≡ ltb 0 i
unfolding has_some
has_front xs zero h = refl
has_front [] (suc i) h = absurd (omega arith)
has_front (x ∷ xs) (suc i) h = let p : 0 < suc i = omega arith in sym (lt-ltb 0 (suc i) p)

pub listed_more : (classes : List Class) (xs : List Ty) (i : ℕ) (x : Ty) → i < length xs → x ≡ get_or xs i x
    → listed classes false (typs_of (take (i + 1) xs)) ≡ listed classes false (typs_of (take i xs))
    ++ (where_set (ltb 0 i) (codes ",") ++ spelling classes (typ_of x))
listed_more classes xs i x h e = ap (λ (z : List Ty). listed classes false (typs_of z)) (front_more xs i x h e) ∙ listed-snoc classes false (take i xs) x
    ∙ ap (λ (z : Bool). listed classes false (typs_of (take i xs)) ++ (where_set z (codes ",") ++ spelling classes (typ_of x))) (has_front xs i h)

pub function_view : (classes : List Class) (f : FnTy) (star : List ℕ)
    → function_spelling classes (signature_of f) star ≡ spelling classes (typ_of (out-FnTy f).ret)
    ++ (star ++ (codes "(" ++ (listed classes false (typs_of (out-FnTy f).params.items) ++
    (codes ")" ++ where_set (out-FnTy f).safe (codes " transaction_safe")))))
function_view classes f star = ap (λ (z : Signature). function_spelling classes z star) (signature_view f)

pub pointer_func : (classes : List Class) (s : Shape) (f : Box FnTy Global) (g : FnTy) (c v d w : Bool) → g ≡ f.value → s ≡ Func f
    → function_spelling classes (signature_of g) (codes "(*" ++ behind c v ++ codes ")") ≡ pointer_spelling classes (typ (shape_form s) d w) c v
pointer_func classes s f g c v d w h e = ap (λ (z : FnTy). function_spelling classes (signature_of z) (codes "(*" ++ behind c v ++ codes ")")) h
    ∙ ap (λ (z : Shape). pointer_spelling classes (typ (shape_form z) d w) c v) (sym e)

pub pointer_plain : (classes : List Class) (s : Shape) (c v d w : Bool) → ((x : Box FnTy Global) → s ≡ Func x → ⊥)
    → spelling classes (typ (shape_form s) d w) ++ (codes "*" ++ behind c v) ≡ pointer_spelling classes (typ (shape_form s) d w) c v
pointer_plain classes (Func' p f) c v d w h = absurd (h _ refl)
pointer_plain classes _ c v d w h = refl
