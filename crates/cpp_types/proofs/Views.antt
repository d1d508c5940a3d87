-- Function types and lists of types as the code sees them.
use Rattle.std.proofs.Common.{◌≡◌, ℕ, zero, suc, ◌<◌, ◌++◌, length, get_or, arith, take, ◌+◌, Bool, List, [], ◌∷◌, refl, sym, ap, ◌∙◌, Vec, Global}
use Rattle.std.proofs.lemmas.List.{take_more}
use Rattle.cpp_types.specs.Typ.{Typ, typ, Typs, none, more, signature, typ_of, signature_of, shape_form, typs_of, row_typs}
use Rattle.cpp_types.specs.declared.types.Ty.{Ty}
use Rattle.cpp_types.specs.declared.types.FnTy.{FnTy, FnTy', out-FnTy, roll-FnTy, out-roll-FnTy, Row_of-Ty, end_of-Ty, more_of-Ty, items-the_row-Ty}
use Rattle.cpp_types.specs.declared.types.FnTy.{items_shown-the_row-Ty-0}

row_list : (n : _) (row : Row_of-Ty n) → typs_of (items-the_row-Ty n row) ≡ row_typs row
row_list n end_of-Ty = refl
row_list n (more_of-Ty s c v rest) = ap (more (typ (shape_form s) c v)) (row_list _ rest)

-- a function's type is its parameters, its result and its safety
pub signature_view : (f : FnTy) → signature_of f ≡ signature (typs_of (out-FnTy f).params.items) (typ_of (out-FnTy f).ret) (out-FnTy f).safe
unfolding out-FnTy denote.Hole.Carrier.out Rattle.cpp_types.specs.declared.types.Shape.TheBlock.shown-the_row-Ty-0
signature_view (FnTy' n row s c v b) = ap (λ (z : Typs). signature z (typ (shape_form s) c v) b)
    (sym (ap typs_of (items_shown-the_row-Ty-0 n row) ∙ row_list _ row))

pub roll_same : (ps : Vec Ty Global) (t : Ty) (b : Bool) (f : FnTy) → typs_of ps.items ≡ typs_of (out-FnTy f).params.items → typ_of t ≡ typ_of (out-FnTy f).ret
    → b ≡ (out-FnTy f).safe → signature_of (roll-FnTy (record { params = ps; ret = t; safe = b })) ≡ signature_of f
roll_same ps t b f e g h =
    let k : signature_of (roll-FnTy (record { params = ps; ret = t; safe = b })) ≡ signature (typs_of ps.items) (typ_of t) b =
    signature_view (roll-FnTy (record { params = ps; ret = t; safe = b }))
    ∙ ap (λ z. signature (typs_of z.params.items) (typ_of z.ret) z.safe) (out-roll-FnTy (record { params = ps; ret = t; safe = b })) in
    let l : signature_of f ≡ signature (typs_of (out-FnTy f).params.items) (typ_of (out-FnTy f).ret) (out-FnTy f).safe = signature_view f in cc

-- lists, element by element
pub typs_snoc : (xs ys : List Ty) (x y : Ty) → typs_of xs ≡ typs_of ys → typ_of x ≡ typ_of y → typs_of (xs ++ (x ∷ [])) ≡ typs_of (ys ++ (y ∷ []))
typs_snoc [] [] x y e f = ap (λ (z : Typ). more z none) f
typs_snoc [] (v ∷ vs) x y e f = absurd cc
typs_snoc (u ∷ us) [] x y e f = absurd cc
typs_snoc (u ∷ us) (v ∷ vs) x y e f = let g : typ_of u ≡ typ_of v = cc in let h : typs_of us ≡ typs_of vs = cc in let k = typs_snoc us vs x y h f in
    ap (λ (z : Typ). more z (typs_of (us ++ (x ∷ [])))) g ∙ ap (more (typ_of v)) k

pub typs_length : (xs ys : List Ty) → typs_of xs ≡ typs_of ys → length xs ≡ length ys
typs_length [] [] e = refl
typs_length [] (v ∷ vs) e = absurd cc
typs_length (u ∷ us) [] e = absurd cc
typs_length (u ∷ us) (v ∷ vs) e = let h : typs_of us ≡ typs_of vs = cc in ap suc (typs_length us vs h)

pub typs_at : (xs ys : List Ty) (i : ℕ) (x y : Ty) → i < length xs → x ≡ get_or xs i x → y ≡ get_or ys i y → typs_of xs ≡ typs_of ys → typ_of x ≡ typ_of y
typs_at [] ys i x y h f g e = absurd (omega arith)
typs_at (u ∷ us) [] i x y h f g e = absurd cc
typs_at (u ∷ us) (v ∷ vs) zero x y h f g e = let k : typ_of u ≡ typ_of v = cc in ap typ_of f ∙ k ∙ sym (ap typ_of g)
typs_at (u ∷ us) (v ∷ vs) (suc i) x y h f g e = let k : typs_of us ≡ typs_of vs = cc in typs_at us vs i x y (omega arith) f g k

pub front_more : (xs : List Ty) (i : ℕ) (x : Ty) → i < length xs → x ≡ get_or xs i x → take (i + 1) xs ≡ take i xs ++ (x ∷ [])
front_more xs i x h e = take_more xs i x h ∙ ap (λ (z : Ty). take i xs ++ (z ∷ [])) (sym e)

pub typs_step : (xs ys : List Ty) (i : ℕ) (x y : Ty) → i < length xs → i < length ys → x ≡ get_or xs i x → y ≡ get_or ys i y
    → typs_of (take i xs) ≡ typs_of (take i ys) → typ_of x ≡ typ_of y → typs_of (take (i + 1) xs) ≡ typs_of (take (i + 1) ys)
typs_step xs ys i x y h g e f k l = ap typs_of (front_more xs i x h e) ∙ typs_snoc (take i xs) (take i ys) x y k l ∙ sym (ap typs_of (front_more ys i y g f))
