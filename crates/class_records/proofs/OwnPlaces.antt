-- The functions of a class stand at its places.
use Rattle.std.proofs.Common.{◌≡◌, ◌∙◌, ◌+◌, ◌++◌, ℕ, suc, Bool, true, false, List, [], ◌∷◌, map, filter, slice_get, Option, Some, None, if◌then◌else◌, refl}
use Rattle.std.proofs.Common.{sym, ap, arith, true≢false}
use Rattle.cpp_types.specs.Class.{Function}
use Rattle.elab_init.specs.elab_ctx.Ctx.{Func, func_of}
use Rattle.elab_init.specs.elab_ctx.declared.env.FuncDecl.{FuncDecl}
use Rattle.elab_init.specs.elab_ctx.Places.{places_where, is_number, is_member_of}
use Rattle.elab_init.specs.elab_rules.Initialising.{same_number}
use Rattle.elab_init.specs.elab_rules.Calls.{is_of_class}
use Rattle.elab_init.specs.elab_rules.Classes.{own_functions}
use Rattle.class_records.specs.Own.{declared_in, declared_at}

same_is : (n : ℕ) (o : Option ℕ) → same_number n o ≡ is_number n o
same_is n None = refl
same_is n (Some m) = refl

step : (ws : List FuncDecl) (i : ℕ) (x : FuncDecl) (rest : List ℕ) (more : List Func) (b : Bool) → slice_get ws i ≡ Some x
    → declared_at ws rest ≡ map (λ (f : Func). f.declared) more
    → declared_at ws (if b then i ∷ rest else rest) ≡ map (λ (f : Func). f.declared) (if b then func_of x ∷ more else more)
step ws i x rest more true at h = ap (λ (z : Option FuncDecl). declared_in z ++ declared_at ws rest) at ∙ ap (λ (z : List Function). (func_of x).declared ∷ z) h
step ws i x rest more false at h = h

own_from : (n : ℕ) (ws : List FuncDecl) (i : ℕ) (xs : List FuncDecl) → ((k : ℕ) → slice_get ws (i + k) ≡ slice_get xs k)
    → declared_at ws (places_where (is_member_of n) i xs) ≡ own_functions n (map func_of xs)
own_from n ws i [] h = refl
own_from n ws i (x ∷ xs) h =
    let here : i ≡ i + 0 = omega arith in
    step ws i x (places_where (is_member_of n) (suc i) xs) (filter (is_of_class n) (map func_of xs)) (is_number n x.class) (ap (slice_get ws) here ∙ h 0)
    (own_from n ws (suc i) xs (λ k. let on : suc i + k ≡ i + suc k = omega arith in ap (slice_get ws) on ∙ h (suc k)))
    ∙ ap (λ (b : Bool). map (λ (f : Func). f.declared)
    (if b then func_of x ∷ filter (is_of_class n) (map func_of xs) else filter (is_of_class n) (map func_of xs))) (sym (same_is n x.class))

pub own_at : (n : ℕ) (fs : List FuncDecl) (places : List ℕ) → places ≡ places_where (is_member_of n) 0 fs
    → declared_at fs places ≡ own_functions n (map func_of fs)
own_at n fs places e = ap (declared_at fs) e ∙ own_from n fs 0 fs (λ k. let on : 0 + k ≡ k = omega arith in ap (slice_get fs) on)
