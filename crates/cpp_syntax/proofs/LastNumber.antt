-- The last of some numbers.
use Rattle.std.proofs.Common.{◌≡◌, ℕ, suc, ◌-◌, List, [], ◌∷◌, length, slice_get, Option, Some, refl, sym, ◌∙◌, ap, arith}
use Rattle.std.proofs.lemmas.Option.{slice_get_within}
use Rattle.cpp_syntax.specs.Gathers.{last_or_none}

pub last_get : (ns : List ℕ) (n : ℕ) → slice_get ns (length ns - 1) ≡ Some n → n ≡ last_or_none ns
last_get [] n e = absurd (let within = slice_get_within [] (length {A = ℕ} [] - 1) n e in omega (arith, within))
last_get (m ∷ []) n e = let f : slice_get (m ∷ []) 0 ≡ Some n = e in cc
last_get (m ∷ k ∷ ns) n e =
    let long : length (m ∷ k ∷ ns) - 1 ≡ suc (length ns) = omega arith in
    let shorter : length ns ≡ length (k ∷ ns) - 1 = omega arith in
    last_get (k ∷ ns) n (sym (ap (λ (i : ℕ). slice_get (k ∷ ns) i) shorter) ∙ sym (ap (λ (i : ℕ). slice_get (m ∷ k ∷ ns) i) long) ∙ e)
