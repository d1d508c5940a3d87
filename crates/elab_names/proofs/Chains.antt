-- Chains of bases, one step up.
use Rattle.std.proofs.Common.{◌≡◌, ℕ, suc, List, [], ◌∷◌, Option, Some, None, ap}
use Rattle.elab_conv.specs.cpp_types.Class.{Class, base_of}
use Rattle.elab_conv.specs.cpp_types.Conversion.{chain, first_and}

pub chain_none : (classes : List Class) (k n : ℕ) → base_of classes n ≡ None → chain (suc k) classes n ≡ []
chain_none classes k n e = ap (λ (z : Option ℕ). first_and z (chain k classes)) e

pub chain_some : (classes : List Class) (k n b : ℕ) → base_of classes n ≡ Some b → chain (suc k) classes n ≡ b ∷ chain k classes b
chain_some classes k n b e = ap (λ (z : Option ℕ). first_and z (chain k classes)) e
