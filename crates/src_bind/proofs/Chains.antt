-- Chains of bases, looked through for a name.
use Rattle.std.proofs.Common.{◌≡◌, ◌∙◌, ℕ, suc, Bool, true, false, List, ◌∷◌, Option, Some, None, ap}
use Rattle.std.specs.List.{list_any}
use Rattle.cpp_tree.specs.cpp_types.Class.{Class, base_of}
use Rattle.cpp_tree.specs.cpp_types.Conversion.{chain, first_and}
use Rattle.src_bind.specs.Bases.{is_named}

any_first : (p : ℕ → Bool) (b : ℕ) (xs : List ℕ) → p b ≡ true → list_any p (b ∷ xs) ≡ true
any_first p b xs e = simp e

any_rest : (p : ℕ → Bool) (b : ℕ) (xs : List ℕ) → p b ≡ false → list_any p (b ∷ xs) ≡ list_any p xs
any_rest p b xs e = simp e

module _ (classes : List Class) (name : List ℕ) where
  -- the name is that of one of at most `most` bases
  abbrev pub left : ℕ → ℕ → Bool
  left most n = list_any (is_named classes name) (chain most classes n)

  along : (k n : ℕ) (o : Option ℕ) → base_of classes n ≡ o → left (suc k) n ≡ list_any (is_named classes name) (first_and o (chain k classes))
  along k n o e = ap (λ (z : Option ℕ). list_any (is_named classes name) (first_and z (chain k classes))) e

  pub left_none : (k n : ℕ) → base_of classes n ≡ None → left (suc k) n ≡ false
  left_none k n e = along k n None e

  pub left_found : (k n b : ℕ) → base_of classes n ≡ Some b → is_named classes name b ≡ true → left (suc k) n ≡ true
  left_found k n b e p = along k n (Some b) e ∙ any_first (is_named classes name) b (chain k classes b) p

  pub left_next : (k n b : ℕ) → base_of classes n ≡ Some b → is_named classes name b ≡ false → left (suc k) n ≡ left k b
  left_next k n b e p = along k n (Some b) e ∙ any_rest (is_named classes name) b (chain k classes b) p
