-- What goes outward at a scope.
use Rattle.std.proofs.Common.{ℕ, ◌≡◌, ◌∙◌, List, ◌∷◌, Bool, true, false, cond, ◌||◌, refl, ap}
use Rattle.cpp_tree.specs.cpp_types.Typ.{Typ}
use Rattle.src_mean.specs.Frames.{Owner}
use Rattle.symbolic_source.specs.Frames.{Waiting, Frame, Scope, Cleans, Leaves}
use Rattle.symbolic_source.specs.Outcomes.{silent, goes}
use Rattle.symbolic_source.specs.Steps.{left, is_throw}
use Rattle.symbolic_terms.specs.declared.frames.Exit.{Exit}
use Rattle.symbolic_terms.specs.declared.frames.Exit.TheVariants.{Throws, Returns, Breaks, Continues}
use Rattle.symbolic_terms.specs.Meanings.{Meaning}
use Rattle.symbolic_terms.specs.Shown.{exit_of}
use Rattle.symbolic_leaving.specs.Left.{throws_in, cleans_in}

module _ (types : ℕ → Typ) (m : Meaning) where
  thrown : (x : Exit) → is_throw (exit_of types m x) ≡ throws_in x
  thrown (Throws e) = refl
  thrown (Returns w) = refl
  thrown Breaks = refl
  thrown Continues = refl

  module _ (ws : List Waiting) (x : Exit) (owner : Owner) (always : Bool) (scoped : List Waiting) (k : List Frame) where
    decided : (b : Bool) → cleans_in always x ≡ b → left ws (exit_of types m x) (Scope owner always scoped ∷ k) ≡ cond b (goes silent ws (Cleans scoped ∷ Leaves (exit_of types m x) ∷ k)) (left ws (exit_of types m x) k)
    decided b h = ap (λ z. cond (always || z) (goes silent ws (Cleans scoped ∷ Leaves (exit_of types m x) ∷ k)) (left ws (exit_of types m x) k)) (thrown x)
        ∙ ap (λ z. cond z (goes silent ws (Cleans scoped ∷ Leaves (exit_of types m x) ∷ k)) (left ws (exit_of types m x) k)) h

    pub scope_cleaned : cleans_in always x ≡ true → left ws (exit_of types m x) (Scope owner always scoped ∷ k) ≡ goes silent ws (Cleans scoped ∷ Leaves (exit_of types m x) ∷ k)
    scope_cleaned h = decided true h

    pub scope_passed : cleans_in always x ≡ false → left ws (exit_of types m x) (Scope owner always scoped ∷ k) ≡ left ws (exit_of types m x) k
    scope_passed h = decided false h
