-- Operands that are there, and those that are not.
use Rattle.std.proofs.Common.{Bool, true, false, ◌≡◌, ◌<◌, ◌≤◌, ℕ, zero, suc, List, [], ◌∷◌, ◌++◌, length, take, drop, reverse, Option, Some, None, refl, sym}
use Rattle.std.proofs.Common.{ap, ◌∙◌, arith, append_assoc}
use Rattle.std.proofs.lemmas.List.{reverse-append, append-nil, drop_all}
use Rattle.std.specs.Prelude.{nat_le}
use Rattle.std.proofs.lemmas.Bool.{true≢false, leb-true, leb-false}
use Rattle.tx_code.specs.Meaning.{Act, Lost, one, two, moved, if_some}
use Rattle.vm_frames.specs.Stacks.{has_two}

pub one_is : (ws : List ℕ) (w : ℕ) (g : ℕ → List ℕ → Act) → ws ≡ w ∷ drop 1 ws → one ws g ≡ g w (drop 1 ws)
one_is ws w g e = ap (λ z. one z g) e

pub one_lost : (ws : List ℕ) (g : ℕ → List ℕ → Act) → ws ≡ [] → one ws g ≡ Lost
one_lost ws g e = ap (λ z. one z g) e

pub two_are : (ws : List ℕ) (a b : ℕ) (g : ℕ → ℕ → List ℕ → Act) → ws ≡ b ∷ a ∷ drop 2 ws → two ws g ≡ g a b (drop 2 ws)
two_are ws a b g e = ap (λ z. two z g) e

pub two_lost : (ws : List ℕ) (g : ℕ → ℕ → List ℕ → Act) → has_two ws ≡ false → two ws g ≡ Lost
two_lost [] g e = refl
two_lost (w ∷ []) g e = refl
two_lost (w ∷ v ∷ ws) g e = absurd (true≢false e)

pub some_is : {A : Type 0} (o : Option A) (a : A) (l : Act) (g : A → Act) → o ≡ Some a → if_some o l g ≡ g a
some_is o a l g e = ap (λ z. if_some z l g) e

pub none_is : {A : Type 0} (o : Option A) (l : Act) (g : A → Act) → o ≡ None → if_some o l g ≡ l
none_is o l g e = ap (λ z. if_some z l g) e

moved_on : (n : ℕ) (ws args : List ℕ) (g : List ℕ → List ℕ → Act) → n ≤ length ws → moved n ws args g ≡ g (reverse (take n ws) ++ args) (drop n ws)
moved_on zero ws args g h = refl
moved_on (suc n) [] args g h = absurd (omega arith)
moved_on (suc n) (w ∷ ws) args g h =
    moved_on n ws (w ∷ args) g (omega arith) ∙ ap (λ z. g z (drop n ws))
    (sym (append_assoc (reverse (take n ws)) (w ∷ []) args) ∙ ap (λ z. z ++ args) (sym (reverse-append (w ∷ []) (take n ws))))

pub moved_are : (n : ℕ) (ws : List ℕ) (g : List ℕ → List ℕ → Act) → n ≤ length ws → moved n ws [] g ≡ g (reverse (take n ws)) (drop n ws)
moved_are n ws g h = moved_on n ws [] g h ∙ ap (λ z. g z (drop n ws)) (append-nil (reverse (take n ws)))

moved_out : (n : ℕ) (ws args : List ℕ) (g : List ℕ → List ℕ → Act) → length ws < n → moved n ws args g ≡ Lost
moved_out zero ws args g h = absurd (omega arith)
moved_out (suc n) [] args g h = refl
moved_out (suc n) (w ∷ ws) args g h = moved_out n ws (w ∷ args) g (omega arith)

pub moved_lost : (n : ℕ) (ws : List ℕ) (g : List ℕ → List ℕ → Act) → length ws < n → moved n ws [] g ≡ Lost
moved_lost n ws g h = moved_out n ws [] g h

-- none lies under the first so many
pub under_lost : (n : ℕ) (ws : List ℕ) (g : List ℕ → ℕ → List ℕ → Act) → length ws ≤ n → moved n ws [] (λ args vs. one vs (g args)) ≡ Lost
under_lost n ws g h = by_size (nat_le n (length ws)) refl where
  by_size : (b : Bool) → nat_le n (length ws) ≡ b → moved n ws [] (λ args vs. one vs (g args)) ≡ Lost
  by_size true k = let l : n ≤ length ws = leb-true n (length ws) k in moved_are n ws _ l ∙ one_lost (drop n ws) _ (drop_all n ws h)
  by_size false k = let l : length ws < n = leb-false n (length ws) k in moved_lost n ws _ l
