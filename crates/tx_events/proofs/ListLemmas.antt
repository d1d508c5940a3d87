-- A list of which one element was replaced.
use Rattle.std.proofs.Common.{ℕ, ◌≡◌, ◌==◌, ◌<◌, ◌≤◌, true, false, cond, Some, List, length, get_or, refl, ap, sym, ◌∙◌, subst, inl, inr}
use Rattle.std.proofs.Math.ListN.{set, length-set}
use Rattle.std.specs.Prelude.{slice_get}
use Rattle.std.proofs.lemmas.Bool.{eqb-true, eqb-false, cases_lt}
use Rattle.std.proofs.lemmas.List.{get_or-set_same, get_or-set_other}
use Rattle.std.proofs.lemmas.Option.{slice_get_past, slice_get-get_or}

pub get_set : {X : Type 0} (xs : List X) (i : ℕ) (v : X) (t : ℕ) → i < length xs → slice_get (set xs i v) t ≡ cond (t == i) (Some v) (slice_get xs t)
get_set {X} xs i v t h =
    let l : length (set xs i v) ≡ length xs = length-set xs i v in
    elim (t == i) as (λ b. (t == i) ≡ b → slice_get (set xs i v) t ≡ cond b (Some v) (slice_get xs t)) [
      | true ↦ λ e.
          let at : slice_get (set xs i v) i ≡ Some v = slice_get-get_or (set xs i v) i v (subst (λ n. i < n) (sym l) h)
          ∙ ap Some (get_or-set_same xs i v v h) in
          ap (λ n. slice_get (set xs i v) n) (eqb-true t i e) ∙ at
      | false ↦ λ e. elim (cases_lt t (length xs)) [
        | inl p ↦ slice_get-get_or (set xs i v) t v (subst (λ n. t < n) (sym l) p)
            ∙ (ap Some (get_or-set_other xs i t v v (eqb-false t i e)) ∙ sym (slice_get-get_or xs t v p))
        | inr p ↦ slice_get_past (set xs i v) t (subst (λ n. n ≤ t) (sym l) p) ∙ sym (slice_get_past xs t p)
      ]
    ] refl
