-- Functions of which none passes a test.
use Rattle.std.proofs.Common.{◌≡◌, ◌||◌, ℕ, suc, Bool, true, false, not, List, [], ◌∷◌, refl}
use Rattle.std.specs.List.{list_any}
use Rattle.elab_make.specs.elab_ctx.Ctx.{Func}
use Rattle.elab_make.specs.elab_rules.Initialising.{places_from, kept_if}
use Rattle.elab_make.specs.elab_rules.Braces.{is_empty}

none_step : (b : Bool) (i : ℕ) (rest : List ℕ) (any : Bool) → not any ≡ is_empty rest → not (b || any) ≡ is_empty (kept_if b i rest)
none_step true i rest any h = refl
none_step false i rest any h = h

pub none_from : (test : Func → Bool) (i : ℕ) (fs : List Func) → not (list_any test fs) ≡ is_empty (places_from test i fs)
none_from test i [] = refl
none_from test i (f ∷ fs) = none_step (test f) i (places_from test (suc i) fs) (list_any test fs) (none_from test (suc i) fs)
