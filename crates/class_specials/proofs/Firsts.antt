-- The first place at which a test holds, and all places.
use Rattle.std.proofs.Common.{◌≡◌, ℕ, suc, Bool, true, false, List, [], ◌∷◌, Option, Some, is_none, refl, if◌then◌else◌}
use Rattle.elab_init.specs.elab_ctx.Ctx.{Func}
use Rattle.elab_init.specs.elab_rules.Initialising.{places_from, kept_if}
use Rattle.elab_init.specs.elab_rules.Functions.{first_from}
use Rattle.elab_init.specs.elab_rules.Classes.{is_no_place}

step : (b : Bool) (i : ℕ) (is : List ℕ) (o : Option ℕ) → is_none o ≡ is_no_place is → is_none (if b then Some i else o) ≡ is_no_place (kept_if b i is)
step true i is o h = refl
step false i is o h = h

pub none_first : (test : Func → Bool) (i : ℕ) (fs : List Func) → is_none (first_from test i fs) ≡ is_no_place (places_from test i fs)
none_first test i [] = refl
none_first test i (f ∷ fs) = step (test f) i (places_from test (suc i) fs) (first_from test (suc i) fs) (none_first test (suc i) fs)
