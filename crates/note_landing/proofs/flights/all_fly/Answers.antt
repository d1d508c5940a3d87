use Rattle.std.proofs.Common.{ap, sym, ◌∙◌}
use Rattle.tx_code.specs.Meaning.{find}
use Rattle.note_landing.proofs.Flown.{found_all}
use Rattle.note_landing.proofs.flights.all_fly.Goals as goal

pub returns-in_ok-found_fits-in-Some-clause-is : goal.returns-in_ok-found_fits-in-Some-clause-is
returns-in_ok-found_fits-in-Some-clause-is c m a = found_all c.args.body.now m c.args.notes.now _ _ _ _ _ _ _ _ (λ n. ap (λ z. find z c.args.index n) (sym c.deref.ensures.value) ∙ c.in-Some.ensures n) (c.in_ok-found_fits-in-Some.ensures.is m a)
