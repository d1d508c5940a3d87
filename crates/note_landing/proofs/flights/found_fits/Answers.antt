use Rattle.std.proofs.Common.{rules}
use Rattle.note_landing.proofs.Flown.{found_none, found_some}
use Rattle.note_landing.proofs.flights.found_fits.Goals as goal

pub returns-in_ok-outward-in-None-clause-is : goal.returns-in_ok-outward-in-None-clause-is
returns-in_ok-outward-in-None-clause-is c m a = found_none c.args.body.now m c.args.notes.now _ _ _ _ _ _ _ c.in-None.is (c.in_ok-outward-in-None.ensures.is m a)

pub returns-in_ok-row_fits-in-Some-clause-is : goal.returns-in_ok-row_fits-in-Some-clause-is
returns-in_ok-row_fits-in-Some-clause-is c m a = found_some c.args.body.now m c.args.notes.now _ _ _ _ _ _ _ _ _ c.in-Some.is (search rules) (c.in_ok-row_fits-in-Some.ensures.is m a)
