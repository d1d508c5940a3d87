use Rattle.std.proofs.Common.{sym, refl, length}
use Rattle.std.proofs.lemmas.Bool.{ltb-true}
use Rattle.std.proofs.lemmas.Option.{slice_get_read}
use Rattle.note_landing.proofs.Flown.{found_known}
use Rattle.note_landing.proofs.flights.known_flies.Goals as goal

pub returns-clause-is : goal.returns-clause-is
returns-clause-is c m a =
    let types = c.args.body.now.source.types.now in
    let there = slice_get_read types (length types) _ c.in-Some.ty.now refl (ltb-true _ (length types) (sym c.in-Some.ensures.lookup.0)) c.in-Some.ensures.lookup.1 in
    found_known c.args.body.now m c.args.notes.now _ _ _ _ _ _ _ types _ _ _ _ there c.in_ok-number.ensures (rw c.deref.ensures.value at c.find_row-row.ensures) (c.in_ok-found_fits.ensures.is m a)
