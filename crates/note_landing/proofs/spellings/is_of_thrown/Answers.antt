use Rattle.std.proofs.Common.{sym, refl, length}
use Rattle.std.proofs.lemmas.Bool.{ltb-true}
use Rattle.std.proofs.lemmas.Option.{slice_get_read}
use Rattle.note_landing.proofs.Thrown.{made_is_thrown}
use Rattle.note_landing.proofs.spellings.is_of_thrown.Goals as goal

pub returns-in_ok-alike-in-Some : goal.returns-in_ok-alike-in-Some
returns-in_ok-alike-in-Some c told =
    let types = c.args.body.now.source.types.now in
    made_is_thrown c.args.body.now _ _ _ c.in-Some.ty.now _ c.in-Made.is (slice_get_read types (length types) _ c.in-Some.ty.now refl (ltb-true _ (length types) (sym c.in-Some.ensures.lookup.0)) c.in-Some.ensures.lookup.1) c.in_ok-alike-in-Some.ensures told
