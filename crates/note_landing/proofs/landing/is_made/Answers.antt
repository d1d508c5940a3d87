use Rattle.std.proofs.Common.{rules}
use Rattle.symbolic_leaving.specs.Source.{units_of}
use Rattle.note_landing.specs.Shown.{types_by, func_by}
use Rattle.note_landing.proofs.Landed.{makes_as}
use Rattle.note_landing.proofs.landing.is_made.Goals as goal

pub returns-clause-is : goal.returns-clause-is
returns-clause-is c told m a =
    let types = types_by c.args.body.now in
    let units = units_of c.args.body.now.source in
    let func = func_by c.args.body.now in
    let after = c.in_ok-facts.ensures.grows types m a in
    let first = c.in_ok-made.ensures.grows types m after in
    makes_as _ _ _ _ _ _ _ _ _ (c.in_ok-thrown.ensures told) (c.in_ok-made_place.ensures.is types m first) (c.equal_places.ensures.shows (search rules) types m first) (c.in_ok-made.ensures.is types m units func after) (c.equal_outcomes.ensures.shows (search rules) types m units func after) (c.in_ok-facts.ensures.is types m a) (c.are_among.ensures.shows (search rules) types m a)
