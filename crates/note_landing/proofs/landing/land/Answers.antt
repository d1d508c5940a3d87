use Rattle.std.proofs.Common.{rules}
use Rattle.symbolic_leaving.specs.Source.{units_of}
use Rattle.note_landing.specs.Shown.{types_by, func_by}
use Rattle.note_landing.proofs.Landed.{agrees_as}
use Rattle.note_landing.proofs.landing.land.Goals as goal

pub returns-in-Some-clause-is : goal.returns-in-Some-clause-is
returns-in-Some-clause-is c m a =
    let types = types_by c.args.body.now in
    agrees_as c.args.body.now m c.args.notes.now _ _ _ _ _ _ _ (c.in_ok-outcome.ensures types m (units_of c.args.body.now.source) (func_by c.args.body.now) (c.in_ok-rank.ensures.grows types m a)) (c.is_stuck.ensures c.args.body.now m) (search rules) ((rw c.in-Some.is at c.in_ok-rank.ensures.is) m a)
