use Rattle.std.proofs.Common.{refl}
use Rattle.std.specs.Vec.{with_item}
use Rattle.race_check.proofs.ClockSteps.{own_of, reached_by_set}
use Rattle.race_check.proofs.BlockSteps.{right_entered}
use Rattle.race_check.proofs.clocks.Clocks.enter.Goals as goal

pub gather_ahead-requires-clause-own : goal.gather_ahead-requires-clause-own
gather_ahead-requires-clause-own c =
    own_of c.args.items.now c.args.j c.args.item c.requires.there c.requires.regular c.args.self.now c.requires.so_far c.from.result c.index_mut-row.result.now
    c.from.ensures
    c.index_mut-row.ensures.value

pub returns : goal.returns
returns c =
    reached_by_set c.args.items.now c.args.j c.args.item c.requires.there c.requires.regular c.args.self.now
    (record { rows = with_item c.args.self.now.rows c.from.result c.gather_ahead.new.row; begun = c.args.self.now.begun })
    c.from.result c.gather_ahead.new.row c.requires.so_far c.from.ensures refl refl
    (right_entered c.args.items.now c.args.j c.args.item c.requires.there c.requires.regular c.gather_ahead.new.row.latest c.requires.enters
    c.gather_ahead.ensures)
