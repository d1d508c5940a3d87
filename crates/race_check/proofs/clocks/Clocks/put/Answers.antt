use Rattle.std.proofs.Common.{◌∙◌}
use Rattle.race_check.proofs.ClockSteps.{clocked_more, counted, still_counted}
use Rattle.race_check.proofs.clocks.Clocks.put.Goals as goal

pub returns-clause-clocked : goal.returns-clause-clocked
returns-clause-clocked c =
    let a = c.count_at.ensures in
    let b = c.put_start.ensures in
    let g = c.begin.ensures in
    clocked_more c.args.items.now c.args.j c.args.item c.requires.there c.args.self.now
    (record { rows = c.put_start.new.rows; begun = c.begin.new.begun }) c.count_at.new.rows.items
    c.requires.regular c.requires.reached
    (counted c.args.items.now c.args.j c.args.item c.requires.there c.args.self.now c.count_at.new.rows.items c.requires.reached a.kept a.gained a.only)
    a.others b.size
    (g.size ∙ c.requires.reached.begun_size) b.there b.others g.there g.others

pub returns-clause-whole : goal.returns-clause-whole
returns-clause-whole c =
    let a = c.count_at.ensures in
    still_counted c.args.items.now c.args.j c.args.item c.requires.there c.requires.regular c.count_at.new.rows.items c.put_start.new.rows.items
    (counted c.args.items.now c.args.j c.args.item c.requires.there c.args.self.now c.count_at.new.rows.items c.requires.reached a.kept a.gained a.only)
    c.put_start.ensures.others
