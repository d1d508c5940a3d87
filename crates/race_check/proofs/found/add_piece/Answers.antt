use Rattle.std.proofs.Common.{◌<◌, ◌≤◌}
use Rattle.race_check.specs.Marks.{late_at}
use Rattle.race_check.proofs.WordSteps.{words_none}
use Rattle.race_check.proofs.found.add_piece.Goals as goal

pub returns-then-not-is_late : goal.returns-then-not-is_late
returns-then-not-is_late c =
    words_none (λ x. (c.args.at ≤ x) × (x < c.args.end) × late_at c.args.marks.now c.args.row.now.latest c.args.t x) c.args.words.now.items c.requires.ascending
    (λ x p. c.is_late.ensures.no c.if-not-is_late.true x p.0 p.1 p.2)
