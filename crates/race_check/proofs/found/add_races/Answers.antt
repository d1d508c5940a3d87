use Rattle.std.proofs.Common.{◌≡◌, true, sym, ◌∙◌}
use Rattle.race_check.specs.Races.{writes}
use Rattle.race_check.proofs.FoundSteps.{racing_both}
use Rattle.race_check.proofs.found.add_races.Goals as goal

pub returns : goal.returns
returns c =
    let w : writes c.args.item.what ≡ true = sym c.is_write.ensures ∙ c.if-not-is_write.false in
    racing_both c.args.seen.now c.args.row.now.latest c.args.item c.bytes_of-bytes.result.from c.bytes_of-bytes.result.to c.args.words.now.items
    c.add_late.new.words.items c.add_late-2.new.words.items c.bytes_of-bytes.ensures.inside c.bytes_of-bytes.ensures.all w c.in_ok-add_late.ensures
    c.in_ok-add_late-2.ensures
