use Rattle.std.proofs.Common.{sym, ◌∙◌}
use Rattle.std.specs.Prelude.{slice_index}
use Rattle.race_check.proofs.BlockSteps.{gathers_one, gathers_two}
use Rattle.race_check.proofs.blocks.Blocks.gather.Goals as goal

pub returns-then-not-is_write : goal.returns-then-not-is_write
returns-then-not-is_write c =
    gathers_one c.args.self.now c.args.what c.bytes_of-bytes.result.from c.bytes_of-bytes.result.to (slice_index c.args.row.now.latest)
    (slice_index c.add_to.new.row.latest)
    c.bytes_of-bytes.ensures.inside c.bytes_of-bytes.ensures.all (sym c.is_write.ensures ∙ c.if-not-is_write.true) c.add_to.ensures

pub returns : goal.returns
returns c =
    gathers_two c.args.self.now c.args.what c.bytes_of-bytes.result.from c.bytes_of-bytes.result.to (slice_index c.args.row.now.latest)
    (slice_index c.add_to.new.row.latest)
    (slice_index c.add_to-2.new.row.latest) c.bytes_of-bytes.ensures.inside c.bytes_of-bytes.ensures.all
    (sym c.is_write.ensures ∙ c.if-not-is_write.false) c.add_to.ensures
    c.add_to-2.ensures
