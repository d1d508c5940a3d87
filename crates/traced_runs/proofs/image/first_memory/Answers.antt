use Rattle.std.proofs.Common.{rules}
use Rattle.tx_code.specs.Views.{image_view}
use Rattle.tx_machine.proofs.ImageRuns.{globals_whole, globals_small, cells_within}
use Rattle.traced_runs.proofs.image.first_memory.Goals as goal

pub new-requires : goal.new-requires
new-requires c =
    let whole = globals_whole (image_view c.args.image.now) c.an_image_is_whole.ensures in
    let small = globals_small (image_view c.args.image.now) c.an_image_is_whole.ensures in
    let cells = cells_within (image_view c.args.image.now) c.an_image_is_whole.ensures in
    search (rules, whole, small, cells)
