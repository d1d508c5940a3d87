use Rattle.std.proofs.Common.{sym, length}
use Rattle.std.proofs.lemmas.Bool.{ltb-false}
use Rattle.src_bind.specs.Bounds.{given}
use Rattle.src_bind.specs.Tables.{typed, linked_of}
use Rattle.src_link.proofs.CellLists.{cells_past}
use Rattle.src_link.proofs.cells.all_cells.Goals as goal

pub returns-in_default : goal.returns-in_default
returns-in_default c = cells_past (typed (given c.args.bound.now))
    (linked_of (given c.args.bound.now)) c.args.kept.now c.args.offsets.now c.loop-i.i c.loop-i.cells.items _
    (ltb-false c.loop-i.i (length c.args.offsets.now) (sym (c.in_default.ensures.lookup).0)) c.loop-i.invariant
