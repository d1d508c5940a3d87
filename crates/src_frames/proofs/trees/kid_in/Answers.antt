use Rattle.std.proofs.Common.{◌∙◌, length, Some, sym, ap, refl}
use Rattle.std.proofs.lemmas.Bool.{ltb-false}
use Rattle.cpp_tree.specs.Trees.{Tree}
use Rattle.std.proofs.lemmas.Option.{slice_get_read, slice_get_past}
use Rattle.src_bind.specs.Bounds.{given}
use Rattle.src_bind.specs.Infos.{trees_in}
use Rattle.src_frames.proofs.Kids.{kid_below_some, kid_below_none}
use Rattle.src_frames.proofs.trees.kid_in.Goals as goal

pub returns-in-Some : goal.returns-in-Some
returns-in-Some c = kid_below_some (trees_in (given c.args.bound.now).program c.args.unit) c.args.id.0 c.args.kids.now c.args.index c.in-Some.kid.now
    (slice_get_read c.args.kids.now (length c.args.kids.now) c.args.index c.in-Some.kid.now refl ((c.in-Some.ensures.lookup).3).0 (c.in-Some.ensures.lookup).1)
    ∙ ap (λ (z : Tree). Some z) (sym c.kid_below.ensures)

pub returns-in-None : goal.returns-in-None
returns-in-None c = kid_below_none (trees_in (given c.args.bound.now).program c.args.unit) c.args.id.0 c.args.kids.now c.args.index
    (slice_get_past c.args.kids.now c.args.index (ltb-false c.args.index (length c.args.kids.now) (sym (c.in-None.ensures.lookup).0)))
