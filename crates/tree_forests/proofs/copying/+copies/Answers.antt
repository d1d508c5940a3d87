use Rattle.cpp_tree.specs.Arena.{trees_of}
use Rattle.tree_forests.proofs.Copied.{copying_first, copying_one, copying_all}
use Rattle.tree_forests.proofs.copying.+copies.Goals as goal

pub copy_all-loop-id-init : goal.copy_all-loop-id-init
copy_all-loop-id-init t c = copying_first _ _ _ c.new-list.ensures.items

pub copy_all-loop-id-preserved : goal.copy_all-loop-id-preserved
copy_all-loop-id-preserved t c = copying_one _ _ _ _ _ _ (trees_of c.args.from.now) c.args.place c.args.ids.now c.loop-id.id-index (record { 0 = 0 })
    c.loop-id.invariant c.loop-id-test.true c.in_ok-kid.ensures c.in_ok-keep.ensures

pub copy_all-returns : goal.copy_all-returns
copy_all-returns t c = copying_all _ _ _ (trees_of c.args.from.now) c.args.place c.args.ids.now c.loop-id.id-index c.loop-id.invariant c.loop-id-test.false
