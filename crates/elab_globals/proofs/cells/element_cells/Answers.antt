use Rattle.std.proofs.Common.{◌≡◌, suc, ◌+◌, ◌-◌, map, arith, rules}
use Rattle.elab_rules.specs.cpp_tree.Units.{cell_of}
use Rattle.elab_rules.specs.Globals.{repeated_cells}
use Rattle.elab_globals.proofs.CellLists.{repeated_more}
use Rattle.elab_globals.proofs.cells.element_cells.Goals as goal

pub loop-i-preserved : goal.loop-i-preserved
loop-i-preserved c =
    let left : c.args.count - c.loop-i._i ≡ suc (c.args.count - (c.loop-i._i + 1)) = omega (arith, c.loop-i-test.true) in
    let further : c.in-Some.next ≡ c.loop-i.offset + c.args.stride = search rules in
    repeated_more c.args.stride c.loop-i.offset c.in-Some.next (c.args.count - c.loop-i._i) (c.args.count - (c.loop-i._i + 1)) (map cell_of c.args.others.now)
    (map cell_of c.loop-i.cells.items) (map cell_of c.keep_moved.new.cells.items)
    (repeated_cells 0 c.args.stride c.args.count (map cell_of c.args.others.now)) left further c.in_ok-keep_moved.ensures c.loop-i.invariant
