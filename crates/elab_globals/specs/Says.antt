-- What the records of the code show.
use Rattle.std.specs.Prelude.{List, map, Vec}
use Rattle.std.specs.declared.alloc.Global.{Global as Heap}
use Rattle.elab_rules.specs.cpp_tree.declared.program.InitCell.{InitCell}
use Rattle.elab_rules.specs.cpp_tree.Units.{Cell, cell_of}

abbrev pub cells_shown : Vec InitCell Heap → List Cell
cells_shown v = map cell_of v.items
