use Rattle.std.proofs.Common.{◌≡◌, map, take, length}
use Rattle.link_tables.specs.Found.{class_row, class_symbol_of, numbered}
use Rattle.link_tables.proofs.kept.numbered_classes.Given as goal

abbrev pub invariant-loop-class : goal.invariant-loop-class
invariant-loop-class l = (l.defs.items ≡ numbered 0 (map class_symbol_of (map class_row (take l.class-index l.kept)))) × (length l.defs.items ≡ l.class-index)
