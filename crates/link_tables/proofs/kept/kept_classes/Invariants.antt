use Rattle.std.proofs.Common.{◌≡◌, [], map, take, length}
use Rattle.link_tables.specs.Symbols.{Seen}
use Rattle.link_tables.specs.Found.{class_row, class_symbol_of, kept_class_rows}
use Rattle.link_tables.proofs.kept.kept_classes.Given as goal

abbrev pub invariant-loop-class : goal.invariant-loop-class
invariant-loop-class l = (map class_row l.kept.items ≡ kept_class_rows [] (map class_row (take l.class-index l.found)))
    × Seen (map class_symbol_of (map class_row l.kept.items)) l.seen.items × (length l.seen.items ≡ l.names)
