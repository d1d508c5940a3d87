use Rattle.std.proofs.Common.{◌≡◌, ◌++◌, map, take}
use Rattle.tx_code.specs.Objects.{bytes_of, class_view}
use Rattle.link_tables.specs.Homes.{home_view}
use Rattle.link_tables.specs.Found.{class_row, row_of_class}
use Rattle.link_tables.proofs.found.add_classes.Given as goal

abbrev pub invariant-loop-class : goal.invariant-loop-class
invariant-loop-class l = map class_row l.found.items ≡ map class_row l.fn.found.items
    ++ map (row_of_class (map bytes_of l.all) (home_view l.home)) (map class_view (take l.class-index l.home.object.now.classes.items))
