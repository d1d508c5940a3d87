use Rattle.std.proofs.Common.{map}
use Rattle.tx_code.specs.Objects.{bytes_of}
use Rattle.link_tables.specs.Homes.{home_view}
use Rattle.link_tables.specs.Found.{global_row}
use Rattle.link_tables.proofs.Rows.{both_parts}
use Rattle.link_tables.proofs.found.add_placed.Goals as goal

pub returns : goal.returns
returns c = both_parts (map bytes_of c.args.all.now) (home_view c.args.home) (map global_row c.args.found.now.items)
    (map global_row c.add_globals.new.found.items) _ c.in_ok-add_globals.ensures c.in_ok-add_globals-2.ensures
