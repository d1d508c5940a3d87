-- Entries with ranks in place of names.
use Rattle.std.specs.Prelude.{ℕ, List}
use Rattle.std.specs.Option.{option_map}
use Rattle.link_faults.specs.declared.entries.RankedEntry.{RankedEntry}
use Rattle.link_faults.specs.Faults.{Entry, is_main}
use Rattle.link_faults.specs.Ranks.{rank_of}

abbrev pub ranked : (all : List (List ℕ)) → Entry → RankedEntry
ranked all e = record {
  symbol = rank_of all e.symbol;
  ty = rank_of all e.ty;
  linkage = e.linkage;
  defined = e.defined;
  text = option_map (rank_of all) e.text;
  wanted_safe = e.wanted_safe;
  safe = e.safe;
  main = is_main e;
}
