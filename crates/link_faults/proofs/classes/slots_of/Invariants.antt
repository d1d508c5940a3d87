use Rattle.std.proofs.Common.{◌≡◌, map, take}
use Rattle.tx_code.specs.Objects.{bytes_of, object_view}
use Rattle.link_faults.specs.Faults.{text_in}
use Rattle.std.specs.Option.{option_map}
use Rattle.link_faults.specs.Ranks.{rank_of}
use Rattle.link_faults.proofs.classes.slots_of.Given as goal

abbrev pub invariant-loop-slot : goal.invariant-loop-slot
invariant-loop-slot l = l.ranked.items ≡ map (option_map (rank_of (map bytes_of l.all))) (map (text_in (object_view l.object)) (take l.slot-index l.slots))
