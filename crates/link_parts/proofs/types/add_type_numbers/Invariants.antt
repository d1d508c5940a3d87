use Rattle.std.proofs.Common.{◌≡◌, ◌++◌, map, take}
use Rattle.tx_code.specs.Objects.{bytes_of}
use Rattle.link_parts.specs.Types.{number_in}
use Rattle.link_parts.proofs.types.add_type_numbers.Given as goal

abbrev pub invariant-loop-name : goal.invariant-loop-name
invariant-loop-name l = l.numbers.items ≡ l.fn.numbers.items
    ++ map (number_in (map bytes_of l.types)) (map bytes_of (take l.name-index l.home.object.now.names.items))
