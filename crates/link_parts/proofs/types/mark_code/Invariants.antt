use Rattle.std.proofs.Common.{◌+◌, map, take, slice_index}
use Rattle.std.specs.List.{flat_map}
use Rattle.tx_code.specs.Linked.{named_types}
use Rattle.link_parts.specs.Types.{Adds}
use Rattle.link_parts.proofs.types.mark_code.Given as goal

abbrev pub invariant-loop-instr : goal.invariant-loop-instr
invariant-loop-instr l = Adds (map (λ n. slice_index l.ranks (l.start + n)) (flat_map named_types (take l.instr-index l.code))) l.fn.marks.items l.marks.items
