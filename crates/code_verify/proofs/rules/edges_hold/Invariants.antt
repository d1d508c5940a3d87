use Rattle.std.proofs.Common.{◌≡◌, ◌-◌, map}
use Rattle.code_walk.specs.Slots.{slot_of}
use Rattle.code_verify.specs.Rules.{holds_over, edge_test}
use Rattle.code_verify.proofs.rules.edges_hold.Given as goal

abbrev pub invariant-loop-index : goal.invariant-loop-index
invariant-loop-index l = holds_over (edge_test l.row) (map (slot_of l.nests) l.slots) l.row.from (l.row.to - l.row.from)
    ≡ holds_over (edge_test l.row) (map (slot_of l.nests) l.slots) l.index (l.row.to - l.index)
