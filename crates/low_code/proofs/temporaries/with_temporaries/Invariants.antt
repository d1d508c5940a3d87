use Rattle.std.proofs.Common.{◌≡◌, drop}
use Rattle.std.specs.Prelude.{fold}
use Rattle.low_code.specs.Temporaries.{with_one, temporaries_of}
use Rattle.low_code.proofs.temporaries.with_temporaries.Given as goal

abbrev pub invariant-loop-node : goal.invariant-loop-node
invariant-loop-node l = fold with_one l.known.items (drop l.node-index l.unit.nodes.items) ≡ temporaries_of l.unit.nodes.items
