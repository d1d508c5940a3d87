use Rattle.std.proofs.Common.{◌≡◌, replicate}
use Rattle.std.specs.Prelude.{false}
use Rattle.code_verify.proofs.edges.none_covered.Given as goal

abbrev pub invariant-loop : goal.invariant-loop
invariant-loop l = l.covered.items ≡ replicate l.counter false
