use Rattle.std.proofs.Common.{arith}
use Rattle.code_verify.proofs.EdgeMarks.{all_marked}
use Rattle.code_verify.proofs.edges.covered_by_edges.Goals as goal

pub returns-clause-is : goal.returns-clause-is
returns-clause-is c = λ i h. all_marked c.args.rows.now c.loop-row.row-index i _ (omega (arith, c.loop-row-test.false)) (c.loop-row.invariant.is i h)
