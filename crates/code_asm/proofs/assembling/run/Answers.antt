use Rattle.std.proofs.Common.{arith}
use Rattle.code_asm.specs.Answers.{begins, goes_on}
use Rattle.assembly_text.proofs.LineLaws.{shorter}
use Rattle.code_asm.proofs.StateLaws.{sorted}
use Rattle.code_asm.proofs.assembling.run.Goals as goal

pub lines-init : goal.lines-init
lines-init c = record { reached = rw c.start-assembly.ensures begins; bound = omega arith }

pub add_next-requires : goal.add_next-requires
add_next-requires c = sorted c.lines.invariant.reached

pub lines-preserved : goal.lines-preserved
lines-preserved c = record {
  reached = goes_on c.in-Ok.ensures.line c.lines.invariant.reached c.in-Ok.ensures.here c.in-Ok.ensures.taken;
  bound = omega (arith, shorter c.in-Ok.ensures.here, c.lines.invariant.bound);
}

pub lines-smaller : goal.lines-smaller
lines-smaller c = shorter c.in-Ok.ensures.here
