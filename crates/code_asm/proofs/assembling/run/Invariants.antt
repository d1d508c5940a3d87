use Rattle.std.proofs.Common.{◌≤◌, ◌+◌, length}
use Rattle.code_asm.specs.Views.{state_of}
use Rattle.code_asm.specs.Answers.{Reaches}
use Rattle.code_asm.proofs.assembling.run.Given as goal

abbrev pub invariant-lines : goal.invariant-lines
invariant-lines l = record {
  reached : Reaches l.text l.number (state_of l.assembly) l.rest;
  bound : l.number + length l.rest ≤ length l.text + 1;
}

abbrev pub decreases-lines : goal.decreases-lines
decreases-lines l = length l.rest
