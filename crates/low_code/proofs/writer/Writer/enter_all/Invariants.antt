use Rattle.std.proofs.Common.{◌≡◌, vec_len}
use Rattle.low_code.specs.Writer.{body_of, entered_all}
use Rattle.low_code.proofs.writer.Writer.enter_all.Given as goal

abbrev pub invariant-loop-scope : goal.invariant-loop-scope
invariant-loop-scope l = entered_all l.left.items (body_of l.self) ≡ entered_all l.initial.left.items (body_of l.initial.self)

abbrev pub decreases-loop-scope : goal.decreases-loop-scope
decreases-loop-scope l = vec_len l.left
