use Rattle.std.proofs.Common.{◌≡◌, drop}
use Rattle.std.specs.Prelude.{fold}
use Rattle.low_code.specs.Writer.{body_of, bound_there, bound_all}
use Rattle.low_code.proofs.writer.Writer.bind_all.Given as goal

-- the jumps that wait stay, and those from this one on are still to be bound
abbrev pub invariant-loop-i : goal.invariant-loop-i
invariant-loop-i l =
    (l.self.pending.items ≡ l.initial.self.pending.items)
    × (bound_all l.scope l.sort (body_of l.initial.self) ≡ fold (bound_there l.scope l.sort) (body_of l.self) (drop l.i l.initial.self.pending.items))
