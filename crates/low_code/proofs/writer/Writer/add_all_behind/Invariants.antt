use Rattle.std.proofs.Common.{◌≡◌, ℕ, ◌+◌}
use Rattle.low_code.specs.Writer.{body_of, behind_from}
use Rattle.low_code.proofs.writer.Writer.add_all_behind.Given as goal

-- `k` more ways out may be added
abbrev pub invariant-loop : goal.invariant-loop
invariant-loop l = (k : ℕ) → l.counter + k ≡ l.most
    → behind_from l.most l.first 0 l.at (body_of l.initial.self) ≡ behind_from k l.edge l.last l.at (body_of l.self)
