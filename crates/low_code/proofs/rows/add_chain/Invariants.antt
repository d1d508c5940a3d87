use Rattle.std.proofs.Common.{◌≡◌, ◌++◌, ℕ, ◌+◌}
use Rattle.low_code.specs.Writer.{body_of}
use Rattle.low_code.specs.Rows.{chain_rows, chain_last}
use Rattle.low_code.proofs.rows.add_chain.Given as goal

-- `k` more scopes may be looked at
abbrev pub invariant-loop : goal.invariant-loop
invariant-loop l = (k : ℕ) → l.counter + k ≡ l.most
    → (l.rows.items ++ chain_rows k (body_of l.body) l.from l.to l.number ≡ l.initial.rows.items ++ chain_rows l.most (body_of l.body) l.from l.to l.scope)
    × (chain_last k (body_of l.body) l.number ≡ chain_last l.most (body_of l.body) l.scope)
