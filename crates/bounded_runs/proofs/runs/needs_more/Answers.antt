use Rattle.std.proofs.Common.{ℕ, ◌≡◌, ◌<◌, ◌+◌, ◌*◌, arith}
use Rattle.std.proofs.lemmas.Result.{IfOk-weaker}
use Rattle.bounded_runs.proofs.runs.needs_more.Goals as goal

later : (z t c d n : ℕ) → t ≡ z → d ≡ c → t < 66 * (c + 1) + 64 → d < n → z < 66 * n + 64
later z t c d n e f h g = omega (arith, e, f, h, g)

pub returns-in-Ok-clause-more : goal.returns-in-Ok-clause-more
returns-in-Ok-clause-more c = IfOk-weaker c.costs_more.result _ _
    (λ more h e n out end ends. later _ c.first_turns.result c.in-Some.cost c.in-Ok.cost n c.first_turns.ensures c.in-Ok.ensures.1 c.in-Some.ensures.some
    (h e n out end ends))
    c.costs_more.ensures
