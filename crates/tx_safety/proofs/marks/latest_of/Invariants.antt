use Rattle.std.proofs.Common.{◌≡◌, drop, fold, Some}
use Rattle.tx_safety.specs.Marks.{later}
use Rattle.tx_safety.proofs.marks.latest_of.Given as goal

abbrev pub invariant-loop-site : goal.invariant-loop-site
invariant-loop-site l = fold (later l.marks l.n) l.from (drop l.site-index l.calls) ≡ fold (later l.marks l.n) (Some 0) l.calls
