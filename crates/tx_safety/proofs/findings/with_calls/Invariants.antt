use Rattle.std.proofs.Common.{◌≡◌, drop, fold}
use Rattle.tx_safety.specs.Safe.{call_findings}
use Rattle.tx_unsafe.specs.First.{sooner}
use Rattle.tx_safety.specs.Marks.{may_from}
use Rattle.tx_safety.proofs.findings.with_calls.Given as goal

abbrev pub invariant-loop-site : goal.invariant-loop-site
invariant-loop-site l = fold sooner l.found (call_findings (may_from l.marks) l.n (drop l.site-index l.calls))
    ≡ fold sooner l.initial.found (call_findings (may_from l.marks) l.n l.calls)
