use Rattle.std.proofs.Common.{◌≡◌}
use Rattle.own_table.specs.Table.{thread_limit}
use Rattle.machine_tests.proofs.holders.answer.Given as goal

abbrev pub invariant-loop-step : goal.invariant-loop-step
invariant-loop-step l = thread_limit l.holders ≡ l.threads
