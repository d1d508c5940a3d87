use Rattle.std.proofs.Common.{◌≡◌, drop, map}
use Rattle.tx_code.specs.Objects.{bytes_of}
use Rattle.tx_code.specs.WellFormed.{ascends, bytes_lt}
use Rattle.object_bytes.specs.Fields.{lent}
use Rattle.object_check.specs.Order.{ascends_behind}
use Rattle.object_check.proofs.order.names_ascend.Given as goal

abbrev pub invariant-loop-name : goal.invariant-loop-name
invariant-loop-name l = ascends bytes_lt (map bytes_of l.names) ≡ ascends_behind bytes_lt (lent l.before) (map bytes_of (drop l.name-index l.names))
