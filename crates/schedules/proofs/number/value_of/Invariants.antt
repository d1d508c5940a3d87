use Rattle.std.proofs.Common.{◌≡◌, ◌≤◌, take}
use Rattle.schedules.specs.Number.{read_on}
use Rattle.schedules.proofs.number.value_of.Given as goal

abbrev pub invariant-digits : goal.invariant-digits
invariant-digits l = record {
  value : l.value ≡ read_on 0 (take l.digit-index l.digits);
  bound : l.value ≤ l.most;
}
