use Rattle.std.proofs.Common.{◌≡◌, ◌≤◌, take}
use Rattle.decimal_text.specs.Number.{read_on}
use Rattle.decimal_text.proofs.value_of.Given as goal

abbrev pub invariant-digits : goal.invariant-digits
invariant-digits l = record {
  value : l.value ≡ read_on 0 (take l.digit-index l.digits);
  bound : l.value ≤ l.most;
}
