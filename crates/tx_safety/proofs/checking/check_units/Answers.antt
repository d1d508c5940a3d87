use Rattle.std.proofs.Common.{◌≡◌, ◌+◌, ◌++◌, ◌∷◌, [], ap, length, arith}
use Rattle.std.proofs.lemmas.List.{length-append}
use Rattle.tx_unsafe.specs.Volatile.{marked}
use Rattle.tx_safety.proofs.FindingLists.{next_unit, next_marks}
use Rattle.tx_safety.proofs.checking.check_units.Goals as goal

pub loop-unit-preserved : goal.loop-unit-preserved
loop-unit-preserved c =
    let v = marked c.args.volatile.now in let all = c.loop-unit.marks.items in let m = c.in_ok-checked.checked.marks in
    record {
      found = next_unit v c.args.units.now c.loop-unit.unit-index c.unit-item.result c.loop-unit.found c.in_ok-checked.checked.found _ c.loop-unit-test.true
          c.unit-item.is c.in_ok-checked.ensures.found c.loop-unit.invariant.found;
      long = omega (arith, ap length c.in_ok-push.ensures.items, length-append all (m ∷ []), c.loop-unit.invariant.long);
      marks = next_marks v c.args.units.now all c.push.new.self.items c.loop-unit.unit-index c.unit-item.result m c.loop-unit.invariant.long
          c.loop-unit.invariant.marks c.in_ok-push.ensures.items c.loop-unit-test.true c.unit-item.is c.in_ok-checked.ensures.marks;
    }
