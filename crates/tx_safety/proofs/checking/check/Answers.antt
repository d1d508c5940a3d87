use Rattle.std.proofs.Common.{sym, subst}
use Rattle.tx_safety.specs.Marks.{AreReadable}
use Rattle.tx_safety.proofs.Programs.{Lists, found_is, first_is, checked, empty_list}
use Rattle.tx_safety.proofs.checking.check.Goals as goal

pub check_units-requires : goal.check_units-requires
check_units-requires c = subst AreReadable (sym c.deref-2.ensures.value) c.requires

pub invariant_of-result : goal.invariant_of-result
invariant_of-result c =
    let l : Lists c.args.program c.in_ok-volatile.volatile.items c.deref-3.result.now c.deref.result.now c.deref-2.result.now =
    record {
      classes_are = c.deref.ensures.value;
      units_are = c.deref-2.ensures.value;
      marks_are = c.deref-3.ensures.value;
      tells =
          c.in_ok-volatile.ensures;
    } in
    record {
      known = checked c.args.program c.in_ok-volatile.volatile.items c.deref-3.result.now c.deref.result.now c.deref-2.result.now c.in_ok-checked.checked.found
          c.in_ok-checked.checked.marks.items l
          c.in_ok-checked.ensures.found c.in-None.is c.in_ok-checked.ensures.long c.in_ok-checked.ensures.marks;
    }

pub returns-in-Some : goal.returns-in-Some
returns-in-Some c =
    let l : Lists c.args.program c.in_ok-volatile.volatile.items c.deref-3.result.now c.deref.result.now c.deref-2.result.now =
    record {
      classes_are = c.deref.ensures.value;
      units_are = c.deref-2.ensures.value;
      marks_are = c.deref-3.ensures.value;
      tells =
          c.in_ok-volatile.ensures;
    } in
    first_is c.args.program c.in_ok-checked.checked.found c.in-Some.first
    (found_is c.args.program c.in_ok-volatile.volatile.items c.deref-3.result.now c.deref.result.now c.deref-2.result.now c.in_ok-checked.checked.found l
    c.in_ok-checked.ensures.found) c.in-Some.is
