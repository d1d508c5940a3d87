use Rattle.std.proofs.Common.{◌≡◌, ◌<◌, length, arith, refl, ◌∙◌}
use Rattle.tx_unsafe.specs.Volatile.{marked}
use Rattle.tree_fold.proofs.ProgramParts.{found, next_readable, set_long, next_unit_at, all_units}
use Rattle.tree_fold.proofs.Forests.{no_units, next_own, all_own}
use Rattle.tree_fold.proofs.program.fold_units.Goals as goal

pub loop-i-init : goal.loop-i-init
loop-i-init c = record { long = refl; readable = c.requires; folded = refl; own = no_units c.args.units.now.items }

pub loop-i-preserved : goal.loop-i-preserved
loop-i-preserved c =
    let n : c.len-i-end.result ≡ length c.args.units.now.items = c.len-i-end.ensures ∙ c.args.units.now.ok.0 in
    let h : c.loop-i.i < length c.loop-i.units.items = omega (arith, c.loop-i-test.true, n, c.loop-i.invariant.long) in
    let u = found c.loop-i.units.items c.loop-i.i h in
    let m = c.in_ok-fold_unit_at.ensures u.0 u.1 in
    record {
      long = set_long c.loop-i.units.items c.fold_unit_at.new.units.items c.loop-i.i (length c.args.units.now.items) m.unit c.loop-i.invariant.long m.are;
      readable = next_readable c.loop-i.units.items c.fold_unit_at.new.units.items c.loop-i.i m.unit c.loop-i.invariant.readable m.are;
      folded = next_unit_at (marked c.args.volatile.now) c.loop-i.i c.loop-i.units.items c.fold_unit_at.new.units.items u.0 _ c.loop-i.invariant.folded h u.1 m;
      own = next_own c.loop-i.units.items c.fold_unit_at.new.units.items c.loop-i.i m.unit c.loop-i.invariant.own m.are m.own;
    }

pub returns-clause-units : goal.returns-clause-units
returns-clause-units c =
    let n : c.len-i-end.result ≡ length c.args.units.now.items = c.len-i-end.ensures ∙ c.args.units.now.ok.0 in
    all_units (marked c.args.volatile.now) c.loop-i.i c.loop-i.units.items _ c.loop-i.invariant.folded
    (omega (arith, c.loop-i-test.false, n, c.loop-i.invariant.long))

pub returns-clause-own : goal.returns-clause-own
returns-clause-own c =
    let n : c.len-i-end.result ≡ length c.args.units.now.items = c.len-i-end.ensures ∙ c.args.units.now.ok.0 in
    all_own c.loop-i.units.items c.loop-i.i c.loop-i.invariant.own (omega (arith, c.loop-i-test.false, n, c.loop-i.invariant.long))
