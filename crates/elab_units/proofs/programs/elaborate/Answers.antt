use Rattle.std.proofs.Common.{◌≡◌, ◌∷◌, [], Some, Err, slice_get, ap, refl, length, arith, rules}
use Rattle.std.proofs.lemmas.List.{length-append}
use Rattle.std.proofs.lemmas.Option.{slice_get_read}
use Rattle.elab_entry.specs.cpp_types.Class.{classes_of}
use Rattle.elab_entry.proofs.elab_ctx.Sizes.{in_order}
use Rattle.elab_units.proofs.Elaborating.{none_yet, one_more, refused_at, all_units}
use Rattle.tree_forests.proofs.Forests.{no_forests, more_forests}
use Rattle.elab_units.proofs.programs.elaborate.Goals as goal

pub loop-unit-init : goal.loop-unit-init
loop-unit-init c =
    let empty : c.new-trees.result.items ≡ [] = search rules in
    record {
      long = ap length empty;
      forests = no_forests c.new-trees.result.items empty;
      so_far =
          none_yet c.args.units.now c.new-trees.result.items c.no_classes-known.result empty c.no_classes-known.ensures.known c.no_classes-known.ensures.traits;
    }

pub loop-unit-preserved : goal.loop-unit-preserved
loop-unit-preserved c =
    let all = c.loop-unit.trees.items in let u = c.in_ok-behind.behind.unit in
    let here : slice_get c.args.units.now c.loop-unit.unit-index ≡ Some c.unit-item.result =
    slice_get_read c.args.units.now (length c.args.units.now) c.loop-unit.unit-index c.unit-item.result refl c.loop-unit-test.true c.unit-item.is in
    let source : c.in-Ok.source ≡ c.loop-unit.unit-index = search rules in
    record {
      long = omega (arith, ap length c.in_ok-keep_unit.ensures, length-append all (u ∷ []), c.loop-unit.invariant.long);
      forests = more_forests all c.keep_unit.new.units.items u c.loop-unit.invariant.forests c.in_ok-behind.ensures.forest c.in_ok-keep_unit.ensures;
      so_far = one_more c.args.units.now c.loop-unit.unit-index c.in-Ok.source _ all c.keep_unit.new.units.items c.loop-unit.known c.unit-item.result
          c.in_ok-behind.behind c.loop-unit.invariant.so_far here source refl c.in_ok-behind.ensures.keeps c.in_ok-keep_unit.ensures;
    }

pub returns-clause-elaborates : goal.returns-clause-elaborates
returns-clause-elaborates c =
    all_units c.args.units.now c.loop-unit.unit-index c.loop-unit.trees.items c.loop-unit.known c.loop-unit-test.false c.loop-unit.invariant.so_far

pub returns-in_err-behind-clause-elaborates : goal.returns-in_err-behind-clause-elaborates
returns-in_err-behind-clause-elaborates c =
    let is_error : c.from_residual.result ≡ Err c.in_err-behind.field-0.0 = search rules in
    let here : slice_get c.args.units.now c.loop-unit.unit-index ≡ Some c.unit-item.result =
    slice_get_read c.args.units.now (length c.args.units.now) c.loop-unit.unit-index c.unit-item.result refl c.loop-unit-test.true c.unit-item.is in
    let source : c.in-Ok.source ≡ c.loop-unit.unit-index = search rules in
    refused_at c.args.units.now c.loop-unit.unit-index c.in-Ok.source c.loop-unit.trees.items c.loop-unit.known c.unit-item.result c.from_residual.result
    c.in_err-behind.field-0.0 is_error c.loop-unit.invariant.so_far here source c.in_err-behind.ensures.keeps

pub returns-clause-in_order : goal.returns-clause-in_order
returns-clause-in_order c = in_order (classes_of c.loop-unit.known.classes.items) c.loop-unit.known.in_order
