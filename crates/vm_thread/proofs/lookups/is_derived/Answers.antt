use Rattle.std.proofs.Common.{refl, sym, ap, ◌∙◌, ◌≡◌, ◌+◌, ◌-◌, suc, map, length, Some, arith}
use Rattle.std.specs.Prelude.{slice_get}
use Rattle.std.specs.Option.{option_map}
use Rattle.std.proofs.lemmas.Option.{slice_get-map, slice_get_read}
use Rattle.std.proofs.lemmas.Bool.{ltb-true}
use Rattle.tx_code.specs.Images.{image_class_view}
use Rattle.tx_code.specs.Program.{derives}
use Rattle.vm_thread.proofs.Bases.{goes_on}
use Rattle.vm_thread.proofs.lookups.is_derived.Goals as goal

pub loop-preserved : goal.loop-preserved
loop-preserved c =
    let l : length c.args.classes.now - c.loop.counter ≡ suc (length c.args.classes.now - (c.loop.counter + 1)) = omega arith in
    let is : slice_get c.args.classes.now c.loop.at ≡ Some c.in-Some.class.now =
    slice_get_read c.args.classes.now (length c.args.classes.now) c.loop.at c.in-Some.class.now refl
    (ltb-true c.loop.at (length c.args.classes.now) (sym c.in-Some.ensures.lookup.0)) c.in-Some.ensures.lookup.1 in
    let k : slice_get (map image_class_view c.args.classes.now) c.loop.at ≡ Some (image_class_view c.in-Some.class.now) =
    slice_get-map image_class_view c.args.classes.now c.loop.at ∙ ap (option_map image_class_view) is in
    c.loop.invariant ∙ ap (λ z. derives (map image_class_view c.args.classes.now) z c.loop.at c.args.base) l
    ∙ goes_on (map image_class_view c.args.classes.now) _ c.loop.at c.in-Some-base.next c.args.base
    (image_class_view c.in-Some.class.now) c.if-at-base.false k c.in-Some-base.is
