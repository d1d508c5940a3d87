use Rattle.std.proofs.Common.{◌≡◌, ◌∙◌, ◌-◌, ◌++◌, ap, arith, map}
use Rattle.elab_init.specs.cpp_types.Typ.{typ_of, shape_form}
use Rattle.elab_init.specs.cpp_types.Class.{classes_of}
use Rattle.elab_init.specs.cpp_layout.Layout.{extent_of}
use Rattle.elab_init.specs.Parts.{part_of}
use Rattle.elab_make.specs.Fields.{fields_of_each}
use Rattle.elab_make.proofs.Fielding.{if_adds, class_is, array_is, object_added, objects_done, part_added, parts_done}
use Rattle.elab_make.proofs.scalar_fields.+fields.Goals as goal

pub add_class-returns : goal.add_class-returns
add_class-returns t c =
    let positive = c.if-depth-eq0.false in
    if_adds _ _ _ _ _ (class_is c.args.depth (c.args.depth - 1) (classes_of c.args.env.now.classes.items) c.args.at c.args.class c.args.offset _ (omega arith)
    (ap (map part_of) c.deref.ensures.value ∙ c.in_ok-parts.ensures)) c.add_parts.ensures

pub add_fields-returns-in_ok-stride-in-Array : goal.add_fields-returns-in_ok-stride-in-Array
add_fields-returns-in_ok-stride-in-Array t c =
    let e : c.deref-in-Array.result.now ≡ c.in-Array.element.value = cc in
    let d : c.deref.result.now ≡ c.in-Array.element.value = cc in
    if_adds _ _ _ _ _ (ap (λ z. fields_of_each c.args.depth (classes_of c.args.env.now.classes.items) c.args.at
    (typ_of z) c.args.offset c.in_ok-stride-in-Array.stride c.in-Array.count) e
    ∙ array_is c.args.depth (classes_of c.args.env.now.classes.items) c.args.at c.args.offset (typ_of c.args.ty.now)
    (typ_of c.in-Array.element.value) c.in-Array.count c.in_ok-stride-in-Array.stride (ap shape_form c.in-Array.is)
    (c.in_ok-stride-in-Array.ensures ∙ ap (λ z. (extent_of (classes_of c.args.env.now.classes.items) (typ_of z)).size) d)) c.add_repeated.ensures

pub add_parts-loop-part-preserved : goal.add_parts-loop-part-preserved
add_parts-loop-part-preserved t c = part_added _ _ _ _ _ _ _ c.part-item.result _ _ _ _ _ c.in_ok-more.more.items _ c.loop-part.invariant c.loop-part-test.true
    c.part-item.is c.in_ok-here.ensures c.in_ok-more.ensures (c.in_ok-keep_all.ensures ∙ ap (λ z. c.loop-part.ids.items ++ z) c.deref.ensures.value)

pub add_parts-returns : goal.add_parts-returns
add_parts-returns t c = parts_done _ _ _ _ _ _ _ _ _ c.loop-part.invariant c.loop-part-test.false

pub add_repeated-objects-preserved : goal.add_repeated-objects-preserved
add_repeated-objects-preserved t c =
    let positive = c.objects-test.true in
    object_added c.args.depth (classes_of c.args.env.now.classes.items) c.args.at
    (typ_of c.args.ty.now) c.args.offset c.objects.here c.in_ok-here.here c.args.stride c.args.count c.objects.left
    (c.objects.left - 1) _ _ _ _ c.in_ok-more.more.items _ c.objects.invariant (omega arith) c.in_ok-here.ensures c.in_ok-more.ensures
    (c.in_ok-keep_all.ensures ∙ ap (λ z. c.objects.ids.items ++ z) c.deref.ensures.value)

pub add_repeated-returns : goal.add_repeated-returns
add_repeated-returns t c =
    let none_left = c.objects-test.false in
    objects_done c.args.depth (classes_of c.args.env.now.classes.items) c.args.at
    (typ_of c.args.ty.now) c.args.offset c.objects.here c.args.stride c.args.count c.objects.left _ _ _ c.objects.invariant (omega arith)
