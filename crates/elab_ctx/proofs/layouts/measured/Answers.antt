use Rattle.std.proofs.Common.{sym}
use Rattle.cpp_tree.specs.cpp_types.Typ.{shape_form, typ_of}
use Rattle.cpp_tree.specs.cpp_types.Class.{classes_of}
use Rattle.cpp_tree.specs.cpp_layout.Layout.{class_extent, extent_of}
use Rattle.cpp_tree.proofs.cpp_layout.Forms.{none_answers, large_part, answers_by, answers_alone}
use Rattle.elab_ctx.proofs.Sizes.{in_order, holds_complete}
use Rattle.elab_ctx.proofs.layouts.measured.Goals as goal

pub size_align-requires-clause-in_order : goal.size_align-requires-clause-in_order
size_align-requires-clause-in_order c = rw c.deref.ensures.value (in_order (classes_of c.args.env.now.classes.items) c.args.env.now.in_order)

pub size_align-requires-clause-complete : goal.size_align-requires-clause-complete
size_align-requires-clause-complete c = rw c.deref.ensures.value
    (holds_complete (classes_of c.args.env.now.classes.items) (shape_form c.args.ty.now.shape) c.requires)

pub returns-in-Ok : goal.returns-in-Ok
returns-in-Ok c = rw c.deref.ensures.value at c.in-Ok.ensures

pub returns-in-Err : goal.returns-in-Err
returns-in-Err c = rw c.deref.ensures.value at c.in-Err.ensures

pub returns-in_err-class_measured-in-Some : goal.returns-in_err-class_measured-in-Some
returns-in_err-class_measured-in-Some c = none_answers c.from_residual.result (extent_of (classes_of c.args.env.now.classes.items) (typ_of c.args.ty.now))
    c.from_residual.ensures
    (large_part (class_extent (classes_of c.args.env.now.classes.items))
    (shape_form c.args.ty.now.shape) c.held_class.result c.in-Some.class c.in-Some.is c.held_class.ensures
    (sym c.if-has_no_elements.ensures) c.in_err-class_measured-in-Some.ensures)

pub returns-in_ok-class_measured-in-Some : goal.returns-in_ok-class_measured-in-Some
returns-in_ok-class_measured-in-Some c = answers_by (class_extent (classes_of c.args.env.now.classes.items))
    (shape_form c.args.ty.now.shape) c.held_class.result c.in-Some.class c.scaled.result c.in_ok-class_measured-in-Some.field-0 c.in-Some.is c.held_class.ensures
    c.in_ok-class_measured-in-Some.ensures c.scaled.ensures

pub returns-in-None : goal.returns-in-None
returns-in-None c = answers_alone (class_extent (classes_of c.args.env.now.classes.items))
    (shape_form c.args.ty.now.shape) c.held_class.result c.scaled-in-None.result c.scalar_of.result c.in-None.is c.held_class.ensures c.scaled-in-None.ensures
