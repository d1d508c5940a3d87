use Rattle.std.proofs.Common.{sym, ◌∙◌, slice_get}
use Rattle.cpp_types.specs.Typ.{typ_of, shape_form}
use Rattle.cpp_types.specs.Class.{classes_of}
use Rattle.cpp_layout.specs.Layout.{class_extent, extent_of}
use Rattle.cpp_layout.proofs.Forms.{none_answers, large_part, answers_by, answers_alone}
use Rattle.class_layouts.proofs.Served.{kept_complete, says_large, says_measured}
use Rattle.class_layouts.proofs.members.measured.Goals as goal

pub size_align-requires-clause-complete : goal.size_align-requires-clause-complete
size_align-requires-clause-complete c = kept_complete (classes_of c.args.classes.now) c.args.layouts.now (shape_form c.args.ty.now.shape) c.requires.kept

pub returns-in_err-class_measured-in-Some : goal.returns-in_err-class_measured-in-Some
returns-in_err-class_measured-in-Some c = none_answers c.from_residual.result (extent_of (classes_of c.args.classes.now) (typ_of c.args.ty.now))
    c.from_residual.ensures
    (large_part (class_extent (classes_of c.args.classes.now))
    (shape_form c.args.ty.now.shape) c.held_class.result c.in-Some.class c.in-Some.is c.held_class.ensures
    (sym c.if-has_no_elements.ensures)
    (says_large (class_extent (classes_of c.args.classes.now) c.in-Some.class) (slice_get c.args.layouts.now c.in-Some.class)
    (sym c.in_err-class_measured-in-Some.ensures.is)
    ((c.requires.kept.held c.in-Some.class (sym c.held_class.ensures ∙ c.in-Some.is)).says)))

pub returns-in_ok-class_measured-in-Some : goal.returns-in_ok-class_measured-in-Some
returns-in_ok-class_measured-in-Some c = answers_by (class_extent (classes_of c.args.classes.now))
    (shape_form c.args.ty.now.shape) c.held_class.result c.in-Some.class c.scaled.result c.in_ok-class_measured-in-Some.field-0 c.in-Some.is c.held_class.ensures
    (says_measured (class_extent (classes_of c.args.classes.now) c.in-Some.class) (slice_get c.args.layouts.now c.in-Some.class)
    c.in_ok-class_measured-in-Some.field-0 (sym c.in_ok-class_measured-in-Some.ensures.is)
    ((c.requires.kept.held c.in-Some.class (sym c.held_class.ensures ∙ c.in-Some.is)).says))
    c.scaled.ensures

pub returns-in-None : goal.returns-in-None
returns-in-None c = answers_alone (class_extent (classes_of c.args.classes.now))
    (shape_form c.args.ty.now.shape) c.held_class.result c.scaled-in-None.result c.scalar_of.result c.in-None.is c.held_class.ensures c.scaled-in-None.ensures
