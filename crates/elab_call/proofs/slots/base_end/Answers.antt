use Rattle.std.proofs.Common.{ap, ◌∙◌}
use Rattle.cpp_types.specs.Class.{classes_of, class_of}
use Rattle.elab_make.specs.cpp_layout.Layout.{extent_of}
use Rattle.elab_call.specs.Slots.{end_of_base}
use Rattle.elab_call.proofs.Pointers.{base_ends, same_number_ok}
use Rattle.elab_call.proofs.slots.base_end.Goals as goal

pub returns-in-Some-base : goal.returns-in-Some-base
returns-in-Some-base c =
    let cs = classes_of c.args.env.now.classes.items in
    same_number_ok c.size_of.result _ (end_of_base cs c.args.class)
    (ap (λ t. (extent_of cs t).size) c.plain_type.ensures
    ∙ base_ends cs c.args.class c.in-Some-base.base (class_of c.in-Some.found.now) c.in-Some.ensures c.in-Some-base.is) c.size_of.ensures
