use Rattle.std.proofs.Common.{◌∙◌, ◌++◌, sym, ap, map}
use Rattle.cpp_types.specs.Class.{classes_of, class_of, member_of}
use Rattle.elab_conv.specs.cpp_layout.Layout.{end_from, head_items, class_extent}
use Rattle.elab_conv.specs.elab_rules.Objects.{base_part}
use Rattle.elab_init.specs.Parts.{placed}
use Rattle.elab_init.proofs.PartsPlaced.{parts_placed}
use Rattle.elab_init.proofs.class_parts.parts_of.Goals as goal

pub returns : goal.returns
returns c =
    c.in_ok-add_members.ensures
    ∙ ap (λ zs. zs ++ placed (classes_of c.args.env.now.classes.items) c.in_ok-end.end (map member_of c.deref.result.now)) c.in_ok-parts.ensures
    ∙ ap (λ z. base_part c.in-Some.found.now.base ++ placed (classes_of c.args.env.now.classes.items) z (map member_of c.deref.result.now)) c.in_ok-end.ensures
    ∙ ap (λ ms. base_part c.in-Some.found.now.base ++ placed (classes_of c.args.env.now.classes.items)
    (end_from 0 (head_items (class_extent (classes_of c.args.env.now.classes.items)) (classes_of c.args.env.now.classes.items) c.args.class
    (class_of c.in-Some.found.now))) (map member_of ms)) c.deref.ensures.value
    ∙ sym (parts_placed (classes_of c.args.env.now.classes.items) c.args.class (class_of c.in-Some.found.now) c.in-Some.ensures)
