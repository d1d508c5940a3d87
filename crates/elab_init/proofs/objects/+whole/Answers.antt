use Rattle.std.proofs.Common.{◌∙◌, ◌-◌, ap, arith, map}
use Rattle.cpp_types.specs.Class.{classes_of}
use Rattle.elab_conv.proofs.elab_ctx.Making.{last_adds}
use Rattle.elab_init.specs.Leaves.{leaf_of, pieces_by}
use Rattle.elab_init.specs.Parts.{part_of}
use Rattle.elab_init.proofs.Wholes.{class_tree, piece_added, pieces_done}
use Rattle.elab_init.proofs.objects.+whole.Goals as goal

pub add_class-returns : goal.add_class-returns
add_class-returns t c =
    let positive = c.if-depth-eq0.false in
    last_adds _ _ _ _ _ _ c.in_ok-kids.ensures.grows (class_tree c.args.depth (c.args.depth - 1) (leaf_of c.args.leaf) (classes_of c.args.env.now.classes.items)
    c.args.at c.args.class c.args.is_const c.args.is_volatile _ _ (omega arith)
    (c.in_ok-kids.ensures.are ∙ ap (λ ps. pieces_by (c.args.depth - 1) (leaf_of c.args.leaf) (classes_of c.args.env.now.classes.items) c.args.at
    c.args.is_const c.args.is_volatile (map part_of ps)) c.deref.ensures.value
    ∙ ap (λ ps. pieces_by (c.args.depth - 1) (leaf_of c.args.leaf)
    (classes_of c.args.env.now.classes.items) c.args.at c.args.is_const c.args.is_volatile ps) c.in_ok-parts.ensures) c.class_type-ty.ensures)
    c.add_node.ensures.tree

pub add_pieces-loop-part-preserved : goal.add_pieces-loop-part-preserved
add_pieces-loop-part-preserved t c = piece_added _ _ _ _ _ _ _ _ c.part-item.result _ _ _ _ _ _ _ _ _ c.loop-part.invariant c.loop-part-test.true c.part-item.is
    c.in_ok-init.ensures c.in_ok-kid.ensures c.in_ok-keep.ensures

pub add_pieces-returns : goal.add_pieces-returns
add_pieces-returns t c = pieces_done _ _ _ _ _ _ _ _ _ _ _ c.loop-part.invariant c.loop-part-test.false
