use Rattle.cpp_tree.specs.cpp_types.Class.{classes_of}
use Rattle.elab_ctx.proofs.LaidOut.{place_if}
use Rattle.elab_ctx.proofs.layouts.member_place.Goals as goal

pub returns : goal.returns
returns c = place_if (classes_of c.args.env.now.classes.items) c.args.env.now.layouts.items c.args.class c.args.index c.in_ok-layout_at.field-0.now
    c.offset_at.result c.args.env.now.laid_out c.in_ok-layout_at.ensures c.offset_at.ensures
