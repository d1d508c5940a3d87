use Rattle.std.proofs.Common.{◌∙◌, ap, sym, map}
use Rattle.std.proofs.lemmas.List.{length-map}
use Rattle.elab_make.specs.cpp_types.Typ.{typ_of}
use Rattle.elab_make.specs.cpp_tree.Arena.{trees_of}
use Rattle.elab_make.specs.elab_ctx.Ctx.{work_of, default_of}
use Rattle.elab_aggregates.proofs.Aggregated.{whole_put}
use Rattle.elab_aggregates.proofs.defaults.default_whole.Goals as goal

pub returns : goal.returns
returns c = whole_put _ _ _ (work_of c.args.work.now) _ _ _ (default_of (trees_of c.args.env.now.default_nodes.items) c.args.found.now) _ c.in_ok-made.made
    (c.frame_length-by.ensures ∙ sym (length-map c.args.work.now.frame.items typ_of)) c.in_ok-made.ensures
    (ap trees_of c.in_ok-add_items.ensures.nodes) c.in_ok-add_items.ensures.work (ap (map typ_of) c.deref.ensures.value)
