use Rattle.std.proofs.Common.{drop, slice_get}
use Rattle.cpp_types.specs.Class.{classes_of}
use Rattle.elab_entry.specs.cpp_tree.Arena.{trees_of}
use Rattle.elab_entry.specs.elab_ctx.Ctx.{ctx_of}
use Rattle.elab_entry.proofs.elab_init.Listing.{Adding}
use Rattle.elab_entry.specs.elab_rules.Names.{members_in}
use Rattle.elab_entry.specs.elab_rules.Members.{members_deferred}
use Rattle.elab_implicit.proofs.ending.members_deferred.Given as goal

abbrev pub invariant-loop-member : goal.invariant-loop-member
invariant-loop-member l = Adding (trees_of l.fn.nodes.items) (trees_of l.nodes.items) l.list.items
    (members_deferred (ctx_of l.env) l.at l.class l.member (drop l.member (members_in (slice_get (classes_of l.env.classes.items) l.class))))
    (members_deferred (ctx_of l.env) l.at l.class 0 (members_in (slice_get (classes_of l.env.classes.items) l.class)))
