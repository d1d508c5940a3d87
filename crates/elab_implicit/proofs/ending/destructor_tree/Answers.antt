use Rattle.std.proofs.Common.{◌≡◌, true, length, subst}
use Rattle.elab_entry.specs.elab_ctx.Ctx.{ctx_of}
use Rattle.elab_entry.specs.cpp_tree.Arena.{trees_of}
use Rattle.elab_entry.specs.elab_ctx.Says.{are_within}
use Rattle.elab_implicit.proofs.Deferring.{destructor_made}
use Rattle.elab_implicit.proofs.ending.destructor_tree.Goals as goal

pub returns : goal.returns
returns c = destructor_made _ _ _ _ (ctx_of c.args.env.now) c.args.at c.args.place c.args.class _ c.args.list.items _ _ _
    (subst (λ z. are_within (length (trees_of c.args.nodes.now.items)) z
    ≡ true) c.deref.ensures.value c.in_ok-all_stand.ensures) c.in_ok-kids.ensures c.in_ok-inner.ensures c.in_ok-keep.ensures c.statement.ensures
