use Rattle.std.proofs.Common.{◌∙◌, sym}
use Rattle.elab_implicit.proofs.Deferring.{some_listed, not_empty, base_deferred_is}
use Rattle.elab_implicit.proofs.ending.base_ended.Goals as goal
use Rattle.elab_entry.specs.elab_ctx.Ctx.{ctx_of}
use Rattle.elab_entry.specs.elab_rules.Members.{own_base}

pub returns : goal.returns
returns c = some_listed _ _ _ c.args.at (own_base c.args.class c.args.at c.args.base) c.in_ok-ends.ends.items _ _ _
    (base_deferred_is _ _ _ (ctx_of c.args.env.now) c.args.at c.args.base _ c.class_type.ensures c.in_ok-ends.ensures)
    (not_empty c.in_ok-ends.ends (sym c.is_empty.ensures ∙ c.if-is_empty.false)) c.deref.ensures.value c.base_behind.ensures
