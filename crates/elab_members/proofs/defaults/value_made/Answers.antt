use Rattle.std.proofs.Common.{map, refl, ap}
use Rattle.elab_entry.specs.elab_ctx.Ctx.{closure_of}
use Rattle.elab_entry.specs.elab_rules.Statements.{full}
use Rattle.elab_entry.specs.elab_scopes.States.{state_of}
use Rattle.elab_implicit.proofs.CopyLists.{cleared_is}
use Rattle.elab_members.proofs.PartSteps.{wholly_done}
use Rattle.elab_members.proofs.defaults.value_made.Goals as goal

pub returns : goal.returns
returns c = wholly_done c.args.st.now _ _ _ _ _ _ (full c.args.o.at) c.in_ok-init.ensures c.in_ok-made.ensures
    (cleared_is (state_of c.args.st.now) _ _ _ refl (ap (map closure_of) c.clear.ensures.items))
