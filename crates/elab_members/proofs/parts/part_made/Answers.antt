use Rattle.std.proofs.Common.{map, ap}
use Rattle.elab_entry.specs.cpp_types.Typ.{typ_of}
use Rattle.elab_entry.specs.elab_ctx.Ctx.{closure_of}
use Rattle.elab_entry.specs.elab_ctx.Operands.{operands_in}
use Rattle.elab_entry.specs.elab_scopes.States.{state_of, made}
use Rattle.elab_implicit.proofs.CopyLists.{cleared_is}
use Rattle.elab_members.proofs.PartSteps.{part_done}
use Rattle.elab_members.proofs.parts.part_made.Goals as goal

pub returns : goal.returns
returns c = part_done c.args.st.now _ _ _ _ _ c.args.class c.args.member (typ_of c.args.ty.now) c.args.at _
    (operands_in (made c.args.st.now) c.args.os.now) c.values_place-whole.ensures c.in_ok-made.ensures.made c.in_ok-init.ensures
    (cleared_is (state_of c.args.st.now) _ _ _ c.in_ok-made.ensures.ctx (ap (map closure_of) c.clear.ensures.items))
