use Rattle.std.proofs.Common.{map, ap}
use Rattle.cpp_types.specs.Typ.{typ_of}
use Rattle.elab_stmt.specs.elab_ctx.Ctx.{returns_of}
use Rattle.elab_stmt.specs.elab_scopes.States.{state_of}
use Rattle.elab_entry.specs.Round.{round_of}
use Rattle.elab_entry.proofs.Leaving.{left_is}
use Rattle.elab_entry.proofs.around.leave_function.Goals as goal

pub returns-clause-is : goal.returns-clause-is
returns-clause-is c = left_is (round_of c.args.around) (state_of c.args.st.now) _ _ _ _ c.close_scopes.ensures c.put_variables.ensures
    (ap returns_of c.replace.ensures.after) (ap (λ z. map typ_of z.items) c.replace-3.ensures.after)
