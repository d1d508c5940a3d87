use Rattle.elab_entry.specs.elab_ctx.Ctx.{ctx_of, work_of}
use Rattle.elab_entry.specs.elab_scopes.States.{state_of}
use Rattle.elab_lambdas.proofs.Cuts.{undone_is}
use Rattle.elab_lambdas.proofs.undoing.undo.Goals as goal

pub returns-clause-is : goal.returns-clause-is
returns-clause-is c = undone_is (state_of c.args.st.now) (state_of c.undo_bodies.new.st) (ctx_of c.undo_classes.new.env) (ctx_of c.undo_traits.new.env)
    (ctx_of c.undo_slots.new.env) (ctx_of c.undo_functions.new.env) (work_of c.undo_globals.new.work) c.args.mark
    c.undo_classes.ensures c.undo_traits.ensures c.undo_slots.ensures c.undo_functions.ensures c.undo_globals.ensures.is c.undo_bodies.ensures.is
