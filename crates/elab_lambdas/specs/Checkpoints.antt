-- What is made and not kept.
use Rattle.std.specs.Prelude.{length, take}
use Rattle.elab_entry.specs.elab_rules.Statements.{State}
use Rattle.elab_entry.specs.elab_scopes.declared.state.State.{State as StateRec}
use Rattle.elab_lambdas.specs.declared.undoing.Checkpoint.{Checkpoint}

-- how much is known and made
abbrev pub checkpoint_in : StateRec → Checkpoint
checkpoint_in st = record {
  classes = length st.env.classes.items;
  traits = length st.env.traits.items;
  slots = length st.env.slots.items;
  funcs =
      length st.env.funcs;
  globals = length st.work.globals.items;
  bodies = length st.bodies.items;
}

-- only so much is left
abbrev pub undone_to : Checkpoint → State → State
undone_to m st = record {
  ctx = record st.ctx {
    classes = take m.classes st.ctx.classes;
    traits = take m.traits st.ctx.traits;
    slots = take m.slots st.ctx.slots;
    funcs =
        take m.funcs st.ctx.funcs;
  };
  work = record st.work { globals = take m.globals st.work.globals };
  bodies = take m.bodies st.bodies;
}
