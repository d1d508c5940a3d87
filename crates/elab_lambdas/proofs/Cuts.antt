-- Lists that are cut.
use Rattle.std.proofs.Common.{◌≡◌, ◌∙◌, ap, take}
use Rattle.elab_entry.specs.elab_ctx.Ctx.{Ctx, Work}
use Rattle.elab_entry.specs.elab_rules.Statements.{State}
use Rattle.elab_lambdas.specs.Checkpoints.{undone_to}
use Rattle.elab_lambdas.specs.declared.undoing.Checkpoint.{Checkpoint}

-- what is left, list by list
pub undone_is : (st out : State) (c1 c2 c3 c4 : Ctx) (w : Work) (m : Checkpoint) → c1 ≡ record st.ctx { classes = take m.classes st.ctx.classes }
    → c2 ≡ record c1 { traits = take m.traits c1.traits } → c3 ≡ record c2 { slots = take m.slots c2.slots } → c4 ≡ record c3 { funcs = take m.funcs c3.funcs }
    → w ≡ record st.work { globals = take m.globals st.work.globals } → out ≡ record { ctx = c4; work = w; bodies = take m.bodies st.bodies }
    → out ≡ undone_to m st
undone_is st out c1 c2 c3 c4 w m e1 e2 e3 e4 e5 e6 =
    e6
    ∙ ap (λ (z : Work). record { ctx = c4; work = z; bodies = take m.bodies st.bodies }) e5
    ∙ ap (λ (z : Ctx). record { ctx = z; work = record st.work { globals = take m.globals st.work.globals }; bodies = take m.bodies st.bodies })
    (e4 ∙ ap (λ (z : Ctx). record z { funcs = take m.funcs z.funcs })
    (e3 ∙ ap (λ (z : Ctx). record z { slots = take m.slots z.slots }) (e2 ∙ ap (λ (z : Ctx). record z { traits = take m.traits z.traits }) e1)))
