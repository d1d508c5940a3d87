use Rattle.std.proofs.Common.{ℕ, ◌<◌, ap, subst, ◌∙◌}
use Rattle.elab_entry.specs.Round.{scopes_by}
use Rattle.elab_entry.proofs.Leaving.{scopes_less}
use Rattle.elab_entry.proofs.around.close_scopes.Goals as goal

pub loop-scopes-preserved : goal.loop-scopes-preserved
loop-scopes-preserved c = ap (scopes_by c.args.count) c.pop.ensures
    ∙ scopes_less c.args.count c.loop-scopes.scopes c.args.scopes.now c.loop-scopes.invariant
    (subst (λ (n : ℕ). c.args.count < n) c.len.ensures c.loop-scopes-test.true)
