use Rattle.std.proofs.Common.{◌≡◌, ◌∙◌, Bool, true, false, sym, refl, subst}
use Rattle.std.specs.Prelude.{not}
use Rattle.src_bind.specs.Tables.{Given}
use Rattle.src_replay.specs.LoneRuns.{RunsAlone}
use Rattle.bounded_runs.proofs.LoneSource.{costs_more_than}
use Rattle.bounded_runs.proofs.runs.costs_more.Goals as goal

not_true : (b : Bool) → not b ≡ true → b ≡ false
not_true true e = sym e
not_true false e = refl

pub returns : goal.returns
returns c = λ more n out end ends.
    costs_more_than (record { program = c.args.program.now; choices = c.args.choices.now }) c.args.input.now n out end ends c.args.cost c.in_ok-alone.alone
    (subst (λ (g : Given). RunsAlone g c.args.input.now c.args.cost c.in_ok-alone.alone) c.in_ok-bound.ensures c.in_ok-alone.ensures)
    (sym c.is_done.ensures ∙ not_true c.is_done.result more)
