use Rattle.std.proofs.Common.{refl, inl, [], subst}
use Rattle.std.proofs.lemmas.Result.{IfOk-weaker}
use Rattle.tx_runtime.proofs.ThreadTables.{on_err}
use Rattle.vm_thread.specs.Threads.{running}
use Rattle.tx_machine.specs.Finished.{outcome_of}
use Rattle.tx_machine.specs.ImageRuns.{unwatched}
use Rattle.tx_machine.specs.Ran.{IsRan}
use Rattle.tx_machine.proofs.ImageRuns.{runs_as, asks_as, asks_of}
use Rattle.tx_machine.proofs.image.run.Goals as goal

pub returns-in_err-main-clause-asked : goal.returns-in_err-main-clause-asked
returns-in_err-main-clause-asked g c = on_err c.from_residual.result ([], record { going = tt; answered = tt; mid = _; picked = refl; once = inl refl })

pub returns-in_err-memory-clause-asked : goal.returns-in_err-memory-clause-asked
returns-in_err-memory-clause-asked g c = on_err c.from_residual-in_err-memory.result
    ([], record { going = tt; answered = tt; mid = _; picked = refl; once = inl refl })

pub returns-in_err-finished-clause-asked : goal.returns-in_err-finished-clause-asked
returns-in_err-finished-clause-asked g c = on_err c.from_residual-in_err-finished.result
    (asks_as running _ _ _ _ _ _ _ _ _ c.in_ok-memory.ensures.layout c.in_ok-memory.ensures.words c.in_ok-main.ensures _ _ c.in_err-finished.ensures.asked)

pub returns-clause-run : goal.returns-clause-run
returns-clause-run g c = IfOk-weaker c.into_ran.result _ _ (λ ran is. record {
  outcome = outcome_of c.in_ok-finished.finished;
  runs = runs_as running _ _ unwatched c.args.bound _ _ _ _ _ _ _ c.in_ok-memory.ensures.layout c.in_ok-memory.ensures.words c.in_ok-main.ensures
      _ _ tt tt _ c.in_ok-finished.ensures.run;
  is = subst (λ at. IsRan (outcome_of c.in_ok-finished.finished) at ran) c.trap_place-place.ensures is;
}) c.into_ran.ensures

pub returns-clause-asked : goal.returns-clause-asked
returns-clause-asked g c = on_err c.into_ran.result
    (asks_as running _ _ _ _ _ _ _ _ _ c.in_ok-memory.ensures.layout c.in_ok-memory.ensures.words c.in_ok-main.ensures _ _
    (asks_of running _ _ unwatched c.args.bound _ _ _ _ _ _ tt tt _ c.in_ok-finished.ensures.run))
