use Rattle.std.proofs.Common.{refl, inl, [], subst}
use Rattle.tx_runtime.proofs.ThreadTables.{on_err}
use Rattle.vm_thread.specs.Threads.{running}
use Rattle.tx_machine.specs.Finished.{outcome_of}
use Rattle.tx_machine.specs.Ran.{IsRan}
use Rattle.tx_machine.proofs.ImageRuns.{runs_as, asks_as, asks_of}
use Rattle.traced_runs.specs.TracedRuns.{no_one}
use Rattle.traced_runs.proofs.WatchedTraces.{traced_as}
use Rattle.traced_runs.proofs.image.run_traced.Goals as goal

pub returns-in_err-main-clause-asked : goal.returns-in_err-main-clause-asked
returns-in_err-main-clause-asked g c = on_err c.from_residual.result ([], record { going = tt; answered = tt; mid = _; picked = refl; once = inl refl })

pub returns-in_err-memory-clause-asked : goal.returns-in_err-memory-clause-asked
returns-in_err-memory-clause-asked g c = on_err c.from_residual-in_err-memory.result
    ([], record { going = tt; answered = tt; mid = _; picked = refl; once = inl refl })

pub returns-in_err-traced-clause-asked : goal.returns-in_err-traced-clause-asked
returns-in_err-traced-clause-asked g c = on_err c.from_residual-in_err-traced.result
    (asks_as running _ _ _ _ _ _ _ _ _ c.in_ok-memory.ensures.layout c.in_ok-memory.ensures.words c.in_ok-main.ensures _ _ c.in_err-traced.ensures.asked)

pub returns-in_err-ran-clause-asked : goal.returns-in_err-ran-clause-asked
returns-in_err-ran-clause-asked g c = on_err c.from_residual-in_err-ran.result
    (asks_as running _ _ _ _ _ _ _ _ _ c.in_ok-memory.ensures.layout c.in_ok-memory.ensures.words c.in_ok-main.ensures _ _
    (asks_of running _ _ no_one c.args.bound _ _ _ _ _ _ tt tt _ c.in_ok-traced.ensures.run))

pub returns-clause-run : goal.returns-clause-run
returns-clause-run g c = record {
  outcome = outcome_of c.in_ok-traced.traced.finished;
  runs = runs_as running _ _ no_one c.args.bound _ _ _ _ _ _ _ c.in_ok-memory.ensures.layout c.in_ok-memory.ensures.words c.in_ok-main.ensures
      _ _ tt tt _ c.in_ok-traced.ensures.run;
  is = subst (λ at. IsRan (outcome_of c.in_ok-traced.traced.finished) at c.in_ok-ran.ran) c.trap_place-place.ensures c.in_ok-ran.ensures;
}

pub returns-clause-trace : goal.returns-clause-trace
returns-clause-trace g c =
    traced_as running _ _ _ _ _ _ _ _ _ _ c.in_ok-memory.ensures.layout c.in_ok-memory.ensures.words c.in_ok-main.ensures c.in_ok-ran.ensures.order
    c.in_ok-traced.ensures.trace
