use Rattle.std.proofs.Common.{refl, inl, sym, subst, [], ◌≡◌, ◌≤◌, arith}
use Rattle.tx_events.specs.declared.TheConstants.{THREAD_LIMIT}
use Rattle.tx_events.specs.World.{first_world}
use Rattle.tx_memory.specs.View.{layout_of, words_of}
use Rattle.tx_serial.specs.Trace.{TraceOf}
use Rattle.tx_machine.specs.Finished.{outcome_of}
use Rattle.tx_runtime.proofs.ThreadTables.{on_err}
use Rattle.traced_runs.proofs.WatchedTraces.{unwatched_run, traced_run}
use Rattle.traced_runs.proofs.run.trace_actor.Goals as goal

pub returns-in_err-keeper-clause-asked : goal.returns-in_err-keeper-clause-asked
returns-in_err-keeper-clause-asked g c = on_err c.from_residual.result ([], record { going = tt; answered = tt; mid = _; picked = refl; once = inl refl })

pub returns-in_err-finished-clause-asked : goal.returns-in_err-finished-clause-asked
returns-in_err-finished-clause-asked g c = on_err c.from_residual-in_err-finished.result c.in_err-finished.ensures.asked

pub returns-clause-run : goal.returns-clause-run
returns-clause-run g c = unwatched_run g.A.Actor.thread (layout_of c.args.memory) _ _ c.args.bound _ _ _ _ _ _ _ _ c.in_ok-finished.ensures.run

pub returns-clause-trace : goal.returns-clause-trace
returns-clause-trace g c =
    let room : (layout_of c.args.memory).limit ≡ THREAD_LIMIT = c.requires.memory in
    let small : (layout_of c.args.memory).limit ≤ THREAD_LIMIT = omega (arith, room) in
    subst (λ zs. TraceOf g.A.Actor.thread (layout_of c.args.memory) (first_world (words_of c.args.memory) c.args.input.items (g.A.Actor.state c.args.main))
    (outcome_of c.in_ok-finished.finished).order zs) (sym c.into_trace-trace.ensures)
    (traced_run g.A.Actor.thread (layout_of c.args.memory) _ _ c.args.bound _ _ _ _ _ _ _ _ c.in_ok-finished.ensures.run g.A.Actor.is_reached
    g.met.A.Actor.laws small c.requires.reached c.requires.free c.in_ok-keeper.ensures)
