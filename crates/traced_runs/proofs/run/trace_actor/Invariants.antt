use Rattle.traced_runs.proofs.run.trace_actor.Given as goal

abbrev pub ghost-run_actor : goal.ghost-run_actor
ghost-run_actor g a = g.A.Actor.thread.next
