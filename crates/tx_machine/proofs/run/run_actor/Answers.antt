use Rattle.std.proofs.Common.{rules, refl, inl, ap, ◌≡◌, ◌∙◌, [], arith}
use Rattle.tx_events.specs.declared.TheConstants.{THREAD_LIMIT}
use Rattle.tx_memory.specs.View.{layout_of}
use Rattle.tx_runtime.specs.Runtime.{machine_of, layout_at}
use Rattle.tx_runtime.proofs.ThreadTables.{on_err}
use Rattle.tx_machine.proofs.Outcomes.{run_from, asks_from}
use Rattle.tx_machine.proofs.run.run_actor.Goals as goal

pub returns-in_err-runtime-clause-asked : goal.returns-in_err-runtime-clause-asked
returns-in_err-runtime-clause-asked g c = on_err c.from_residual.result ([], record { going = tt; answered = tt; mid = _; picked = refl; once = inl refl })

pub returns-in_err-play-clause-asked : goal.returns-in_err-play-clause-asked
returns-in_err-play-clause-asked g c = on_err c.from_residual-in_err-play.result
    (asks_from g.A.Actor.thread _ _ _ _ _ _ (ap layout_at c.new-course.ensures.runtime ∙ c.in_ok-runtime.ensures.layout)
    (ap machine_of c.new-course.ensures.runtime ∙ c.in_ok-runtime.ensures.first) _ _ c.in_err-play.ensures.asked)

pub returns-clause-run : goal.returns-clause-run
returns-clause-run g c =
    let room : (layout_of c.args.memory).limit ≡ THREAD_LIMIT = search rules in
    run_from g.met.A.Actor.laws (layout_of c.args.memory) (omega (arith, room)) _ _ _ c.args.bound _ _ _ (search rules) (search rules) _ _
    (ap layout_at c.new-course.ensures.runtime ∙ c.in_ok-runtime.ensures.layout) (ap machine_of c.new-course.ensures.runtime ∙ c.in_ok-runtime.ensures.first)
    _ _ _ _ _ c.in_ok-play.ensures.played c.end-end.ensures
