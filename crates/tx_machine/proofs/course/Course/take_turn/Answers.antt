use Rattle.std.proofs.Common.{rules, refl, ap, ◌≡◌, ◌∙◌, cond, length}
use Rattle.std.specs.Prelude.{option_copied}
use Rattle.std.proofs.lemmas.Bool.{eq-eqb}
use Rattle.tx_runtime.specs.Runtime.{machine_of, layout_at, limit_of, inside_of}
use Rattle.tx_events.specs.declared.TheConstants.{THREAD_LIMIT}
use Rattle.tx_serial.specs.Run.{inside}
use Rattle.tx_runtime.proofs.ThreadTables.{on_ok}
use Rattle.tx_machine.proofs.Turns.{one_to_limit, one_turn, shown_place, seen_is}
use Rattle.tx_machine.proofs.course.Course.take_turn.Goals as goal

pub returns-clause-turned : goal.returns-clause-turned
returns-clause-turned g c = on_ok c.after.result (λ told r shows.
    let t = c.pick-thread.result in
    let old = c.args.self.now.runtime in
    let limit : limit_of old ≡ THREAD_LIMIT = search rules in
    let count : c.len-turn.result ≡ length c.args.self.now.picked.items = search rules in
    one_turn (layout_at old) _ _ _ (record { place = g.read; shown = g.W.Observer.after_shown; told = g.W.Observer.after_told })
    c.args.self.now _ _ _ _ (g.W.Observer.state c.before-2.new.self) _ r t c.in_ok-kind.kind shows c.in_ok-kind.ensures.chosen (
      _,
      seen_is r _ (count ∙ shows.turn) (c.started.ensures.started ∙ ap (λ m. m.started) shows.machine) shows.last shows.inside,
      one_to_limit (c.started.ensures.started ∙ ap (λ m. m.started) shows.machine) c.started.ensures.some c.started.ensures.within limit,
      c.pick-thread.ensures.step,
    )
    (c.in_ok-before.ensures ∙ ap (g.W.Observer.after_shown (g.W.Observer.state c.args.observer.now) t)
    (shown_place g.A.Actor.state g.W.Observer.place g.read (search rules) ((machine_of old).threads t) (option_copied c.actor.result) c.actor.ensures))
    (told ∙ ap (g.W.Observer.after_told (g.W.Observer.state c.before-2.new.self) c.in_ok-kind.kind) c.end.ensures)
    c.in_ok-push.ensures.items
    refl
    refl
    (c.inside-self.ensures
    ∙ (c.in_ok-kind.ensures.inside t ∙ ap (λ b. cond b (inside g.A.Actor.thread t (machine_of old) c.in_ok-kind.kind) (inside_of old t))
    (eq-eqb t t refl)))
    c.count.ensures) c.after.ensures
