use Rattle.std.proofs.Common.{ap, sym, ◌∙◌, arith, w32}
use Rattle.std.proofs.lemmas.Int.{to_z-of_z}
use Rattle.tx_events.specs.declared.Event.TheVariants.{Join}
use Rattle.tx_events.specs.World.{target}
use Rattle.tx_runtime.specs.Threads.{local_of}
use Rattle.tx_runtime.specs.View.{machine_in, layout_in}
use Rattle.tx_runtime.proofs.ThreadTables.{thread_at}
use Rattle.tx_runtime.proofs.OutsideRows.{join_bad, join_done, join_waits}
use Rattle.tx_runtime.proofs.AppliedRow.{outside_row, if_ok}
use Rattle.tx_runtime.proofs.outside.Engine+A+A+Saved.join.Goals as goal

pub returns-in_default-clause-turned : goal.returns-in_default-clause-turned
returns-in_default-clause-turned g c = if_ok c.halt.result
    (λ kind done answer. outside_row g.A.Actor.state g.A.Actor.saved_state g.A.Actor.is_reached g.A.Actor.thread c.args.self.now answer c.args.t
    (Join c.args.id) _ c.requires.here (λ l at is.
    let m = machine_in g.A.Actor.state g.A.Actor.saved_state c.args.self.now in
    done ∙ join_bad g.A.Actor.thread (layout_in c.args.self.now) c.args.t (machine_in g.A.Actor.state g.A.Actor.saved_state c.args.self.now) l c.args.id
    (ap (λ i. target c.args.t i m.threads) (sym (to_z-of_z w32 c.args.id c.ranges.id)) ∙ c.joined.ensures.none c.in_default.is))) c.halt.ensures.done

pub index-requires : goal.index-requires
index-requires g c = let l = (c.joined.ensures.some c.in-Some.number c.in-Some.is).started in omega (arith, l)

pub returns-then-index-clause-turned : goal.returns-then-index-clause-turned
returns-then-index-clause-turned g c = if_ok c.step_in_order.result
    (λ kind done answer. outside_row g.A.Actor.state g.A.Actor.saved_state g.A.Actor.is_reached g.A.Actor.thread c.args.self.now answer c.args.t
    (Join c.args.id) _ c.requires.here (λ l at is.
    let m = machine_in g.A.Actor.state g.A.Actor.saved_state c.args.self.now in
    let j = c.joined.ensures.some c.in-Some.number c.in-Some.is in
    let u = c.index.result.now in
    done l at ∙ join_done g.A.Actor.thread (layout_in c.args.self.now) c.args.t (machine_in g.A.Actor.state g.A.Actor.saved_state c.args.self.now) l c.args.id
    (local_of g.A.Actor.state g.A.Actor.saved_state c.args.self.now.holders c.in-Some.number u)
    (ap (λ i. target c.args.t i m.threads) (sym (to_z-of_z w32 c.args.id c.ranges.id))
    ∙ (j.target ∙ thread_at g.A.Actor.state g.A.Actor.saved_state c.args.self.now.holders c.args.self.now.threads.items c.in-Some.number u j.started
    c.index.ensures)) c.if-index.true)) c.step_in_order.ensures.done

pub returns-else-index-clause-turned : goal.returns-else-index-clause-turned
returns-else-index-clause-turned g c =
    λ answer. outside_row g.A.Actor.state g.A.Actor.saved_state g.A.Actor.is_reached g.A.Actor.thread c.args.self.now answer c.args.t
    (Join c.args.id) _ c.requires.here (λ l at is.
    let m = machine_in g.A.Actor.state g.A.Actor.saved_state c.args.self.now in
    let j = c.joined.ensures.some c.in-Some.number c.in-Some.is in
    let u = c.index.result.now in
    join_waits g.A.Actor.thread (layout_in c.args.self.now) c.args.t
    (machine_in g.A.Actor.state g.A.Actor.saved_state c.args.self.now) l c.args.id c.in-Some.number
    (local_of g.A.Actor.state g.A.Actor.saved_state c.args.self.now.holders c.in-Some.number u) (sym (to_z-of_z w32 c.args.id c.ranges.id) ∙ j.number)
    (ap (λ i. target c.args.t i m.threads) (sym (to_z-of_z w32 c.args.id c.ranges.id))
    ∙ (j.target ∙ thread_at g.A.Actor.state g.A.Actor.saved_state c.args.self.now.holders c.args.self.now.threads.items c.in-Some.number u j.started
    c.index.ensures)) c.if-index.false)
