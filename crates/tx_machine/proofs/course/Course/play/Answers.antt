use Rattle.std.proofs.Common.{rules, refl, ap, sym, ◌≡◌, ◌∙◌, None, is_some, arith}
use Rattle.tx_runtime.specs.Runtime.{machine_of}
use Rattle.tx_runtime.proofs.ThreadTables.{on_err}
use Rattle.tx_serial.specs.Run.{not_begun}
use Rattle.tx_machine.specs.Course.{Shows}
use Rattle.tx_machine.proofs.Playing.{begun, onward, few, no_end, stopped, bounded, failed}
use Rattle.tx_machine.proofs.course.Course.play.Goals as goal

pub loop-turn-init : goal.loop-turn-init
loop-turn-init g c =
    let fresh : Shows c.args.self.now (not_begun (machine_of c.args.self.now.runtime)) = search rules in
    record { going = begun _ _ _ _ c.args.self.now _ _ fresh; bounded = search rules; layout = refl; limit = refl }

pub take_turn-requires : goal.take_turn-requires
take_turn-requires g c =
    let short = few _ _ _ _ _ _ c.loop-turn.self _ _ _ _ c.loop-turn.invariant.going c.args.bound c.loop-turn-test.true (omega (arith, c.ranges.bound.fits)) in
    let none = no_end c.end.result c.is_some.result c.is_some.ensures c.if-is_some.false in
    let going : (machine_of c.loop-turn.self.runtime).end ≡ None = sym c.end.ensures ∙ none in
    search (rules, short, going)

pub loop-turn-preserved : goal.loop-turn-preserved
loop-turn-preserved g c =
    let none = no_end c.end.result c.is_some.result c.is_some.ensures c.if-is_some.false in
    record {
      going = onward _ _ _ _ _ _ c.loop-turn.self _ _ _ _ c.loop-turn.invariant.going c.take_turn.new.self _ _
          (sym c.end.ensures ∙ none) _ c.loop-turn.invariant.layout
          (c.in_ok-take_turn.ensures.turned _ c.loop-turn.invariant.going.shows);
      bounded = c.in_ok-take_turn.ensures.bounded;
      layout = c.in_ok-take_turn.ensures.layout ∙ c.loop-turn.invariant.layout;
      limit = c.in_ok-take_turn.ensures.picker ∙ c.loop-turn.invariant.limit;
    }

pub returns-then-is_some-clause-played : goal.returns-then-is_some-clause-played
returns-then-is_some-clause-played g c =
    stopped _ _ _ _ _ _ c.loop-turn.self _ _ _ _ c.loop-turn.invariant.going c.args.bound (omega (arith, c.loop-turn.auto._turn-end))
    (ap is_some (sym c.end.ensures) ∙ (sym c.is_some.ensures ∙ c.if-is_some.true))

pub returns-in_err-take_turn-clause-asked : goal.returns-in_err-take_turn-clause-asked
returns-in_err-take_turn-clause-asked g c = on_err c.from_residual.result (failed _ _ _ _ _ _ c.loop-turn.self _ _ _ _ c.loop-turn.invariant.going _
    (λ r shows. let one = c.in_err-take_turn.ensures.asked r shows in (one.0, (one.1, one.2, one.3, one.4))))

pub returns-clause-played : goal.returns-clause-played
returns-clause-played g c = bounded _ _ _ _ _ _ c.loop-turn.self _ _ _ _ c.loop-turn.invariant.going c.args.bound
    (omega (arith, c.loop-turn.auto._turn-end, c.loop-turn-test.false))
