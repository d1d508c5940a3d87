use Rattle.std.proofs.Common.{Bool, ℕ, ◌≡◌, ◌==◌, ◌<◌, length, ap, sym, ◌∙◌, refl, arith, true, false, not, below_more}
use Rattle.std.specs.Prelude.{◌&&◌}
use Rattle.std.proofs.lemmas.Bool.{eq-eqb, ne_eqb}
use Rattle.tx_serial.specs.Machine.{live_in}
use Rattle.tx_runtime.specs.View.{machine_in}
use Rattle.tx_runtime.proofs.ConflictingThreads.{live_at, first_least, no_least}
use Rattle.tx_runtime.proofs.outside.Engine+A+A+Saved.busy.Goals as goal
use Rattle.tx_runtime.proofs.outside.Engine+A+A+Saved.busy.Goals.{else-u-t-via-then-u-t+else-is_live, else-u-t-via-else-u-t}

apart : (b c : Bool) → b ≡ false → c ≡ true → (not b && c) ≡ true
apart b c e f = ap (λ z. not z && c) e ∙ f

same : (b c : Bool) → b ≡ true → (not b && c) ≡ false
same b c e = ap (λ z. not z && c) e

still : (b c : Bool) → c ≡ false → (b && c) ≡ false
still true c e = e
still false c e = refl

pub returns-then-is_live : goal.returns-then-is_live
returns-then-is_live g c =
    let self = c.args.self.now in
    let p = λ (v : ℕ). not (v == c.args.t) && live_in ((machine_in g.A.Actor.state g.A.Actor.saved_state c.args.self.now).threads v) in
    let u = c.loop-u.u in
    let h : u < length self.threads.items = omega (arith, c.loop-u-test.true, c.len-u-end.ensures) in
    sym (first_least p (length self.threads.items) u h
    (apart (u == c.args.t) (live_in ((machine_in g.A.Actor.state g.A.Actor.saved_state self).threads u)) (ne_eqb u c.args.t c.if-u-t.true)
    (live_at g.A.Actor.state g.A.Actor.saved_state self.holders self.threads.items u true c.index.result.now h c.index.ensures
    (sym c.if-is_live.true ∙ c.is_live.ensures)))
    c.loop-u.invariant)

pub loop-u-preserved : goal.loop-u-preserved
loop-u-preserved g c =
    let self = c.args.self.now in
    let p = λ (v : ℕ). not (v == c.args.t) && live_in ((machine_in g.A.Actor.state g.A.Actor.saved_state c.args.self.now).threads v) in
    let u = c.loop-u.u in
    let h : u < length self.threads.items = omega (arith, c.loop-u-test.true, c.len-u-end.ensures) in
    below_more (λ (v : ℕ). p v ≡ false) u c.loop-u.invariant
    (elim c.else-u-t.branch [
      | else-u-t-via-then-u-t+else-is_live w ↦ still (not (u == c.args.t)) (live_in ((machine_in g.A.Actor.state g.A.Actor.saved_state self).threads u))
          (live_at g.A.Actor.state g.A.Actor.saved_state self.holders self.threads.items u false w.index.result.now h w.index.ensures
          (sym w.if-is_live.false ∙ w.is_live.ensures))
      | else-u-t-via-else-u-t w ↦ same (u == c.args.t) (live_in ((machine_in g.A.Actor.state g.A.Actor.saved_state self).threads u))
          (eq-eqb u c.args.t w.if-u-t.false)
    ])

pub returns : goal.returns
returns g c =
    let self = c.args.self.now in
    let p = λ (v : ℕ). not (v == c.args.t) && live_in ((machine_in g.A.Actor.state g.A.Actor.saved_state c.args.self.now).threads v) in
    sym (no_least p (length self.threads.items) (λ v l. c.loop-u.invariant v (omega (arith, l, c.loop-u-test.false, c.len-u-end.ensures))))
