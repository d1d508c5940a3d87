use Rattle.std.proofs.Common.{ℕ, ℤ, pos, negsuc, ◌≡◌, ◌<◌, ap, sym, ◌∙◌, arith, subst, inl, inr, w32, of_z, to_z}
use Rattle.std.proofs.lemmas.Int.{to_z-of_z, ints}
use Rattle.std.specs.Int.{FitsUnsignedBits}
use Rattle.std.proofs.Math.IntN.{nat_abs}
use Rattle.std.proofs.lemmas.Bool.{cases_lt}
use Rattle.tx_events.specs.World.{target}
use Rattle.tx_runtime.specs.View.{machine_in}
use Rattle.tx_runtime.proofs.ThreadTables.{no_thread}
use Rattle.tx_runtime.proofs.OutsideRows.{no_target}
use Rattle.tx_runtime.proofs.outside.Engine+A+A+Saved.joined.Goals as goal

natural : (z : ℤ) (n : ℕ) → FitsUnsignedBits 8 z → n ≡ nat_abs z → z ≡ pos n
natural (pos k) n f e = ap pos (sym e)
natural (negsuc k) n f e = absurd (omega (arith, ints, f))

fits : (n : ℕ) → n < 256 → FitsUnsignedBits 8 (pos n)
fits n h = omega (arith, ints, h)

pub returns-in-Ok-clause-some : goal.returns-in-Ok-clause-some
returns-in-Ok-clause-some g c = λ n e.
    let j = c.joined_number.ensures.some n e in
    let id : c.args.id ≡ pos c.in-Ok.number = sym (to_z-of_z w32 c.args.id c.ranges.id)
    ∙ natural (to_z w32 (of_z w32 c.args.id)) c.in-Ok.number c.in-Ok.ensures.0 c.in-Ok.ensures.1 in
    record {
      number = id ∙ j.number;
      started = j.started;
      target =
          ap (λ i. target c.args.t i (machine_in g.A.Actor.state g.A.Actor.saved_state c.args.self.now).threads) id ∙ j.target;
    }

pub returns-in-Ok-clause-none : goal.returns-in-Ok-clause-none
returns-in-Ok-clause-none g c = λ e.
    let id : c.args.id ≡ pos c.in-Ok.number = sym (to_z-of_z w32 c.args.id c.ranges.id)
    ∙ natural (to_z w32 (of_z w32 c.args.id)) c.in-Ok.number c.in-Ok.ensures.0 c.in-Ok.ensures.1 in
    ap (λ i. target c.args.t i (machine_in g.A.Actor.state g.A.Actor.saved_state c.args.self.now).threads) id ∙ c.joined_number.ensures.none e

pub returns-in-Err-clause-none : goal.returns-in-Err-clause-none
returns-in-Err-clause-none g c = λ e.
    no_target c.args.t c.args.id (machine_in g.A.Actor.state g.A.Actor.saved_state c.args.self.now).threads
    (λ n is other. no_thread g.A.Actor.state g.A.Actor.saved_state c.args.self.now.holders c.args.self.now.threads.items n
    (elim (cases_lt n 256) [
      | inl l ↦ absurd (c.in-Err.ensures (subst (FitsUnsignedBits 8) (sym (to_z-of_z w32 c.args.id c.ranges.id ∙ is)) (fits n l)))
      | inr h ↦ omega (arith, h, c.args.self.now.whole.started, c.args.self.now.whole.few)
    ]))
