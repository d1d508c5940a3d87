use Rattle.std.proofs.Common.{ℕ, ◌≡◌, length, subst, arith}
use Rattle.own_table.specs.Bits.{has_bit}
use Rattle.tx_serial.specs.Machine.{birth_of}
use Rattle.tx_runtime.specs.Blocks.{Sums}
use Rattle.tx_runtime.specs.View.{machine_in}
use Rattle.tx_runtime.proofs.ConflictingThreads.{few_of}
use Rattle.tx_runtime.proofs.SetBits.{skipped_to}
use Rattle.tx_runtime.proofs.access.Engine+A+A+Saved.sum_up.Goals as goal

pub returns : goal.returns
returns g c =
    let f = λ (v : ℕ). birth_of ((machine_in g.A.Actor.state g.A.Actor.saved_state c.args.self.now).threads v) in
    let all : c.threads.from ≡ length c.args.self.now.threads.items = omega (arith, c.threads.invariant.within, c.threads-test.false, c.len.ensures) in
    subst (λ n. Sums (has_bit c.args.threads) f n c.threads.found) all c.threads.invariant.sums

pub returns-in_default : goal.returns-in_default
returns-in_default g c =
    let f = λ (v : ℕ). birth_of ((machine_in g.A.Actor.state g.A.Actor.saved_state c.args.self.now).threads v) in
    skipped_to (has_bit c.args.threads) f c.threads.from (length c.args.self.now.threads.items) c.threads.found c.threads.invariant.within
    (λ v from to. c.in_default.ensures.none v from) c.threads.invariant.sums

pub returns-then-u-len : goal.returns-then-u-len
returns-then-u-len g c =
    let f = λ (v : ℕ). birth_of ((machine_in g.A.Actor.state g.A.Actor.saved_state c.args.self.now).threads v) in
    skipped_to (has_bit c.args.threads) f c.threads.from (length c.args.self.now.threads.items) c.threads.found c.threads.invariant.within
    (λ v from to. c.in-Some.ensures.least v from (omega (arith, to, c.if-u-len.true, c.len-in-threads.ensures))) c.threads.invariant.sums

pub and_blocker-requires-clause-few : goal.and_blocker-requires-clause-few
and_blocker-requires-clause-few g c =
    let f = λ (v : ℕ). birth_of ((machine_in g.A.Actor.state g.A.Actor.saved_state c.args.self.now).threads v) in
    λ b is. few_of (has_bit c.args.threads) f c.in-Some.u c.threads.found b
    (skipped_to
    (has_bit c.args.threads) f c.threads.from c.in-Some.u c.threads.found c.in-Some.ensures.from c.in-Some.ensures.least c.threads.invariant.sums) is

pub threads-preserved : goal.threads-preserved
threads-preserved g c =
    let f = λ (v : ℕ). birth_of ((machine_in g.A.Actor.state g.A.Actor.saved_state c.args.self.now).threads v) in
    record {
      within = omega (arith, c.if-u-len.false, c.len-in-threads.ensures);
      sums = c.and_blocker.ensures (has_bit c.args.threads) c.in-Some.ensures.there
          (skipped_to
          (has_bit c.args.threads) f c.threads.from c.in-Some.u c.threads.found c.in-Some.ensures.from c.in-Some.ensures.least c.threads.invariant.sums);
    }
