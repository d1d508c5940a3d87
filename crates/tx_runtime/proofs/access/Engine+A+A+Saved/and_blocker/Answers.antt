use Rattle.std.proofs.Common.{ℕ, subst}
use Rattle.tx_serial.specs.Machine.{birth_of}
use Rattle.tx_runtime.specs.Blocks.{Sums}
use Rattle.tx_runtime.specs.View.{machine_in}
use Rattle.tx_runtime.proofs.ConflictingThreads.{birth_at}
use Rattle.tx_runtime.proofs.access.Engine+A+A+Saved.and_blocker.Goals as goal

pub returns-in-Some : goal.returns-in-Some
returns-in-Some g c = λ p h s.
    let f = λ (v : ℕ). birth_of ((machine_in g.A.Actor.state g.A.Actor.saved_state c.args.self.now).threads v) in
    c.and.ensures p f (birth_at g.A.Actor.state g.A.Actor.saved_state c.args.self.now.holders c.args.self.now.threads.items c.args.u c.birth-birth.result
    c.index.result.now c.requires.number c.index.ensures c.birth-birth.ensures) h (subst (λ o. Sums p f c.args.u o) c.in-Some.is s)

pub returns-in-None : goal.returns-in-None
returns-in-None g c = λ p h s.
    let f = λ (v : ℕ). birth_of ((machine_in g.A.Actor.state g.A.Actor.saved_state c.args.self.now).threads v) in
    c.of.ensures p f (birth_at g.A.Actor.state g.A.Actor.saved_state c.args.self.now.holders c.args.self.now.threads.items c.args.u c.birth-birth.result
    c.index.result.now c.requires.number c.index.ensures c.birth-birth.ensures) h (subst (λ o. Sums p f c.args.u o) c.in-None.is s)
