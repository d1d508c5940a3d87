use Rattle.own_table.proofs.stripe.Stripe.reserve.Goals as goal

pub invariant_of-self : goal.invariant_of-self
invariant_of-self c = rw c.reserve.ensures.items (record { sound = c.args.self.now.sound; once = c.args.self.now.once })
