use Rattle.std.proofs.Common.{◌≡◌, ◌∙◌, ◌+◌, ◌-◌, ◌++◌, length, ap, arith}
use Rattle.src_frames.specs.Sorts.{weight, atomics_in, place_in, handlers_in}
use Rattle.src_frames.proofs.Counts.{atomics_push}
use Rattle.src_frames.proofs.Handlers.{handlers_push}
use Rattle.src_frames.proofs.stack.Stack.pop.Goals as goal

pub overflow_sub-self : goal.overflow_sub-self
overflow_sub-self c =
    let split : atomics_in c.args.self.now.list.items ≡ atomics_in c.pop.new.self.items + weight c.in-Some.frame = ap atomics_in c.in-Some.ensures.items
    ∙ atomics_push c.pop.new.self.items c.in-Some.frame in
    omega (arith, c.args.self.now.counted, split, c.weight.ensures)

pub invariant_of-self : goal.invariant_of-self
invariant_of-self c =
    let rest = c.pop.new.self.items in
    let split : atomics_in c.args.self.now.list.items ≡ atomics_in rest + weight c.in-Some.frame = ap atomics_in c.in-Some.ensures.items
    ∙ atomics_push rest c.in-Some.frame in
    let left : c.args.self.now.atomics - c.weight.result ≡ atomics_in rest = omega (arith, c.args.self.now.counted, split, c.weight.ensures) in
    let places : c.args.self.now.handlers.items ≡ handlers_in rest ++ place_in c.in-Some.frame (length rest) = c.args.self.now.entered
    ∙ ap handlers_in c.in-Some.ensures.items ∙ handlers_push rest c.in-Some.frame in
    record { counted = left; entered = c.drop_handler.ensures (handlers_in rest) (length rest) places }
