use Rattle.std.proofs.Common.{◌-◌, take, ap, ◌∙◌, arith}
use Rattle.vm_frames.specs.Stacks.{above}
use Rattle.vm_frames.proofs.Stacked.{above_length, taken_off, turned, front_kept, front_cut}
use Rattle.vm_frames.proofs.stack.Stack.enter.Goals as goal

pub overflow_sub-start : goal.overflow_sub-start
overflow_sub-start g c = omega (arith, above_length c.args.self.now.base c.args.self.now.items.items)

pub returns-clause-own : goal.returns-clause-own
returns-clause-own g c =
    let l = above_length c.args.self.now.base c.args.self.now.items.items in
    ap (above (c.len.result - c.args.count)) c.turn.ensures.items
    ∙ turned c.args.self.now.base c.args.count _ c.args.self.now.items.items (omega (arith, l)) (omega (arith, l))

pub returns-clause-below : goal.returns-clause-below
returns-clause-below g c =
    let l = above_length c.args.self.now.base c.args.self.now.items.items in
    ap (λ z. above c.args.self.now.base (take (c.len.result - c.args.count) z)) c.turn.ensures.items
    ∙ ap (above c.args.self.now.base) (front_cut _ c.args.self.now.items.items _ (omega (arith, l)))
    ∙ taken_off c.args.self.now.base c.args.count _ c.args.self.now.items.items (omega (arith, l)) (omega (arith, l))

pub returns-clause-under : goal.returns-clause-under
returns-clause-under g c =
    let l = above_length c.args.self.now.base c.args.self.now.items.items in
    ap (λ z. take c.args.self.now.base (take (c.len.result - c.args.count) z)) c.turn.ensures.items
    ∙ front_kept c.args.self.now.base _ c.args.self.now.items.items _ (omega (arith, l)) (omega (arith, l))

pub returns-clause-order : goal.returns-clause-order
returns-clause-order g c = omega (arith, above_length c.args.self.now.base c.args.self.now.items.items)
