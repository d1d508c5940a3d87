use Rattle.std.proofs.Common.{length, ◌≡◌, ◌-◌, ap, ◌∙◌, arith, slice_index_or}
use Rattle.vm_frames.proofs.Stacked.{above_length, top_two_are}
use Rattle.vm_frames.proofs.stack.Stack.top_two.Goals as goal

pub overflow_sub-len : goal.overflow_sub-len
overflow_sub-len g c = omega (arith, above_length c.args.self.now.base c.args.self.now.items.items)

pub index-requires : goal.index-requires
index-requires g c = omega (arith, above_length c.args.self.now.base c.args.self.now.items.items)

pub overflow_sub-len-2 : goal.overflow_sub-len-2
overflow_sub-len-2 g c = omega (arith, above_length c.args.self.now.base c.args.self.now.items.items)

pub index-requires-2 : goal.index-requires-2
index-requires-2 g c = omega (arith, above_length c.args.self.now.base c.args.self.now.items.items)

pub returns : goal.returns
returns g c =
    let l = above_length c.args.self.now.base c.args.self.now.items.items in
    let e : c.len-2.result - 1 ≡ length c.args.self.now.items.items - 1 = omega arith in
    let f : c.len.result - 2 ≡ length c.args.self.now.items.items - 2 = omega arith in
    top_two_are c.args.self.now.base c.args.self.now.items.items c.index-2.result.now c.index.result.now (omega (arith, l))
    (c.index-2.ensures ∙ ap (λ z. slice_index_or c.args.self.now.items.items z c.index-2.result.now) e)
    (c.index.ensures ∙ ap (λ z. slice_index_or c.args.self.now.items.items z c.index.result.now) f)
