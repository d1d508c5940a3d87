use Rattle.std.proofs.Common.{ap, ◌∙◌, ◌≡◌, ◌-◌, length, slice_index_or, arith}
use Rattle.vm_frames.proofs.Stacked.{above_length, item_is}
use Rattle.vm_frames.proofs.stack.Stack.item.Goals as goal

pub overflow_sub-len : goal.overflow_sub-len
overflow_sub-len g c = omega (arith, above_length c.args.self.now.base c.args.self.now.items.items)

pub overflow_sub-len-2 : goal.overflow_sub-len-2
overflow_sub-len-2 g c = omega (arith, above_length c.args.self.now.base c.args.self.now.items.items)

pub index-requires : goal.index-requires
index-requires g c = omega (arith, above_length c.args.self.now.base c.args.self.now.items.items)

pub returns : goal.returns
returns g c =
    let e : c.len.result - 1 - c.args.above ≡ length c.args.self.now.items.items - 1 - c.args.above = omega arith in (
      item_is c.args.self.now.base c.args.above c.args.self.now.items.items c.index.result.now
          (omega (arith, above_length c.args.self.now.base c.args.self.now.items.items))
          (c.index.ensures ∙ ap (λ z. slice_index_or c.args.self.now.items.items z c.index.result.now) e),
      omega (arith, above_length c.args.self.now.base c.args.self.now.items.items),
    )
