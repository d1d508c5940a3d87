use Rattle.std.proofs.Common.{length, ◌≡◌, ◌-◌, ap, ◌∙◌, arith, slice_index_or}
use Rattle.vm_frames.proofs.Stacked.{above_none, top_is}
use Rattle.vm_frames.proofs.stack.Stack.top.Goals as goal

pub returns-then-len-self : goal.returns-then-len-self
returns-then-len-self g c = above_none c.args.self.now.base c.args.self.now.items.items (omega arith)

pub returns : goal.returns
returns g c =
    let e : c.len-2.result - 1 ≡ length c.args.self.now.items.items - 1 = omega arith in
    top_is c.args.self.now.base c.args.self.now.items.items c.index.result.now (omega arith)
    (c.index.ensures ∙ ap (λ z. slice_index_or c.args.self.now.items.items z c.index.result.now) e)
