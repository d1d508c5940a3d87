use Rattle.std.proofs.Common.{length, ◌≡◌, ◌-◌, sym, ◌∙◌, arith}
use Rattle.vm_frames.proofs.Stacked.{above_length}
use Rattle.vm_frames.proofs.stack.Stack.count.Goals as goal

pub returns : goal.returns
returns g c =
    let e : c.len.result - c.args.self.now.base ≡ length c.args.self.now.items.items - c.args.self.now.base = omega arith in
    e ∙ sym (above_length c.args.self.now.base c.args.self.now.items.items)
