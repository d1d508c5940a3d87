use Rattle.std.proofs.Common.{rules, ◌≡◌, ◌∷◌, [], ap, ◌∙◌, arith, ◌++◌}
use Rattle.vm_frames.specs.Stacks.{above}
use Rattle.vm_frames.proofs.Stacked.{above_pushed}
use Rattle.vm_frames.proofs.stack.Stack.push.Goals as goal

pub returns-clause-own : goal.returns-clause-own
returns-clause-own g c =
    let e : c.push.new.self.items ≡ c.args.self.now.items.items ++ c.args.item ∷ [] = search rules in
    ap (above c.args.self.now.base) e ∙ above_pushed c.args.self.now.base c.args.self.now.items.items c.args.item (omega arith)
