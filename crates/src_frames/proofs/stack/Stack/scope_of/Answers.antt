use Rattle.std.proofs.Common.{◌≡◌, ◌∙◌, ◌-◌, ◌<◌, suc, length, arith}
use Rattle.src_frames.proofs.Stacks.{scope_first, scope_found, scope_below}
use Rattle.src_frames.proofs.stack.Stack.scope_of.Goals as goal

pub loop-left-init : goal.loop-left-init
loop-left-init c =
    let fs = c.args.self.now.list.items in
    let all : c.len-left.result ≡ length fs = omega (arith, c.args.self.now.list.ok) in
    record { within = omega arith; passed = λ g w. scope_first g c.args.owner w fs c.len-left.result all }

pub returns-then-is_scope-clause-found : goal.returns-then-is_scope-clause-found
returns-then-is_scope-clause-found c k f e s = scope_found c.args.owner c.args.self.now.list.items (c.loop-left.left - 1) k f c.index.result.now c.index.ensures
    (omega (arith, e)) s c.if-is_scope.ensures

pub loop-left-preserved : goal.loop-left-preserved
loop-left-preserved c =
    let fs = c.args.self.now.list.items in
    let one_more : c.loop-left.left ≡ suc (c.loop-left.left - 1) = omega arith in
    let below : c.loop-left.left - 1 < length fs = omega arith in
    record {
      within = omega arith;
      passed = λ g w. c.loop-left.invariant.passed g w
          ∙ scope_below g fs (c.loop-left.left - 1) c.loop-left.left c.index.result.now one_more below c.index.ensures c.args.owner w c.if-is_scope.ensures;
    }
