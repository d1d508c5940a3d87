use Rattle.std.proofs.Common.{◌≡◌, ◌∙◌, ◌-◌, length, sym, ap, arith}
use Rattle.std.proofs.lemmas.List.{drop_all}
use Rattle.unwind_lower.specs.declared.items.Item.TheVariants.{Handle}
use Rattle.unwind_lower.specs.States.{state_of, later}
use Rattle.unwind_lower.specs.Exceptions.{handles, later_handlers}
use Rattle.unwind_lower.proofs.Walks.{handler_more}
use Rattle.unwind_lower.proofs.writing.Writing.later_handlers.Goals as goal

pub loop-index-init : goal.loop-index-init
unfolding state_of handles later_handlers
loop-index-init c =
    let kids = c.args.node.now.kids in
    let all : c.len-index.result ≡ length kids.items = omega (arith, kids.ok) in
    record {
      within = omega arith;
      above = λ h. absurd (omega (arith, h));
      so_far = sym (ap (λ ids. later_handlers ids c.args.scope c.args.live (state_of c.args.self.now)) (drop_all c.len-index.result kids.items (omega arith)));
    }

pub loop-index-preserved : goal.loop-index-preserved
loop-index-preserved c =
    let i = c.loop-index.index in
    let id = c.in_ok-kid.field-0 in
    record {
      within = omega (arith, c.loop-index.invariant.within);
      above = λ h. omega arith;
      so_far = c.in_ok-later.ensures
          ∙ (ap (later (Handle id c.args.scope c.args.live)) c.loop-index.invariant.so_far
          ∙ handler_more c.args.node.now.kids.items id (i - 1) i c.args.scope c.args.live (state_of c.args.self.now) (omega arith)
          (omega (arith, c.loop-index.invariant.within)) c.in_ok-kid.ensures.shown);
    }
