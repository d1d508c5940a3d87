use Rattle.std.proofs.Common.{◌≡◌, ◌∙◌, ◌-◌, length, drop, sym, ap, arith}
use Rattle.std.proofs.lemmas.List.{drop_all}
use Rattle.unwind_lower.specs.States.{state_of}
use Rattle.unwind_lower.specs.Settings.{setting_of}
use Rattle.unwind_lower.specs.Blocks.{run_item, labelled, run_items}
use Rattle.unwind_lower.proofs.Walks.{item_more, items_reached}
use Rattle.unwind_lower.proofs.lowering.Lowering.run_items.Goals as goal

pub loop-index-init : goal.loop-index-init
unfolding state_of labelled run_items
loop-index-init c =
    let kids = c.args.node.now.kids in
    let all : c.len-index.result ≡ length kids.items = omega (arith, kids.ok) in
    record {
      within = omega arith;
      above = λ h. absurd (omega (arith, h));
      so_far = sym (ap (λ ids. run_items (setting_of c.args.self.now) c.args.none ids (drop c.len-index.result c.args.labels.now) (state_of c.args.w.now))
          (drop_all c.len-index.result kids.items (omega arith)));
    }

pub loop-index-preserved : goal.loop-index-preserved
loop-index-preserved c =
    let i = c.loop-index.index in
    let g = setting_of c.args.self.now in
    let id = c.in_ok-kid.field-0 in
    record {
      within = omega (arith, c.loop-index.invariant.within);
      above = λ h. omega arith;
      so_far = c.in_ok-run_item.ensures
          ∙ (ap (run_item g c.args.none id c.label_at.result) c.loop-index.invariant.so_far
          ∙ item_more g c.args.none c.args.node.now.kids.items c.args.labels.now id c.label_at.result (i - 1) i (state_of c.args.w.now) (omega arith)
          (omega (arith, c.loop-index.invariant.within)) c.in_ok-kid.ensures.shown c.label_at.ensures);
    }

pub returns : goal.returns
returns c = c.loop-index.invariant.so_far
    ∙ items_reached (setting_of c.args.self.now) c.args.none c.args.node.now.kids.items c.args.labels.now c.loop-index.index (state_of c.args.w.now)
    c.loop-index.invariant.within (omega arith) c.loop-index.invariant.above
