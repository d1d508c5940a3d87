use Rattle.std.proofs.Common.{◌≡◌, ◌∙◌, ◌-◌, length, sym, ap, arith}
use Rattle.std.proofs.lemmas.List.{drop_all}
use Rattle.low_code.specs.Nodes.{node_of}
use Rattle.unwind_lower.specs.States.{state_of}
use Rattle.unwind_lower.specs.Kids.{run_kid, runs, run_all}
use Rattle.unwind_lower.proofs.Walks.{run_more}
use Rattle.unwind_lower.proofs.writing.Writing.run_kids.Goals as goal

pub loop-index-init : goal.loop-index-init
unfolding state_of runs run_all
loop-index-init c =
    let kids = c.args.node.now.kids in
    let all : c.len-index.result ≡ length kids.items = omega (arith, kids.ok) in
    record {
      within = omega arith;
      above = λ h. absurd (omega (arith, h));
      so_far = sym (ap (λ ids. run_all c.args.way ids (state_of c.args.self.now)) (drop_all c.len-index.result kids.items (omega arith)));
    }

pub loop-index-preserved : goal.loop-index-preserved
loop-index-preserved c =
    let i = c.loop-index.index in
    let n = node_of c.args.node.now in
    record {
      within = omega (arith, c.loop-index.invariant.within);
      above = λ h. omega arith;
      so_far = c.in_ok-run_kid.ensures
          ∙ (ap (run_kid n (i - 1) c.args.way) c.loop-index.invariant.so_far
          ∙ run_more n c.args.way (i - 1) i (state_of c.args.self.now) (omega arith) (omega (arith, c.loop-index.invariant.within)));
    }
