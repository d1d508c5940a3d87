use Rattle.std.proofs.Common.{◌≡◌, ◌+◌, ◌++◌, ◌∷◌, [], ◌∙◌, ap, length, arith}
use Rattle.std.proofs.lemmas.List.{length-append}
use Rattle.cpp_tree.specs.Arena.{trees_of}
use Rattle.tx_unsafe.specs.Volatile.{marked}
use Rattle.tx_safety.proofs.Contents.{next_contents}
use Rattle.tx_safety.proofs.marks.all_contents.Goals as goal

pub loop-func-preserved : goal.loop-func-preserved
loop-func-preserved c =
    let all = c.loop-func.all.items in let d = c.in_ok-contents_of.field-0 in
    record {
      long = omega (arith, ap length c.in_ok-push.ensures.items, length-append all (d ∷ []), c.loop-func.invariant.long);
      each = next_contents (marked c.args.volatile.now)
          (trees_of c.args.nodes.now) c.args.funcs.now all c.push.new.self.items c.loop-func.func-index c.func-item.result d
          c.loop-func.invariant.long c.loop-func.invariant.each c.in_ok-push.ensures.items c.loop-func-test.true c.func-item.is
          (record { first = c.in_ok-contents_of.ensures.first; calls = c.in_ok-contents_of.ensures.calls });
    }
