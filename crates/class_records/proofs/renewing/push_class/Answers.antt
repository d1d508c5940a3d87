use Rattle.std.proofs.Common.{◌≡◌, sym, ◌∙◌, arith}
use Rattle.cpp_types.specs.Class.{class_of, classes_of}
use Rattle.class_layouts.proofs.Counts.{one_of}
use Rattle.class_records.proofs.Pushes.{pushed_order, pushed_count}
use Rattle.class_records.proofs.Renewal.{follows}
use Rattle.class_records.proofs.renewing.push_class.Goals as goal

pub push_laid_out-requires-clause-still : goal.push_laid_out-requires-clause-still
push_laid_out-requires-clause-still c = follows (classes_of c.args.env.now.classes.items) (class_of c.args.class_record) c.args.env.now.in_order
    (sym c.may_follow.ensures ∙ c.if-not-may_follow.false)

pub invariant_of-env-2 : goal.invariant_of-env-2
invariant_of-env-2 c = record {
  in_order = pushed_order c.args.env.now.classes.items c.push_laid_out.new.classes.items c.args.class_record c.in_ok-push_laid_out.ensures.put
      (follows (classes_of c.args.env.now.classes.items) (class_of c.args.class_record) c.args.env.now.in_order
      (sym c.may_follow.ensures ∙ c.if-not-may_follow.false));
  counted = pushed_count c.args.env.now.classes.items c.push_laid_out.new.classes.items c.in-Some.completed c.args.env.now.completed c.args.class_record
      c.in_ok-push_laid_out.ensures.put c.args.env.now.counted
      (let o : c.one_if_complete.result ≡ one_of (class_of c.args.class_record) = c.one_if_complete.ensures in let s = c.in-Some.ensures in omega arith);
  laid_out = c.push_laid_out.ensures.laid_out;
}
