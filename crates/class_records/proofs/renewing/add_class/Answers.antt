use Rattle.std.proofs.Common.{◌++◌, ◌∷◌, [], is_ok, ap, ◌∙◌}
use Rattle.cpp_types.specs.Class.{Class, class_of, classes_of}
use Rattle.cpp_types.specs.Order.{all_consistent}
use Rattle.class_records.proofs.Pushes.{begun_order, begun_count}
use Rattle.class_records.proofs.Renewal.{one_more}
use Rattle.class_records.proofs.renewing.add_class.Goals as goal

pub push_laid_out-requires-clause-still : goal.push_laid_out-requires-clause-still
push_laid_out-requires-clause-still c = ap (λ (z : Class). all_consistent (classes_of c.args.env.now.classes.items ++ z ∷ [])) c.declared_class-begun.ensures
    ∙ one_more (classes_of c.args.env.now.classes.items) c.args.name.items c.args.env.now.in_order

pub invariant_of-env : goal.invariant_of-env
invariant_of-env c = record {
  in_order = begun_order c.args.env.now.classes.items c.push_laid_out.new.classes.items c.declared_class-begun.result (is_ok c.push_laid_out.result)
      c.push_laid_out.ensures.put
      (ap (λ (z : Class). all_consistent (classes_of c.args.env.now.classes.items ++ z ∷ [])) c.declared_class-begun.ensures
      ∙ one_more (classes_of c.args.env.now.classes.items) c.args.name.items c.args.env.now.in_order)
      c.args.env.now.in_order;
  counted = begun_count c.args.env.now.classes.items c.push_laid_out.new.classes.items c.args.env.now.completed c.declared_class-begun.result
      (is_ok c.push_laid_out.result) c.push_laid_out.ensures.put (ap (λ (z : Class). z.complete) c.declared_class-begun.ensures) c.args.env.now.counted;
  laid_out = c.push_laid_out.ensures.laid_out;
}
