use Rattle.std.proofs.Common.{List, ap, sym, ◌∙◌, drop}
use Rattle.elab_entry.specs.cpp_types.Class.{Class, classes_of}
use Rattle.elab_entry.specs.cpp_types.Order.{all_consistent}
use Rattle.elab_entry.specs.elab_ctx.Ctx.{ctx_of}
use Rattle.class_layouts.proofs.Cuts.{cut_shown, cut_fewer, cut_counted, cut_laid}
use Rattle.elab_lambdas.proofs.undoing.undo_classes.Goals as goal

pub without-completed-requires : goal.without-completed-requires
without-completed-requires c = cut_fewer c.args.env.now.classes.items c.args.count c.args.env.now.completed c.cut_from.result.now c.args.env.now.counted
    (c.cut_from.ensures ∙ ap (drop c.args.count) c.deref.ensures.value)

pub invariant_of-env : goal.invariant_of-env
invariant_of-env c = record {
  in_order = ap all_consistent (ap classes_of c.truncate.ensures.items ∙ sym (cut_shown c.args.env.now.classes.items c.args.count)) ∙ c.requires;
  counted = cut_counted c.args.env.now.classes.items c.args.count c.args.env.now.completed c.cut_from.result.now c.args.env.now.counted
      (c.cut_from.ensures ∙ ap (drop c.args.count) c.deref.ensures.value) c.truncate.new.self.items c.without-completed.result
      c.without-completed.ensures c.truncate.ensures.items;
  laid_out = cut_laid c.args.env.now.classes.items c.args.count c.truncate.new.self.items c.args.env.now.layouts.items c.truncate-2.new.self.items c.requires
      c.args.env.now.laid_out c.truncate.ensures.items c.truncate-2.ensures.items;
}

pub returns : goal.returns
returns c = ap (λ (z : List Class). record (ctx_of c.args.env.now) { classes = z })
    (ap classes_of c.truncate.ensures.items ∙ sym (cut_shown c.args.env.now.classes.items c.args.count))
