use Rattle.std.proofs.Common.{List, is_some, ap, sym, ◌∙◌, arith}
use Rattle.cpp_types.specs.Class.{Class, class_of, classes_of}
use Rattle.elab_init.specs.elab_ctx.Ctx.{ctx_of}
use Rattle.class_layouts.proofs.Changes.{put_shown}
use Rattle.class_records.proofs.Pushes.{put_order, put_count, stands_within, stands_open}
use Rattle.class_records.proofs.Renewal.{renewed}
use Rattle.class_records.proofs.renewing.put_class.Goals as goal

pub put_laid_out-requires-clause-still : goal.put_laid_out-requires-clause-still
put_laid_out-requires-clause-still c = renewed
    (classes_of c.args.env.now.classes.items) c.args.class c.args.number (class_of c.args.class_record) c.args.env.now.in_order
    (sym c.may_stand.ensures ∙ c.if-not-may_stand.false) c.requires

pub invariant_of-env-2 : goal.invariant_of-env-2
invariant_of-env-2 c = record {
  in_order = put_order c.args.env.now.classes.items c.put_laid_out.new.classes.items c.args.class c.args.class_record c.in_ok-put_laid_out.ensures.put
      (renewed (classes_of c.args.env.now.classes.items) c.args.class c.args.number (class_of c.args.class_record) c.args.env.now.in_order
      (sym c.may_stand.ensures ∙ c.if-not-may_stand.false) c.requires);
  counted = put_count c.args.env.now.classes.items c.put_laid_out.new.classes.items c.args.class c.in-Some.completed c.args.env.now.completed
      c.args.class_record c.in_ok-put_laid_out.ensures.put
      (stands_within c.args.env.now.classes.items c.args.class c.args.number (class_of c.args.class_record)
      (sym c.may_stand.ensures ∙ c.if-not-may_stand.false))
      (stands_open c.args.env.now.classes.items c.args.class c.args.number (class_of c.args.class_record)
      (sym c.may_stand.ensures ∙ c.if-not-may_stand.false))
      (ap is_some c.requires) c.args.env.now.counted (let s = c.in-Some.ensures in omega arith);
  laid_out = c.put_laid_out.ensures.laid_out;
}

pub returns : goal.returns
returns c = ap (λ (z : List Class). record (ctx_of c.args.env.now) { classes = z })
    (put_shown c.args.env.now.classes.items c.put_laid_out.new.classes.items c.args.class c.args.class_record c.in_ok-put_laid_out.ensures.put)
