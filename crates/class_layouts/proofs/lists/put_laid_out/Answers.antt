use Rattle.std.proofs.Common.{List, refl, sym, ap, ◌∙◌, arith, slice_set}
use Rattle.std.proofs.lemmas.List.{length-map}
use Rattle.cpp_types.specs.declared.classes.ClassRec.{ClassRec}
use Rattle.cpp_types.specs.Class.{class_of, classes_of}
use Rattle.elab_ctx.specs.Layouts.{layouts_of}
use Rattle.class_layouts.proofs.Changes.{as_many, put_in_order, put_serves, put_laid, put_back}
use Rattle.class_layouts.proofs.lists.put_laid_out.Goals as goal

pub class_layout-requires-clause-in_order : goal.class_layout-requires-clause-in_order
class_layout-requires-clause-in_order c = put_in_order c.args.classes.now.items c.deref.result.now c.args.class c.args.class_record
    (c.deref.ensures.value ∙ c.exchanged-before.ensures.put) c.requires.still

pub class_layout-requires-clause-serves : goal.class_layout-requires-clause-serves
class_layout-requires-clause-serves c = put_serves c.args.classes.now.items c.deref.result.now c.args.class c.args.class_record
    (c.deref.ensures.value ∙ c.exchanged-before.ensures.put) c.requires.declared c.requires.in_order c.args.layouts.now.items c.requires.laid_out
    c.deref-2.result.now c.deref-2.ensures.value

pub index_mut-requires : goal.index_mut-requires
index_mut-requires c =
    let a = as_many c.args.layouts.now.items (classes_of c.args.classes.now.items) c.requires.laid_out in
    let b = length-map c.args.classes.now.items class_of in
    omega arith

pub returns-in-Ok-clause-laid_out : goal.returns-in-Ok-clause-laid_out
returns-in-Ok-clause-laid_out c =
    put_laid c.args.classes.now.items c.deref.result.now c.args.class c.args.class_record
    (c.deref.ensures.value ∙ c.exchanged-before.ensures.put) c.requires.declared c.requires.in_order c.args.layouts.now.items c.requires.laid_out
    (slice_set c.args.layouts.now.items c.args.class c.in-Ok.layout) c.in-Ok.layout c.requires.there refl c.in-Ok.ensures
    ∙ ap (λ (z : List ClassRec). layouts_of (classes_of z)) c.deref.ensures.value

pub returns-in-Err-clause-put : goal.returns-in-Err-clause-put
returns-in-Err-clause-put c = put_back c.args.classes.now.items c.exchanged-before.new.classes.items
    (slice_set c.exchanged-before.new.classes.items c.args.class c.exchanged-before.result) c.args.class c.args.class_record c.exchanged-before.result
    c.exchanged-before.ensures.put c.exchanged-before.ensures.before refl

pub returns-in-Err-clause-laid_out : goal.returns-in-Err-clause-laid_out
returns-in-Err-clause-laid_out c = c.requires.laid_out ∙ sym (ap (λ (z : List ClassRec). layouts_of (classes_of z))
    (put_back c.args.classes.now.items c.exchanged-before.new.classes.items
    (slice_set c.exchanged-before.new.classes.items c.args.class c.exchanged-before.result) c.args.class c.args.class_record c.exchanged-before.result
    c.exchanged-before.ensures.put c.exchanged-before.ensures.before refl))
