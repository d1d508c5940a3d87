use Rattle.cpp_types.specs.Class.{classes_of}
use Rattle.elab_ctx.proofs.Sizes.{in_order}
use Rattle.class_layouts.proofs.Changes.{last_served, last_laid}
use Rattle.class_layouts.proofs.lists.add_layout.Goals as goal

pub class_layout-requires-clause-in_order : goal.class_layout-requires-clause-in_order
class_layout-requires-clause-in_order c = in_order (classes_of c.args.classes.now) c.requires.in_order

pub class_layout-requires-clause-serves : goal.class_layout-requires-clause-serves
class_layout-requires-clause-serves c = last_served c.args.classes.now c.args.class c.requires.last c.requires.others c.args.layouts.now.items
    c.requires.laid_out c.deref.result.now c.deref.ensures.value

pub returns : goal.returns
returns c = last_laid c.args.classes.now c.args.class c.requires.last c.requires.others c.args.layouts.now.items c.requires.laid_out c.push.new.self.items
    c.in_ok-layout.layout c.in_ok-push.ensures.items c.in_ok-layout.ensures
