use Rattle.std.proofs.Common.{ℕ, Option, is_some, ap}
use Rattle.cpp_tree.specs.cpp_types.Class.{classes_of}
use Rattle.elab_ctx.proofs.LaidOut.{layout_there, measured_at, large_at}
use Rattle.elab_ctx.proofs.layouts.class_measured.Goals as goal

pub returns-in_err-layout : goal.returns-in_err-layout
returns-in_err-layout c = absurd
    (let e = layout_there (classes_of c.args.env.now.classes.items) c.args.env.now.layouts.items c.args.class c.args.env.now.laid_out
    c.in_err-layout.ensures in
    let f = ap (λ (z : Option ℕ). is_some z) e in let g = c.requires in cc)

pub returns-then-layout : goal.returns-then-layout
returns-then-layout c = measured_at (classes_of c.args.env.now.classes.items) c.args.env.now.layouts.items c.args.class c.in_ok-layout.layout.now
    c.args.env.now.laid_out c.requires c.in_ok-layout.ensures c.if-layout.true

pub returns-else-layout : goal.returns-else-layout
returns-else-layout c = large_at (classes_of c.args.env.now.classes.items) c.args.env.now.layouts.items c.args.class c.in_ok-layout.layout.now
    c.args.env.now.laid_out c.requires c.in_ok-layout.ensures c.if-layout.false
