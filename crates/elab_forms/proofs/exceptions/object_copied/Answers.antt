use Rattle.std.proofs.Common.{◌∙◌, sym}
use Rattle.elab_make.specs.cpp_types.Typ.{typ_of}
use Rattle.elab_make.specs.cpp_tree.Trees.{typ_in}
use Rattle.elab_make.specs.cpp_tree.Arena.{trees_of, tree_at}
use Rattle.elab_make.specs.elab_ctx.Ctx.{ctx_of, work_of}
use Rattle.elab_make.specs.elab_rules.Initialising.{object_of}
use Rattle.elab_forms.proofs.Beside.{exception_puts}
use Rattle.elab_forms.proofs.exceptions.object_copied.Goals as goal

pub returns : goal.returns
returns c =
    let old = trees_of c.args.work.now.nodes.items in
    exception_puts (ctx_of c.args.env.now) c.args.o.at (typ_in (tree_at old c.args.o.id)) (typ_of c.in_ok-ty.ty) old
    (trees_of c.object_of.new.work.nodes.items) (trees_of c.exception_copied.new.nodes.items) (work_of c.object_of.new.work) c.in_ok-object.object
    (object_of (ctx_of c.args.env.now) (work_of c.args.work.now) c.args.o.at (tree_at old c.args.o.id)) c.exception_copied.result
    (c.in_ok-ty.ensures ∙ sym c.node_at.ensures.typ) c.in_ok-object.ensures c.exception_copied.ensures
