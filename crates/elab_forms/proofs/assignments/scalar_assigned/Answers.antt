use Rattle.std.proofs.Common.{◌≡◌, ◌∙◌, true, is_some, sym, ap, rules}
use Rattle.elab_make.specs.cpp_types.Typ.{typ_of}
use Rattle.elab_make.specs.cpp_tree.Trees.{typ_in}
use Rattle.elab_make.specs.cpp_tree.Arena.{trees_of, tree_at}
use Rattle.elab_make.specs.cpp_tree.Typing.{form_in, kind_in, unqualified}
use Rattle.elab_make.specs.elab_ctx.Ctx.{ctx_of, work_of}
use Rattle.elab_make.specs.elab_ctx.Operands.{operand_in}
use Rattle.elab_forms.proofs.Objects.{scalar_makes}
use Rattle.elab_forms.proofs.assignments.scalar_assigned.Goals as goal

pub returns : goal.returns
returns c =
    let old = trees_of c.args.work.now.nodes.items in
    let scalar : is_some (kind_in (form_in (typ_in (tree_at old c.args.a.id)))) ≡ true = search rules in
    scalar_makes (ctx_of c.args.env.now) (work_of c.args.work.now) (work_of c.initial.new.work) c.args.at c.args.a (operand_in old c.args.b)
    (typ_of c.in_ok-ty.ty) old (trees_of c.initial.new.work.nodes.items)
    (trees_of c.assigned.new.nodes.items) c.in_ok-value.value c.assigned.result c.requires.left scalar
    (c.in_ok-ty.ensures ∙ ap unqualified (sym c.node_at-node.ensures.typ)) c.in_ok-value.ensures c.assigned.ensures
