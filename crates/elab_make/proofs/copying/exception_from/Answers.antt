use Rattle.std.proofs.Common.{◌≡◌, rules, true}
use Rattle.elab_init.specs.cpp_types.Typ.{typ_of, tx_ex}
use Rattle.elab_init.specs.cpp_types.Equal.{form_eq}
use Rattle.elab_init.specs.cpp_tree.Arena.{trees_of, tree_at}
use Rattle.elab_init.specs.cpp_tree.Trees.{typ_in, cat_of}
use Rattle.elab_init.specs.cpp_tree.Typing.{form_in, is_class_prvalue}
use Rattle.elab_init.specs.elab_ctx.Ctx.{ctx_of, work_of}
use Rattle.elab_init.specs.elab_ctx.Operands.{operand_in}
use Rattle.elab_make.proofs.Calling.{exception_makes}
use Rattle.elab_make.proofs.copying.exception_from.Goals as goal

pub returns-then-is_class_prvalue : goal.returns-then-is_class_prvalue
returns-then-is_class_prvalue c =
    let e = tree_at (trees_of c.args.work.now.nodes.items) c.args.o.id in
    let same : form_eq (form_in (typ_in e)) (tx_ex (typ_of c.args.value.now)) ≡ true = search rules in
    let prvalue : is_class_prvalue (typ_in e) (cat_of e) ≡ true = search rules in
    exception_makes _ _ _ _ (ctx_of c.args.env.now) (work_of c.args.work.now) (typ_of c.args.value.now) (typ_of c.in_ok-ty.ty) c.args.is_const
    c.args.is_volatile c.args.at (operand_in (trees_of c.args.work.now.nodes.items) c.args.o) same prvalue c.in_ok-ty.ensures c.in_ok-made.ensures
