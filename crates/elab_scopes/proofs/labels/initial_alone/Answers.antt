use Rattle.std.proofs.Common.{Vec, subst, sym}
use Rattle.std.specs.declared.alloc.Global.{Global as Alloc}
use Rattle.elab_expr.specs.cpp_types.Typ.{typ_of}
use Rattle.elab_expr.specs.cpp_tree.declared.arena.TNode.{TNode}
use Rattle.elab_expr.specs.cpp_tree.Arena.{trees_of}
use Rattle.elab_expr.specs.cpp_tree.Units.{global_of}
use Rattle.elab_expr.specs.elab_ctx.Ctx.{ctx_of, work_of}
use Rattle.elab_expr.specs.elab_ctx.Operands.{operand_in}
use Rattle.elab_expr.specs.elab_ctx.Says.{Given}
use Rattle.elab_growth.proofs.Kept.{initials_law, cut_again, shown_length}
use Rattle.elab_scopes.specs.Labelled.{initial_alone}
use Rattle.elab_scopes.proofs.Labelling.{given_alone}
use Rattle.elab_scopes.proofs.labels.initial_alone.Goals as goal

pub returns-clause-made : goal.returns-clause-made
returns-clause-made c = subst (λ (v : Vec TNode Alloc). Given (trees_of c.args.work.now.nodes.items) (trees_of v.items) c.in_ok-made.made
    (initial_alone (ctx_of c.args.env.now) (work_of c.args.work.now) (typ_of c.args.ty.now) (operand_in (trees_of c.args.work.now.nodes.items) c.args.o)))
    (sym c.cut_back.ensures.nodes)
    (given_alone _ _ _ _ _ c.in_ok-made.ensures)

pub returns-clause-kept : goal.returns-clause-kept
returns-clause-kept c = cut_again (work_of c.args.work.now) (work_of c.initial.new.work) (work_of c.cut_back.new.work) c.len-frame.result c.len-globals.result
    (initials_law (ctx_of c.args.env.now) (work_of c.args.work.now) (typ_of c.args.ty.now)
    (operand_in (trees_of c.args.work.now.nodes.items) c.args.o) _ c.in_ok-made.ensures.is)
    (shown_length typ_of c.args.work.now.frame c.len-frame.result c.len-frame.ensures)
    (shown_length global_of c.args.work.now.globals c.len-globals.result c.len-globals.ensures) c.cut_back.ensures.work
