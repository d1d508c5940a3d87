use Rattle.std.proofs.Common.{refl, sym, ap, ◌∙◌}
use Rattle.cpp_types.specs.Typ.{typ_of, typs_of, signature, signature_of}
use Rattle.cpp_types.specs.declared.types.FnTy.{out-FnTy}
use Rattle.cpp_types.proofs.Views.{signature_view}
use Rattle.elab_make.specs.cpp_tree.Arena.{trees_of}
use Rattle.elab_make.specs.cpp_tree.Trees.{none}
use Rattle.elab_make.specs.elab_ctx.Ctx.{ctx_of, work_of}
use Rattle.elab_make.specs.elab_ctx.Operands.{operands_in}
use Rattle.elab_call.proofs.Made.{called_made}
use Rattle.elab_call.proofs.results.called.Goals as goal

pub returns : goal.returns
returns c = called_made (ctx_of c.args.env.now) (work_of c.args.work.now) _ _ (signature_of c.args.ty.now) _ (typ_of (out-FnTy c.args.ty.now).ret)
    (out-FnTy c.args.ty.now).safe _ none (operands_in
    (trees_of c.args.work.now.nodes.items) c.args.os.now) _ _ _ _ c.in_ok-passed.passed.items c.in_ok-passed.passed.items _
    (signature_view c.args.ty.now ∙ ap (λ z. signature (typs_of z) (typ_of (out-FnTy c.args.ty.now).ret) (out-FnTy c.args.ty.now).safe)
    (sym c.deref.ensures.value)) c.in_ok-_complete.ensures c.in_ok-passed.ensures refl c.in_ok-made.ensures
