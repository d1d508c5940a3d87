use Rattle.std.proofs.Common.{◌∷◌, sym, ap, ◌∙◌}
use Rattle.cpp_types.specs.Typ.{typ_of, typs_of, signature, signature_of}
use Rattle.cpp_types.specs.declared.types.FnTy.{out-FnTy}
use Rattle.cpp_types.proofs.Views.{signature_view}
use Rattle.elab_make.specs.cpp_tree.Arena.{trees_of, tree_at}
use Rattle.elab_make.specs.cpp_tree.Trees.{one}
use Rattle.elab_make.specs.elab_ctx.Ctx.{ctx_of, work_of}
use Rattle.elab_make.specs.elab_ctx.Operands.{operands_in}
use Rattle.elab_call.proofs.Made.{called_made, behind_is}
use Rattle.elab_call.proofs.results.called_on.Goals as goal

pub returns : goal.returns
returns c =
    let old = trees_of c.args.work.now.nodes.items in
    let words = c.in_ok-passed.passed.items in
    let all = c.in_ok-all.all.items in
    called_made (ctx_of c.args.env.now) (work_of c.args.work.now) _ _ (signature_of c.args.ty.now) _ (typ_of (out-FnTy c.args.ty.now).ret)
    (out-FnTy c.args.ty.now).safe _ (one (tree_at old c.args.object)) (operands_in old c.args.os.now) _ _ _ _ words all _
    (signature_view c.args.ty.now ∙ ap (λ z. signature (typs_of z) (typ_of (out-FnTy c.args.ty.now).ret) (out-FnTy c.args.ty.now).safe)
    (sym c.deref.ensures.value)) c.in_ok-_complete.ensures c.in_ok-passed.ensures
    (behind_is old _ c.args.object words all c.in_ok-passed.ensures.grows c.requires.object
    (c.in_ok-all.ensures ∙ ap (λ z. c.args.object ∷ z) c.deref-2.ensures.value)) c.in_ok-made.ensures
