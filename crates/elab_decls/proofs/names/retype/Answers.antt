use Rattle.std.proofs.Common.{◌<◌, ◌≤◌, ◌∙◌, length, map, ap, arith, rules}
use Rattle.cpp_types.specs.Typ.{typ_of}
use Rattle.elab_expr.specs.elab_ctx.Ctx.{enumerator_of}
use Rattle.elab_decls.specs.Says.{with_typ}
use Rattle.elab_decls.proofs.Lists.{typed_at, typed_past}
use Rattle.elab_decls.proofs.names.retype.Goals as goal

pub returns-then-i-len : goal.returns-then-i-len
returns-then-i-len c =
    let past : length c.args.list.now.items ≤ c.args.i = search (rules, arith) in
    typed_past c.args.list.now.items c.args.i (typ_of c.args.ty.now) past

pub returns : goal.returns
returns c =
    let within : c.args.i < length c.args.list.now.items = search (rules, arith) in
    typed_at c.args.list.now.items c.args.i c.in_ok-ty.ty c.index_mut.result.now within c.index_mut.ensures.value
    ∙ ap (with_typ (map enumerator_of c.args.list.now.items) c.args.i) c.in_ok-ty.ensures
