use Rattle.std.proofs.Common.{◌≡◌, ◌∙◌, sym, ap, map, Err, rules, slice_get}
use Rattle.elab_init.specs.cpp_types.Typ.{typ_of}
use Rattle.elab_init.specs.cpp_tree.Arena.{trees_of}
use Rattle.elab_init.specs.elab_ctx.Ctx.{ctx_of, work_of}
use Rattle.elab_init.specs.cpp_overload.Overload.{candidate_of}
use Rattle.elab_make.proofs.Calling.{refused_made}
use Rattle.elab_make.proofs.Constructing.{not_makeable, not_meant, made_by_maker}
use Rattle.elab_make.proofs.values.constructed_from.Goals as goal

pub returns-in_err-_number : goal.returns-in_err-_number
returns-in_err-_number c =
    let is_error : c.from_residual.result ≡ Err c.in_err-_number.field-0.0 = search rules in
    refused_made _ _ _ _ _ _ is_error (not_makeable (ctx_of c.args.env.now) (work_of c.args.work.now) c.args.class (typ_of c.args.ty.now) c.args.at
    (trees_of c.args.work.now.nodes.items) c.args.first c.args.os.now c.in_err-_number.field-0.0 c.requires.some c.in_err-_number.ensures)

pub returns-in_err-i : goal.returns-in_err-i
returns-in_err-i c =
    let is_error : c.from_residual-in_err-i.result ≡ Err c.in_err-i.field-0.0 = search rules in
    refused_made _ _ _ _ _ _ is_error (not_meant (ctx_of c.args.env.now) (work_of c.args.work.now) c.args.class (typ_of c.args.ty.now) c.args.at
    (trees_of c.args.work.now.nodes.items) c.args.first c.args.os.now c.in_ok-_number._number
    (map candidate_of c.deref-2.result.now) c.in_err-i.field-0.0 c.requires.some c.in_ok-_number.ensures
    (sym c.is_prvalue_itself.ensures ∙ c.if-is_prvalue_itself.false)
    (ap (map candidate_of) c.deref-2.ensures.value ∙ c.in_ok-cands.ensures) c.in_err-i.ensures)

pub returns : goal.returns
returns c = made_by_maker (ctx_of c.args.env.now) (work_of c.args.work.now) c.args.class (typ_of c.args.ty.now) c.args.at
    (trees_of c.args.work.now.nodes.items) c.args.first c.args.os.now c.in_ok-_number._number
    (map candidate_of c.deref-2.result.now) c.in_ok-i.i _ _ _ _ _ c.requires.some c.in_ok-_number.ensures
    (sym c.is_prvalue_itself.ensures ∙ c.if-is_prvalue_itself.false) (ap (map candidate_of) c.deref-2.ensures.value ∙ c.in_ok-cands.ensures) c.in_ok-i.ensures
    (c.place_at-maker.ensures ∙ ap (λ z. slice_get z c.in_ok-i.i) (c.deref-3.ensures.value ∙ c.in_ok-places.ensures)) c.constructed_by.ensures
