use Rattle.std.proofs.Common.{◌≡◌, ◌∙◌, ap, sym}
use Rattle.cpp_types.specs.Typ.{typs_of, typ_of, signature, signature_of}
use Rattle.cpp_types.specs.Class.{classes_of}
use Rattle.cpp_types.specs.declared.types.FnTy.{out-FnTy}
use Rattle.cpp_types.proofs.Views.{signature_view}
use Rattle.low_code.proofs.Pieces.{function_is}
use Rattle.low_code.proofs.types.function_text.Goals as goal

pub returns : goal.returns
returns c =
    let f = out-FnTy c.args.ty.now in
    let view : signature_of c.args.ty.now ≡ signature (typs_of c.deref.result.now) (typ_of f.ret) f.safe = signature_view c.args.ty.now
    ∙ ap (λ z. signature (typs_of z) (typ_of f.ret) f.safe) (sym c.deref.ensures.value) in
    function_is (classes_of c.args.classes.now) (signature_of c.args.ty.now) (typs_of c.deref.result.now)
    (typ_of f.ret) f.safe c.in_ok-text.text.items c.extend_from_slice.new.self.items c.add_list.new.text.items c.extend_from_slice-2.new.self.items view
    c.in_ok-text.ensures c.in_ok-extend_from_slice.ensures.items c.in_ok-add_list.ensures c.in_ok-extend_from_slice-2.ensures.items
