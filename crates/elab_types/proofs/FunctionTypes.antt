-- A function's type as it is made of its parts.
use Rattle.std.proofs.Common.{◌≡◌, Bool, Vec, Global, ap, ◌∙◌}
use Rattle.cpp_types.specs.Typ.{signature, typ_of, signature_of, typs_of}
use Rattle.cpp_types.specs.declared.types.Ty.{Ty}
use Rattle.cpp_types.specs.declared.types.FnTy.{roll-FnTy, out-roll-FnTy}
use Rattle.cpp_types.proofs.Views.{signature_view}

pub made_view : (ps : Vec Ty Global) (t : Ty) (b : Bool)
    → signature_of (roll-FnTy (record { params = ps; ret = t; safe = b })) ≡ signature (typs_of ps.items) (typ_of t) b
made_view ps t b = signature_view (roll-FnTy (record { params = ps; ret = t; safe = b }))
    ∙ ap (λ z. signature (typs_of z.params.items) (typ_of z.ret) z.safe) (out-roll-FnTy (record { params = ps; ret = t; safe = b }))
