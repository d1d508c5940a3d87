use Rattle.std.proofs.Common.{◌∙◌, ap, refl}
use Rattle.cpp_tree.specs.cpp_types.declared.types.FnTy.{out-FnTy}
use Rattle.src_mean.specs.Links.{unsafe}
use Rattle.src_bind.proofs.CallWords.{bared}
use Rattle.src_bind.proofs.infos.bare.Goals as goal

pub returns : goal.returns
returns c = bared (out-FnTy c.in_ok-params.field-0).params (out-FnTy c.in_ok-params.field-0).ret c.in_ok-params.field-0 refl refl
    ∙ ap unsafe c.in_ok-params.ensures
