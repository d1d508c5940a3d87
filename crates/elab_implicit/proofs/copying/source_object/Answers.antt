use Rattle.std.proofs.Common.{ℕ}
use Rattle.cpp_types.specs.Typ.{typ_of}
use Rattle.elab_implicit.proofs.CopyLists.{source_listed}
use Rattle.elab_implicit.proofs.copying.source_object.Goals as goal

pub returns : goal.returns
returns c = λ (n : ℕ). source_listed _ _ n (typ_of c.args.param.now) c.args.at _ c.referred_object.ensures
