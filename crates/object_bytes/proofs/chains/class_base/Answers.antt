use Rattle.std.proofs.Common.{ap}
use Rattle.tx_code.specs.declared.object.ObjClass.{ObjClass}
use Rattle.tx_code.specs.Objects.{class_view}
use Rattle.object_bytes.proofs.ByName.{class_there}
use Rattle.object_bytes.proofs.chains.class_base.Goals as goal

pub returns : goal.returns
returns c = record {
  class = class_view c.index-classes-i.result;
  at = class_there _ _ _ c.requires c.index-classes-i.is;
  base_is = ap
      (λ (z : ObjClass). z.base) c.index-classes-i.is;
}
