use Rattle.std.proofs.Common.{ap, map}
use Rattle.cpp_tree.specs.cpp_types.Class.{classes_of}
use Rattle.cpp_tree.specs.cpp_types.Typ.{typ_of}
use Rattle.src_bind.proofs.Frames.{complete_by}
use Rattle.src_bind.proofs.infos.info.Goals as goal

pub frame-requires-clause-complete : goal.frame-requires-clause-complete
frame-requires-clause-complete c = complete_by _ _ _ _ _ c.requires.frame c.in-Some.ensures.found (ap classes_of c.deref-2.ensures.value)
    (ap (map typ_of) c.deref.ensures.value)
