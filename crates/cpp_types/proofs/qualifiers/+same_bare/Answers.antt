use Rattle.cpp_types.proofs.Forms.{same_plain}
use Rattle.cpp_types.proofs.qualifiers.+same_bare.Goals as goal

pub returns-in_default-b-2 : goal.returns-in_default-b-2
returns-in_default-b-2 t c = same_plain c.equal_shapes.result c.args.a.now c.args.b.now c.in_default.not-Array c.in_default-b-2.not-Array c.equal_shapes.ensures
