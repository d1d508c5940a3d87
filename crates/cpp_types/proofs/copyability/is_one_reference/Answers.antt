use Rattle.std.proofs.Common.{◌∙◌, ne_eqb}
use Rattle.cpp_types.proofs.Parts.{other_long}
use Rattle.cpp_types.proofs.copyability.is_one_reference.Goals as goal

pub returns-else-types-eq1 : goal.returns-else-types-eq1
returns-else-types-eq1 c = ne_eqb _ 1 c.if-types-eq1.false ∙ other_long c.args.class c.args.types.now c.if-types-eq1.false
