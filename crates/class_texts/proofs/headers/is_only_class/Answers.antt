use Rattle.std.proofs.Common.{◌∙◌, ne_eqb}
use Rattle.class_texts.proofs.Names.{other_long}
use Rattle.class_texts.proofs.headers.is_only_class.Goals as goal

pub returns-else-types-eq1 : goal.returns-else-types-eq1
returns-else-types-eq1 c = ne_eqb _ 1 c.if-types-eq1.false ∙ other_long c.args.class c.args.types.now c.if-types-eq1.false
