use Rattle.std.proofs.Common.{◌∙◌, ne_eqb}
use Rattle.elab_init.specs.elab_rules.Classes.{own_reference}
use Rattle.class_specials.proofs.Singles.{other_long}
use Rattle.class_specials.proofs.places.is_only_own_reference.Goals as goal

pub returns-else-types-eq1 : goal.returns-else-types-eq1
returns-else-types-eq1 c = ne_eqb _ 1 c.if-types-eq1.false ∙ other_long (own_reference c.args.class c.args.is_const) c.args.types.now c.if-types-eq1.false
