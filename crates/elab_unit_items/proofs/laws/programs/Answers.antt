use Rattle.elab_unit_items.proofs.Whole.{programs_law}
use Rattle.elab_unit_items.proofs.laws.programs.Goals as goal

pub returns : goal.returns
returns c = record { items = programs_law }
