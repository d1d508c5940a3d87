use Rattle.body_check.specs.Virtual.{virtual_program, virtual_names, virtual_book}
use Rattle.body_check.proofs.Virtual.{bounds, virtual_links, virtual_small, virtual_begins}
use Rattle.body_check.proofs.Program.{main_same}
use Rattle.body_check.proofs.laws.worked_slot.Goals as goal

pub returns : goal.returns
returns c = main_same virtual_program virtual_names bounds virtual_book virtual_links virtual_small virtual_begins
