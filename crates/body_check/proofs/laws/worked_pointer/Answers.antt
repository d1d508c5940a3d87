use Rattle.body_check.specs.Pointed.{pointed_program, pointed_names, pointed_book}
use Rattle.body_check.proofs.Pointed.{bounds, pointed_links, pointed_small, pointed_begins}
use Rattle.body_check.proofs.Program.{main_same}
use Rattle.body_check.proofs.laws.worked_pointer.Goals as goal

pub returns : goal.returns
returns c = main_same pointed_program pointed_names bounds pointed_book pointed_links pointed_small pointed_begins
