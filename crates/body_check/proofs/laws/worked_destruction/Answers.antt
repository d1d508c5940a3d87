use Rattle.body_check.specs.Destroyed.{array_program, array_names, array_book}
use Rattle.body_check.proofs.Destroyed.{bounds, array_links, array_small, array_begins}
use Rattle.body_check.proofs.Program.{main_same}
use Rattle.body_check.proofs.laws.worked_destruction.Goals as goal

pub returns : goal.returns
returns c = main_same array_program array_names bounds array_book array_links array_small array_begins
