use Rattle.body_check.specs.Main.{main_program, main_names, main_book}
use Rattle.body_check.proofs.Main.{bounds, main_links, main_small, main_begins}
use Rattle.body_check.proofs.Program.{main_same}
use Rattle.body_check.proofs.laws.worked_main.Goals as goal

pub returns : goal.returns
returns c = main_same main_program main_names bounds main_book main_links main_small main_begins
