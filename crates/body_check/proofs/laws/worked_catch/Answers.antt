use Rattle.body_check.specs.Caught.{catch_program, catch_names, catch_book}
use Rattle.body_check.proofs.Caught.{bounds, catch_links, catch_small, catch_begins}
use Rattle.body_check.proofs.Program.{main_same}
use Rattle.body_check.proofs.laws.worked_catch.Goals as goal

pub returns : goal.returns
returns c = main_same catch_program catch_names bounds catch_book catch_links catch_small catch_begins
