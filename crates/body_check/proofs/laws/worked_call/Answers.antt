use Rattle.body_check.specs.Pair.{pair_program, pair_names, pair_book}
use Rattle.body_check.proofs.Pair.{bounds, pair_links, pair_small, pair_begins}
use Rattle.body_check.proofs.Program.{main_same}
use Rattle.body_check.proofs.laws.worked_call.Goals as goal

pub returns : goal.returns
returns c = main_same pair_program pair_names bounds pair_book pair_links pair_small pair_begins
