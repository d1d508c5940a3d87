use Rattle.elab_well_formed.proofs.Programs.{programs_are_well_formed, read_are_sources}
use Rattle.elab_well_formed.proofs.Words.{programs_have_call_words}
use Rattle.elab_well_formed.proofs.laws.programs.Goals as goal

pub returns : goal.returns
returns c = record { formed = programs_are_well_formed; sources = read_are_sources; words = programs_have_call_words }
