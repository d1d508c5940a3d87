use Rattle.cpp_tree.specs.Units.{program_of}
use Rattle.source_verdict.proofs.laws.accepted_declares_plainly.Goals as goal

pub returns : goal.returns
returns c = λ texts p a. c.programs.ensures a.elaborated.sources (program_of p) a.elaborated.is
