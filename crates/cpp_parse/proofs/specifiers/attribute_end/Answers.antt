use Rattle.cpp_parse.proofs.SpecifierReaders.{attribute_taken, attribute_left_out}
use Rattle.cpp_parse.proofs.specifiers.attribute_end.Goals as goal

pub returns-in-Some : goal.returns-in-Some
returns-in-Some c = attribute_taken (rw c.in-Some.is at c.behind_attribute.ensures)

pub returns-in-None : goal.returns-in-None
returns-in-None c = attribute_left_out (rw c.in-None.is at c.behind_attribute.ensures) c.requires.here
