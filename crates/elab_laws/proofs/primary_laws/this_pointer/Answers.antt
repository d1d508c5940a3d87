use Rattle.elab_laws.proofs.Primary.{this_pointer_law, captured_this_law}
use Rattle.elab_laws.proofs.primary_laws.this_pointer.Goals as goal

pub returns-clause-this_pointer : goal.returns-clause-this_pointer
returns-clause-this_pointer c = this_pointer_law

pub returns-clause-captured_this : goal.returns-clause-captured_this
returns-clause-captured_this c = captured_this_law
