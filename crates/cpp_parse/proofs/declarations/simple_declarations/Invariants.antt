use Rattle.std.proofs.Common.{◌≡◌, ◌-◌, None, length}
use Rattle.cpp_syntax.specs.Rules.{form, simple_declaration}
use Rattle.cpp_syntax.specs.Derivations.{no_read}
use Rattle.cpp_syntax.proofs.ReaderLoops.{ReadsMany}
use Rattle.cpp_parse.proofs.declarations.simple_declarations.Given as goal

abbrev pub invariant-declarations : goal.invariant-declarations
invariant-declarations l = (x : ReadsMany l.text (form simple_declaration) l.fn.out no_read l.at l.next l.out) × (x.marked ≡ None)

abbrev pub decreases-declarations : goal.decreases-declarations
decreases-declarations l = length l.text.terminals - l.next
