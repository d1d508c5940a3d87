use Rattle.std.proofs.Common.{◌≡◌, ℕ, ◌-◌, length}
use Rattle.cpp_syntax.specs.Terminals.{is_unseparated}
use Rattle.cpp_syntax.specs.Grammar.{shaped_token}
use Rattle.cpp_syntax.specs.Derivations.{no_read}
use Rattle.cpp_syntax.proofs.Recognisers.{SpansMany}
use Rattle.cpp_syntax.proofs.outline.Outline.behind_unseparated.Given as goal

abbrev pub invariant-tokens : goal.invariant-tokens
invariant-tokens l = SpansMany l.self (shaped_token is_unseparated) no_read l.at l.next

abbrev pub decreases-tokens : goal.decreases-tokens
decreases-tokens l = length l.self.terminals - l.next
