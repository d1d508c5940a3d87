use Rattle.std.proofs.Common.{◌≡◌, ℕ, ◌+◌, ◌*◌, ◌-◌, length}
use Rattle.cpp_syntax.specs.Terminals.{is_chosen}
use Rattle.cpp_syntax.specs.Grammar.{shaped_token}
use Rattle.cpp_syntax.specs.Derivations.{no_read}
use Rattle.cpp_syntax.proofs.Recognisers.{SpansMany}
use Rattle.cpp_syntax.proofs.outline.Outline.+shaped_choices.Given as goal

abbrev pub decreases-shaped_choice : goal.decreases-shaped_choice
decreases-shaped_choice l = l.depth_left * 4 + 1

abbrev pub decreases-chosen_token : goal.decreases-chosen_token
decreases-chosen_token l = l.depth_left * 4 + 2

abbrev pub decreases-behind_chosen : goal.decreases-behind_chosen
decreases-behind_chosen l = l.depth_left * 4 + 3

abbrev pub invariant-behind_chosen-tokens : goal.invariant-behind_chosen-tokens
invariant-behind_chosen-tokens l = SpansMany l.self (shaped_token is_chosen) no_read l.at l.next

abbrev pub decreases-behind_chosen-tokens : goal.decreases-behind_chosen-tokens
decreases-behind_chosen-tokens l = length l.self.terminals - l.next
