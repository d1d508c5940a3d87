use Rattle.std.proofs.Common.{rules, ◌≡◌, true, false, sym, ◌∙◌, inl, inr}
use denote.Enum.Bare.{same_true}
use Rattle.cpp_syntax.specs.contracts.terminal.Terminal.{the_type}
use Rattle.cpp_syntax.proofs.terminal.Terminal.is.Goals as goal

pub returns-then-eq-clause-yes : goal.returns-then-eq-clause-yes
returns-then-eq-clause-yes c h = inl (same_true the_type (search rules) _ _ (sym c.if-eq.ensures))
