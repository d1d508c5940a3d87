use Rattle.std.proofs.Common.{◌≡◌, true, refl, sym, ◌∙◌}
use Rattle.cpp_syntax.specs.Terminals.{is_step}
use Rattle.cpp_syntax.proofs.SingleTerminals.{token_by}
use Rattle.cpp_syntax.proofs.outline.Outline.is_step_at.Goals as goal

pub returns-clause-inside : goal.returns-clause-inside
returns-clause-inside c h = c.terminal.ensures.inside (token_by is_step refl _ (sym c.is_step.ensures ∙ h))
