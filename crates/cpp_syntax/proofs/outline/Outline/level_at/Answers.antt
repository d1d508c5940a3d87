use Rattle.std.proofs.Common.{◌≡◌, ℕ, suc, refl, sym, ◌∙◌, ap}
use Rattle.cpp_syntax.specs.Terminals.{level_of}
use Rattle.cpp_syntax.proofs.SingleTerminals.{token_by, binds, binds_so}
use Rattle.cpp_syntax.proofs.outline.Outline.level_at.Goals as goal

pub returns-clause-inside : goal.returns-clause-inside
returns-clause-inside c n h = c.terminal.ensures.inside (token_by binds refl _ (binds_so _ n (sym c.level.ensures ∙ h)))
