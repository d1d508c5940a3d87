use Rattle.std.proofs.Common.{rules, sym, ◌∙◌}
use Rattle.body_notes.proofs.checked.pointed_safe.Goals as goal

pub returns-clause-is : goal.returns-clause-is
returns-clause-is c m a all types = (sym (c.is_covered.ensures m) ∙ search rules, c.in_ok-calling_found.ensures.is m a all types)
