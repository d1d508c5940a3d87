use Rattle.std.proofs.Common.{◌∙◌, ◌+◌, ap, sym, length}
use Rattle.schedules.specs.Text.{entries_of}
use Rattle.schedules.proofs.Lines.{same_lines, no_bad, one_bad}
use Rattle.schedules.proofs.laws.one_reading.Goals as goal

pub returns-clause-entries : goal.returns-clause-entries
returns-clause-entries c text xs ys a b = a.entries_are
    ∙ (ap entries_of (same_lines a.lines b.lines a.in_grammar b.in_grammar (sym a.written ∙ b.written)) ∙ sym b.entries_are)

pub returns-clause-line : goal.returns-clause-line
returns-clause-line c text m n a b = a.numbered ∙ (ap (λ ls. length ls + 1)
    (one_bad a.lines b.lines a.rest b.rest a.in_grammar b.in_grammar (sym a.written ∙ b.written) a.bad b.bad) ∙ sym b.numbered)

pub returns-clause-apart : goal.returns-clause-apart
returns-clause-apart c text xs n a b = no_bad a.lines b.lines b.rest a.in_grammar b.in_grammar (sym a.written ∙ b.written) b.more b.bad
