use Rattle.std.proofs.Common.{◌≡◌, drop, map}
use Rattle.rule_texts.specs.Rules.{is_in, rule_of}
use Rattle.rule_texts.proofs.search.among.Given as goal

abbrev pub invariant-loop-row : goal.invariant-loop-row
invariant-loop-row l = is_in (map rule_of (drop l.row-index l.rows)) l.rule ≡ is_in (map rule_of l.rows) l.rule
