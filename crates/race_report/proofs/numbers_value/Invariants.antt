use Rattle.std.proofs.Common.{◌≡◌, map, take}
use Rattle.serde_json.specs.View.{view}
use Rattle.race_report.specs.Report.{numbers_of}
use Rattle.race_report.proofs.numbers_value.Given as goal

abbrev pub invariant-words : goal.invariant-words
invariant-words l = map view l.numbers.items ≡ numbers_of (take l.word-index l.words)
