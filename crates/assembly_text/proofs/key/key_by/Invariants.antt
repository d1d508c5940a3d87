use Rattle.std.proofs.Common.{◌≡◌, map, drop}
use Rattle.assembly_text.specs.Words.{key_by}
use Rattle.assembly_text.specs.Keys.{keyed}
use Rattle.assembly_text.proofs.key.key_by.Given as goal

abbrev pub invariant-loop-row : goal.invariant-loop-row
invariant-loop-row l = key_by (map keyed (drop l.row-index l.rows)) l.word ≡ key_by (map keyed l.rows) l.word
