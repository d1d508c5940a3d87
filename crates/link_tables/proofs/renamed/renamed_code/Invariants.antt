use Rattle.std.proofs.Common.{◌≡◌, map, take}
use Rattle.tx_code.specs.Renaming.{renamed}
use Rattle.link_tables.specs.Renamed.{numbering_in}
use Rattle.link_tables.proofs.renamed.renamed_code.Given as goal

abbrev pub invariant-loop-instr : goal.invariant-loop-instr
invariant-loop-instr l = l.copy.items ≡ map (renamed (numbering_in l.numbers l.start)) (take l.instr-index l.code)
