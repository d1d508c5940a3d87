use Rattle.std.proofs.Common.{map, take}
use Rattle.tx_code.specs.Objects.{object_view}
use Rattle.exec_command.specs.Objects.{SpellAll}
use Rattle.exec_command.proofs.files.read_objects.Given as goal

-- the texts so far spell the objects so far
abbrev pub invariant-files : goal.invariant-files
invariant-files l = SpellAll (map (λ text. text.items) (take l.index l.texts)) (map object_view l.objects.items)
