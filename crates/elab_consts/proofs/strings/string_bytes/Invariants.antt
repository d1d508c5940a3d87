use Rattle.std.proofs.Common.{◌≡◌, take, fold, []}
use Rattle.elab_rules.specs.Strings.{Reading, text, read_byte}
use Rattle.elab_consts.specs.Shown.{reading}
use Rattle.elab_consts.proofs.strings.string_bytes.Given as goal

abbrev pub invariant-loop-b : goal.invariant-loop-b
invariant-loop-b l = reading l.mode l.bytes.items ≡ fold read_byte (record { mode = text; bytes = [] }) (take l.b-index l.spelling)
