use Rattle.std.proofs.Common.{◌≡◌, drop}
use Rattle.std.specs.List.{list_all}
use Rattle.code_walk.proofs.words.are_name_bytes.Given as goal
use Rattle.tx_code.specs.Signatures.{is_name_byte}

abbrev pub invariant-loop-byte : goal.invariant-loop-byte
invariant-loop-byte l = list_all is_name_byte l.name ≡ list_all is_name_byte (drop l.byte-index l.name)
