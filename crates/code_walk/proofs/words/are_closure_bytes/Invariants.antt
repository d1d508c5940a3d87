use Rattle.std.proofs.Common.{◌≡◌, drop}
use Rattle.std.specs.List.{list_all}
use Rattle.code_walk.proofs.words.are_closure_bytes.Given as goal
use Rattle.code_walk.specs.Spellings.{is_closure_byte}

abbrev pub invariant-loop-byte : goal.invariant-loop-byte
invariant-loop-byte l = list_all is_closure_byte l.name ≡ list_all is_closure_byte (drop l.byte-index l.name)
