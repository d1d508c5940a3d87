use Rattle.std.proofs.Common.{◌≡◌, ◌++◌, length, take}
use Rattle.std.specs.List.{flat_map}
use Rattle.object_bytes.specs.Spelling.{instr_bytes, u32_bytes}
use Rattle.object_bytes.proofs.writing.put_code.Given as goal

abbrev pub invariant-loop-instr : goal.invariant-loop-instr
invariant-loop-instr l = l.out.items ≡ (l.fn.out.items ++ u32_bytes (length l.code)) ++ flat_map instr_bytes (take l.instr-index l.code)
