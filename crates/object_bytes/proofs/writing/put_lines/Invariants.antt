use Rattle.std.proofs.Common.{◌≡◌, ◌++◌, length, take}
use Rattle.std.specs.List.{flat_map}
use Rattle.object_bytes.specs.Spelling.{line_bytes, u32_bytes}
use Rattle.object_bytes.proofs.writing.put_lines.Given as goal

abbrev pub invariant-loop-line : goal.invariant-loop-line
invariant-loop-line l = l.out.items ≡ (l.fn.out.items ++ u32_bytes (length l.lines)) ++ flat_map line_bytes (take l.line-index l.lines)
