use Rattle.std.proofs.Common.{◌≡◌, ◌++◌, take, map}
use Rattle.std.specs.List.{flat_map}
use Rattle.assembly_text.specs.Lines.{line_text, code_line}
use Rattle.assembly_text.proofs.printing.put_code.Given as goal

abbrev pub invariant-loop-instr : goal.invariant-loop-instr
invariant-loop-instr l = l.out.items ≡ l.fn.out.items ++ flat_map line_text (map code_line (take l.instr-index l.code))
