use Rattle.std.proofs.Common.{◌≡◌, ◌++◌, take, map}
use Rattle.std.specs.List.{flat_map}
use Rattle.tx_code.specs.Objects.{func_view}
use Rattle.assembly_text.specs.Lines.{line_text, func_lines}
use Rattle.assembly_text.proofs.printing.put_funcs.Given as goal

abbrev pub invariant-loop-func : goal.invariant-loop-func
invariant-loop-func l = l.out.items ≡ l.fn.out.items ++ flat_map line_text (flat_map func_lines (map func_view (take l.func-index l.funcs)))
