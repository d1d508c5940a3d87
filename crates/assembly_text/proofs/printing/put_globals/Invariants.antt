use Rattle.std.proofs.Common.{◌≡◌, ◌++◌, take, map}
use Rattle.std.specs.List.{flat_map}
use Rattle.tx_code.specs.Objects.{global_view}
use Rattle.assembly_text.specs.Lines.{line_text, global_lines}
use Rattle.assembly_text.proofs.printing.put_globals.Given as goal

abbrev pub invariant-loop-global : goal.invariant-loop-global
invariant-loop-global l = l.out.items ≡ l.fn.out.items ++ flat_map line_text (flat_map global_lines (map global_view (take l.global-index l.globals)))
