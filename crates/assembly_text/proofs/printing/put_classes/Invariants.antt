use Rattle.std.proofs.Common.{◌≡◌, ◌++◌, take, map}
use Rattle.std.specs.List.{flat_map}
use Rattle.tx_code.specs.Objects.{class_view}
use Rattle.assembly_text.specs.Lines.{line_text, class_lines}
use Rattle.assembly_text.proofs.printing.put_classes.Given as goal

abbrev pub invariant-loop-class : goal.invariant-loop-class
invariant-loop-class l = l.out.items ≡ l.fn.out.items ++ flat_map line_text (flat_map class_lines (map class_view (take l.class-index l.classes)))
