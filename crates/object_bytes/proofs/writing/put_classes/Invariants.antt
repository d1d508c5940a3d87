use Rattle.std.proofs.Common.{◌≡◌, ◌++◌, length, take, map}
use Rattle.std.specs.List.{flat_map}
use Rattle.tx_code.specs.Objects.{class_view}
use Rattle.object_bytes.specs.Spelling.{class_bytes, u32_bytes}
use Rattle.object_bytes.proofs.writing.put_classes.Given as goal

abbrev pub invariant-loop-class : goal.invariant-loop-class
invariant-loop-class l = l.out.items ≡ (l.fn.out.items ++ u32_bytes (length l.classes)) ++ flat_map class_bytes (map class_view (take l.class-index l.classes))
