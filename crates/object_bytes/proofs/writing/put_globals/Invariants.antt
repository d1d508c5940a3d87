use Rattle.std.proofs.Common.{◌≡◌, ◌++◌, length, take, map}
use Rattle.std.specs.List.{flat_map}
use Rattle.tx_code.specs.Objects.{global_view}
use Rattle.object_bytes.specs.Spelling.{global_bytes, u32_bytes}
use Rattle.object_bytes.proofs.writing.put_globals.Given as goal

abbrev pub invariant-loop-global : goal.invariant-loop-global
invariant-loop-global l = l.out.items ≡ (l.fn.out.items ++ u32_bytes (length l.globals))
    ++ flat_map global_bytes (map global_view (take l.global-index l.globals))
