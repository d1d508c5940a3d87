use Rattle.std.proofs.Common.{◌≡◌, ◌++◌, length, take, map}
use Rattle.std.specs.List.{flat_map}
use Rattle.tx_code.specs.Objects.{func_view}
use Rattle.object_bytes.specs.Spelling.{func_bytes, u32_bytes}
use Rattle.object_bytes.proofs.writing.put_funcs.Given as goal

abbrev pub invariant-loop-func : goal.invariant-loop-func
invariant-loop-func l = l.out.items ≡ (l.fn.out.items ++ u32_bytes (length l.funcs))
    ++ flat_map (func_bytes l.version) (map func_view (take l.func-index l.funcs))
