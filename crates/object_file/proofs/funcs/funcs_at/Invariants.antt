use Rattle.std.proofs.Common.{◌≡◌, ◌-◌, map}
use Rattle.tx_code.specs.Objects.{func_view}
use Rattle.tx_code.specs.Objects.{FuncView}
use Rattle.object_bytes.specs.Decoder.{items, list}
use Rattle.object_bytes.specs.Fields.{func}
use Rattle.object_file.proofs.Loop.{with_front}
use Rattle.object_file.proofs.funcs.funcs_at.Given as goal

abbrev pub invariant-loop : goal.invariant-loop
invariant-loop l = with_front (map func_view l.funcs.items) (items (λ (x : FuncView). x.symbol) (func l.version l.names) l.before (l.count - l.counter) l.rest)
    ≡ list (λ (x : FuncView). x.symbol) (func l.version l.names) l.bytes
