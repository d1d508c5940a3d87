use Rattle.std.proofs.Common.{◌≡◌, ◌-◌, map}
use Rattle.tx_code.specs.Objects.{global_view}
use Rattle.tx_code.specs.Objects.{GlobalView}
use Rattle.object_bytes.specs.Decoder.{items, list}
use Rattle.object_bytes.specs.Fields.{global}
use Rattle.object_file.proofs.Loop.{with_front}
use Rattle.object_file.proofs.globals.globals_at.Given as goal

abbrev pub invariant-loop : goal.invariant-loop
invariant-loop l = with_front (map global_view l.globals.items) (items (λ (x : GlobalView). x.symbol) (global l.names) l.before (l.count - l.counter) l.rest)
    ≡ list (λ (x : GlobalView). x.symbol) (global l.names) l.bytes
