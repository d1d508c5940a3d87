use Rattle.std.proofs.Common.{◌≡◌, map}
use Rattle.tx_code.specs.Objects.{ObjectView, func_view}
use Rattle.unit_entries.specs.Records.{func_record}
use Rattle.clone_gen.proofs.entries.with_bodies.Given as goal

abbrev pub invariant-loop-i : goal.invariant-loop-i
invariant-loop-i l = (o : ObjectView) → map (func_record o) (map func_view l.funcs.items) ≡ map (func_record o) (map func_view l.initial.funcs.items)
