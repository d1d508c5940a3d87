use Rattle.std.proofs.Common.{◌||◌, map}
use Rattle.std.specs.List.{list_any}
use Rattle.tx_code.specs.Objects.{bytes_of, object_view}
use Rattle.link_faults.specs.Unlisted.{misses_in, misses_slots, misses_cells}
use Rattle.link_faults.proofs.FirstClaims.{same_least, or_assoc}
use Rattle.link_faults.proofs.unlisted.with_object.Goals as goal

pub returns-clause-least : goal.returns-clause-least
returns-clause-least c =
    let all = map bytes_of c.args.all.now in
    let o = object_view c.args.object.now in
    λ p h. same_least _ (λ k. p k || misses_in all k o)
    (λ k. or_assoc (p k) (list_any (misses_slots all o k) o.classes) (list_any (misses_cells all o k) o.globals)) c.with_globals.result
    (c.with_globals.ensures.least (λ k. p k || list_any (misses_slots all o k) o.classes) (c.with_classes-with_slots.ensures.least p h))
