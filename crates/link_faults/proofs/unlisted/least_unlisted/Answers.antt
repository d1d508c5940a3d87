use Rattle.std.proofs.Common.{false, map, take, sym}
use Rattle.std.specs.List.{list_any}
use Rattle.tx_code.specs.Objects.{bytes_of, object_view}
use Rattle.link_faults.specs.Unlisted.{misses_in, misses_any}
use Rattle.link_faults.proofs.FirstClaims.{same_least}
use Rattle.link_faults.proofs.KeptDefinitions.{whole}
use Rattle.link_faults.proofs.Marks.{any_step, any_map}
use Rattle.link_faults.proofs.unlisted.least_unlisted.Goals as goal

pub loop-object-preserved : goal.loop-object-preserved
loop-object-preserved c =
    let all = map bytes_of c.args.all.now in (
      any_step (λ k x. misses_in all k (object_view x)) c.args.objects.now c.loop-object.object-index _ c.object-item.result
          (λ _. false) c.in_ok-least.least c.loop-object-test.true (sym c.object-item.is)
          (c.in_ok-least.ensures.least (λ k. list_any (λ x. misses_in all k (object_view x))
          (take c.loop-object.object-index c.args.objects.now)) c.loop-object.invariant.0),
      c.in_ok-least.ensures.within c.loop-object.invariant.1,
    )

pub returns-clause-least : goal.returns-clause-least
returns-clause-least c =
    let all = map bytes_of c.args.all.now in
    same_least _ (misses_any all (map object_view c.args.objects.now)) (λ k. sym (any_map object_view (misses_in all k) c.args.objects.now)) c.loop-object.least
    (rw (whole c.args.objects.now c.loop-object.object-index c.loop-object-test.false) at c.loop-object.invariant.0)
