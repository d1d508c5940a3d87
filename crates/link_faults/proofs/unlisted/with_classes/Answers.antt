use Rattle.std.proofs.Common.{◌≡◌, ◌||◌, sym, ap, map, take, length, true}
use Rattle.std.specs.List.{list_any}
use Rattle.std.proofs.lemmas.List.{length-map}
use Rattle.tx_code.specs.Objects.{bytes_of, object_view, class_view}
use Rattle.tx_code.specs.WellFormed.{class_fits}
use Rattle.link_faults.specs.Unlisted.{misses_slots}
use Rattle.link_faults.proofs.FirstClaims.{same_least}
use Rattle.link_faults.proofs.KeptDefinitions.{whole}
use Rattle.link_faults.proofs.ListedEntries.{class_slots}
use Rattle.link_faults.proofs.Marks.{any_step, any_map}
use Rattle.link_faults.proofs.NameRanks.{passes_at}
use Rattle.link_faults.proofs.unlisted.with_classes.Goals as goal

pub with_slots-found-requires-clause-fit : goal.with_slots-found-requires-clause-fit
with_slots-found-requires-clause-fit c =
    let n = length (map bytes_of c.args.object.now.names.items) in
    let fits : class_fits n (class_view c.class-item.result) ≡ true =
    passes_at (class_fits n) class_view c.deref-class-items.result.now c.loop-class.class-index c.class-item.result
    (rw c.deref-class-items.ensures.value c.requires.known.object.classes) c.loop-class-test.true c.class-item.is in
    rw (c.deref-in-loop-class.ensures.value, ← length-map c.args.object.now.names.items bytes_of) (class_slots n (class_view c.class-item.result) fits)

pub loop-class-preserved : goal.loop-class-preserved
loop-class-preserved c =
    let all = map bytes_of c.args.all.now in
    let o = object_view c.args.object.now in (
      λ p h. any_step
          (λ k x. misses_slots all o k
          (class_view x)) c.args.object.now.classes.items c.loop-class.class-index _ c.class-item.result p c.with_slots-found.result
          (rw c.deref-class-items.ensures.value at c.loop-class-test.true) (sym (rw c.deref-class-items.ensures.value at c.class-item.is))
          (rw c.deref-in-loop-class.ensures.value at (c.with_slots-found.ensures.least
          (λ k. p k || list_any (λ x. misses_slots all o k (class_view x)) (take c.loop-class.class-index c.args.object.now.classes.items))
          (c.loop-class.invariant.0 p h))),
      λ w. c.with_slots-found.ensures.within (c.loop-class.invariant.1 w),
    )

pub returns-clause-least : goal.returns-clause-least
returns-clause-least c =
    let all = map bytes_of c.args.all.now in
    let o = object_view c.args.object.now in
    λ p h. same_least _ (λ k. p k || list_any (misses_slots all o k) (map class_view c.args.object.now.classes.items))
    (λ k. ap (λ b. p k || b) (sym (any_map class_view (misses_slots all o k) c.args.object.now.classes.items))) c.loop-class.found
    (rw (whole c.args.object.now.classes.items c.loop-class.class-index (rw c.deref-class-items.ensures.value at c.loop-class-test.false)) at
    (c.loop-class.invariant.0 p h))
