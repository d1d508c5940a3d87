use Rattle.std.proofs.Common.{◌≡◌, ◌||◌, sym, ap, map, take, length, true}
use Rattle.std.specs.List.{list_any}
use Rattle.std.proofs.lemmas.List.{length-map}
use Rattle.tx_code.specs.Objects.{bytes_of, object_view, global_view}
use Rattle.tx_code.specs.WellFormed.{global_fits}
use Rattle.link_faults.specs.Unlisted.{misses_cells}
use Rattle.link_faults.proofs.FirstClaims.{same_least}
use Rattle.link_faults.proofs.KeptDefinitions.{whole}
use Rattle.link_faults.proofs.ListedEntries.{global_cells}
use Rattle.link_faults.proofs.Marks.{any_step, any_map}
use Rattle.link_faults.proofs.NameRanks.{passes_at}
use Rattle.link_faults.proofs.unlisted.with_globals.Goals as goal

pub with_cells-found-requires-clause-fit : goal.with_cells-found-requires-clause-fit
with_cells-found-requires-clause-fit c =
    let n = length (map bytes_of c.args.object.now.names.items) in
    let fits : global_fits n (global_view c.global-item.result) ≡ true =
    passes_at (global_fits n) global_view c.deref-global-items.result.now c.loop-global.global-index c.global-item.result
    (rw c.deref-global-items.ensures.value c.requires.known.object.globals) c.loop-global-test.true c.global-item.is in
    rw (c.deref.ensures.value, ← length-map c.args.object.now.names.items bytes_of) (global_cells n (global_view c.global-item.result) fits)

pub loop-global-preserved : goal.loop-global-preserved
loop-global-preserved c =
    let all = map bytes_of c.args.all.now in
    let o = object_view c.args.object.now in (
      λ p h. any_step
          (λ k x. misses_cells all o k
          (global_view x)) c.args.object.now.globals.items c.loop-global.global-index _ c.global-item.result p c.with_cells-found.result
          (rw c.deref-global-items.ensures.value at c.loop-global-test.true) (sym (rw c.deref-global-items.ensures.value at c.global-item.is))
          (rw c.deref.ensures.value at (c.with_cells-found.ensures.least
          (λ k. p k || list_any (λ x. misses_cells all o k (global_view x)) (take c.loop-global.global-index c.args.object.now.globals.items))
          (c.loop-global.invariant.0 p h))),
      λ w. c.with_cells-found.ensures.within (c.loop-global.invariant.1 w),
    )

pub returns-clause-least : goal.returns-clause-least
returns-clause-least c =
    let all = map bytes_of c.args.all.now in
    let o = object_view c.args.object.now in
    λ p h. same_least _ (λ k. p k || list_any (misses_cells all o k) (map global_view c.args.object.now.globals.items))
    (λ k. ap (λ b. p k || b) (sym (any_map global_view (misses_cells all o k) c.args.object.now.globals.items))) c.loop-global.found
    (rw (whole c.args.object.now.globals.items c.loop-global.global-index (rw c.deref-global-items.ensures.value at c.loop-global-test.false)) at
    (c.loop-global.invariant.0 p h))
