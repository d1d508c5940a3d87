use Rattle.std.proofs.Common.{◌≤◌, ◌||◌, ◌∙◌, sym, refl, map, take, length, arith, get_or}
use Rattle.std.specs.List.{list_any}
use borrow.Author.Tests.{leb-true}
use Rattle.std.proofs.lemmas.List.{length-map}
use Rattle.tx_code.specs.Objects.{bytes_of, object_view}
use Rattle.tx_code.specs.WellFormed.{is_name_or_none}
use Rattle.link_faults.specs.Unlisted.{func_symbols, misses_slot}
use Rattle.link_faults.proofs.KeptDefinitions.{whole}
use Rattle.link_faults.proofs.Marks.{any_begins, any_step, below_within, fits_index}
use Rattle.link_faults.proofs.unlisted.with_slots.Goals as goal

pub loop-slot-init : goal.loop-slot-init
loop-slot-init c = (λ p h. any_begins (misses_slot (map bytes_of c.args.all.now) (object_view c.args.object.now)) c.args.slots.now p c.args.least h, λ w. w)

pub loop-slot-preserved : goal.loop-slot-preserved
loop-slot-preserved c =
    let all = map bytes_of c.args.all.now in
    let o = object_view c.args.object.now in
    let names = c.rank_of_name-name.ensures in
    let misses = c.is_unmarked-missing.ensures (func_symbols o) c.requires.marks in (
      λ p h. any_step (misses_slot all o) c.args.slots.now c.loop-slot.slot-index _ _ p c.with_name-found.result c.loop-slot-test.true refl
          (rw (names, misses) at (c.with_name-found.ensures.least (λ k. p k || list_any (misses_slot all o k) (take c.loop-slot.slot-index c.args.slots.now))
          (c.loop-slot.invariant.0 p h))),
      λ w. c.with_name-found.ensures.within (length c.args.all.now) (λ e.
          let at = get_or c.args.slots.now c.loop-slot.slot-index 0 in
          let fits : at ≤ length c.args.object.now.names.items =
          leb-true _ _ (fits_index (is_name_or_none
          (length c.args.object.now.names.items)) c.args.slots.now c.loop-slot.slot-index 0 c.requires.fit c.loop-slot-test.true) in
          let within : at ≤ length (map bytes_of c.args.object.now.names.items) = omega (arith, fits, length-map c.args.object.now.names.items bytes_of) in
          let b = below_within all o (func_symbols o) at c.requires.known within (sym misses ∙ e) in
          omega (arith, names, b, length-map c.args.all.now bytes_of)) (c.loop-slot.invariant.1 w),
    )

pub returns-clause-least : goal.returns-clause-least
returns-clause-least c = λ p h. rw (whole c.args.slots.now c.loop-slot.slot-index c.loop-slot-test.false) at (c.loop-slot.invariant.0 p h)

pub returns-clause-within : goal.returns-clause-within
returns-clause-within c = c.loop-slot.invariant.1
