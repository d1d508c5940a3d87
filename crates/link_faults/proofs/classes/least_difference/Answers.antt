use Rattle.std.proofs.Common.{◌<◌, ◌∙◌, sym, arith, map, length, take}
use Rattle.std.proofs.lemmas.List.{length-map}
use Rattle.link_faults.specs.RankedClasses.{view_of, is_disputed_class}
use Rattle.link_faults.proofs.FirstClasses.{name_within, within_at, class_step}
use Rattle.link_faults.proofs.classes.least_difference.Goals as goal

pub first_at-requires : goal.first_at-requires
first_at-requires c =
    let w = name_within c.args.classes.now c.args.names c.loop-i.i c.requires c.loop-i-test.true in
    rw (c.deref.ensures.value, c.loop-i.invariant.1, c.class_name-name.ensures) w

pub differs_from_first-disputed-requires-clause-first : goal.differs_from_first-disputed-requires-clause-first
differs_from_first-disputed-requires-clause-first c =
    within_at c.loop-i.first.items (length c.args.classes.now) c.class_name-name.result c.first_at.result c.loop-i.invariant.2
    (rw c.deref.ensures.value at c.first_at.ensures)

pub note_class-requires : goal.note_class-requires
note_class-requires c =
    let w = name_within c.args.classes.now c.args.names c.loop-i.i c.requires c.loop-i-test.true in
    rw (c.loop-i.invariant.1, c.class_name-name.ensures) w

pub loop-i-preserved : goal.loop-i-preserved
loop-i-preserved c =
    let views = map view_of c.args.classes.now in
    let long = length-map c.args.classes.now view_of in
    let within : c.loop-i.i < length views = omega (arith, c.loop-i-test.true) in
    let named : c.class_name-name.result < c.args.names =
    rw c.class_name-name.ensures (name_within c.args.classes.now c.args.names c.loop-i.i c.requires c.loop-i-test.true) in (
      c.note_class.ensures.first views (sym c.class_name-name.ensures) within c.loop-i.invariant.0,
      c.note_class.ensures.length ∙ c.loop-i.invariant.1,
      c.note_class.ensures.within (length c.args.classes.now) c.loop-i-test.true c.loop-i.invariant.2,
      class_step views c.loop-i.i c.class_name-name.result c.first_at.result c.with_name-least.result c.differs_from_first-disputed.result within
          c.class_name-name.ensures c.differs_from_first-disputed.ensures
          (c.loop-i.invariant.0 c.class_name-name.result c.first_at.result (rw c.deref.ensures.value at c.first_at.ensures))
          (c.with_name-least.ensures.least (is_disputed_class (take c.loop-i.i views)) c.loop-i.invariant.3),
      c.with_name-least.ensures.within c.args.names (λ _. named) c.loop-i.invariant.4,
    )
