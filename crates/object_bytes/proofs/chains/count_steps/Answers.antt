use Rattle.std.proofs.Common.{arith}
use Rattle.std.proofs.lemmas.List.{length-map}
use Rattle.tx_code.specs.Objects.{class_view}
use Rattle.object_bytes.proofs.ChainSteps.{walk_ends, walk_leaves, walk_joins, walk_too_far, walk_more, walk_goes_on, walk_is_over}
use Rattle.object_bytes.proofs.chains.count_steps.Goals as goal

pub returns-then-at-eq0 : goal.returns-then-at-eq0
returns-then-at-eq0 c = let many = length-map c.args.classes.now class_view in
    walk_ends _ _ _ _ (omega (arith, c.loop-walked-test.true)) c.loop-walked.invariant c.if-at-eq0.true

pub returns-in_default : goal.returns-in_default
returns-in_default c = let many = length-map c.args.classes.now class_view in
    walk_leaves _ _ _ _ (omega (arith, c.loop-walked-test.true)) c.loop-walked.invariant c.if-at-eq0.false c.in_default.ensures

pub returns-then-left-classes : goal.returns-then-left-classes
returns-then-left-classes c =
    let many = length-map c.args.classes.now class_view in
    walk_joins _ _ _ _ _ _ c.in-Some-known_at.left (omega (
      arith,
      c.loop-walked-test.true,
      c.if-left-classes.true,
    )) c.loop-walked.invariant c.if-at-eq0.false c.requires.known c.in-Some.ensures c.in-Some-known_at.ensures

pub returns-in-Some-known_at : goal.returns-in-Some-known_at
returns-in-Some-known_at c =
    walk_too_far _ _ _ _ _ _ _ c.in-Some-known_at.left c.loop-walked-test.true
    (omega (arith, c.if-left-classes.false)) c.loop-walked.invariant c.if-at-eq0.false c.requires.known c.in-Some.ensures c.in-Some-known_at.ensures

pub loop-walked-preserved : goal.loop-walked-preserved
loop-walked-preserved c = walk_more _ _ _ _ _ _ c.loop-walked.invariant c.if-at-eq0.false c.in-Some.ensures c.class_base-at.ensures

pub returns-then-at-eq0-2 : goal.returns-then-at-eq0-2
returns-then-at-eq0-2 c = let many = length-map c.args.classes.now class_view in
    walk_is_over _ _ _ _ _ (omega (arith, c.loop-walked-test.false)) c.loop-walked.auto.walked-end (omega arith) c.loop-walked.invariant c.if-at-eq0-2.true

pub returns-else-at-eq0-2 : goal.returns-else-at-eq0-2
returns-else-at-eq0-2 c = walk_goes_on _ _ _ _ _ (omega
    (arith, c.loop-walked-test.false)) c.loop-walked.auto.walked-end c.loop-walked.invariant c.if-at-eq0-2.false
