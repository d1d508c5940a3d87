use Rattle.std.proofs.Common.{◌≡◌, ◌<◌, ◌⊎◌, inl, inr, ◌/◌, subst, arith}
use Rattle.race_check.specs.Marks.{cell, Late}
use Rattle.race_check.proofs.Numbers.{below_or_at}
use Rattle.race_check.proofs.MarkSteps.{late_either, piece_group}
use Rattle.race_check.proofs.marks.Marks.is_late.Goals as goal

pub bytes-preserved : goal.bytes-preserved
bytes-preserved c x le lt late = by (below_or_at x c.bytes.byte lt)
  where
    by : (x < c.bytes.byte) ⊎ (x ≡ c.bytes.byte) → ⊥
    by (inl p) = c.bytes.invariant x le p late
    by (inr e) = c.is_late-in-bytes.ensures.no c.if-is_late-2.false (subst (λ z. Late (cell c.args.self.now.bytes z) c.args.row.now.latest c.args.t) e late)

pub returns-clause-no : goal.returns-clause-no
returns-clause-no c h x le lt late = by (late_either (cell c.args.self.now.groups (x / 4)) (cell c.args.self.now.bytes x) c.args.row.now.latest c.args.t late)
  where
    by : Late (cell c.args.self.now.groups (x / 4)) c.args.row.now.latest c.args.t ⊎ Late (cell c.args.self.now.bytes x) c.args.row.now.latest c.args.t → ⊥
    by (inl l) =
        c.is_late.ensures.no c.if-is_late.false
        (subst (λ k. Late (cell c.args.self.now.groups k) c.args.row.now.latest c.args.t) (piece_group c.args.at c.args.end x c.requires le lt) l)
    by (inr l) = c.bytes.invariant x le (omega (arith, lt, c.bytes-test.false)) l
