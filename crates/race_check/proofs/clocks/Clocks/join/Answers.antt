use Rattle.std.proofs.Common.{◌<◌, refl, sym, ◌∙◌, arith}
use Rattle.std.proofs.lemmas.Bool.{true≢false}
use Rattle.race_check.proofs.ClockSteps.{reached_idle, reached_joined}
use Rattle.race_check.proofs.clocks.Clocks.join.Goals as goal

pub returns-then-t-ge-THREADS : goal.returns-then-t-ge-THREADS
returns-then-t-ge-THREADS c =
    reached_idle c.args.items.now c.args.j c.args.item c.requires.there c.requires.regular c.args.self.now c.args.child c.requires.so_far c.requires.joins
    (λ p i. let lt : c.args.child < 64 = c.requires.regular.threads p _ i.item in omega (arith, lt, c.if-t-ge-THREADS.true, c.from-t.ensures))

pub returns-then-not-is_begun : goal.returns-then-not-is_begun
returns-then-not-is_begun c =
    reached_idle c.args.items.now c.args.j c.args.item c.requires.there c.requires.regular c.args.self.now c.args.child c.requires.so_far c.requires.joins
    (λ p i. true≢false (sym (c.requires.so_far.begun.all c.args.child p i) ∙ (sym c.is_begun.ensures ∙ c.if-not-is_begun.true)))

pub returns : goal.returns
returns c =
    reached_joined c.args.items.now c.args.j c.args.item c.requires.there c.requires.regular c.args.self.now
    (record { rows = c.add_at.new.rows; begun = c.args.self.now.begun })
    c.args.child c.requires.so_far c.requires.joins (omega (arith, c.if-t-ge-THREADS.false, c.from-t.ensures))
    (c.requires.so_far.begun.marked c.args.child (sym c.is_begun.ensures ∙ c.if-not-is_begun.false))
    (c.add_at.ensures.size ∙ c.requires.so_far.size) refl c.add_at.ensures.there
    c.add_at.ensures.others
