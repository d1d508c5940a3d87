use Rattle.std.proofs.Common.{rules}
use Rattle.tx_code.specs.Views.{image_view}
use Rattle.named_traces.proofs.Pairs.{pair_more}
use Rattle.named_traces.proofs.run.trace_under.Goals as goal

pub returns-in-Older-clause-run : goal.returns-in-Older-clause-run
returns-in-Older-clause-run g c = rw c.in-Older.is (pair_more _
    (image_view c.args.image.now) c.args.bound c.args.input.items _ _ c.run_traced.result c.run_traced.ensures.run (λ k choice x. search rules))

pub returns-in-Yield-clause-run : goal.returns-in-Yield-clause-run
returns-in-Yield-clause-run g c = rw c.in-Yield.is (pair_more _
    (image_view c.args.image.now) c.args.bound c.args.input.items _ _ c.run_traced-in-Yield.result c.run_traced-in-Yield.ensures.run
    (λ k choice x. search rules))

pub returns-in-Polite-clause-run : goal.returns-in-Polite-clause-run
returns-in-Polite-clause-run g c = rw c.in-Polite.is (pair_more _
    (image_view c.args.image.now) c.args.bound c.args.input.items _ _ c.run_traced-in-Polite.result c.run_traced-in-Polite.ensures.run
    (λ k choice x. search rules))
