use Rattle.std.proofs.Common.{rules}
use Rattle.tx_code.specs.Views.{image_view}
use Rattle.named_runs.proofs.Policies.{result_more}
use Rattle.named_runs.proofs.run.run_under.Goals as goal

pub returns-in-Older : goal.returns-in-Older
returns-in-Older g c = record {
  run = rw c.in-Older.is
      (result_more _ (image_view c.args.image.now) c.args.bound c.args.input.items _ _ c.run.result c.run.ensures.run (λ k choice x. search rules));
}

pub returns-in-Yield : goal.returns-in-Yield
returns-in-Yield g c = record {
  run = rw c.in-Yield.is
      (result_more _ (image_view c.args.image.now) c.args.bound c.args.input.items _ _ c.run-in-Yield.result c.run-in-Yield.ensures.run
      (λ k choice x. search rules));
}

pub returns-in-Polite : goal.returns-in-Polite
returns-in-Polite g c = record {
  run = rw c.in-Polite.is
      (result_more _ (image_view c.args.image.now) c.args.bound c.args.input.items _ _ c.run-in-Polite.result c.run-in-Polite.ensures.run
      (λ k choice x. search rules));
}
