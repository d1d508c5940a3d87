use Rattle.std.proofs.Common.{rules, refl, ◌≡◌}
use Rattle.choosers.specs.Picks.PickerName.{Round}
use Rattle.tx_code.specs.Views.{image_view}
use Rattle.named_runs.specs.NamedRuns.{policy_of}
use Rattle.named_traces.proofs.Pairs.{named_pair}
use Rattle.named_traces.proofs.run.trace_round.Goals as goal

pub returns-clause-run : goal.returns-clause-run
returns-clause-run c =
    named_pair (Round c.args.slot) c.args.bound (λ g b. g.0 ≡ c.args.slot) (image_view c.args.image.now)
    (policy_of c.args.policy) c.args.bound c.args.input.items _ _ c.trace_under.result c.trace_under.ensures.run
    (λ g h s t b few here st. (search rules, search rules)) refl (search rules)
