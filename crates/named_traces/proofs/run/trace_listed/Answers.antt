use Rattle.std.proofs.Common.{rules, arith, ◌≡◌, ◌<◌, ℕ, Some, length}
use Rattle.std.specs.Prelude.{min, slice_get}
use Rattle.named_runs.proofs.Entries.{listed_entry}
use Rattle.choosers.specs.Picks.PickerName.{Listed}
use Rattle.tx_code.specs.Views.{image_view}
use Rattle.named_runs.specs.NamedRuns.{policy_of}
use Rattle.named_traces.proofs.Pairs.{named_pair}
use Rattle.named_traces.proofs.run.trace_listed.Goals as goal

pub returns-clause-run : goal.returns-clause-run
returns-clause-run c =
    named_pair (Listed c.args.schedule.now) _ (λ g b. g.0.now ≡ c.args.schedule.now) (image_view c.args.image.now)
    (policy_of c.args.policy) c.args.bound c.args.input.items _ _ c.trace_under.result c.trace_under.ensures.run
    (λ g h s t b few here st.
    let only : (u : ℕ) → u < 64 → slice_get g.0.now st.0.now.turn ≡ Some u → u ≡ t = λ u small at. search rules in
    let most : c.min-turns.result ≡ min c.min-turns.result (length c.args.schedule.now) = omega (arith, c.min-turns.ensures) in
    (listed_entry c.args.schedule.now g.0.now st.0.now s t c.min-turns.result here st.1 few most c.requires.threads only, search rules)) c.min-turns.ensures
    (search rules)
