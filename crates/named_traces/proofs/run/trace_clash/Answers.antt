use Rattle.std.proofs.Common.{rules, refl, ◌≡◌, ◌<◌, Some}
use Rattle.choosers.specs.Picks.{pick}
use Rattle.tx_machine.specs.Course.{IsOneToLimit}
use Rattle.named_runs.proofs.Entries.{clash_picked}
use Rattle.choosers.specs.Picks.PickerName.{Clashing}
use Rattle.tx_code.specs.Views.{image_view}
use Rattle.named_runs.specs.NamedRuns.{policy_of, IsBelow}
use Rattle.named_traces.proofs.Pairs.{named_pair}
use Rattle.named_traces.proofs.run.trace_clash.Goals as goal

pub returns-clause-run : goal.returns-clause-run
returns-clause-run c =
    named_pair Clashing c.args.bound (λ g b. (g.0 ≡ b) × IsBelow b) (image_view c.args.image.now)
    (policy_of c.args.policy) c.args.bound c.args.input.items _ _ c.trace_under.result c.trace_under.ensures.run
    (λ g h s t b few here st.
    let picks : IsBelow g.0 → IsOneToLimit st.0.now.started → pick Clashing st.0.now.turn st.0.now g.0 ≡ Some t = search rules in
    let below : t < 64 = search rules in
    let kept : h.0 ≡ Some t = search rules in
    (clash_picked b g.0 st.0.now s t here.0 st.1 here.1 st.2 picks, (kept, below))) refl (search rules, tt)
