use Rattle.std.proofs.Common.{◌≡◌, ◌∙◌, true}
use Rattle.tx_runtime.specs.View.{machine_in, layout_in}
use Rattle.tx_runtime.proofs.AppliedRow.{inside_row, if_ok}
use Rattle.std.specs.Fn.{FnReturnsAt}
use Rattle.choosers.specs.declared.Choice.TheVariants.{Wait, Yield}
use Rattle.tx_runtime.proofs.InsideRows.{clash_row}
use Rattle.tx_runtime.proofs.ClashLemmas.{answered}
use Rattle.tx_runtime.proofs.clash.Engine+A+A+Saved.clash.Goals as goal

pub returns-in-Wait-clause-chosen : goal.returns-in-Wait-clause-chosen
returns-in-Wait-clause-chosen g c =
    record {
      choice = Wait;
      asked = answered g.A.Actor.state g.A.Actor.saved_state g.A.Actor.is_reached g.A.Actor.thread
          (layout_in c.args.self.now) c.args.self.now c.args.t c.index-thread.result.now c.args.blockers c.birth.result c.at.result c.args.word
          c.requires.here.0 c.requires.here.1 c.requires.here.2 c.requires.here.3 c.requires.here.4 c.index-thread.ensures c.birth.ensures c.at.ensures
          (λ k. FnReturnsAt g.F.Fn c.args.policy.now.answer k Wait × (g.R.Rule.allows k Wait ≡ true)) (c.in-Wait.ensures.answers, c.in-Wait.ensures.allowed);
      turned = inside_row g.A.Actor.state g.A.Actor.saved_state g.A.Actor.is_reached g.A.Actor.thread c.args.self.now
          (λ _. Wait) c.args.t c.requires.here.0 _ c.requires.here.2 (λ l at i. c.wait.ensures.done
          ∙ clash_row g.A.Actor.thread (layout_in c.args.self.now) (λ _. Wait) c.args.t
          (machine_in g.A.Actor.state g.A.Actor.saved_state c.args.self.now) l i.birth i.kept i.saves c.requires.here.0 c.requires.here.1 c.args.word
          c.args.blockers.eldest c.requires.here.3 c.requires.here.4.eldest);
    }

pub returns-in-Yield-clause-chosen : goal.returns-in-Yield-clause-chosen
returns-in-Yield-clause-chosen g c = if_ok c.roll.result (λ kind done.
    record {
      choice = Yield;
      asked = answered g.A.Actor.state g.A.Actor.saved_state g.A.Actor.is_reached g.A.Actor.thread
          (layout_in c.args.self.now) c.args.self.now c.args.t c.index-thread.result.now c.args.blockers c.birth.result c.at.result c.args.word
          c.requires.here.0 c.requires.here.1 c.requires.here.2 c.requires.here.3 c.requires.here.4 c.index-thread.ensures c.birth.ensures c.at.ensures
          (λ k. FnReturnsAt g.F.Fn c.args.policy.now.answer k Yield × (g.R.Rule.allows k Yield ≡ true))
          (c.in-Yield.ensures.answers, c.in-Yield.ensures.allowed);
      turned = inside_row g.A.Actor.state g.A.Actor.saved_state g.A.Actor.is_reached g.A.Actor.thread c.args.self.now
          (λ _. Yield) c.args.t c.requires.here.0 _ c.requires.here.2 (λ l at i. done l i.birth i.kept i.saves at i.tx
          ∙ clash_row g.A.Actor.thread (layout_in c.args.self.now) (λ _. Yield) c.args.t
          (machine_in g.A.Actor.state g.A.Actor.saved_state c.args.self.now) l i.birth i.kept i.saves c.requires.here.0 c.requires.here.1 c.args.word
          c.args.blockers.eldest c.requires.here.3 c.requires.here.4.eldest);
    }) c.roll.ensures.done

pub roll-requires-clause-open : goal.roll-requires-clause-open
roll-requires-clause-open g c = λ l at. let i = c.requires.here.2.at l at in record { birth = i.birth; kept = i.kept; saves = i.saves; tx = i.tx }
