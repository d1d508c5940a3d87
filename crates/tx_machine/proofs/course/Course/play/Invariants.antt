use Rattle.std.proofs.Common.{◌≡◌, true}
use Rattle.std.specs.Borrow.{Bor}
use Rattle.std.specs.Fn.{FnReturnsAt}
use Rattle.choosers.specs.declared.Seen.{Seen}
use Rattle.tx_runtime.specs.Runtime.{machine_of, layout_at}
use Rattle.tx_machine.specs.Course.{IsBounded, IsOneToLimit}
use Rattle.tx_machine.proofs.Playing.{Going}
use denote.Param.Members.{Called}
use Rattle.tx_machine.proofs.course.Course.play.Given as goal

abbrev pub ghost-take_turn : goal.ghost-take_turn
ghost-take_turn g a = g.read

abbrev pub invariant-loop-turn : goal.invariant-loop-turn
invariant-loop-turn g l = record {
  going : Going (layout_at l.initial.self.runtime) (λ c choice. FnReturnsAt g.F.Fn l.policy.answer c choice × (g.R.Rule.allows c choice ≡ true))
      (λ s k t h. (shown : Bor Seen) × (shown.now ≡ k) × IsOneToLimit k.started × Called g.G.FnMut s (shown, tt) t h)
      (record { place = g.read; shown = g.W.Observer.after_shown; told = g.W.Observer.after_told })
      l._turn (machine_of l.initial.self.runtime) l.self l.initial.picker.choose l.picker.choose (g.W.Observer.state l.initial.observer)
      (g.W.Observer.state l.observer);
  bounded : IsBounded l.self;
  layout : layout_at l.self.runtime ≡ layout_at l.initial.self.runtime;
  limit : l.picker.limit ≡ l.initial.picker.limit;
}
