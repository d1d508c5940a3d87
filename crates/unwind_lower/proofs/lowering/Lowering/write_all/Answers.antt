use Rattle.std.proofs.Common.{subst, sym}
use Rattle.unwind_lower.specs.States.{State, state_of, later}
use Rattle.unwind_lower.specs.Settings.{setting_of}
use Rattle.unwind_lower.specs.Steps.{Reaches}
use Rattle.unwind_lower.proofs.lowering.Lowering.write_all.Goals as goal

pub loop-init : goal.loop-init
loop-init c = Reaches.here

pub loop-preserved : goal.loop-preserved
loop-preserved c =
    let g = setting_of c.args.self.now in
    let P : State → Type 0 = λ s. Reaches g (state_of c.args.w.now) s in
    let behind = state_of c.next.new.self in
    let there : P (later c.in-Some.item behind) = subst P c.in-Some.ensures c.loop.invariant in
    subst P (sym c.in_ok-write-in-Some.ensures) (Reaches.behind c.in-Some.item behind there)
