-- Answers that are faults.
use Rattle.std.proofs.Common.{◌≡◌, Vec, Result, Err, sym, subst}
use Rattle.std.specs.declared.alloc.Global.{Global}
use Rattle.elab_entry.specs.cpp_types.declared.types.Ty.{Ty}
use Rattle.elab_entry.specs.cpp_tree.declared.faults.ElabFault.{ElabFault}
use Rattle.elab_entry.specs.cpp_tree.declared.arena.TNodeId.{TNodeId}
use Rattle.elab_entry.specs.elab_ctx.Says.{Faults}
use Rattle.elab_entry.specs.elab_rules.Statements.{State, Done}
use Rattle.elab_entry.specs.elab_types.Shown.{Says}
use Rattle.elab_entry.specs.elab_scopes.declared.state.State.{State as StateRec}
use Rattle.elab_entry.specs.elab_scopes.Says.{Changes}
use Rattle.elab_lambdas.specs.Whole.{Deduced}
use Rattle.elab_lambdas.specs.Outcomes.{Lists, Deduces}

pub changes_fail : (a c : StateRec) (r : Result (Unit {0}) ElabFault) (e : ElabFault) (x : Result State ElabFault) → r ≡ Err e → Faults e x → Changes a c r x
changes_fail a c r e x h m = subst (λ (z : Result (Unit {0}) ElabFault). Changes a c z x) (sym h) m

pub lists_fail : (a c : StateRec) (r : Result (Vec TNodeId Global) ElabFault) (e : ElabFault) (x : Result Done ElabFault) → r ≡ Err e → Faults e x
    → Lists a c r x
lists_fail a c r e x h m = subst (λ (z : Result (Vec TNodeId Global) ElabFault). Lists a c z x) (sym h) m

pub deduces_fail : (a c : StateRec) (r : Result Ty ElabFault) (e : ElabFault) (x : Result Deduced ElabFault) → r ≡ Err e → Faults e x → Deduces a c r x
deduces_fail a c r e x h m = subst (λ (z : Result Ty ElabFault). Deduces a c z x) (sym h) m

pub says_fail : {A B : Type 0} (show : A → B) (r : Result A ElabFault) (e : ElabFault) (x : Result B ElabFault) → r ≡ Err e → Faults e x → Says show r x
says_fail {A} show r e x h m = subst (λ (z : Result A ElabFault). Says show z x) (sym h) m
