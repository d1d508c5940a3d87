-- What is said of a fault.
use Rattle.std.proofs.Common.{◌≡◌, Result, Ok, Err, IsErrAnd, ap}
use Rattle.elab_entry.specs.cpp_tree.declared.faults.ElabFault.{ElabFault}
use Rattle.elab_entry.specs.cpp_tree.declared.faults.ElabFault.TheVariants.{Ill, Override, JumpIntoBlock, Limit, Memory}
use Rattle.elab_units.specs.Outcomes.{UnlessMemory}

pub unless_memory : (e : ElabFault) (P : Type 0) → P → UnlessMemory e P
unless_memory (Ill at rule) P p = p
unless_memory (Override at rule) P p = p
unless_memory (JumpIntoBlock at) P p = p
unless_memory (Limit at which) P p = p
unless_memory Memory P p = tt

pub unless_so : (e : ElabFault) (P Q : Type 0) → (P → Q) → UnlessMemory e P → UnlessMemory e Q
unless_so (Ill at rule) P Q f p = f p
unless_so (Override at rule) P Q f p = f p
unless_so (JumpIntoBlock at) P Q f p = f p
unless_so (Limit at which) P Q f p = f p
unless_so Memory P Q f p = tt

-- the fault that `?` hands on
pub handed_on : {A : Type 0} (r : Result A ElabFault) (e : ElabFault) → IsErrAnd r (λ (y : ElabFault). y ≡ e) → r ≡ Err e
handed_on (Ok a) e h = absurd h
handed_on (Err x) e h = ap (λ (y : ElabFault). Err y) h
