-- A safe program has no first unsafe part.
use Rattle.std.proofs.Common.{◌≡◌, sym, ap, subst, ◌∙◌, List, Option, Some, None, Err}
use Rattle.std.specs.List.{fold}
use Rattle.cpp_tree.specs.cpp_types.declared.classes.At.{At}
use Rattle.cpp_tree.specs.declared.faults.UnsafeReason.{UnsafeReason}
use Rattle.cpp_tree.specs.declared.program.Program.{Program}
use Rattle.cpp_tree.specs.Units.{TypedProgram, program_of}
use Rattle.tx_unsafe.specs.First.{sooner}
use Rattle.tx_unsafe.specs.declared.finding.Finding.{Finding}
use Rattle.tx_safety.specs.Answers.{Checks}
use Rattle.tx_safety.specs.declared.fault.SafetyFault.{SafetyFault}
use Rattle.tx_safety.specs.declared.fault.SafetyFault.TheVariants.{Unsafe}
use Rattle.tx_safety.specs.Safe.{IsSafe, FirstUnsafe, first_unsafe}

none_some : (x : Finding) → ◌≡◌ {A = Option Finding} None (Some x) → ⊥
none_some x e = absurd cc

pub nothing_first : (p : TypedProgram) (at : At) (reason : UnsafeReason) → IsSafe p → FirstUnsafe p at reason → ⊥
unfolding first_unsafe
nothing_first p at reason e f = none_some (record { at = at; reason = reason }) (sym (ap (λ (z : List Finding). fold sooner None z) e) ∙ f)

pub nothing_found : (p : Program) (f : SafetyFault) (at : At) (reason : UnsafeReason) → IsSafe (program_of p) → f ≡ Unsafe at reason → Checks p (Err f) → ⊥
nothing_found p f at reason e h k = nothing_first (program_of p) at reason e (subst (λ (z : SafetyFault). Checks p (Err z)) h k)
