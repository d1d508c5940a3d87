-- Outcomes that are no decision.
use Rattle.std.proofs.Common.{ℕ, ◌≡◌, List, refl, Bor}
use Rattle.cpp_tree.specs.cpp_types.Typ.{Typ}
use Rattle.cpp_tree.specs.declared.program.Program.{Program}
use Rattle.src_mean.specs.Linked.{Func}
use Rattle.symbolic_code.specs.Facts.{Fact, settled}
use Rattle.symbolic_terms.specs.declared.ids.WordId.{WordId}
use Rattle.symbolic_terms.specs.declared.outcomes.Outcome.{Outcome}
use Rattle.symbolic_terms.specs.declared.outcomes.Outcome.TheVariants.{Stuck, Goes, Hands, GoesOut, Chooses, Chooses', Results', Finds', Halts}
use Rattle.symbolic_terms.specs.declared.outcomes.Leading.TheVariants.{Does, Calls, Spawns, Rethrows}
use Rattle.symbolic_terms.specs.Meanings.{Meaning}
use Rattle.symbolic_terms.specs.Shown.{outcome_of}

pub settled_plain : (types : ℕ → Typ) (m : Meaning) (p : Program) (f : Func) (ks : List Fact) (o : Outcome) → ((word : WordId) (zero other : Bor Outcome) → o ≡ Chooses word zero other → ⊥) → outcome_of types m p f o ≡ settled ks (outcome_of types m p f o)
settled_plain types m p f ks (Chooses' w q zero r other) h = absurd (h w _ _ refl)
settled_plain types m p f ks Stuck h = refl
settled_plain types m p f ks (Goes (Does doing) rest) h = refl
settled_plain types m p f ks (Goes (Calls callee words) rest) h = refl
settled_plain types m p f ks (Goes (Spawns address argument) rest) h = refl
settled_plain types m p f ks (Goes Rethrows rest) h = refl
settled_plain types m p f ks (Hands w ws) h = refl
settled_plain types m p f ks (GoesOut exit ws) h = refl
settled_plain types m p f ks (Results' op kind a b q o) h = refl
settled_plain types m p f ks (Finds' class slot address q o) h = refl
settled_plain types m p f ks (Halts end) h = refl
