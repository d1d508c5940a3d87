-- The lambdas of several expressions, one behind the other.
use Rattle.std.proofs.Common.{◌≡◌, refl, ap, ◌∙◌, Result, Ok}
use Rattle.elab_expr.specs.cpp_tree.declared.faults.ElabFault.{ElabFault}
use Rattle.elab_expr.specs.elab_ctx.Steps.{and_then}
use Rattle.elab_expr.specs.elab_ctx.Says.{Faults}
use Rattle.elab_expr.proofs.elab_ctx.Making.{faults_in, faults_same}
use Rattle.elab_expr.specs.elab_rules.Statements.{State}
use Rattle.elab_scopes.specs.declared.state.State.{State as StateRec}
use Rattle.elab_scopes.specs.States.{state_of, Grown}
use Rattle.elab_scopes.specs.Says.{Changed}
use Rattle.elab_scopes.proofs.Standing.{grown_trans, grown_refl}

-- those of which `rest` are left, where the whole gives `x`
pub record Making (a b : StateRec) (rest x : Result State ElabFault) : Type 0 where
  pub grown : Grown a b
  pub is : x ≡ rest

pub making_none : (a : StateRec) (x : Result State ElabFault) → Making a a x x
making_none a x = record { grown = grown_refl a; is = refl }

pub making_more : (a b c : StateRec) (rest x y : Result State ElabFault) (f : State → Result State ElabFault) → Making a b rest x → rest ≡ and_then y f
    → Changed b c y → Making a c (f (state_of c)) x
making_more a b c rest x y f m e n = record {
  grown = grown_trans a b c m.grown n.grown;
  is = m.is ∙ e ∙ ap
      (λ (z : Result State ElabFault). and_then z f) n.is;
}

pub making_fault : (a b : StateRec) (rest x y : Result State ElabFault) (f : State → Result State ElabFault) (e : ElabFault) → Making a b rest x
    → rest ≡ and_then y f → Faults e y → Faults e x
making_fault a b rest x y f e m h g = faults_same e (and_then y f) x (m.is ∙ h) (faults_in (λ (z : Result State ElabFault). and_then z f) e y (λ d. refl) g)

pub making_done : (a b : StateRec) (rest x : Result State ElabFault) → Making a b rest x → rest ≡ Ok (state_of b) → Changed a b x
making_done a b rest x m e = record { grown = m.grown; is = m.is ∙ e }
