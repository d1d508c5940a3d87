-- Parameters, one behind the other.
use Rattle.std.proofs.Common.{◌≡◌, ℕ, ◌+◌, ◌<◌, ◌≤◌, Bool, List, ◌∷◌, length, map, drop, get_or, refl, sym, ap, ◌∙◌, Result, Ok, Err}
use Rattle.cpp_types.specs.Class.{held}
use Rattle.elab_stmt.specs.cpp_lex.Tokens.{Lexeme}
use Rattle.elab_stmt.specs.cpp_tree.declared.faults.ElabFault.{ElabFault}
use Rattle.elab_stmt.specs.cpp_tree.declared.faults.IllRule.TheVariants.{Incomplete}
use Rattle.elab_stmt.specs.elab_ctx.Steps.{and_then, check}
use Rattle.elab_stmt.specs.elab_ctx.Says.{Faults}
use Rattle.elab_stmt.proofs.elab_ctx.Making.{faults_in, faults_same}
use Rattle.elab_stmt.proofs.elab_init.Listing.{drop_step, drop_past}
use Rattle.elab_stmt.specs.elab_rules.Operators.{is_complete}
use Rattle.elab_stmt.specs.elab_rules.Statements.{State}
use Rattle.elab_stmt.specs.elab_rules.Types.{Parameter}
use Rattle.elab_stmt.specs.elab_rules.Functions.{parameter_named, with_parameters}
use Rattle.elab_stmt.specs.elab_types.declared.records.Parameter.{Parameter as ParameterRec}
use Rattle.elab_stmt.specs.elab_types.Shown.{parameter_of}
use Rattle.elab_stmt.specs.elab_scopes.declared.state.State.{State as StateRec}
use Rattle.elab_stmt.specs.elab_scopes.States.{state_of, Grown}
use Rattle.elab_stmt.specs.elab_scopes.Says.{Changed}
use Rattle.elab_stmt.proofs.elab_scopes.Standing.{grown_refl, grown_trans}
use Rattle.elab_entry.specs.Parameters.{one_parameter}

-- of steps `rest` is left, where the whole gives `x`
pub record Steps (a b : StateRec) (rest x : Result State ElabFault) : Type 0 where
  pub grown : Grown a b
  pub is : x ≡ rest

pub steps_first : (a : StateRec) (x : Result State ElabFault) → Steps a a x x
steps_first a x = record { grown = grown_refl a; is = refl }

pub steps_next : (a b c : StateRec) (rest x y : Result State ElabFault) (f : State → Result State ElabFault) → Steps a b rest x → rest ≡ and_then y f
    → Changed b c y → Steps a c (f (state_of c)) x
steps_next a b c rest x y f m e n = record { grown = grown_trans a b c m.grown n.grown; is = m.is ∙ e ∙ ap (λ (z : Result State ElabFault). and_then z f) n.is }

pub steps_done : (a b : StateRec) (rest x : Result State ElabFault) → Steps a b rest x → rest ≡ Ok (state_of b) → Changed a b x
steps_done a b rest x m e = record { grown = m.grown; is = m.is ∙ e }

pub steps_fault : (a b : StateRec) (rest x y : Result State ElabFault) (f : State → Result State ElabFault) (e : ElabFault) → Steps a b rest x
    → rest ≡ and_then y f → Faults e y → Faults e x
steps_fault a b rest x y f e m h g = faults_same e (and_then y f) x (m.is ∙ h) (faults_in (λ (z : Result State ElabFault). and_then z f) e y (λ d. refl) g)

-- one parameter, then the others
one_then : (c : Result Bool ElabFault) (y : Bool → Result State ElabFault) (f : State → Result State ElabFault)
    → and_then c (λ (b : Bool). and_then (y b) f) ≡ and_then (and_then c y) f
one_then (Ok b) y f = refl
one_then (Err e) y f = refl

with_one : (s : List Lexeme) (st : State) (p : Parameter) (ps : List Parameter)
    → with_parameters s st (p ∷ ps) ≡ and_then (one_parameter s st p) (λ (x : State). with_parameters s x ps)
with_one s st p ps = one_then (check p.at Incomplete (is_complete st.ctx (held p.typ))) (λ (y : Bool). parameter_named s st p p.name)
    (λ (x : State). with_parameters s x ps)

pub with_next : (s : List Lexeme) (st : State) (ps : List ParameterRec) (i : ℕ) (p d : ParameterRec) → i < length ps → p ≡ get_or ps i d
    → with_parameters s st (map parameter_of (drop i ps))
    ≡ and_then (one_parameter s st (parameter_of p)) (λ (x : State). with_parameters s x (map parameter_of (drop (i + 1) ps)))
with_next s st ps i p d h e =
    ap (λ (z : List ParameterRec). with_parameters s st (map parameter_of z)) (drop_step ps i d h)
    ∙ ap (λ (z : ParameterRec). with_parameters s st (parameter_of z ∷ map parameter_of (drop (i + 1) ps))) (sym e)
    ∙ with_one s st (parameter_of p) (map parameter_of (drop (i + 1) ps))

pub with_none : (s : List Lexeme) (st : State) (ps : List ParameterRec) (i : ℕ) → length ps ≤ i → with_parameters s st (map parameter_of (drop i ps)) ≡ Ok st
with_none s st ps i h = ap (λ (z : List ParameterRec). with_parameters s st (map parameter_of z)) (drop_past ps i h)
