-- The steps of a unit, one behind the other.
use Rattle.std.proofs.Common.{◌≡◌, refl, ◌∙◌, Bool, List, Result, Ok, Err, ℕ}
use Rattle.elab_rules.specs.cpp_tree.declared.faults.ElabFault.{ElabFault}
use Rattle.elab_rules.specs.elab_ctx.Ctx.{Ctx, Enumerator}
use Rattle.elab_rules.specs.elab_ctx.Types.{Named}
use Rattle.elab_rules.specs.elab_ctx.Steps.{and_then}
use Rattle.elab_rules.specs.Statements.{State, Done, Full}
use Rattle.elab_fits.specs.Standing.{On}
use Rattle.elab_contexts.specs.Overriders.{HasOverridersBy}
use Rattle.elab_contexts.specs.Steps.{View, view, Step, Steps, none_yet, and_one}

pub joined : {a b c : View} → Steps a b → Steps b c → Steps a c
joined g none_yet = g
joined g (and_one h s) = and_one (joined g h) s

pub one_step : {a b : View} → Step a b → Steps a b
one_step s = and_one none_yet s

pub kept_by_steps : (P : View → Type 0) → ((a b : View) → Step a b → P a → P b) → {a b : View} → Steps a b → P a → P b
kept_by_steps P each none_yet p = p
kept_by_steps P each (and_one {b} {c} h s) p = each b c s (kept_by_steps P each h p)

-- What is asked of states

-- the enumerators and the names of types
pub record Naming : Type 0 where
  pub enumerators : List Enumerator
  pub types : List Named

abbrev pub naming : Ctx → Naming
naming c = record { enumerators = c.enumerators; types = c.types }

pub record Seen : Type 0 where
  pub view : View
  pub naming : Naming

abbrev pub seen : State → Seen
seen st = record { view = view st.ctx; naming = naming st.ctx }

-- where neither an enumerator nor a name of a type is declared, and no member of a class
pub record Leading (a b : Seen) : Type 0 where
  pub walk : Steps a.view b.view
  pub same : b.naming ≡ a.naming
  pub overrides : (w : List ℕ → Bool) → HasOverridersBy w a.view.funcs → HasOverridersBy w b.view.funcs

abbrev pub Leaves : State → State → Type 0
Leaves old new = Leading (seen old) (seen new)

pub stays : (st : State) → Leaves st st
stays st = record { walk = none_yet; same = refl; overrides = λ w h. h }

pub after : (a b c : State) → Leaves a b → Leaves b c → Leaves a c
after a b c g h = record { walk = joined g.walk h.walk; same = h.same ∙ g.same; overrides = λ w o. h.overrides w (g.overrides w o) }

-- Steps, one behind the other

abbrev pub of_state : State → State
of_state st = st

abbrev pub of_done : Done → State
of_done d = d.state

abbrev pub of_full : Full → State
of_full f = f.state

abbrev pub Ends : State → Done → Type 0
Ends st d = Leaves st d.state

-- from an earlier state
pub behind : {A : Type 0} (a b : State) (p : A → State) (r : Result A ElabFault) → Leaves a b → On (λ x. Leaves b (p x)) r → On (λ x. Leaves a (p x)) r
behind a b p (Ok x) h k = after a b (p x) h k
behind a b p (Err e) h k = tt

pub follow : {A B : Type 0} (p : A → State) (q : B → State) (a : State) (x : Result A ElabFault) (f : A → Result B ElabFault) → On (λ y. Leaves a (p y)) x
    → ((y : A) → On (λ z. Leaves (p y) (q z)) (f y)) → On (λ z. Leaves a (q z)) (and_then x f)
follow p q a (Ok y) f h k = behind a (p y) q (f y) h (k y)
follow p q a (Err e) f h k = tt
