-- A function that is defined is a step.
use Rattle.std.proofs.Common.{◌≡◌, refl, ap, ◌∙◌, subst, ℕ, List, Option, Some, unwrap_or, Bool}
use Rattle.std.specs.Prelude.{slice_get, slice_set}
use Rattle.elab_rules.specs.elab_ctx.Ctx.{Ctx, Func}
use Rattle.elab_rules.specs.Initialising.{func_at, no_function}
use Rattle.elab_rules.specs.Statements.{State}
use Rattle.elab_rules.specs.Functions.{Header, defined_function, with_definition}
use Rattle.elab_contexts.specs.Steps.{view, Steps, none_yet, function_defined, SameFunction}
use Rattle.elab_contexts.specs.Overriders.{HasOverridersBy}
use Rattle.elab_contexts.proofs.Owned.{overriders_defined}
use Rattle.elab_contexts.proofs.Walking.{Leaves, naming, joined, one_step}

-- Contexts with more steps behind them

pub record Further (c d : Ctx) : Type 0 where
  pub walk : Steps (view c) (view d)
  pub same : naming d ≡ naming c
  pub overrides : (w : List ℕ → Bool) → HasOverridersBy w c.funcs → HasOverridersBy w d.funcs

pub no_further : (c : Ctx) → Further c c
no_further c = record { walk = none_yet; same = refl; overrides = λ w h. h }

pub further_on : (a b c : Ctx) → Further a b → Further b c → Further a c
further_on a b c g h = record { walk = joined g.walk h.walk; same = h.same ∙ g.same; overrides = λ w o. h.overrides w (g.overrides w o) }

pub further_leaves : (st : State) (c : Ctx) → Further st.ctx c → Leaves st (record st { ctx = c })
further_leaves st c f = record { walk = f.walk; same = f.same; overrides = f.overrides }

-- A definition

at_func : (fs : List Func) (i : ℕ) (f : Func) → slice_get fs i ≡ Some f → func_at fs i ≡ f
at_func fs i f h = ap (λ (o : Option Func). unwrap_or o no_function) h

same_at : (fs : List Func) (i : ℕ) (g : Func) → SameFunction (func_at fs i) g → (f : Func) → slice_get fs i ≡ Some f → SameFunction f g
same_at fs i g s f h = subst (λ (z : Func). SameFunction z g) (at_func fs i f h) s

pub set_further : (c : Ctx) (i : ℕ) (g : Func) → SameFunction (func_at c.funcs i) g → Further c (record c { funcs = slice_set c.funcs i g })
set_further c i g s = record {
  walk = one_step (function_defined (record { place = i; func = g; is = refl; same = same_at c.funcs i g s }));
  same = refl;
  overrides = λ w h. overriders_defined w c.funcs i g (same_at c.funcs i g s) h;
}

pub definition_further : (c : Ctx) (i : ℕ) (h : Header) (text : List ℕ) (closed : ℕ) → Further c (with_definition c i h text closed)
definition_further c i h text closed = set_further c i (defined_function (func_at c.funcs i) h text closed)
    (record { declared = refl; kind = refl; class = refl; builtin = refl; implicit = refl })
