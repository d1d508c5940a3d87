-- A class that has a name and its brace has them behind each step of a unit.
use Rattle.std.proofs.Common.{◌≡◌, sym, ap, ◌∙◌, subst, ℕ, zero, suc, true, false, not, List, [], ◌∷◌, ◌++◌, slice_get, Some, is_some}
use Rattle.std.specs.Prelude.{slice_set}
use Rattle.elab_rules.specs.cpp_types.Class.{Class, completion_of}
use Rattle.elab_fits.proofs.Nodes.{both}
use Rattle.elab_contexts.specs.Steps.{View, view, Step, function_added, function_defined, class_begun, class_completed, closure_added, Steps, has_name}
use Rattle.elab_contexts.specs.Texts.{is_no_name}
use Rattle.elab_contexts.proofs.Walking.{kept_by_steps}
use Rattle.elab_contexts.proofs.Makers.{closing}
use Rattle.elab_contexts.proofs.Going.{name_added, name_set}
use Rattle.elab_holds.proofs.Sound.{class_named, listed, name_found, lambda_same, no_lambda}
use Rattle.elab_fits_parts.specs.Parts.{IsHome}
use Rattle.elab_fits_parts.specs.Implicit.{HomesStay}

-- Classes, in the words of steps

pub record IsNamed (cs : List Class) (n : ℕ) : Type 0 where
  pub complete : is_some (completion_of cs n) ≡ true
  pub named : has_name cs n ≡ true

pub named_is : (cs : List Class) (n : ℕ) → IsHome cs n → IsNamed cs n
named_is cs n h = record { complete = h.complete; named = class_named cs n h.named }

pub home_is : (cs : List Class) (n : ℕ) → IsNamed cs n → IsHome cs n
home_is cs n h = record {
  complete = h.complete;
  named = both (listed cs n (name_found cs n h.named)) (ap not (lambda_same cs n ∙ no_lambda cs n h.named));
}

complete_added : (cs : List Class) (c : Class) (n : ℕ) → is_some (completion_of cs n) ≡ true → is_some (completion_of (cs ++ c ∷ []) n) ≡ true
complete_added [] c n h = absurd cc
complete_added (d ∷ cs) c zero h = h
complete_added (d ∷ cs) c (suc n) h = complete_added cs c n h

complete_set : (cs : List Class) (m : ℕ) (c : Class) → is_some c.complete ≡ true → (n : ℕ) → is_some (completion_of cs n) ≡ true
    → is_some (completion_of (slice_set cs m c) n) ≡ true
complete_set [] m c q n h = h
complete_set (d ∷ cs) zero c q zero h = q
complete_set (d ∷ cs) zero c q (suc n) h = h
complete_set (d ∷ cs) (suc m) c q zero h = h
complete_set (d ∷ cs) (suc m) c q (suc n) h = complete_set cs m c q n h

pub named_added : (cs : List Class) (c : Class) (n : ℕ) → IsNamed cs n → IsNamed (cs ++ c ∷ []) n
named_added cs c n h = record { complete = complete_added cs c n h.complete; named = name_added cs c n h.named }

pub named_set : (cs : List Class) (m : ℕ) (c : Class) → is_some c.complete ≡ true → is_no_name c.name ≡ false → (n : ℕ) → IsNamed cs n
    → IsNamed (slice_set cs m c) n
named_set cs m c q r n h = record { complete = complete_set cs m c q n h.complete; named = name_set cs m c r n h.named }

-- the class that is set, where there was one
pub named_here : (cs : List Class) (m : ℕ) (c d : Class) → is_some c.complete ≡ true → is_no_name c.name ≡ false → slice_get cs m ≡ Some d
    → IsNamed (slice_set cs m c) m
named_here [] m c d q r e = absurd cc
named_here (x ∷ cs) zero c d q r e = record { complete = q; named = ap not r }
named_here (x ∷ cs) (suc m) c d q r e = let i = named_here cs m c d q r e in record { complete = i.complete; named = i.named }

-- Steps

abbrev NamedIn : List Class → View → Type 0
NamedIn old v = (n : ℕ) → IsNamed old n → IsNamed v.classes n

step_named : (old : List Class) (a b : View) → Step a b → NamedIn old a → NamedIn old b
step_named old a b (function_added s) h = subst (NamedIn old) (sym s.is) h
step_named old a b (function_defined s) h = subst (NamedIn old) (sym s.is) h
step_named old a b (class_begun s) h = subst (NamedIn old) (sym s.is) (λ n e. named_added a.classes _ n (h n e))
step_named old a b (class_completed s) h =
    let x = closing s.ctx s.home s.at s.members s.initialised in
    subst (NamedIn old) (sym s.is) (subst (λ (cs : List Class). (n : ℕ) → IsNamed old n → IsNamed cs n) (sym x.classes)
    (λ n e. named_set s.ctx.classes s.home.number x.class (ap is_some x.closed.complete) (ap is_no_name x.closed.name ∙ s.named) n
    (subst (NamedIn old) (sym s.before) h n e)))
step_named old a b (closure_added s) h =
    subst (NamedIn old) (sym s.is) (λ n e. named_added s.ctx.classes _ n (subst (NamedIn old) (sym s.before) h n e))

pub steps_named : (a b : View) → Steps a b → (n : ℕ) → IsNamed a.classes n → IsNamed b.classes n
steps_named a b s = kept_by_steps (NamedIn a.classes) (step_named a.classes) s (λ n e. e)

pub homes_law : HomesStay
homes_law a b n s h = home_is b.classes n (steps_named (view a) (view b) s n (named_is a.classes n h))
