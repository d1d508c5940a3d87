-- Declarations: the unit goes on by steps, its enumerators stay words of their types, and names of types stand for classes of the list.
use Rattle.std.proofs.Common.{◌≡◌, sym, ap, ◌∙◌, subst, ℕ, zero, suc, true, false, not, List, [], ◌∷◌, ◌++◌, length, Result, Ok, Err}
use Rattle.std.specs.Prelude.{slice_set}
use Rattle.elab_rules.specs.cpp_types.Typ.{Typ, typ, void, int, enum, null, ptr, ref, array, func, class, closure, tx_ex}
use Rattle.elab_rules.specs.cpp_types.Class.{Class}
use Rattle.elab_rules.specs.cpp_tree.declared.faults.ElabFault.{ElabFault}
use Rattle.elab_rules.specs.elab_ctx.Types.{Named}
use Rattle.elab_rules.specs.Statements.{State}
use Rattle.elab_fits.specs.Standing.{On}
use Rattle.elab_contexts.specs.Steps.{View, view, Step, function_added, function_defined, class_begun, class_completed, closure_added, Steps, none_yet}
use Rattle.elab_contexts.specs.Holding.{HasEnumerators, HasTypeNames}
use Rattle.elab_contexts.specs.Steps.{has_name, is_written}
use Rattle.elab_contexts.specs.Texts.{is_no_name}
use Rattle.elab_contexts.proofs.Walking.{Naming, Leaves, joined, kept_by_steps}
use Rattle.elab_contexts.proofs.Makers.{closing}

-- Classes keep their names

pub name_added : (cs : List Class) (c : Class) (n : ℕ) → has_name cs n ≡ true → has_name (cs ++ c ∷ []) n ≡ true
name_added [] c n h = absurd cc
name_added (d ∷ cs) c zero h = h
name_added (d ∷ cs) c (suc n) h = name_added cs c n h

pub name_set : (cs : List Class) (m : ℕ) (c : Class) → is_no_name c.name ≡ false → (n : ℕ) → has_name cs n ≡ true → has_name (slice_set cs m c) n ≡ true
name_set [] m c q n h = h
name_set (d ∷ cs) zero c q zero h = ap not q
name_set (d ∷ cs) zero c q (suc n) h = h
name_set (d ∷ cs) (suc m) c q zero h = h
name_set (d ∷ cs) (suc m) c q (suc n) h = name_set cs m c q n h

pub name_at_end : (cs : List Class) (c : Class) → is_no_name c.name ≡ false → has_name (cs ++ c ∷ []) (length cs) ≡ true
name_at_end [] c q = ap not q
name_at_end (d ∷ cs) c q = name_at_end cs c q

abbrev pub KeepNames : List Class → List Class → Type 0
KeepNames old new = (n : ℕ) → has_name old n ≡ true → has_name new n ≡ true

abbrev NamesIn : List Class → View → Type 0
NamesIn old v = KeepNames old v.classes

step_names : (old : List Class) (a b : View) → Step a b → NamesIn old a → NamesIn old b
step_names old a b (function_added s) h = subst (NamesIn old) (sym s.is) h
step_names old a b (function_defined s) h = subst (NamesIn old) (sym s.is) h
step_names old a b (class_begun s) h = subst (NamesIn old) (sym s.is) (λ n e. name_added a.classes _ n (h n e))
step_names old a b (class_completed s) h =
    let x = closing s.ctx s.home s.at s.members s.initialised in
    subst (NamesIn old) (sym s.is) (subst (KeepNames old) (sym x.classes)
    (λ n e. name_set s.ctx.classes s.home.number x.class (ap is_no_name x.closed.name ∙ s.named) n
    (subst (NamesIn old) (sym s.before) h n e)))
step_names old a b (closure_added s) h =
    subst (NamesIn old) (sym s.is) (λ n e. name_added s.ctx.classes _ n (subst (NamesIn old) (sym s.before) h n e))

pub steps_names : (a b : View) → Steps a b → KeepNames a.classes b.classes
steps_names a b s = kept_by_steps (NamesIn a.classes) (step_names a.classes) s (λ n e. e)

-- Names of types

pub written_still : (old new : List Class) (t : Typ) → KeepNames old new → is_written old t ≡ true → is_written new t ≡ true
written_still old new (typ (class n) c v) l h = l n h
written_still old new (typ (closure n) c v) l h = absurd cc
written_still old new (typ void c v) l h = h
written_still old new (typ (int k) c v) l h = h
written_still old new (typ (enum n s) c v) l h = h
written_still old new (typ null c v) l h = h
written_still old new (typ (ptr t) c v) l h = h
written_still old new (typ (ref t) c v) l h = h
written_still old new (typ (array t n) c v) l h = h
written_still old new (typ (func s) c v) l h = h
written_still old new (typ (tx_ex t) c v) l h = h

pub names_still : (old new : List Class) (ns : List Named) → KeepNames old new → HasTypeNames old ns → HasTypeNames new ns
names_still old new ns l h i x e = written_still old new x.typ l (h i x e)

-- Declarations

pub record From (a b : State) : Type 0 where
  pub walk : Steps (view a.ctx) (view b.ctx)
  pub enumerators : HasEnumerators a.ctx.enumerators → HasEnumerators b.ctx.enumerators
  pub types : HasTypeNames a.ctx.classes a.ctx.types → HasTypeNames b.ctx.classes b.ctx.types

pub begin : (a : State) → From a a
begin a = record { walk = none_yet; enumerators = λ h. h; types = λ h. h }

pub leaves_are : (b c : State) → Leaves b c → From b c
leaves_are b c h = record {
  walk = h.walk;
  enumerators = λ e. subst (λ (x : Naming). HasEnumerators x.enumerators) (sym h.same) e;
  types = λ e. subst (λ (x : Naming). HasTypeNames c.ctx.classes x.types) (sym h.same)
      (names_still b.ctx.classes c.ctx.classes b.ctx.types (steps_names (view b.ctx) (view c.ctx) h.walk) e);
}

pub from_on : (a b c : State) → From a b → From b c → From a c
from_on a b c g h = record {
  walk = joined g.walk h.walk;
  enumerators = λ e. h.enumerators (g.enumerators e);
  types = λ e. h.types (g.types e);
}

pub since : (a b c : State) → From a b → Leaves b c → From a c
since a b c g h = from_on a b c g (leaves_are b c h)

pub leaves_from : (a b : State) (r : Result State ElabFault) → From a b → On (Leaves b) r → On (From a) r
leaves_from a b (Ok c) g h = since a b c g h
leaves_from a b (Err e) g h = tt

pub from_from : (a b : State) (r : Result State ElabFault) → From a b → On (From b) r → On (From a) r
from_from a b (Ok c) g h = from_on a b c g h
from_from a b (Err e) g h = tt
