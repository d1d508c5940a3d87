-- Steps that may be refused: what holds of their answers.
use Rattle.std.proofs.Common.{◌≡◌, refl, subst, Bool, true, false, Option, Some, None, Result, Ok, Err}
use Rattle.std.specs.Prelude.{if◌then◌else◌}
use Rattle.elab_rules.specs.cpp_types.declared.classes.At.{At}
use Rattle.elab_rules.specs.cpp_tree.declared.faults.ElabFault.{ElabFault}
use Rattle.elab_rules.specs.cpp_tree.declared.faults.IllRule.{IllRule}
use Rattle.elab_rules.specs.elab_ctx.Steps.{and_then, expect, check}
use Rattle.elab_fits.specs.Standing.{On}

-- behind a step of which something is known
pub bind : {A B : Type 0} (P : A → Type 0) (Q : B → Type 0) (x : Result A ElabFault) (f : A → Result B ElabFault) → On P x → ((a : A) → P a → On Q (f a))
    → On Q (and_then x f)
bind P Q (Ok a) f h g = g a h
bind P Q (Err e) f h g = tt

-- of which nothing is
pub skip : {A B : Type 0} (Q : B → Type 0) (x : Result A ElabFault) (f : A → Result B ElabFault) → ((a : A) → On Q (f a)) → On Q (and_then x f)
skip Q (Ok a) f g = g a
skip Q (Err e) f g = tt

pub checked : {B : Type 0} (Q : B → Type 0) (at : At) (rule : IllRule) (b : Bool) (f : Bool → Result B ElabFault) → (b ≡ true → On Q (f true))
    → On Q (and_then (check at rule b) f)
checked Q at rule true f g = g refl
checked Q at rule false f g = tt

pub expected : {A B : Type 0} (Q : B → Type 0) (at : At) (rule : IllRule) (x : Option A) (f : A → Result B ElabFault) → ((a : A) → x ≡ Some a → On Q (f a))
    → On Q (and_then (expect at rule x) f)
expected Q at rule (Some a) f g = g a refl
expected Q at rule None f g = tt

pub either : {A : Type 0} (P : A → Type 0) (b : Bool) (x y : Result A ElabFault) → (b ≡ true → On P x) → (b ≡ false → On P y) → On P (if b then x else y)
either P true x y h k = h refl
either P false x y h k = k refl

-- what holds of all answers
pub known : {A : Type 0} (P : A → Type 0) (x : Result A ElabFault) → ((a : A) → P a) → On P x
known P (Ok a) g = g a
known P (Err e) g = tt

-- the same where nothing is asked of the test
pub either_way : {A : Type 0} (P : A → Type 0) (b : Bool) (x y : Result A ElabFault) → On P x → On P y → On P (if b then x else y)
either_way P true x y h k = h
either_way P false x y h k = k

-- and of values
pub choose : {A : Type 0} (P : A → Type 0) (b : Bool) (x y : A) → P x → P y → P (if b then x else y)
choose P true x y h k = h
choose P false x y h k = k

-- what follows from what holds
pub weaken : {A : Type 0} (P Q : A → Type 0) (x : Result A ElabFault) → ((a : A) → P a → Q a) → On P x → On Q x
weaken P Q (Ok a) f h = f a h
weaken P Q (Err e) f h = tt

-- a step whose answer is told
pub told : {A B : Type 0} (Q : B → Type 0) (x : Result A ElabFault) (f : A → Result B ElabFault) → ((a : A) → x ≡ Ok a → On Q (f a)) → On Q (and_then x f)
told Q (Ok a) f g = g a refl
told Q (Err e) f g = tt

pub answered : {A : Type 0} (P : A → Type 0) (x : Result A ElabFault) (a : A) → On P x → x ≡ Ok a → P a
answered P x a h e = subst (λ (z : Result _ ElabFault). On P z) e h
