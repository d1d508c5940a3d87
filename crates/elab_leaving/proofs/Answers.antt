-- Answers that are the same.
use Rattle.std.proofs.Common.{◌≡◌, refl, ap, ◌∙◌, Result, Ok, Err}
use Rattle.elab_rules.specs.cpp_tree.declared.faults.ElabFault.{ElabFault}
use Rattle.elab_rules.specs.elab_ctx.Steps.{and_then, each_of}
use Rattle.elab_rules.specs.cpp_ast.Trees as syntax
use Rattle.elab_leaving.specs.Kept.{On}
use Rattle.elab_leaving.proofs.Keeping.{bind}

-- what follows a step of which something is known
pub same_after : {A B : Type 0} (P : A → Type 0) (x : Result A ElabFault) (f g : A → Result B ElabFault) → On P x → ((a : A) → P a → f a ≡ g a)
    → and_then x f ≡ and_then x g
same_after P (Ok a) f g h k = k a h
same_after P (Err e) f g h k = refl

pub same_behind : {A B : Type 0} (x : Result A ElabFault) (f g : A → Result B ElabFault) → ((a : A) → f a ≡ g a) → and_then x f ≡ and_then x g
same_behind (Ok a) f g k = k a
same_behind (Err e) f g k = refl

-- steps group either way
pub nest : {A B C : Type 0} (x : Result A ElabFault) (f : A → Result B ElabFault) (g : B → Result C ElabFault)
    → and_then (and_then x f) g ≡ and_then x (λ (a : A). and_then (f a) g)
nest (Ok a) f g = refl
nest (Err e) f g = refl

-- Trees, one behind the other

pub each_holds : {R : Type 0} (P : R → Type 0) (f : R → syntax.Tree → Result R ElabFault) (r : R) (ts : syntax.Trees) → P r
    → ((x : R) (t : syntax.Tree) → P x → On P (f x t)) → On P (each_of f r ts)
each_holds P f r syntax.none h k = h
each_holds P f r (syntax.more t ts) h k = bind P P (f r t) _ (k r t h) (λ x i. each_holds P f x ts i k)

pub each_same : {R : Type 0} (P : R → Type 0) (f g : R → syntax.Tree → Result R ElabFault) (r : R) (ts : syntax.Trees) → P r
    → ((x : R) (t : syntax.Tree) → P x → f x t ≡ g x t) → ((x : R) (t : syntax.Tree) → P x → On P (g x t)) → each_of f r ts ≡ each_of g r ts
each_same P f g r syntax.none h e k = refl
each_same P f g r (syntax.more t ts) h e k = ap (λ z. and_then z (λ x. each_of f x ts)) (e r t h)
    ∙ same_after P (g r t) _ _ (k r t h) (λ x i. each_same P f g x ts i e k)
