-- Steps that may be refused, one behind the other.
use Rattle.std.proofs.Common.{◌≡◌, Result, Ok, Err, refl, sym, ap, subst}
use Rattle.elab_expr.specs.cpp_tree.declared.faults.ElabFault.{ElabFault}
use Rattle.elab_expr.specs.elab_ctx.Says.{Faults}
use Rattle.elab_expr.specs.elab_ctx.Steps.{and_then}
use Rattle.elab_expr.proofs.elab_ctx.Making.{faults_in}
use Rattle.elab_expr.specs.elab_types.Shown.{Says}
use Rattle.class_members.specs.Shown.{Answers}

-- a fault of a step is that of the whole
pub faults_then : {A B : Type 0} (e : ElabFault) (x : Result A ElabFault) (f : A → Result B ElabFault) → Faults e x → Faults e (and_then x f)
faults_then {A} {B} e x f h = faults_in (λ (z : Result A ElabFault). and_then z f) e x (λ d. refl) h

-- a fault of what follows a step
pub faults_after : {A B : Type 0} (e : ElabFault) (x : Result A ElabFault) (v : A) (f : A → Result B ElabFault) → x ≡ Ok v → Faults e (f v)
    → Faults e (and_then x f)
faults_after {A} {B} e x v f h g = subst (λ (z : Result A ElabFault). Faults e (and_then z f)) (sym h) g

-- the same of something that is equal
pub faults_same : {A : Type 0} (e : ElabFault) (x y : Result A ElabFault) → y ≡ x → Faults e x → Faults e y
faults_same {A} e x y h g = subst (λ (z : Result A ElabFault). Faults e z) (sym h) g

pub says_same : {A B : Type 0} (show : A → B) (r : Result A ElabFault) (x y : Result B ElabFault) → y ≡ x → Says show r x → Says show r y
says_same {A} {B} show r x y h g = subst (λ (z : Result B ElabFault). Says show r z) (sym h) g

pub answers_same : {A B : Type 0} (b : B) (r : Result A ElabFault) (x y : Result B ElabFault) → y ≡ x → Answers b r x → Answers b r y
answers_same {A} {B} b r x y h g = subst (λ (z : Result B ElabFault). Answers b r z) (sym h) g

-- an answer that is a fault
pub says_refused : {A B : Type 0} (show : A → B) (r : Result A ElabFault) (e : ElabFault) (x : Result B ElabFault) → r ≡ Err e → Faults e x → Says show r x
says_refused {A} {B} show r e x h g = subst (λ (z : Result A ElabFault). Says show z x) (sym h) g

pub answers_refused : {A B : Type 0} (b : B) (r : Result A ElabFault) (e : ElabFault) (x : Result B ElabFault) → r ≡ Err e → Faults e x → Answers b r x
answers_refused {A} {B} b r e x h g = subst (λ (z : Result A ElabFault). Answers b z x) (sym h) g

-- an answer that is put to what stays
pub answers_then : {A B C : Type 0} (b : B) (g : B → C) (r : Result A ElabFault) (x : Result B ElabFault) → Answers b r x
    → Answers (g b) r (and_then x (λ (w : B). Ok (g w)))
answers_then {A} {B} {C} b g (Ok a) x h = ap (λ (z : Result B ElabFault). and_then z (λ (w : B). Ok (g w))) h
answers_then {A} {B} {C} b g (Err e) x h = faults_then e x (λ (w : B). Ok (g w)) h
