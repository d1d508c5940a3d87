-- Steps, one behind the other.
use Rattle.std.proofs.Common.{◌≡◌, ◌∙◌, List, Result, Ok, Err, IfOk, sym, ap, subst}
use Rattle.std.specs.declared.alloc.AllocError.{AllocError}
use Rattle.cpp_tree.specs.declared.faults.ElabFault.{ElabFault}
use Rattle.cpp_tree.specs.declared.faults.ElabFault.TheVariants.{Ill, Override, JumpIntoBlock, Limit, Memory}
use Rattle.cpp_tree.specs.declared.arena.TNodeId.{TNodeId}
use Rattle.cpp_tree.specs.Trees.{Tree}
use Rattle.cpp_tree.specs.Arena.{Grows, Adds}
use Rattle.elab_ctx.specs.Says.{Faults, Given, Gives}
use Rattle.elab_ctx.proofs.Looks.{grows_trans}

-- what is known of a fault stays known of what follows from it
pub faults_in : {A B : Type 0} (f : Result A ElabFault → Result B ElabFault) (e : ElabFault) (x : Result A ElabFault) → ((d : ElabFault) → f (Err d) ≡ Err d)
    → Faults e x → Faults e (f x)
faults_in f (Ill at rule) x h g = ap f g ∙ h (Ill at rule)
faults_in f (Override at rule) x h g = ap f g ∙ h (Override at rule)
faults_in f (JumpIntoBlock at) x h g = ap f g ∙ h (JumpIntoBlock at)
faults_in f (Limit at which) x h g = ap f g ∙ h (Limit at which)
faults_in f Memory x h g = tt

pub gives_same : (old new : List Tree) (r : Result TNodeId ElabFault) (x y : Result Tree ElabFault) → y ≡ x → Gives old new r x → Gives old new r y
gives_same old new r x y e g = subst (λ (z : Result Tree ElabFault). Gives old new r z) (sym e) g

pub faults_same : {A : Type 0} (e : ElabFault) (x y : Result A ElabFault) → y ≡ x → Faults e x → Faults e y
faults_same e x y h g = subst (λ (z : Result _ ElabFault). Faults e z) (sym h) g

-- what was made in several steps
pub gives_grown : (old mid new : List Tree) (r : Result TNodeId ElabFault) (x : Result Tree ElabFault) → Grows old mid → Gives mid new r x → Gives old new r x
gives_grown old mid new (Ok r) x g m = record { grows = grows_trans g m.grows; within = m.within; is = m.is }
gives_grown old mid new (Err e) x g m = m

pub made_adds : (old new : List Tree) (r : TNodeId) (t : Tree) (x : Result Tree ElabFault) → Adds old new r t → x ≡ Ok t → Given old new r x
made_adds old new r t x a e = record { grows = a.grows; within = a.within; is = e ∙ ap (λ (z : Tree). Ok z) (sym a.is) }

pub adds_after : (a b c : List Tree) (r : TNodeId) (t u : Tree) → Grows a b → t ≡ u → Adds b c r t → Adds a c r u
adds_after a b c r t u g e m = record { grows = grows_trans g m.grows; within = m.within; is = m.is ∙ e }

pub last_adds : (a b c : List Tree) (r : Result TNodeId AllocError) (t u : Tree) → Grows a b → t ≡ u → IfOk r (λ (id : TNodeId). Adds b c id t)
    → IfOk r (λ (id : TNodeId). Adds a c id u)
last_adds a b c (Ok r) t u g e m = adds_after a b c r t u g e m
last_adds a b c (Err x) t u g e m = tt
