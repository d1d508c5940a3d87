-- Objects of classes from one value or more.
use Rattle.std.proofs.Common.{◌≡◌, ℕ, false, List, [], ◌∷◌, drop, Ok, Result, Option, refl, sym, ◌∙◌, ap, subst, if◌then◌else◌}
use Rattle.elab_init.specs.cpp_types.Typ.{Typ}
use Rattle.elab_init.specs.cpp_types.declared.classes.At.{At}
use Rattle.elab_init.specs.cpp_overload.Overload.{Candidate}
use Rattle.elab_init.specs.cpp_overload.Choosing.{chosen}
use Rattle.elab_init.specs.cpp_tree.declared.faults.ElabFault.{ElabFault}
use Rattle.elab_init.specs.cpp_tree.declared.arena.TNodeId.{TNodeId}
use Rattle.elab_init.specs.cpp_tree.Trees.{Tree}
use Rattle.elab_init.specs.cpp_tree.Arena.{tree_at}
use Rattle.elab_init.specs.elab_ctx.Ctx.{Ctx, Work}
use Rattle.elab_init.specs.elab_ctx.Steps.{and_then, Operand, Made}
use Rattle.elab_init.specs.elab_ctx.Operands.{operands_in}
use Rattle.elab_init.specs.elab_ctx.declared.operand.Operand.{Operand as OperandRec}
use Rattle.elab_init.specs.elab_ctx.Says.{Faults, Makes}
use Rattle.elab_init.proofs.elab_ctx.Making.{faults_in, faults_same}
use Rattle.elab_init.specs.elab_rules.Initialising.{makeable, makers, meant, arguments, building, is_prvalue_itself, constructor_at, constructed_by}
use Rattle.elab_init.specs.elab_rules.Initialising.{constructed}

-- what is made where no value is the object itself
abbrev chosen_maker : Ctx → Work → ℕ → Typ → At → List Operand → Result Made ElabFault
chosen_maker c w n t at os = and_then (meant at (chosen c.classes (makers c n) (arguments os))) (λ i. constructed_by c w n t at os (constructor_at c n i))

abbrev made_of : Ctx → Work → ℕ → Typ → At → Tree → List Operand → Result Made ElabFault
made_of c w n t at e os = if is_prvalue_itself n os then Ok (record { tree = building c.classes t e; work = w }) else chosen_maker c w n t at os

constructed_is : (c : Ctx) (w : Work) (n : ℕ) (t : Typ) (at : At) (trees : List Tree) (first : OperandRec) (os : List OperandRec) → os ≡ first ∷ drop 1 os
    → constructed c w n t at (operands_in trees os) ≡ and_then (makeable c at n) (λ k. made_of c w n t at (tree_at trees first.id) (operands_in trees os))
constructed_is c w n t at trees first [] h = absurd cc
constructed_is c w n t at trees first (o ∷ os) h = let e : o ≡ first = cc in rw (sym e) refl

pub not_makeable : (c : Ctx) (w : Work) (n : ℕ) (t : Typ) (at : At) (trees : List Tree) (first : OperandRec) (os : List OperandRec) (x : ElabFault)
    → os ≡ first ∷ drop 1 os → Faults x (makeable c at n) → Faults x (constructed c w n t at (operands_in trees os))
not_makeable c w n t at trees first os x h m = faults_same x _ _ (constructed_is c w n t at trees first os h)
    (faults_in (λ (z : Result ℕ ElabFault). and_then z (λ k. made_of c w n t at (tree_at trees first.id) (operands_in trees os))) x _ (λ d. refl) m)

by_maker : (c : Ctx) (w : Work) (n : ℕ) (t : Typ) (at : At) (trees : List Tree) (first : OperandRec) (os : List OperandRec) (k : ℕ) → os ≡ first ∷ drop 1 os
    → makeable c at n ≡ Ok k → is_prvalue_itself n (operands_in trees os) ≡ false
    → constructed c w n t at (operands_in trees os) ≡ chosen_maker c w n t at (operands_in trees os)
by_maker c w n t at trees first os k h m p = constructed_is c w n t at trees first os h ∙ rw (m, p) refl

pub not_meant : (c : Ctx) (w : Work) (n : ℕ) (t : Typ) (at : At) (trees : List Tree) (first : OperandRec) (os : List OperandRec) (k : ℕ) (cs : List Candidate)
    (x : ElabFault) → os ≡ first ∷ drop 1 os → makeable c at n ≡ Ok k → is_prvalue_itself n (operands_in trees os) ≡ false → cs ≡ makers c n
    → Faults x (meant at (chosen c.classes cs (arguments (operands_in trees os)))) → Faults x (constructed c w n t at (operands_in trees os))
not_meant c w n t at trees first os k cs x h m p e f =
    faults_same x _ _ (by_maker c w n t at trees first os k h m p)
    (faults_in (λ (z : Result ℕ ElabFault). and_then z (λ i. constructed_by c w n t at (operands_in trees os) (constructor_at c n i))) x _ (λ d. refl)
    (subst (λ (z : List Candidate). Faults x (meant at (chosen c.classes z (arguments (operands_in trees os))))) e f))

pub made_by_maker : (c : Ctx) (w : Work) (n : ℕ) (t : Typ) (at : At) (trees : List Tree) (first : OperandRec) (os : List OperandRec) (k : ℕ)
    (cs : List Candidate) (i : ℕ) (maker : Option ℕ) (old new : List Tree) (v : Work) (r : Result TNodeId ElabFault) → os ≡ first ∷ drop 1 os
    → makeable c at n ≡ Ok k → is_prvalue_itself n (operands_in trees os) ≡ false → cs ≡ makers c n
    → meant at (chosen c.classes cs (arguments (operands_in trees os))) ≡ Ok i → maker ≡ constructor_at c n i
    → Makes old new v r (constructed_by c w n t at (operands_in trees os) maker) → Makes old new v r (constructed c w n t at (operands_in trees os))
made_by_maker c w n t at trees first os k cs i maker old new v r h m p e f g s =
    let found : meant at (chosen c.classes (makers c n) (arguments (operands_in trees os))) ≡ Ok i =
    ap (λ (z : List Candidate). meant at (chosen c.classes z (arguments (operands_in trees os)))) (sym e) ∙ f in
    let is : constructed c w n t at (operands_in trees os) ≡ constructed_by c w n t at (operands_in trees os) maker = by_maker c w n t at trees first os k h m p
    ∙ rw (found, g) refl in
    subst (λ (z : Result Made ElabFault). Makes old new v r z) (sym is) s
