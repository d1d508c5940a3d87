-- Steps that make trees, one behind the other.
use Rattle.std.proofs.Common.{◌≡◌, ◌<◌, ◌∙◌, List, length, Result, Ok, Err, IfOk, refl, sym, ap, subst}
use Rattle.std.specs.declared.alloc.AllocError.{AllocError}
use Rattle.elab_make.specs.cpp_tree.declared.arena.TNodeId.{TNodeId}
use Rattle.elab_make.specs.cpp_tree.Trees.{Tree, typ_in}
use Rattle.elab_make.specs.cpp_tree.Arena.{tree_at, Grows, Adds}
use Rattle.elab_make.specs.cpp_tree.declared.faults.ElabFault.{ElabFault}
use Rattle.elab_make.specs.elab_ctx.Ctx.{Ctx, Work}
use Rattle.elab_make.specs.elab_ctx.Steps.{and_then, Made, Operand}
use Rattle.elab_make.specs.elab_ctx.Says.{Given, Gives, MadeAt, Makes}
use Rattle.elab_make.proofs.elab_ctx.Looks.{grows_trans, at_grown, within_grown}
use Rattle.elab_make.proofs.elab_ctx.Making.{faults_in, faults_same}
use Rattle.elab_make.specs.elab_rules.Initialising.{with_tree}
use Rattle.elab_make.specs.elab_rules.Operators.{branches}
use Rattle.elab_make.specs.cpp_types.declared.classes.At.{At}
use Rattle.elab_make.specs.cpp_types.Typ.{Typ}
use Rattle.elab_make.specs.elab_ctx.Operands.{operand_in}
use Rattle.elab_make.specs.elab_ctx.declared.operand.Operand.{Operand as OperandRec}

-- a node over a tree that stood there and two that are made
pub three_made : (n0 n1 n2 n3 : List Tree) (s b x y r : TNodeId) (f : Tree → Tree → Tree → Tree) (g : Tree → Tree) (t : Tree) → s.0 < length n0
    → b.0 < length n0 → Adds n0 n1 x t → Adds n1 n2 y (g (tree_at n1 b)) → Adds n2 n3 r (f (tree_at n2 s) (tree_at n2 x) (tree_at n2 y))
    → Adds n0 n3 r (f (tree_at n0 s) t (g (tree_at n0 b)))
three_made n0 n1 n2 n3 s b x y r f g t k h xs ys rs =
    let test : tree_at n2 s ≡ tree_at n0 s = at_grown n1 n2 s ys.grows (within_grown n0 n1 s xs.grows k) ∙ at_grown n0 n1 s xs.grows k in
    let left : tree_at n2 x ≡ t = at_grown n1 n2 x ys.grows xs.within ∙ xs.is in
    let right : tree_at n2 y ≡ g (tree_at n0 b) = ys.is ∙ ap g (at_grown n0 n1 b xs.grows h) in
    record {
      grows = grows_trans xs.grows (grows_trans ys.grows rs.grows);
      within = rs.within;
      is = rs.is ∙ ap (λ (z : Tree). f z (tree_at n2 x) (tree_at n2 y)) test ∙ ap (λ (z : Tree). f (tree_at n0 s) z (tree_at n2 y)) left
          ∙ ap (f (tree_at n0 s) t) right;
    }

pub three_ok : (n0 n1 n2 n3 : List Tree) (s b x y : TNodeId) (r : Result TNodeId AllocError) (f : Tree → Tree → Tree → Tree) (g : Tree → Tree) (t : Tree)
    → s.0 < length n0 → b.0 < length n0 → Adds n0 n1 x t → Adds n1 n2 y (g (tree_at n1 b))
    → IfOk r (λ (id : TNodeId). Adds n2 n3 id (f (tree_at n2 s) (tree_at n2 x) (tree_at n2 y)))
    → IfOk r (λ (id : TNodeId). Adds n0 n3 id (f (tree_at n0 s) t (g (tree_at n0 b))))
three_ok n0 n1 n2 n3 s b x y (Ok id) f g t k h xs ys rs = three_made n0 n1 n2 n3 s b x y id f g t k h xs ys rs
three_ok n0 n1 n2 n3 s b x y (Err e) f g t k h xs ys rs = tt

-- the same with a type that is known by an equation
pub three_of : (n0 n1 n2 n3 : List Tree) (s b x y : TNodeId) (r : Result TNodeId AllocError) (u v : Typ) (f : Typ → Tree → Tree → Tree → Tree) (g : Tree → Tree)
    (t : Tree) → u ≡ v → s.0 < length n0 → b.0 < length n0 → Adds n0 n1 x t → Adds n1 n2 y (g (tree_at n1 b))
    → IfOk r (λ (id : TNodeId). Adds n2 n3 id (f u (tree_at n2 s) (tree_at n2 x) (tree_at n2 y)))
    → IfOk r (λ (id : TNodeId). Adds n0 n3 id (f v (tree_at n0 s) t (g (tree_at n0 b))))
three_of n0 n1 n2 n3 s b x y r u v f g t e k h xs ys rs =
    subst (λ (z : Typ). IfOk r (λ (id : TNodeId). Adds n0 n3 id (f z (tree_at n0 s) t (g (tree_at n0 b))))) e
    (three_ok n0 n1 n2 n3 s b x y r (f u) g t k h xs ys rs)

-- what follows a tree that was made with something

pub then_adds : (old mid new : List Tree) (work : Work) (id r : TNodeId) (x : Result Made ElabFault) (f : Tree → Tree) → MadeAt old mid work id x
    → Adds mid new r (f (tree_at mid id)) → MadeAt old new work r (and_then x (λ (m : Made). Ok (with_tree f m)))
then_adds old mid new work id r x f m a = record {
  grows = grows_trans m.grows a.grows;
  within = a.within;
  is = ap (λ (z : Result Made ElabFault). and_then z (λ (m : Made). Ok (with_tree f m))) m.is
      ∙ ap (λ (z : Tree). Ok (record { tree = z; work = work })) (sym a.is);
}

pub then_gives : (old mid new : List Tree) (work : Work) (id : TNodeId) (r : Result TNodeId ElabFault) (x : Result Made ElabFault)
    (f : Tree → Result Tree ElabFault) → MadeAt old mid work id x → Gives mid new r (f (tree_at mid id))
    → Makes old new work r (and_then x (λ (m : Made). and_then (f m.tree) (λ (t : Tree). Ok (record { tree = t; work = m.work }))))
then_gives old mid new work id (Ok r) x f m g = record {
  grows = grows_trans m.grows g.grows;
  within = g.within;
  is = ap (λ (z : Result Made ElabFault). and_then z (λ (m : Made). and_then (f m.tree) (λ (t : Tree). Ok (record { tree = t; work = m.work })))) m.is
      ∙ ap (λ (z : Result Tree ElabFault). and_then z (λ (t : Tree). Ok (record { tree = t; work = work }))) g.is;
}
then_gives old mid new work id (Err e) x f m g =
    faults_same e _ _ (ap (λ (z : Result Made ElabFault). and_then z
    (λ (m : Made). and_then (f m.tree) (λ (t : Tree). Ok (record { tree = t; work = m.work })))) m.is)
    (faults_in (λ (z : Result Tree ElabFault). and_then z (λ (t : Tree). Ok (record { tree = t; work = work }))) e (f (tree_at mid id)) (λ d. refl) g)

-- a tree that needs nothing beside it, where more is to be answered
pub gives_made : (old new : List Tree) (work : Work) (r : Result TNodeId ElabFault) (x : Result Tree ElabFault) → Gives old new r x
    → Makes old new work r (and_then x (λ (t : Tree). Ok (record { tree = t; work = work })))
gives_made old new work (Ok r) x g = record {
  grows = g.grows;
  within = g.within;
  is = ap
      (λ (z : Result Tree ElabFault). and_then z (λ (t : Tree). Ok (record { tree = t; work = work }))) g.is;
}
gives_made old new work (Err e) x g = faults_in (λ (z : Result Tree ElabFault). and_then z (λ (t : Tree). Ok (record { tree = t; work = work }))) e x
    (λ d. refl) g

pub makes_grown : (old mid new : List Tree) (work : Work) (r : Result TNodeId ElabFault) (x : Result Made ElabFault) → Grows old mid → Makes mid new work r x
    → Makes old new work r x
makes_grown old mid new work (Ok r) x g m = record { grows = grows_trans g m.grows; within = m.within; is = m.is }
makes_grown old mid new work (Err e) x g m = m

pub makes_same : (old new : List Tree) (work : Work) (r : Result TNodeId ElabFault) (x y : Result Made ElabFault) → y ≡ x → Makes old new work r x
    → Makes old new work r y
makes_same old new work r x y e m = subst (λ (z : Result Made ElabFault). Makes old new work r z) (sym e) m

pub given_then_makes : (old mid new : List Tree) (work : Work) (id : TNodeId) (r : Result TNodeId ElabFault) (x : Result Tree ElabFault)
    (f g : Tree → Result Made ElabFault) → Given old mid id x → f (tree_at mid id) ≡ g (tree_at mid id) → Makes mid new work r (g (tree_at mid id))
    → Makes old new work r (and_then x f)
given_then_makes old mid new work id r x f g m e h = makes_same old new work r _ _ (ap (λ (z : Result Tree ElabFault). and_then z f) m.is ∙ e)
    (makes_grown old mid new work r _ m.grows h)

pub at_operand : (old mid : List Tree) (o : OperandRec) → Grows old mid → o.id.0 < length old → operand_in mid o ≡ operand_in old o
at_operand old mid o g h = ap (λ (t : Tree). record { tree = t; at = o.at; zero = o.zero }) (at_grown old mid o.id g h)

pub same_branches : (c : Ctx) (w : Work) (at : At) (t : Tree) (a b d e : Operand) → a ≡ d → b ≡ e → branches c w at t a b ≡ branches c w at t d e
same_branches c w at t a b d e p q = ap (λ (z : Operand). branches c w at t z b) p ∙ ap (λ (z : Operand). branches c w at t d z) q

-- a tree that is made where no fault was possible, and what is answered of it
pub adds_then_makes : (old mid new : List Tree) (work : Work) (id : TNodeId) (t : Tree) (r : Result TNodeId ElabFault) (f : Tree → Result Made ElabFault)
    → Adds old mid id t → Makes mid new work r (f (tree_at mid id)) → Makes old new work r (f t)
adds_then_makes old mid new work id t r f a m = makes_same old new work r _ _ (ap f (sym a.is)) (makes_grown old mid new work r _ a.grows m)

-- a node over two trees that stood there and one that is made, with the type of the first
pub third_ok : (n0 n1 n2 : List Tree) (a b y : TNodeId) (r : Result TNodeId AllocError) (u : Typ) (f : Typ → Tree → Tree → Tree → Tree) (t : Tree)
    → a.0 < length n0 → b.0 < length n0 → Adds n0 n1 y t → u ≡ typ_in (tree_at n1 a)
    → IfOk r (λ (id : TNodeId). Adds n1 n2 id (f u (tree_at n1 a) (tree_at n1 b) (tree_at n1 y)))
    → IfOk r (λ (id : TNodeId). Adds n0 n2 id (f (typ_in (tree_at n0 a)) (tree_at n0 a) (tree_at n0 b) t))
third_ok n0 n1 n2 a b y (Ok id) u f t h k ys e rs =
    let first : tree_at n1 a ≡ tree_at n0 a = at_grown n0 n1 a ys.grows h in
    record {
      grows = grows_trans ys.grows rs.grows;
      within = rs.within;
      is = rs.is ∙ ap (λ (z : Typ). f z (tree_at n1 a) (tree_at n1 b) (tree_at n1 y)) e ∙ ap (λ (z : Tree). f (typ_in z) z (tree_at n1 b) (tree_at n1 y)) first
          ∙ ap (λ (z : Tree). f (typ_in (tree_at n0 a)) (tree_at n0 a) z (tree_at n1 y)) (at_grown n0 n1 b ys.grows k)
          ∙ ap (f (typ_in (tree_at n0 a)) (tree_at n0 a) (tree_at n0 b)) ys.is;
    }
third_ok n0 n1 n2 a b y (Err x) u f t h k ys e rs = tt
