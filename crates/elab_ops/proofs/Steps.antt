-- Two trees and a node over both, in three steps.
use Rattle.std.proofs.Common.{◌≡◌, ◌<◌, ◌∙◌, List, length, Result, Ok, Err, IfOk, OnOk, refl, sym, ap}
use Rattle.std.specs.declared.alloc.AllocError.{AllocError}
use Rattle.elab_conv.specs.cpp_tree.declared.arena.TNodeId.{TNodeId}
use Rattle.elab_conv.specs.cpp_tree.Trees.{Tree}
use Rattle.elab_conv.specs.cpp_tree.Arena.{tree_at, Grows, Adds}
use Rattle.elab_conv.specs.cpp_tree.declared.faults.ElabFault.{ElabFault}
use Rattle.elab_conv.specs.elab_ctx.Ctx.{Ctx, Work}
use Rattle.elab_conv.specs.elab_ctx.Steps.{and_then}
use Rattle.elab_conv.specs.elab_ctx.Says.{Given, Gives}
use Rattle.elab_conv.proofs.elab_ctx.Looks.{grows_trans, at_grown}
use Rattle.elab_conv.proofs.elab_ctx.Making.{gives_same, gives_grown}

pub pair_made : (n0 n1 n2 n3 : List Tree) (b x y r : TNodeId) (f : Tree → Tree → Tree) (g : Tree → Tree) (t : Tree) → b.0 < length n0 → Adds n0 n1 x t
    → Adds n1 n2 y (g (tree_at n1 b)) → Adds n2 n3 r (f (tree_at n2 x) (tree_at n2 y)) → Adds n0 n3 r (f t (g (tree_at n0 b)))
pair_made n0 n1 n2 n3 b x y r f g t h xs ys rs =
    let left : tree_at n2 x ≡ t = at_grown n1 n2 x ys.grows xs.within ∙ xs.is in
    let right : tree_at n2 y ≡ g (tree_at n0 b) = ys.is ∙ ap g (at_grown n0 n1 b xs.grows h) in
    record {
      grows = grows_trans xs.grows (grows_trans ys.grows rs.grows);
      within = rs.within;
      is = rs.is ∙ ap (λ (z : Tree). f z (tree_at n2 y)) left ∙ ap (f t) right;
    }

-- the same where the last step may want memory
pub pair_ok : (n0 n1 n2 n3 : List Tree) (b x y : TNodeId) (r : Result TNodeId AllocError) (f : Tree → Tree → Tree) (g : Tree → Tree) (t : Tree)
    → b.0 < length n0 → Adds n0 n1 x t → Adds n1 n2 y (g (tree_at n1 b)) → IfOk r (λ (id : TNodeId). Adds n2 n3 id (f (tree_at n2 x) (tree_at n2 y)))
    → IfOk r (λ (id : TNodeId). Adds n0 n3 id (f t (g (tree_at n0 b))))
pair_ok n0 n1 n2 n3 b x y (Ok id) f g t h xs ys rs = pair_made n0 n1 n2 n3 b x y id f g t h xs ys rs
pair_ok n0 n1 n2 n3 b x y (Err e) f g t h xs ys rs = tt

-- a node over a tree that stood there and one that is made
pub second_made : (n0 n1 n2 : List Tree) (a y r : TNodeId) (f : Tree → Tree → Tree) (t : Tree) → a.0 < length n0 → Adds n0 n1 y t
    → Adds n1 n2 r (f (tree_at n1 a) (tree_at n1 y)) → Adds n0 n2 r (f (tree_at n0 a) t)
second_made n0 n1 n2 a y r f t h ys rs = record {
  grows = grows_trans ys.grows rs.grows;
  within = rs.within;
  is = rs.is ∙ ap (λ (z : Tree). f z (tree_at n1 y)) (at_grown n0 n1 a ys.grows h) ∙ ap (f (tree_at n0 a)) ys.is;
}

pub second_ok : (n0 n1 n2 : List Tree) (a y : TNodeId) (r : Result TNodeId AllocError) (f : Tree → Tree → Tree) (t : Tree) → a.0 < length n0 → Adds n0 n1 y t
    → IfOk r (λ (id : TNodeId). Adds n1 n2 id (f (tree_at n1 a) (tree_at n1 y))) → IfOk r (λ (id : TNodeId). Adds n0 n2 id (f (tree_at n0 a) t))
second_ok n0 n1 n2 a y (Ok id) f t h ys rs = second_made n0 n1 n2 a y id f t h ys rs
second_ok n0 n1 n2 a y (Err e) f t h ys rs = tt

-- a node over two trees that are made
pub both_made : (n0 n1 n2 n3 : List Tree) (x y r : TNodeId) (f : Tree → Tree → Tree) (t u : Tree) → Adds n0 n1 x t → Adds n1 n2 y u
    → Adds n2 n3 r (f (tree_at n2 x) (tree_at n2 y)) → Adds n0 n3 r (f t u)
both_made n0 n1 n2 n3 x y r f t u xs ys rs =
    let left : tree_at n2 x ≡ t = at_grown n1 n2 x ys.grows xs.within ∙ xs.is in
    record {
      grows = grows_trans xs.grows (grows_trans ys.grows rs.grows);
      within = rs.within;
      is = rs.is ∙ ap (λ (z : Tree). f z (tree_at n2 y)) left ∙ ap (f t) ys.is;
    }

pub both_ok : (n0 n1 n2 n3 : List Tree) (x y : TNodeId) (r : Result TNodeId AllocError) (f : Tree → Tree → Tree) (t u : Tree) → Adds n0 n1 x t → Adds n1 n2 y u
    → IfOk r (λ (id : TNodeId). Adds n2 n3 id (f (tree_at n2 x) (tree_at n2 y))) → IfOk r (λ (id : TNodeId). Adds n0 n3 id (f t u))
both_ok n0 n1 n2 n3 x y (Ok id) f t u xs ys rs = both_made n0 n1 n2 n3 x y id f t u xs ys rs
both_ok n0 n1 n2 n3 x y (Err e) f t u xs ys rs = tt

pub adds_as : (n0 n1 : List Tree) (r : TNodeId) (t u : Tree) → t ≡ u → Adds n0 n1 r t → Adds n0 n1 r u
adds_as n0 n1 r t u e a = record { grows = a.grows; within = a.within; is = a.is ∙ e }

-- rows, one behind the other

pub gives_grows : (old new : List Tree) (r : Result TNodeId ElabFault) (x : Result Tree ElabFault) → Gives old new r x → OnOk r (Grows old new)
gives_grows old new (Ok r) x g = g.grows
gives_grows old new (Err e) x g = tt

pub gives_within : (old new : List Tree) (r : Result TNodeId ElabFault) (x : Result Tree ElabFault) → Gives old new r x
    → IfOk r (λ (id : TNodeId). id.0 < length new)
gives_within old new (Ok r) x g = g.within
gives_within old new (Err e) x g = tt

pub gives_then : (old mid new : List Tree) (id : TNodeId) (r : Result TNodeId ElabFault) (x : Result Tree ElabFault) (f : Tree → Result Tree ElabFault)
    → Given old mid id x → Gives mid new r (f (tree_at mid id)) → Gives old new r (and_then x f)
gives_then old mid new id r x f m g = gives_same old new r _ _ (ap (λ (z : Result Tree ElabFault). and_then z f) m.is) (gives_grown old mid new r _ m.grows g)

pub all_given : (c : Ctx) (old new : List Tree) (r : Result TNodeId ElabFault) (x : Result Tree ElabFault) (y : Work → Result Tree ElabFault)
    → ((w : Work) → y w ≡ x) → Gives old new r x → (w : Work) → Gives old new r (y w)
all_given c old new r x y e g w = gives_same old new r x (y w) (e w) g
