-- Trees with which something is made, in several steps.
use Rattle.std.proofs.Common.{◌≡◌, Bool, ℕ, ◌+◌, ◌<◌, ◌≤◌, List, [], ◌∷◌, ◌++◌, length, drop, map, refl, ◌∙◌, ap, subst, get_or, Result, Ok, Err, IfOk}
use Rattle.std.specs.declared.alloc.AllocError.{AllocError}
use Rattle.elab_init.specs.cpp_types.Typ.{Typ}
use Rattle.elab_init.specs.cpp_types.declared.classes.At.{At}
use Rattle.elab_init.specs.cpp_tree.declared.arena.TNodeId.{TNodeId}
use Rattle.elab_init.specs.cpp_tree.Trees.{Tree, Trees, more}
use Rattle.elab_init.specs.cpp_tree.Arena.{tree_at, trees_at, Grows, Adds}
use Rattle.elab_init.specs.elab_ctx.Ctx.{Ctx, Work}
use Rattle.elab_init.specs.elab_ctx.Steps.{Made}
use Rattle.elab_init.specs.elab_ctx.Says.{AddsAll, Puts}
use Rattle.elab_init.proofs.elab_ctx.Looks.{grows_trans, at_grown}
use Rattle.elab_init.specs.elab_rules.Objects.{Part, backwards}
use Rattle.elab_init.specs.elab_rules.Values.{temporary}
use Rattle.elab_init.specs.elab_rules.Initialising.{with_tree, closure_piece, qualified_part, closure_pieces}
use Rattle.elab_init.specs.Parts.{part_of}
use Rattle.elab_init.specs.declared.parts.ObjectPart.{ObjectPart}
use Rattle.elab_init.proofs.Listing.{Adding, adding_one, adding_done, adds_more, trees_grown, drop_step, drop_past}

pub last_puts : (a b c : List Tree) (w : Work) (r : Result TNodeId AllocError) (m k : Made) → Grows a b → m ≡ k → IfOk r (λ (id : TNodeId). Puts b c w id m)
    → IfOk r (λ (id : TNodeId). Puts a c w id k)
last_puts a b c w (Ok r) m k g e p = record {
  grows = grows_trans g p.grows;
  within = p.within;
  is = p.is ∙ ap (λ (z : Made). z.tree) e;
  work_is = p.work_is
      ∙ ap (λ (z : Made). z.work) e;
}
last_puts a b c w (Err x) m k g e p = tt

pub puts_then : (a b c : List Tree) (w : Work) (o : TNodeId) (m : Made) (f : Tree → Tree) (r : Result TNodeId AllocError) → Puts a b w o m
    → IfOk r (λ (id : TNodeId). Adds b c id (f (tree_at b o))) → IfOk r (λ (id : TNodeId). Puts a c w id (with_tree f m))
puts_then a b c w o m f (Ok r) p q = record { grows = grows_trans p.grows q.grows; within = q.within; is = q.is ∙ ap f p.is; work_is = p.work_is }
puts_then a b c w o m f (Err x) p q = tt

pub adds_puts : (a b c : List Tree) (w : Work) (m : Made) (t : Tree) (r : Result TNodeId AllocError) → Grows a b → w ≡ m.work → t ≡ m.tree
    → IfOk r (λ (id : TNodeId). Adds b c id t) → IfOk r (λ (id : TNodeId). Puts a c w id m)
adds_puts a b c w m t (Ok r) g e h q = record { grows = grows_trans g q.grows; within = q.within; is = q.is ∙ h; work_is = e }
adds_puts a b c w m t (Err x) g e h q = tt

pub temporary_same : (w : Work) (t : Typ) (at : At) (a b : Tree) (ds es : Trees) → a ≡ b → ds ≡ es → temporary w t at a ds ≡ temporary w t at b es
temporary_same w t at a b ds es e f = rw (e, f) refl

-- an initialiser and the destructions behind it, made in either order
pub kids_before : (n0 n1 n2 : List Tree) (init : TNodeId) (ends kids : List TNodeId) (t : Tree) (ts : Trees) → kids ≡ init ∷ ends → tree_at n2 init ≡ t
    → AddsAll n0 n1 ends ts → Grows n1 n2 → trees_at n2 kids ≡ more t ts
kids_before n0 n1 n2 init ends kids t ts k e a g = ap (trees_at n2) k ∙ ap (λ z. more z (trees_at n2 ends)) e
    ∙ ap (more t) (trees_grown n1 n2 ends g a.within ∙ a.are)

pub kids_behind : (n1 n2 : List Tree) (init : TNodeId) (ends kids : List TNodeId) (t : Tree) (ts : Trees) → kids ≡ init ∷ ends → init.0 < length n1
    → tree_at n1 init ≡ t → AddsAll n1 n2 ends ts → trees_at n2 kids ≡ more t ts
kids_behind n1 n2 init ends kids t ts k h e a = ap (trees_at n2) k ∙ ap (λ z. more z (trees_at n2 ends)) (at_grown n1 n2 init a.grows h ∙ e) ∙ ap (more t) a.are

pub back_more : (each : Part → Trees) (parts : List ObjectPart) (i : ℕ) (p d : ObjectPart) (old now new : List Tree) (ids others next : List TNodeId)
    → i < length parts → p ≡ get_or parts i d → AddsAll old now ids (backwards each (map part_of (drop (i + 1) parts)))
    → AddsAll now new others (each (part_of p)) → next ≡ ids ++ others → AddsAll old new next (backwards each (map part_of (drop i parts)))
back_more each parts i p d old now new ids others next h e a m n =
    rw (drop_step parts i d h) (adds_more old now new ids others next _ _ a (subst (λ (z : ObjectPart). AddsAll now new others (each (part_of z))) e m) n)

closure_next : (c : Ctx) (at : At) (q v : Bool) (parts : List ObjectPart) (i : ℕ) (p d : ObjectPart) → i < length parts → p ≡ get_or parts i d
    → closure_pieces c at q v (map part_of (drop i parts))
    ≡ more (closure_piece c at (qualified_part q v (part_of p))) (closure_pieces c at q v (map part_of (drop (i + 1) parts)))
closure_next c at q v parts i p d h e = rw (drop_step parts i d h) (rw e refl)

pub closure_added : (c : Ctx) (at : At) (q v : Bool) (parts : List ObjectPart) (i : ℕ) (p d : ObjectPart) (old now new : List Tree) (ids next : List TNodeId)
    (r : TNodeId) → Adding old now ids (closure_pieces c at q v (map part_of (drop i parts))) (closure_pieces c at q v (map part_of parts)) → i < length parts
    → p ≡ get_or parts i d → Adds now new r (closure_piece c at (qualified_part q v (part_of p)))
    → next ≡ ids ++ r ∷ [] → Adding old new next (closure_pieces c at q v (map part_of (drop (i + 1) parts))) (closure_pieces c at q v (map part_of parts))
closure_added c at q v parts i p d old now new ids next r a h e g n =
    adding_one old now new ids next r _ _ _ _ a (closure_next c at q v parts i p d h e) g n

pub closure_done : (c : Ctx) (at : At) (q v : Bool) (parts : List ObjectPart) (i : ℕ) (old now : List Tree) (ids : List TNodeId)
    → Adding old now ids (closure_pieces c at q v (map part_of (drop i parts))) (closure_pieces c at q v (map part_of parts)) → length parts ≤ i
    → AddsAll old now ids (closure_pieces c at q v (map part_of parts))
closure_done c at q v parts i old now ids a h = adding_done old now ids _ _ a (rw (drop_past parts i h) refl)
