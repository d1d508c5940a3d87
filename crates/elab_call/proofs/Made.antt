-- Calls, made in several steps.
use Rattle.std.proofs.Common.{◌≡◌, ◌<◌, Bool, List, ◌∷◌, length, Result, Ok, Err, refl, sym, ap, ◌∙◌, subst}
use Rattle.cpp_types.specs.Typ.{Typ, Typs, Signature, signature}
use Rattle.cpp_types.specs.declared.classes.At.{At}
use Rattle.elab_make.specs.cpp_tree.declared.faults.ElabFault.{ElabFault}
use Rattle.elab_make.specs.cpp_tree.declared.kinds.TKind.{TKind}
use Rattle.elab_make.specs.cpp_tree.declared.arena.TNodeId.{TNodeId}
use Rattle.elab_make.specs.cpp_tree.Trees.{Tree, Trees, more, one}
use Rattle.elab_make.specs.cpp_tree.Arena.{tree_at, trees_at, Grows, Adds}
use Rattle.elab_make.specs.elab_ctx.Ctx.{Ctx, Work}
use Rattle.elab_make.specs.elab_ctx.Steps.{Operand, Made, and_then}
use Rattle.elab_make.specs.elab_ctx.Says.{Faults, Gives, MadeAt, Makes, AllMade}
use Rattle.elab_make.proofs.elab_ctx.Looks.{grows_trans, at_grown}
use Rattle.elab_make.proofs.elab_ctx.Making.{faults_in}
use Rattle.elab_make.specs.elab_rules.Initialising.{words}
use Rattle.elab_make.specs.elab_rules.Objects.{followed_by}
use Rattle.elab_make.specs.elab_rules.Calls.{complete_result, call_node, called}

pub called_made : (c : Ctx) (w : Work) (at : At) (kind : TKind) (sig : Signature) (ps : Typs) (ret : Typ) (safe b : Bool) (object : Trees) (os : List Operand)
    (n0 n1 n2 : List Tree) (w1 : Work) (ids all : List TNodeId) (r : TNodeId) → sig ≡ signature ps ret safe → complete_result c at ret ≡ Ok b
    → AllMade n0 n1 w1 ids (words c w ps os) → trees_at n1 all ≡ followed_by object (trees_at n1 ids) → Adds n1 n2 r (call_node at kind ret (trees_at n1 all))
    → MadeAt n0 n2 w1 r (called c w at kind sig object os)
called_made c w at kind sig ps ret safe b object os n0 n1 n2 w1 ids all r e h m t a = record {
  grows = grows_trans m.grows a.grows;
  within = a.within;
  is = rw e (rw (h, m.is, a.is, t) refl);
}

pub behind_is : (old new : List Tree) (object : TNodeId) (ids all : List TNodeId) → Grows old new → object.0 < length old → all ≡ object ∷ ids
    → trees_at new all ≡ followed_by (one (tree_at old object)) (trees_at new ids)
behind_is old new object ids all g h e = ap (trees_at new) e ∙ ap (λ (z : Tree). more z (trees_at new ids)) (at_grown old new object g h)

-- a tree of which more follows that makes nothing
pub makes_grown : (a b c : List Tree) (w : Work) (r : Result TNodeId ElabFault) (x y : Result Made ElabFault) → Grows a b → y ≡ x → Makes b c w r x
    → Makes a c w r y
makes_grown a b c w (Ok r) x y g e m = record { grows = grows_trans g m.grows; within = m.within; is = e ∙ m.is }
makes_grown a b c w (Err f) x y g e m = subst (λ (z : Result Made ElabFault). Faults f z) (sym e) m

-- a node, and what was made before it
pub makes_with : (a b : List Tree) (w : Work) (r : Result TNodeId ElabFault) (x : Result Tree ElabFault) → Gives a b r x
    → Makes a b w r (and_then x (λ (t : Tree). Ok (record { tree = t; work = w })))
makes_with a b w (Ok r) x g = record {
  grows = g.grows;
  within = g.within;
  is = ap
      (λ (z : Result Tree ElabFault). and_then z (λ (t : Tree). Ok (record { tree = t; work = w }))) g.is;
}
makes_with a b w (Err e) x g = faults_in (λ (z : Result Tree ElabFault). and_then z (λ (t : Tree). Ok (record { tree = t; work = w }))) e x (λ d. refl) g
