-- What the calls answer.
use Rattle.std.proofs.Common.{◌≡◌, ℕ, zero, suc, ◌+◌, ◌<◌, ◌≤◌, Bool, true, false, List, [], ◌∷◌, ◌++◌, length, drop, get_or, fold}
use Rattle.std.proofs.Common.{add-one, refl, sym, ◌∙◌, ap, subst, arith}
use Rattle.std.proofs.Common.{nat_lt, length-append, Result, Ok, Err, IfOk, slice_get, Some}
use Rattle.std.specs.Prelude.{cond}
use Rattle.std.proofs.Math.Seq.{drop-cons}
use Rattle.std.proofs.lemmas.Bool.{ltb-true, ltb-false}
use Rattle.std.proofs.lemmas.List.{get_or_append_left, get_or_push, get_or_past}
use Rattle.cpp_tree.proofs.Shown.{many_trees}
use Rattle.std.specs.declared.alloc.AllocError.{AllocError}
use Rattle.cpp_tree.specs.cpp_types.Typ.{Typ, typ_of}
use Rattle.cpp_tree.specs.cpp_types.declared.classes.At.{At}
use Rattle.cpp_tree.specs.cpp_types.declared.ranks.Cat.{Cat}
use Rattle.cpp_tree.specs.declared.kinds.TKind.{TKind}
use Rattle.cpp_tree.specs.declared.arena.TNode.{TNode}
use Rattle.cpp_tree.specs.declared.arena.TNodeId.{TNodeId}
use Rattle.cpp_tree.specs.Trees.{Tree, node, Trees, none, more, literal, nowhere, kind_of, typ_in, cat_of}
use Rattle.cpp_tree.specs.Arena.{tree_at, trees_at, tree_of, trees_of, with_node}
use Rattle.tree_forests.specs.Copies.{IsCopied, AreCopied, IsPut, Copying, followed_by, tree_before, trees_before}
use Rattle.tree_forests.proofs.Behind.{over, is_over, size_over, none_copied, one_more}

-- one node

bare : (ts : List Tree) (n : TNode) (k : TKind) (t : Typ) (c : Cat) (a : At) → n.kids.items ≡ [] → n.kind ≡ k → typ_of n.ty ≡ t → n.cat ≡ c → n.at ≡ a
    → tree_of ts n ≡ node k t c a none
bare ts n k t c a kids kind typ cat at = let none_there : trees_at ts n.kids.items ≡ none = ap (trees_at ts) kids in cc

pub literal_of : (old new : List TNode) (n : TNode) (r : Result TNodeId AllocError) → n.kids.items ≡ [] → n.kind ≡ kind_of (literal 0)
    → typ_of n.ty ≡ typ_in (literal 0) → n.cat ≡ cat_of (literal 0) → n.at ≡ nowhere → IfOk r (λ r. IsPut old new n r)
    → IfOk r (λ r. IsCopied old new r (literal 0))
literal_of old new n (Ok r) k kind typ cat at p =
    let a = is_over old old new [] none n r (none_copied old) p in
    let t : tree_of (trees_of old) n ≡ literal 0 = bare (trees_of old) n _ _ _ _ k kind typ cat at in
    record {
      shown = record { grows = a.grows; within = a.within; is = a.is ∙ t };
      forest = over old old new [] none n r (none_copied old) p k;
      size = size_over old old new [] none n r (none_copied old) p;
    }
literal_of old new n (Err e) k kind typ cat at p = tt

pub node_over : (old now new : List TNode) (ids : List TNodeId) (trees : Trees) (n m : TNode) (r : Result TNodeId AllocError) → AreCopied old now ids trees
    → m.kids.items ≡ ids → m.kind ≡ n.kind → typ_of m.ty ≡ typ_of n.ty → m.cat ≡ n.cat → m.at ≡ n.at
    → IfOk r (λ r. IsPut now new m r) → IfOk r (λ r. IsCopied old new r (node n.kind (typ_of n.ty) n.cat n.at trees))
node_over old now new ids trees n m (Ok r) c k kind t cat at p =
    let a = is_over old now new ids trees m r c p in
    let kids : trees_at (trees_of now) m.kids.items ≡ trees = ap (trees_at (trees_of now)) k ∙ c.shown in
    let same : tree_of (trees_of now) m ≡ node n.kind (typ_of n.ty) n.cat n.at trees = cc in
    record {
      shown = record { grows = a.grows; within = a.within; is = a.is ∙ same };
      forest = over old now new ids trees m r c p k;
      size = size_over old now new ids trees m r c p;
    }
node_over old now new ids trees n m (Err e) c k kind t cat at p = tt

-- kid by kid

followed_none : (ts : Trees) → followed_by ts none ≡ ts
followed_none none = refl
followed_none (more t ts) = ap (more t) (followed_none ts)

followed_twice : (ts us vs : Trees) → followed_by (followed_by ts us) vs ≡ followed_by ts (followed_by us vs)
followed_twice none us vs = refl
followed_twice (more t ts) us vs = ap (more t) (followed_twice ts us vs)

drop_step : {A : Type 0} (xs : List A) (i : ℕ) (d : A) → i < length xs → drop i xs ≡ get_or xs i d ∷ drop (i + 1) xs
drop_step xs i d h = rw (add-one i) (drop-cons xs i d h)

drop_past : {A : Type 0} (xs : List A) (i : ℕ) → length xs ≤ i → drop i xs ≡ []
drop_past [] zero h = refl
drop_past [] (suc i) h = refl
drop_past (x ∷ xs) zero h = absurd (omega arith)
drop_past (x ∷ xs) (suc i) h = drop_past xs i (omega arith)

pub copying_first : (old : List TNode) (ids : List TNodeId) (all : Trees) → ids ≡ [] → Copying old old ids all all
copying_first old ids all e = record { trees = none; copied = subst (λ z. AreCopied old old z none) (sym e) (none_copied old); are = refl }

pub copying_one : (old now new : List TNode) (kept next : List TNodeId) (r : TNodeId) (from : List Tree) (place : ℕ) (ids : List TNodeId) (i : ℕ) (d : TNodeId)
    → Copying old now kept (trees_before from place (drop i ids)) (trees_before from place ids) → i < length ids
    → IsCopied now new r (tree_before from place (get_or ids i d)) → next ≡ kept ++ r ∷ []
    → Copying old new next (trees_before from place (drop (i + 1) ids)) (trees_before from place ids)
copying_one old now new kept next r from place ids i d c l p e =
    let t : Tree = tree_before from place (get_or ids i d) in
    let left : trees_before from place (drop i ids) ≡ more t (trees_before from place (drop (i + 1) ids)) =
    ap (trees_before from place) (drop_step ids i d l) in
    record {
      trees = followed_by c.trees (more t none);
      copied = one_more old now new kept next c.trees r t c.copied p e;
      are = followed_twice c.trees (more t none) (trees_before from place (drop (i + 1) ids)) ∙ ap (followed_by c.trees) (sym left) ∙ c.are;
    }

pub copying_all : (old now : List TNode) (kept : List TNodeId) (from : List Tree) (place : ℕ) (ids : List TNodeId) (i : ℕ)
    → Copying old now kept (trees_before from place (drop i ids)) (trees_before from place ids) → length ids ≤ i
    → AreCopied old now kept (trees_before from place ids)
copying_all old now kept from place ids i c l =
    let all : c.trees ≡ trees_before from place ids = sym (followed_none c.trees)
    ∙ ap (λ z. followed_by c.trees (trees_before from place z)) (sym (drop_past ids i l)) ∙ c.are in
    subst (AreCopied old now kept) all c.copied

-- the tree of a node

kept : (ts : List Tree) (ns : List TNode) (i : ℕ) → i < length ts → get_or (fold with_node ts ns) i (literal 0) ≡ get_or ts i (literal 0)
kept ts [] i h = refl
kept ts (n ∷ ns) i h =
    let more_there : i < length (with_node ts n) = simp length-append (omega arith) in
    kept (with_node ts n) ns i more_there ∙ get_or_append_left ts (tree_of ts n ∷ []) (literal 0) i h

-- the kids of a node are among the trees before it
one_before : (all ts : List Tree) (id : TNodeId) (b : Bool) → nat_lt id.0 (length ts) ≡ b
    → ((i : ℕ) → i < length ts → get_or all i (literal 0) ≡ get_or ts i (literal 0)) → cond b (tree_at all id) (literal 0) ≡ tree_at ts id
one_before all ts id true e same = same id.0 (ltb-true id.0 (length ts) e)
one_before all ts id false e same = sym (get_or_past ts id.0 (literal 0) (ltb-false id.0 (length ts) e))

kids_before : (all ts : List Tree) (ids : List TNodeId) → ((i : ℕ) → i < length ts → get_or all i (literal 0) ≡ get_or ts i (literal 0))
    → trees_before all (length ts) ids ≡ trees_at ts ids
kids_before all ts [] same = refl
kids_before all ts (id ∷ ids) same =
    let here : tree_before all (length ts) id ≡ tree_at ts id = one_before all ts id (nat_lt id.0 (length ts)) refl same in
    let there : trees_before all (length ts) ids ≡ trees_at ts ids = kids_before all ts ids same in
    cc

tree_is : (ts : List Tree) (ns : List TNode) (i j : ℕ) (n : TNode) → j ≡ length ts + i → slice_get ns i ≡ Some n
    → get_or (fold with_node ts ns) j (literal 0) ≡ node n.kind (typ_of n.ty) n.cat n.at (trees_before (fold with_node ts ns) j n.kids.items)
tree_is ts [] i j n e h = absurd cc
tree_is ts (m ∷ ns) zero j n e h =
    let all : List Tree = fold with_node (with_node ts m) ns in
    let is : m ≡ n = cc in
    let seam : length ts ≡ j = omega arith in
    let there : j < length (with_node ts m) = simp length-append (omega arith) in
    let found : get_or all j (literal 0) ≡ tree_of ts m = kept (with_node ts m) ns j there ∙ get_or_push ts (tree_of ts m) (literal 0) j seam in
    let agree : (i : ℕ) → i < length ts → get_or all i (literal 0) ≡ get_or ts i (literal 0) = λ i h. (
    let there : i < length (with_node ts m) = simp length-append (omega (arith, h)) in
    kept (with_node ts m) ns i there ∙ get_or_append_left ts (tree_of ts m ∷ []) (literal 0) i h
    ) in
    let kids : trees_before all j n.kids.items ≡ trees_at ts n.kids.items = ap (λ z. trees_before all z n.kids.items) (sym seam)
    ∙ kids_before all ts n.kids.items agree in
    found ∙ ap (λ (z : TNode). tree_of ts z) is ∙ ap (λ (z : Trees). node n.kind (typ_of n.ty) n.cat n.at z) (sym kids)
tree_is ts (m ∷ ns) (suc i) j n e h =
    let one_more : length (with_node ts m) ≡ length ts + 1 = simp length-append (omega arith) in
    tree_is (with_node ts m) ns i j n (omega arith) h

pub tree_of_node : (ns : List TNode) (id : TNodeId) (n : TNode) → slice_get ns id.0 ≡ Some n
    → tree_at (trees_of ns) id ≡ node n.kind (typ_of n.ty) n.cat n.at (trees_before (trees_of ns) id.0 n.kids.items)
unfolding trees_of
tree_of_node ns id n h = tree_is [] ns id.0 id.0 n (omega arith) h

-- every id that is not below the place of the last node has no tree
pub whole : (ns : List TNode) (id : TNodeId) → tree_before (trees_of ns) (length ns) id ≡ tree_at (trees_of ns) id
whole ns id = ap (λ z. tree_before (trees_of ns) z id) (sym (many_trees ns)) ∙ one_before (trees_of ns) (trees_of ns) id _ refl (λ i l. refl)
