-- What a list of typed nodes shows, as it grows: the node of a tree, and trees that stay.
use Rattle.std.proofs.Common.{◌≡◌, ℕ, zero, suc, ◌+◌, ◌<◌, true, nat_lt, lt-ltb, List, [], ◌∷◌, ◌++◌, length, Some, refl, sym, ◌∙◌, subst, ap, arith}
use Rattle.std.proofs.Common.{append_assoc, slice_get, append-nil, length-append, get_or, fold}
use Rattle.std.proofs.lemmas.List.{get_or_append_left, get_or_push}
use Rattle.std.proofs.lemmas.Option.{slice_get-get_or}
use Rattle.std.proofs.lemmas.Bool.{and_parts, ltb-true}
use Rattle.cpp_tree.specs.cpp_types.Typ.{typ_of}
use Rattle.cpp_tree.specs.declared.arena.TNodeId.{TNodeId}
use Rattle.cpp_tree.specs.declared.arena.TNode.{TNode}
use Rattle.cpp_tree.specs.Trees.{Tree, node, kind_of, typ_in, cat_of, kids_of, literal}
use Rattle.cpp_tree.specs.Arena.{tree_at, trees_at, with_node, are_below, Grows}
use Rattle.elab_ctx.specs.Says.{place_in, are_within}

-- what a tree has of its node
pub record Looks (t : Tree) (n : TNode) : Type 0 where
  pub kind : kind_of t ≡ n.kind
  pub typ : typ_in t ≡ typ_of n.ty
  pub cat : cat_of t ≡ n.cat
  pub place : place_in t ≡ n.at

kept : (ts : List Tree) (ns : List TNode) (i : ℕ) → i < length ts → get_or (fold with_node ts ns) i (literal 0) ≡ get_or ts i (literal 0)
kept ts [] i h = refl
kept ts (n ∷ ns) i h =
    let more_there : i < length (with_node ts n) = simp length-append (omega arith) in
    kept (with_node ts n) ns i more_there ∙ get_or_append_left ts (node n.kind (typ_of n.ty) n.cat n.at (trees_at ts n.kids.items) ∷ []) (literal 0) i h

pub length_shown : (ts : List Tree) (ns : List TNode) → length (fold with_node ts ns) ≡ length ts + length ns
length_shown ts [] = omega arith
length_shown ts (n ∷ ns) =
    let one_more : length (with_node ts n) ≡ length ts + 1 = simp length-append (omega arith) in
    let all : length (fold with_node (with_node ts n) ns) ≡ length (with_node ts n) + length ns = length_shown (with_node ts n) ns in
    omega arith

looks_at : (ts : List Tree) (ns : List TNode) (i j : ℕ) (n : TNode) → j ≡ length ts + i → slice_get ns i ≡ Some n
    → Looks (get_or (fold with_node ts ns) j (literal 0)) n
looks_at ts [] i j n e h = absurd cc
looks_at ts (m ∷ ns) zero j n e h =
    let t : Tree = node m.kind (typ_of m.ty) m.cat m.at (trees_at ts m.kids.items) in
    let there : j < length (with_node ts m) = simp length-append (omega arith) in
    let same : get_or (fold with_node (with_node ts m) ns) j (literal 0) ≡ t = kept (with_node ts m) ns j there
    ∙ get_or_push ts t (literal 0) j (omega arith) in
    let is : m ≡ n = cc in
    subst (λ (z : Tree). Looks z n) (sym same) (subst (λ (z : TNode). Looks t z) is (record { kind = refl; typ = refl; cat = refl; place = refl }))
looks_at ts (m ∷ ns) (suc i) j n e h =
    let one_more : length (with_node ts m) ≡ length ts + 1 = simp length-append (omega arith) in
    looks_at (with_node ts m) ns i j n (omega arith) h

pub looks : (ns : List TNode) (id : TNodeId) (n : TNode) → slice_get ns id.0 ≡ Some n → Looks (tree_at (fold with_node [] ns) id) n
looks ns id n h = looks_at [] ns id.0 id.0 n (omega arith) h

-- Growth

pub grows_refl : (ts : List Tree) → Grows ts ts
grows_refl ts = record { extra = []; appended = sym (append-nil ts) }

pub grows_trans : {a b c : List Tree} → Grows a b → Grows b c → Grows a c
grows_trans {a} x y = record {
  extra = x.extra ++ y.extra;
  appended = y.appended ∙ ap (λ (z : List Tree). z ++ y.extra) x.appended
      ∙ append_assoc a x.extra y.extra;
}

pub within_grown : (old new : List Tree) (id : TNodeId) → Grows old new → id.0 < length old → id.0 < length new
within_grown old new id g h = rw g.appended (simp length-append (omega arith))

pub at_grown : (old new : List Tree) (id : TNodeId) → Grows old new → id.0 < length old → tree_at new id ≡ tree_at old id
at_grown old new id g h = ap (λ (z : List Tree). tree_at z id) g.appended ∙ get_or_append_left old g.extra (literal 0) id.0 h

-- The forms that the code meets

pub looks_index : (ns : List TNode) (id : TNodeId) (n : TNode) → id.0 < length (fold with_node [] ns) → n ≡ get_or ns id.0 n
    → Looks (tree_at (fold with_node [] ns) id) n
looks_index ns id n h e =
    let len : length (fold with_node [] ns) ≡ 0 + length ns = length_shown [] ns in
    looks ns id n (slice_get-get_or ns id.0 n (omega arith) ∙ ap Some (sym e))

-- Kids

trees_kept : (ts : List Tree) (ns : List TNode) (ids : List TNodeId) → are_below (length ts) ids ≡ true → trees_at (fold with_node ts ns) ids ≡ trees_at ts ids
trees_kept ts ns [] h = refl
trees_kept ts ns (id ∷ ids) h =
    let p = and_parts (nat_lt id.0 (length ts)) (are_below (length ts) ids) h in
    let first : tree_at (fold with_node ts ns) id ≡ tree_at ts id = kept ts ns id.0 (ltb-true id.0 (length ts) p.0) in
    let others : trees_at (fold with_node ts ns) ids ≡ trees_at ts ids = trees_kept ts ns ids p.1 in
    rw (first, others) refl

kids_from : (ts : List Tree) (ns : List TNode) (i j : ℕ) (n : TNode) → j ≡ length ts + i → slice_get ns i ≡ Some n → are_below j n.kids.items ≡ true
    → kids_of (get_or (fold with_node ts ns) j (literal 0)) ≡ trees_at (fold with_node ts ns) n.kids.items
kids_from ts [] i j n e h b = absurd cc
kids_from ts (m ∷ ns) zero j n e h b =
    let t : Tree = node m.kind (typ_of m.ty) m.cat m.at (trees_at ts m.kids.items) in
    let there : j < length (with_node ts m) = simp length-append (omega arith) in
    let same : get_or (fold with_node (with_node ts m) ns) j (literal 0) ≡ t = kept (with_node ts m) ns j there
    ∙ get_or_push ts t (literal 0) j (omega arith) in
    let is : m ≡ n = cc in
    let place : j ≡ length ts = omega arith in
    let low : are_below (length ts) n.kids.items ≡ true = subst (λ (z : ℕ). are_below z n.kids.items ≡ true) place b in
    ap kids_of same ∙ ap (λ (z : TNode). trees_at ts z.kids.items) is ∙ sym (trees_kept ts (m ∷ ns) n.kids.items low)
kids_from ts (m ∷ ns) (suc i) j n e h b =
    let one_more : length (with_node ts m) ≡ length ts + 1 = simp length-append (omega arith) in
    kids_from (with_node ts m) ns i j n (omega arith) h b

-- the kids of a node that stand before it
pub kids_look : (ns : List TNode) (id : TNodeId) (n : TNode) → id.0 < length (fold with_node [] ns) → n ≡ get_or ns id.0 n → are_below id.0 n.kids.items ≡ true
    → kids_of (tree_at (fold with_node [] ns) id) ≡ trees_at (fold with_node [] ns) n.kids.items
kids_look ns id n h e b =
    let len : length (fold with_node [] ns) ≡ 0 + length ns = length_shown [] ns in
    kids_from [] ns id.0 id.0 n (omega arith) (slice_get-get_or ns id.0 n (omega arith) ∙ ap Some (sym e)) b

wider : (m n : ℕ) (ids : List TNodeId) → m < n → are_below m ids ≡ true → are_within n ids ≡ true
wider m n [] h b = refl
wider m n (id ∷ ids) h b =
    let p = and_parts (nat_lt id.0 m) (are_below m ids) b in
    let low : id.0 < m = ltb-true id.0 m p.0 in
    let first : nat_lt id.0 n ≡ true = lt-ltb id.0 n (omega arith) in
    let others : are_within n ids ≡ true = wider m n ids h p.1 in
    rw (first, others) refl

pub within_wider : (m n : ℕ) (ids : List TNodeId) → m < n → are_below m ids ≡ true → are_within n ids ≡ true
within_wider m n ids h b = wider m n ids h b
