-- What a list of nodes shows, and that it stays shown when nodes are added.
use Rattle.std.proofs.Common.{◌≡◌, ℕ, zero, suc, ◌+◌, ◌<◌, ◌≤◌, List, [], ◌∷◌, ◌++◌, length, Some, refl, sym, ◌∙◌, subst, ap, arith, append_assoc, slice_get}
use Rattle.std.proofs.Common.{append-nil, length-append, get_or, take, true, nat_lt, fold}
use Rattle.std.specs.Prelude.{false}
use Rattle.std.proofs.lemmas.Bool.{and_parts, ltb-true, ltb-false}
use Rattle.std.proofs.lemmas.Option.{slice_get_within, slice_get-get_or, get_or_from_slice_get}
use Rattle.std.proofs.lemmas.List.{get_or_append_left, get_or_push}
use Rattle.std.proofs.lemmas.List.Sums.{fold-append, sum_by-append}
use Rattle.std.proofs.Math.Seq.{take-append_seam}
use Rattle.cpp_layout.specs.cpp_types.Typ.{Typ, typ_of}
use Rattle.cpp_layout.specs.cpp_types.declared.classes.At.{At}
use Rattle.cpp_layout.specs.cpp_types.declared.ranks.Cat.{Cat}
use Rattle.cpp_tree.specs.declared.kinds.TKind.{TKind}
use Rattle.cpp_tree.specs.declared.arena.TNodeId.{TNodeId}
use Rattle.cpp_tree.specs.declared.arena.TNode.{TNode}
use Rattle.cpp_tree.specs.Trees.{Tree, node, Trees, none, more, literal}
use Rattle.cpp_tree.specs.Arena.{are_below, IsOrdered, IsForest, times_in, times_a_kid, tree_at, trees_at, tree_of, with_node, trees_of, Grows, Adds, NodeAt}
use Rattle.cpp_tree.specs.Arena.{Shows, ShowsAll, Extends}

get_grow : (ns extra : List TNode) (id : ℕ) (n : TNode) → slice_get ns id ≡ Some n → slice_get (ns ++ extra) id ≡ Some n
get_grow ns extra id n h =
    let w : id < length ns = slice_get_within ns id n h in
    let v : id < length (ns ++ extra) = simp length-append (omega arith) in
    let e : slice_get (ns ++ extra) id ≡ Some (get_or (ns ++ extra) id n) = slice_get-get_or (ns ++ extra) id n v in
    let f : get_or (ns ++ extra) id n ≡ get_or ns id n = get_or_append_left ns extra n id w in
    let g : get_or ns id n ≡ n = get_or_from_slice_get ns id n n h in
    cc

get_last : (ns : List TNode) (n : TNode) → slice_get (ns ++ (n ∷ [])) (length ns) ≡ Some n
get_last ns n =
    let v : length ns < length (ns ++ (n ∷ [])) = simp length-append (omega arith) in
    let e : slice_get (ns ++ (n ∷ [])) (length ns) ≡ Some (get_or (ns ++ (n ∷ [])) (length ns) n) = slice_get-get_or (ns ++ (n ∷ [])) (length ns) n v in
    let f : get_or (ns ++ (n ∷ [])) (length ns) n ≡ n = get_or_push ns n n (length ns) refl in
    cc

-- Growth

abbrev stands_more : (ns extra : List TNode) (id : ℕ) (kind : TKind) (t : Typ) (cat : Cat) (place : At) → NodeAt ns id kind t cat place
    → NodeAt (ns ++ extra) id kind t cat place
stands_more ns extra id kind t cat place s = record {
  found = s.found;
  stands = get_grow ns extra id s.found s.stands;
  kind_is = s.kind_is;
  typ_is = s.typ_is;
  cat_is = s.cat_is;
  at_is = s.at_is;
}

mutual
  shows_more : (ns extra : List TNode) (id : ℕ) (t : Tree) → Shows ns id t → Shows (ns ++ extra) id t
  shows_more ns extra id (node kind t cat place kids) s =
      (stands_more ns extra id kind t cat place s.0, shows_all_more ns extra (s.0).found.kids.items kids s.1)

  shows_all_more : (ns extra : List TNode) (ids : List TNodeId) (ts : Trees) → ShowsAll ns ids ts → ShowsAll (ns ++ extra) ids ts
  shows_all_more ns extra ids none s = s
  shows_all_more ns extra ids (more t ts) s =
      (s.0, s.1, s.2, shows_more ns extra (s.0).0 t s.3, shows_all_more ns extra s.1 ts s.4)

pub shows_grow : (old new : List TNode) (id : ℕ) (t : Tree) → Extends old new → Shows old id t → Shows new id t
shows_grow old new id t x s = subst (λ (ns : List TNode). Shows ns id t) (sym x.appended) (shows_more old x.extra id t s)

pub extends_refl : (ns : List TNode) → Extends ns ns
extends_refl ns = record { extra = []; appended = sym (append-nil ns) }

pub extends_trans : (a b c : List TNode) → Extends a b → Extends b c → Extends a c
extends_trans a b c x y = record {
  extra = x.extra ++ y.extra;
  appended = y.appended ∙ ap (λ (z : List TNode). z ++ y.extra) x.appended
      ∙ append_assoc a x.extra y.extra;
}

-- one node more shows the tree of its kids' trees
pub adds_shows : (old : List TNode) (added : TNode) (kids : Trees) → ShowsAll old added.kids.items kids
    → Shows (old ++ added ∷ []) (length old) (node added.kind (typ_of added.ty) added.cat added.at kids)
adds_shows old added kids s = (
  record { found = added; stands = get_last old added; kind_is = refl; typ_is = refl; cat_is = refl; at_is = refl },
  shows_all_more old (added ∷ []) added.kids.items kids s,
)

pub cut_back : (old new : List TNode) → Extends old new → take (length old) new ≡ old
cut_back old new x = ap (λ (z : List TNode). take (length old) z) x.appended ∙ take-append_seam old x.extra

-- One tree

same_found : (ns : List TNode) (id : ℕ) (m n : TNode) → slice_get ns id ≡ Some m → slice_get ns id ≡ Some n → m ≡ n
same_found ns id m n e f = cc

mutual
  pub one_tree : (ns : List TNode) (id : ℕ) (t u : Tree) → Shows ns id t → Shows ns id u → t ≡ u
  one_tree ns id (node k t cat at kids) (node k' t' cat' at' kids') s r =
      let same : (s.0).found ≡ (r.0).found = same_found ns id (s.0).found (r.0).found (s.0).stands (r.0).stands in
      let shown : ShowsAll ns (s.0).found.kids.items kids' = subst (λ (n : TNode). ShowsAll ns n.kids.items kids') (sym same) r.1 in
      let kids_same : kids ≡ kids' = one_list ns (s.0).found.kids.items kids kids' s.1 shown in
      let kind_same : k ≡ k' = sym (s.0).kind_is ∙ ap (λ (n : TNode). n.kind) same ∙ (r.0).kind_is in
      let at_same : at ≡ at' = sym (s.0).at_is ∙ ap (λ (n : TNode). n.at) same ∙ (r.0).at_is in
      let typ_same : t ≡ t' = sym (s.0).typ_is ∙ ap (λ (n : TNode). typ_of n.ty) same ∙ (r.0).typ_is in
      let cat_same : cat ≡ cat' = sym (s.0).cat_is ∙ ap (λ (n : TNode). n.cat) same ∙ (r.0).cat_is in
      cc

  one_list : (ns : List TNode) (ids : List TNodeId) (ts us : Trees) → ShowsAll ns ids ts → ShowsAll ns ids us → ts ≡ us
  one_list ns ids none none s r = refl
  one_list ns ids none (more u us) s r = absurd (let e : ids ≡ r.0 ∷ r.1 = r.2 in let f : ids ≡ [] = s in cc)
  one_list ns ids (more t ts) none s r = absurd (let e : ids ≡ s.0 ∷ s.1 = s.2 in let f : ids ≡ [] = r in cc)
  one_list ns ids (more t ts) (more u us) s r =
      let e : ids ≡ s.0 ∷ s.1 = s.2 in
      let f : ids ≡ r.0 ∷ r.1 = r.2 in
      let first : r.0 ≡ s.0 = cc in
      let others : r.1 ≡ s.1 = cc in
      let tree : t ≡ u = one_tree ns (s.0).0 t u s.3 (subst (λ (id : TNodeId). Shows ns id.0 u) first r.3) in
      let trees : ts ≡ us = one_list ns s.1 ts us s.4 (subst (λ (is : List TNodeId). ShowsAll ns is us) others r.4) in
      cc

pub all_below : (ns : List TNode) (ids : List TNodeId) (ts : Trees) → ShowsAll ns ids ts → are_below (length ns) ids ≡ true
all_below ns ids none s = rw s refl
all_below ns ids (more (node k t cat place kids) ts) s =
    let within : (s.0).0 < length ns = slice_get_within ns (s.0).0 (s.3).0.found (s.3).0.stands in
    let others : are_below (length ns) s.1 ≡ true = all_below ns s.1 ts s.4 in
    let below : nat_lt (s.0).0 (length ns) ≡ true = grind (arith, within) in
    rw (s.2, below) others

-- The trees of all nodes

kept : (ts : List Tree) (ns : List TNode) (i : ℕ) → i < length ts → get_or (fold with_node ts ns) i (literal 0) ≡ get_or ts i (literal 0)
kept ts [] i h = refl
kept ts (n ∷ ns) i h =
    let more_there : i < length (with_node ts n) = simp length-append (omega arith) in
    kept (with_node ts n) ns i more_there ∙ get_or_append_left ts (tree_of ts n ∷ []) (literal 0) i h

pub length_fold : (ts : List Tree) (ns : List TNode) → length (fold with_node ts ns) ≡ length ts + length ns
length_fold ts [] = omega arith
length_fold ts (n ∷ ns) =
    let one_more : length (with_node ts n) ≡ length ts + 1 = simp length-append (omega arith) in
    let all : length (fold with_node (with_node ts n) ns) ≡ length (with_node ts n) + length ns = length_fold (with_node ts n) ns in
    omega arith

-- the trees of these kids are the same in a list that agrees below a bound
same_kids : (bound : ℕ) (ts us : List Tree) (ids : List TNodeId) → ((i : ℕ) → i < bound → get_or us i (literal 0) ≡ get_or ts i (literal 0))
    → are_below bound ids ≡ true → trees_at us ids ≡ trees_at ts ids
same_kids bound ts us [] same below = refl
same_kids bound ts us (id ∷ ids) same below =
    let parts = and_parts (nat_lt id.0 bound) (are_below bound ids) below in
    let here : get_or us id.0 (literal 0) ≡ get_or ts id.0 (literal 0) = same id.0 (ltb-true id.0 bound parts.0) in
    let there : trees_at us ids ≡ trees_at ts ids = same_kids bound ts us ids same parts.1 in
    cc

tree_is : (ts : List Tree) (ns : List TNode) (i j : ℕ) (n : TNode) → j ≡ length ts + i → slice_get ns i ≡ Some n → are_below j n.kids.items ≡ true
    → get_or (fold with_node ts ns) j (literal 0) ≡ tree_of (fold with_node ts ns) n
tree_is ts [] i j n e h below = absurd cc
tree_is ts (m ∷ ns) zero j n e h below =
    let all : List Tree = fold with_node (with_node ts m) ns in
    let is : m ≡ n = cc in
    let seam : j ≡ length ts = omega arith in
    let there : j < length (with_node ts m) = simp length-append (omega arith) in
    let found : get_or all j (literal 0) ≡ tree_of ts m = kept (with_node ts m) ns j there ∙ get_or_push ts (tree_of ts m) (literal 0) j (sym seam) in
    let agree : (i : ℕ) → i < j → get_or all i (literal 0) ≡ get_or ts i (literal 0) = λ i h. (
    let low : i < length ts = omega (arith, h, seam) in
    let there : i < length (with_node ts m) = simp length-append (omega (arith, low)) in
    kept (with_node ts m) ns i there ∙ get_or_append_left ts (tree_of ts m ∷ []) (literal 0) i low
    ) in
    let kids : trees_at all n.kids.items ≡ trees_at ts n.kids.items = same_kids j ts all n.kids.items agree below in
    found ∙ ap (λ (z : TNode). tree_of ts z) is ∙ ap (λ (z : Trees). node n.kind (typ_of n.ty) n.cat n.at z) (sym kids)
tree_is ts (m ∷ ns) (suc i) j n e h below =
    let one_more : length (with_node ts m) ≡ length ts + 1 = simp length-append (omega arith) in
    tree_is (with_node ts m) ns i j n (omega arith) h below

pub many_trees : (ns : List TNode) → length (trees_of ns) ≡ length ns
unfolding trees_of
many_trees ns = let h : length (fold with_node [] ns) ≡ 0 + length ns = length_fold [] ns in omega arith

pub tree_of_node : (ns : List TNode) (id : TNodeId) (n : TNode) → IsOrdered ns → slice_get ns id.0 ≡ Some n → tree_at (trees_of ns) id ≡ tree_of (trees_of ns) n
unfolding trees_of
tree_of_node ns id n o h = tree_is [] ns id.0 id.0 n (omega arith) h (o.lower id.0 n h)

-- the trees behind those that are there already
extra_trees : (ts : List Tree) (ns : List TNode) → Grows ts (fold with_node ts ns)
extra_trees ts [] = record { extra = []; appended = sym (append-nil ts) }
extra_trees ts (n ∷ ns) =
    let g : Grows (with_node ts n) (fold with_node (with_node ts n) ns) = extra_trees (with_node ts n) ns in
    record { extra = tree_of ts n ∷ g.extra; appended = g.appended ∙ append_assoc ts (tree_of ts n ∷ []) g.extra }

pub trees_grow : (old new : List TNode) → Extends old new → Grows (trees_of old) (trees_of new)
unfolding trees_of
trees_grow old new x =
    let g : Grows (fold with_node [] old) (fold with_node (fold with_node [] old) x.extra) = extra_trees (fold with_node [] old) x.extra in
    record { extra = g.extra; appended = ap (λ (z : List TNode). fold with_node [] z) x.appended ∙ fold-append with_node [] old x.extra ∙ g.appended }

found : (ns : List TNode) (i : ℕ) → i < length ns → (n : TNode) × (slice_get ns i ≡ Some n)
found [] i h = absurd (omega arith)
found (n ∷ ns) zero h = (n, refl)
found (n ∷ ns) (suc i) h = found ns i (omega arith)

all_shown : (ns : List TNode) (bound : ℕ) → ((id : TNodeId) → id.0 < bound → Shows ns id.0 (tree_at (trees_of ns) id)) → (ids : List TNodeId)
    → are_below bound ids ≡ true → ShowsAll ns ids (trees_at (trees_of ns) ids)
all_shown ns bound each [] low = refl
all_shown ns bound each (id ∷ ids) low =
    let p = and_parts (nat_lt id.0 bound) (are_below bound ids) low in
    (id, ids, refl, each id (ltb-true id.0 bound p.0), all_shown ns bound each ids p.1)

shows_below : (ns : List TNode) → IsOrdered ns → (bound : ℕ) (id : TNodeId) → id.0 < bound → id.0 < length ns → Shows ns id.0 (tree_at (trees_of ns) id)
shows_below ns o zero id low h = absurd (omega arith)
shows_below ns o (suc bound) id low h =
    let n : TNode = (found ns id.0 h).0 in
    let there : slice_get ns id.0 ≡ Some n = (found ns id.0 h).1 in
    let tree : tree_at (trees_of ns) id ≡ tree_of (trees_of ns) n = tree_of_node ns id n o there in
    let kid : (k : TNodeId) → k.0 < id.0 → Shows ns k.0 (tree_at (trees_of ns) k) = λ k g. shows_below ns o bound k (omega (arith, g)) (omega (arith, g)) in
    subst (λ (t : Tree). Shows ns id.0 t) (sym tree) (
      record { found = n; stands = there; kind_is = refl; typ_is = refl; cat_is = refl; at_is = refl },
      all_shown ns id.0 kid n.kids.items (o.lower id.0 n there),
    )

pub shows_tree : (ns : List TNode) (id : TNodeId) → IsOrdered ns → id.0 < length ns → Shows ns id.0 (tree_at (trees_of ns) id)
shows_tree ns id o h = shows_below ns o (suc id.0) id (omega arith) h

-- One node more

pub pushed : (ns all : List TNode) (n : TNode) (id : TNodeId) → all ≡ ns ++ n ∷ [] → id.0 ≡ length ns
    → Adds (trees_of ns) (trees_of all) id (tree_of (trees_of ns) n)
unfolding trees_of
pushed ns all n id e h =
    let ts : List Tree = fold with_node [] ns in
    let t : Tree = tree_of ts n in
    let len : length ts ≡ 0 + length ns = length_fold [] ns in
    let step : fold with_node [] all ≡ ts ++ t ∷ [] = ap (λ (z : List TNode). fold with_node [] z) e ∙ fold-append with_node [] ns (n ∷ []) in
    record {
      grows = record { extra = t ∷ []; appended = step };
      within = rw step (simp length-append (omega arith));
      is = ap (λ (z : List Tree). get_or z id.0 (literal 0)) step ∙ get_or_push ts t (literal 0) id.0 (omega arith);
    }

none_there : (i : ℕ) (n : TNode) → slice_get [] i ≡ Some n → ⊥
none_there zero n e = absurd cc
none_there (suc i) n e = absurd cc

pub no_nodes : IsOrdered []
no_nodes = record { lower = λ id n e. absurd (none_there id n e) }

either_place : (old : List TNode) (added : TNode) → IsOrdered old → are_below (length old) added.kids.items ≡ true → (id : ℕ) (n : TNode)
    → slice_get (old ++ added ∷ []) id ≡ Some n → are_below id n.kids.items ≡ true
either_place old added o below id n e = elim (nat_lt id (length old)) as (λ b. nat_lt id (length old) ≡ b → are_below id n.kids.items ≡ true) [
  | true ↦ λ low.
      let h : id < length old = ltb-true id (length old) low in
      let m = found old id h in
      let grown : slice_get (old ++ added ∷ []) id ≡ Some m.0 = get_grow old (added ∷ []) id m.0 m.1 in
      let same : m.0 ≡ n = cc in
      subst (λ (z : TNode). are_below id z.kids.items ≡ true) same (o.lower id m.0 m.1)
  | false ↦ λ high.
      let past : length old ≤ id = ltb-false id (length old) high in
      let within : id < length (old ++ added ∷ []) = slice_get_within (old ++ added ∷ []) id n e in
      let few : id < length old + 1 = subst (λ (z : ℕ). id < z) (length-append old (added ∷ [])) within in
      let last : length old ≡ id = omega (arith, past, few) in
      let there : slice_get (old ++ added ∷ []) (length old) ≡ Some added = get_last old added in
      let here : slice_get (old ++ added ∷ []) id ≡ Some added = subst (λ (z : ℕ). slice_get (old ++ added ∷ []) z ≡ Some added) last there in
      let same : added ≡ n = cc in
      subst (λ (z : TNode). are_below id z.kids.items ≡ true) same (subst (λ (z : ℕ). are_below z added.kids.items ≡ true) last below)
] refl

pub ordered_more : (old : List TNode) (added : TNode) → IsOrdered old → are_below (length old) added.kids.items ≡ true → IsOrdered (old ++ added ∷ [])
ordered_more old added o below = record { lower = either_place old added o below }

pub no_kids : IsForest []
no_kids = record { once = λ id. omega arith }

pub forest_more : (old : List TNode) (added : TNode) → ((id : ℕ) → times_a_kid id old + times_in id added.kids.items ≤ 1) → IsForest (old ++ added ∷ [])
forest_more old added h = record {
  once = λ id. rw (sum_by-append (λ (n : TNode). times_in id n.kids.items) old (added ∷ []))
      (let few : times_a_kid id old + times_in id added.kids.items ≤ 1 = h id in omega (arith, few));
}
