-- Nodes behind others: what is counted, and what is shown.
use Rattle.std.proofs.Common.{◌≡◌, ℕ, ◌+◌, ◌<◌, ◌≤◌, Bool, true, false, List, [], ◌∷◌, ◌++◌, length, refl, sym, ◌∙◌, ap, subst, arith}
use Rattle.std.proofs.Common.{nat_lt, append_assoc, append-nil, length-append}
use Rattle.std.specs.Prelude.{cond, nat_eq}
use Rattle.std.specs.Cmp.Derive.{both_true}
use Rattle.std.proofs.lemmas.Bool.{and_parts, ltb-true, lt-ltb, ltb-false, eqb-true, eq-eqb}
use Rattle.std.proofs.lemmas.List.{get_or_append_left}
use Rattle.std.proofs.lemmas.List.Sums.{sum_by-append, sum_by-cons}
use Rattle.cpp_tree.specs.declared.arena.TNode.{TNode}
use Rattle.cpp_tree.specs.declared.arena.TNodeId.{TNodeId}
use Rattle.cpp_tree.specs.Trees.{Tree, Trees, none, more, literal}
use Rattle.cpp_tree.specs.Arena.{IsOrdered, are_below, times_in, times_a_kid, tree_at, trees_at, tree_of, trees_of, Grows, Adds, Extends}
use Rattle.cpp_tree.proofs.Shown.{extends_refl, extends_trans, many_trees, pushed, ordered_more}
use Rattle.tree_forests.specs.Copies.{count_at, OwnForest, count_of_nodes, count_of_all, IsCopied, AreCopied, IsPut, followed_by}

-- Counting

kid_more : (ns : List TNode) (n : TNode) (id : ℕ) → times_a_kid id (ns ++ n ∷ []) ≡ times_a_kid id ns + times_in id n.kids.items
kid_more ns n id = sum_by-append (λ (k : TNode). times_in id k.kids.items) ns (n ∷ [])
    ∙ ap (λ z. times_a_kid id ns + z) (sum_by-cons (λ (k : TNode). times_in id k.kids.items) n [])
    ∙ (let h : times_in id n.kids.items + 0 ≡ times_in id n.kids.items = omega arith in ap (λ z. times_a_kid id ns + z) h)

pub in_both : (id : ℕ) (ids others : List TNodeId) → times_in id (ids ++ others) ≡ times_in id ids + times_in id others
in_both id ids others = sum_by-append (λ (k : TNodeId). cond (nat_eq k.0 id) 1 0) ids others

one_in : (id : ℕ) (r : TNodeId) → times_in id (r ∷ []) ≡ cond (nat_eq r.0 id) 1 0
one_in id r = sum_by-cons (λ (k : TNodeId). cond (nat_eq k.0 id) 1 0) r [] ∙ omega arith

by_case : (many id : ℕ) (a b c : Bool) → nat_lt id (many + 1) ≡ a → nat_lt id many ≡ b → nat_eq many id ≡ c → cond a 1 0 ≡ cond b 1 0 + cond c 1 0
by_case many id true true false f g h = refl
by_case many id true false true f g h = refl
by_case many id false false false f g h = refl
by_case many id true true true f g h = absurd (let l = ltb-true id many g in let m = eqb-true many id h in omega (arith, l, m))
by_case many id true false false f g h = absurd (let k = ltb-true id (many + 1) f in let l = ltb-false id many g in let m : many ≡ id = omega (arith, k, l) in
    let n = eq-eqb many id m in cc)
by_case many id false true c f g h = absurd (let k = ltb-false id (many + 1) f in let l = ltb-true id many g in omega (arith, k, l))
by_case many id false false true f g h = absurd (let k = ltb-false id (many + 1) f in let m = eqb-true many id h in omega (arith, k, m))

at_more : (many last id : ℕ) → last ≡ many → cond (nat_lt id (many + 1)) 1 0 ≡ cond (nat_lt id many) 1 0 + cond (nat_eq last id) 1 0
at_more many last id e = by_case many id (nat_lt id (many + 1)) (nat_lt id many) (nat_eq many id) refl refl refl
    ∙ ap (λ z. cond (nat_lt id many) 1 0 + cond (nat_eq z id) 1 0) (sym e)

count_followed : (ts us : Trees) → count_of_all (followed_by ts us) ≡ count_of_all ts + count_of_all us
count_followed none us = let h : count_of_all us ≡ 0 + count_of_all us = omega arith in h
count_followed (more t ts) us =
    let e : count_of_all (followed_by ts us) ≡ count_of_all ts + count_of_all us = count_followed ts us in
    let h : count_of_nodes t + count_of_all (followed_by ts us) ≡ (count_of_nodes t + count_of_all ts) + count_of_all us = omega (arith, e) in
    h

-- Forests

longer : (old new : List TNode) → Extends old new → length old ≤ length new
longer old new x = let e : length new ≡ length old + length x.extra = ap length x.appended ∙ length-append old x.extra in omega (arith, e)

pub below_more : (a b : ℕ) (ids : List TNodeId) → a ≤ b → are_below a ids ≡ true → are_below b ids ≡ true
below_more a b [] l h = refl
below_more a b (id ∷ ids) l h =
    let k = and_parts (nat_lt id.0 a) (are_below a ids) h in
    let m : id.0 < a = ltb-true id.0 a k.0 in
    let n : id.0 < b = omega arith in
    both_true (lt-ltb id.0 b n) (below_more a b ids l k.1)

below_both : (a : ℕ) (ids others : List TNodeId) → are_below a ids ≡ true → are_below a others ≡ true → are_below a (ids ++ others) ≡ true
below_both a [] others h g = g
below_both a (id ∷ ids) others h g = let p = and_parts (nat_lt id.0 a) (are_below a ids) h in both_true p.0 (below_both a ids others p.1 g)

pub forest_none : (nodes : List TNode) → OwnForest nodes nodes []
forest_none nodes = record { behind = extends_refl nodes; within = refl; once = λ id. omega arith; ordered = λ o. o }

pub forest_first : (nodes : List TNode) (roots : List TNodeId) → roots ≡ [] → OwnForest nodes nodes roots
forest_first nodes roots e = subst (OwnForest nodes nodes) (sym e) (forest_none nodes)

pub no_forest : (nodes : List TNode) (roots : List TNodeId) → nodes ≡ [] → roots ≡ [] → OwnForest [] nodes roots
no_forest nodes roots e f = subst (λ (z : List TNode). OwnForest [] z roots) (sym e) (forest_first [] roots f)

-- one forest behind the other
pub forest_then : (old now new : List TNode) (ids others : List TNodeId) → OwnForest old now ids → OwnForest now new others → OwnForest old new (ids ++ others)
forest_then old now new ids others f g = record {
  behind = extends_trans old now new f.behind g.behind;
  within = below_both (length new) ids others (below_more (length now) (length new) ids (longer now new g.behind) f.within) g.within;
  once = λ id.
      let few = f.once id in
      let fewer = g.once id in
      let both = in_both id ids others in
      omega (arith, few, fewer, both);
  ordered = λ o. g.ordered (f.ordered o);
}

pub forest_more : (old now new : List TNode) (ids next : List TNodeId) (r : TNodeId) → OwnForest old now ids → OwnForest now new (r ∷ []) → next ≡ ids ++ r ∷ []
    → OwnForest old new next
forest_more old now new ids next r f g e = subst (OwnForest old new) (sym e) (forest_then old now new ids (r ∷ []) f g)

-- a node over the roots
pub forest_node : (old now new : List TNode) (n : TNode) (r : TNodeId) → OwnForest old now n.kids.items → new ≡ now ++ n ∷ [] → r.0 ≡ length now
    → OwnForest old new (r ∷ [])
forest_node old now new n r f e p =
    let long : length new ≡ length now + 1 = ap length e ∙ length-append now (n ∷ []) in
    let last : r.0 < length new = omega (arith, p, long) in
    record {
      behind = extends_trans old now new f.behind (record { extra = n ∷ []; appended = e });
      within = both_true (lt-ltb r.0 (length new) last) refl;
      once = λ id.
          let few = f.once id in
          let kids : times_a_kid id new ≡ times_a_kid id now + times_in id n.kids.items = ap (times_a_kid id) e ∙ kid_more now n id in
          let count : count_at id new ≡ count_at id now + cond (nat_eq r.0 id) 1 0 = ap (λ z. cond (nat_lt id z) 1 0) long ∙ at_more (length now) r.0 id p in
          let root = one_in id r in
          omega (arith, few, kids, count, root);
      ordered = λ o. subst IsOrdered (sym e) (ordered_more now n (f.ordered o) f.within);
    }

-- One node more

pub grows_refl : (ts : List Tree) → Grows ts ts
grows_refl ts = record { extra = []; appended = sym (append-nil ts) }

pub grows_trans : {a b c : List Tree} → Grows a b → Grows b c → Grows a c
grows_trans {a} x y = record {
  extra = x.extra ++ y.extra;
  appended = y.appended ∙ ap (λ (z : List Tree). z ++ y.extra) x.appended
      ∙ append_assoc a x.extra y.extra;
}

pub none_copied : (old : List TNode) → AreCopied old old [] none
none_copied old = record {
  grows = grows_refl (trees_of old);
  shown = refl;
  forest = forest_none old;
  size = let h : length old ≡ length old + 0 = omega arith in h;
}

-- a node over kids that were put there
module _ (old now new : List TNode) (ids : List TNodeId) (trees : Trees) (n : TNode) (r : TNodeId) (c : AreCopied old now ids trees)
    (p : IsPut now new n r) where
  pub over : n.kids.items ≡ ids → OwnForest old new (r ∷ [])
  over k = forest_node old now new n r (subst (OwnForest old now) (sym k) c.forest) p.items p.place

  pub is_over : Adds (trees_of old) (trees_of new) r (tree_of (trees_of now) n)
  is_over =
      let a : Adds (trees_of now) (trees_of new) r (tree_of (trees_of now) n) = pushed now new n r p.items p.place in
      record { grows = grows_trans c.grows a.grows; within = a.within; is = a.is }

  pub size_over : length new ≡ length old + (count_of_all trees + 1)
  size_over =
      let long : length new ≡ length now + 1 = ap length p.items ∙ length-append now (n ∷ []) in
      let size : length now ≡ length old + count_of_all trees = c.size in
      omega (arith, long, size)

-- Tree by tree

pub trees_append : (ts : List Tree) (ids others : List TNodeId) → trees_at ts (ids ++ others) ≡ followed_by (trees_at ts ids) (trees_at ts others)
trees_append ts [] js = refl
trees_append ts (i ∷ is) js = ap (more (tree_at ts i)) (trees_append ts is js)

pub at_grown : (old new : List Tree) (id : TNodeId) → Grows old new → id.0 < length old → tree_at new id ≡ tree_at old id
at_grown old new id g h = ap (λ (z : List Tree). tree_at z id) g.appended ∙ get_or_append_left old g.extra (literal 0) id.0 h

pub trees_grown : (old new : List Tree) (ids : List TNodeId) → Grows old new → are_below (length old) ids ≡ true → trees_at new ids ≡ trees_at old ids
trees_grown old new [] g h = refl
trees_grown old new (i ∷ is) g h =
    let p = and_parts (nat_lt i.0 (length old)) (are_below (length old) is) h in
    let first : tree_at new i ≡ tree_at old i = at_grown old new i g (ltb-true i.0 (length old) p.0) in
    let others : trees_at new is ≡ trees_at old is = trees_grown old new is g p.1 in
    cc

pub one_more : (old now new : List TNode) (ids next : List TNodeId) (trees : Trees) (r : TNodeId) (t : Tree) → AreCopied old now ids trees
    → IsCopied now new r t → next ≡ ids ++ r ∷ [] → AreCopied old new next (followed_by trees (more t none))
one_more old now new ids next trees r t c p e =
    let there : are_below (length (trees_of now)) ids ≡ true = ap (λ z. are_below z ids) (many_trees now) ∙ c.forest.within in
    let few : length now ≡ length old + count_of_all trees = c.size in
    let last : length new ≡ length now + count_of_nodes t = p.size in
    let all : count_of_all (followed_by trees (more t none)) ≡ count_of_all trees + (count_of_nodes t + 0) = count_followed trees (more t none) in
    record {
      grows = grows_trans c.grows p.shown.grows;
      shown = ap (trees_at (trees_of new)) e ∙ trees_append (trees_of new) ids (r ∷ [])
          ∙ ap (λ (z : Trees). followed_by z (trees_at (trees_of new) (r ∷ []))) (trees_grown (trees_of now) (trees_of new) ids p.shown.grows there ∙ c.shown)
          ∙ ap (λ (z : Tree). followed_by trees (more z none)) p.shown.is;
      forest = forest_more old now new ids next r c.forest p.forest e;
      size = omega (arith, few, last, all);
    }
