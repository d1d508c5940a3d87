-- The nodes of a well-formed body.
use Rattle.std.proofs.Common.{◌≡◌, ◌∙◌, refl, sym, ap, subst, Bool, true, false, not, ◌&&◌, ◌||◌, ℕ, zero, suc, ◌+◌, ◌<◌, ◌≤◌, nat_lt, List, [], ◌∷◌, ◌++◌, length, drop, get_or, slice_get, fold, map, Option, Some, None, unwrap_or, arith}
use Rattle.std.proofs.lemmas.Bool.{and_parts, ltb-true}
use Rattle.std.proofs.lemmas.List.{map-append}
use Rattle.cpp_tree.specs.cpp_types.Typ.{typ_of}
use Rattle.cpp_tree.specs.declared.kinds.TKind.{TKind}
use Rattle.cpp_tree.specs.declared.kinds.TKind.TheVariants.{FullExpression, Materialize}
use Rattle.cpp_tree.specs.declared.roles.Role.TheVariants.{Statement}
use Rattle.cpp_tree.specs.declared.arena.TNode.{TNode}
use Rattle.cpp_tree.specs.declared.arena.TNodeId.{TNodeId}
use Rattle.cpp_tree.specs.Trees.{Tree, node, kind_of, rest, literal}
use Rattle.cpp_tree.specs.Arena.{are_below, IsOrdered, tree_at, trees_at, tree_of, with_node, trees_of}
use Rattle.cpp_tree.specs.Rows.{Setting as TreeSetting}
use Rattle.cpp_tree.specs.WellFormed.{outermost, heads_of, WellFormedBody}
use Rattle.cpp_tree.proofs.Shown.{tree_of_node, many_trees}
use Rattle.low_code.specs.Nodes.{Node, node_of, node_or, no_node, first_id, kid_in}
use Rattle.low_code.specs.Nodes as low
use Rattle.low_code.specs.Temporaries.{has_one, makes_by, with_one, temporaries_of}
use Rattle.unwind_lower.specs.Settings.{Setting, node_in, makes_temporaries}
use Rattle.unwind_lower.specs.Blocks.{is_default}
use Rattle.lowered_states.specs.Claims.{one_if}
use Rattle.lowered_states.specs.Runs.{defaults}
use Rattle.lowered_apart.specs.Still.{lets_wait, holds, is_switch, IsBelow, root_is, kid, AreStill}
use Rattle.lowered_apart.specs.Suiting.{defaults_in, suits}
use Rattle.lowered_apart.proofs.Lists.{no_more}
use Rattle.lowered_apart.proofs.Forms.{waits, any_wait, Lies, stands_as, AllLie, kids_lie, fit_none, held_none, one_default_in}

-- ---- what waits, of trees and of nodes

waits_at : (ts : List Tree) (n : ℕ) → get_or (map waits ts) n false ≡ waits (get_or ts n (literal 0))
waits_at [] zero = refl
waits_at [] (suc n) = refl
waits_at (t ∷ ts) zero = refl
waits_at (t ∷ ts) (suc n) = waits_at ts n

found_at : (bs : List Bool) (n : ℕ) → unwrap_or (slice_get bs n) false ≡ get_or bs n false
found_at [] zero = refl
found_at [] (suc n) = refl
found_at (b ∷ bs) zero = refl
found_at (b ∷ bs) (suc n) = found_at bs n

one_waits : (ts : List Tree) (ids : List TNodeId) → has_one (map waits ts) ids ≡ any_wait (trees_at ts ids)
one_waits ts [] = refl
one_waits ts (id ∷ ids) = ap (λ (v : Bool). v || has_one (map waits ts) ids) (waits_at ts id.0)
    ∙ ap (λ (v : Bool). waits (tree_at ts id) || v) (one_waits ts ids)

many_heads : (ts : List Tree) (ids : List TNodeId) → length ids ≡ length (heads_of (trees_at ts ids))
many_heads ts [] = refl
many_heads ts (id ∷ ids) = ap suc (many_heads ts ids)

one_more : (ts : List Tree) (n : TNode) → with_one (map waits ts) n ≡ map waits (with_node ts n)
one_more ts n =
    ap (λ (v : Bool). map waits ts ++ v ∷ []) (ap (λ (v : Bool). makes_by n.kind (length n.kids.items) v) (one_waits ts n.kids.items)
    ∙ ap (λ (m : ℕ). makes_by n.kind m (any_wait (trees_at ts n.kids.items))) (many_heads ts n.kids.items))
    ∙ sym (map-append waits ts (tree_of ts n ∷ []))

all_more : (nodes : List TNode) (ts : List Tree) → fold with_one (map waits ts) nodes ≡ map waits (fold with_node ts nodes)
all_more [] ts = refl
all_more (n ∷ nodes) ts = ap (λ (bs : List Bool). fold with_one bs nodes) (one_more ts n) ∙ all_more nodes (with_node ts n)

known_waits : (nodes : List TNode) → temporaries_of nodes ≡ map waits (trees_of nodes)
unfolding trees_of
known_waits nodes = all_more nodes []

-- ---- nodes by their ids

-- a node is there, and shows its tree, or there is none
data Seen (nodes : List TNode) (id : TNodeId) : Type 0 where
  there : (n : TNode) → slice_get nodes id.0 ≡ Some n → tree_at (trees_of nodes) id ≡ tree_of (trees_of nodes) n → Seen nodes id
  missing : slice_get nodes id.0 ≡ None → Seen nodes id

seen : (nodes : List TNode) → IsOrdered nodes → (id : TNodeId) → Seen nodes id
seen nodes o id = by (slice_get nodes id.0) refl
  where
    by : (found : Option TNode) → slice_get nodes id.0 ≡ found → Seen nodes id
    by None e = missing e
    by (Some n) e = there n e (tree_of_node nodes id n o e)

none_below : (ids : List TNodeId) → are_below 0 ids ≡ true → ids ≡ []
none_below [] e = refl
none_below (id ∷ ids) e = let l : id.0 < 0 = ltb-true id.0 0 (and_parts (nat_lt id.0 0) (are_below 0 ids) e).0 in absurd (omega arith)

-- the first node has no kids
first_bare : (nodes : List TNode) → IsOrdered nodes → (low.node_in nodes first_id).kids ≡ []
first_bare nodes o = by (slice_get nodes 0) refl
  where
    by : (found : Option TNode) → slice_get nodes 0 ≡ found → (node_or found).kids ≡ []
    by None e = refl
    by (Some n) e = none_below n.kids.items (o.lower 0 n e)

no_kid : (index : ℕ) → kid_in [] index ≡ first_id
no_kid zero = refl
no_kid (suc index) = refl

past_end : (ts : List Tree) (n : ℕ) → length ts ≤ n → get_or ts n (literal 0) ≡ literal 0
past_end [] zero l = refl
past_end [] (suc n) l = refl
past_end (t ∷ ts) zero l = absurd (omega arith)
past_end (t ∷ ts) (suc n) l = past_end ts n (omega arith)

none_past : (nodes : List TNode) (n : ℕ) → slice_get nodes n ≡ None → length nodes ≤ n
none_past [] n e = omega arith
none_past (x ∷ nodes) zero e = absurd cc
none_past (x ∷ nodes) (suc n) e = let l = none_past nodes n e in omega arith

-- the tree where there is no node
no_tree : (nodes : List TNode) (id : TNodeId) → slice_get nodes id.0 ≡ None → tree_at (trees_of nodes) id ≡ literal 0
no_tree nodes id e = past_end (trees_of nodes) id.0 (omega (arith, many_trees nodes, none_past nodes id.0 e))

-- ---- nodes without kids

bare_makes : (kind : TKind) → makes_by kind 0 false ≡ false
bare_makes FullExpression = refl
bare_makes (Materialize place true) = refl
bare_makes (Materialize place false) = refl
bare_makes kind = refl

bare_none : (nodes : List TNode) → IsOrdered nodes → (id : TNodeId) → (low.node_in nodes id).kids ≡ [] → waits (tree_at (trees_of nodes) id) ≡ false
bare_none nodes o id b = by (seen nodes o id)
  where
    by : Seen nodes id → waits (tree_at (trees_of nodes) id) ≡ false
    by (missing e) = ap waits (no_tree nodes id e)
    by (there n e t) =
        let k : n.kids.items ≡ [] = ap (λ (found : Option TNode). (node_or found).kids) (sym e) ∙ b in
        ap waits t ∙ ap (λ (ids : List TNodeId). waits (node n.kind (typ_of n.ty) n.cat n.at (trees_at (trees_of nodes) ids))) k ∙ bare_makes n.kind

-- ---- kids

or_true : (a b : Bool) → b ≡ true → a || b ≡ true
or_true true b e = refl
or_true false b e = e

-- the tree of a kid is one of those of the kids, or that of the first node
kid_waits : (ts : List Tree) (ids : List TNodeId) (index : ℕ) → waits (tree_at ts first_id) ≡ false → waits (tree_at ts (kid_in ids index)) ≡ true
    → any_wait (trees_at ts ids) ≡ true
kid_waits ts [] zero f e = no_more (sym f ∙ e)
kid_waits ts [] (suc index) f e = no_more (sym f ∙ e)
kid_waits ts (id ∷ ids) zero f e = ap (λ (v : Bool). v || any_wait (trees_at ts ids)) e
kid_waits ts (id ∷ ids) (suc index) f e = or_true (waits (tree_at ts id)) (any_wait (trees_at ts ids)) (kid_waits ts ids index f e)

passes_on : (kind : TKind) (many : ℕ) (below : Bool) → lets_wait kind ≡ true → below ≡ true → makes_by kind many below ≡ true
passes_on FullExpression many below l e = absurd cc
passes_on (Materialize place argument) many below l e = or_true (not argument && nat_lt 1 many) below e
passes_on kind many below l e = e

-- ---- the nodes of a body

-- a node lies in the body, or has no kids
data Sits (nodes : List TNode) (s : TreeSetting) (id : TNodeId) : Type 0 where
  lies : Lies s (tree_at (trees_of nodes) id) → Sits nodes s id
  bare : (low.node_in nodes id).kids ≡ [] → Sits nodes s id

list_sits : (nodes : List TNode) (s : TreeSetting) (ids : List TNodeId) (index : ℕ) → AllLie s (trees_at (trees_of nodes) ids) → Sits nodes s first_id
    → Sits nodes s (kid_in ids index)
list_sits nodes s [] zero a f = f
list_sits nodes s [] (suc index) a f = f
list_sits nodes s (id ∷ ids) zero a f = lies a.0
list_sits nodes s (id ∷ ids) (suc index) a f = list_sits nodes s ids index a.1 f

bare_sits : (nodes : List TNode) → IsOrdered nodes → (s : TreeSetting) (id : TNodeId) (index : ℕ) → (low.node_in nodes id).kids ≡ []
    → Sits nodes s (kid_in (low.node_in nodes id).kids index)
bare_sits nodes o s id index b = subst (λ (ids : List TNodeId). Sits nodes s (kid_in ids index)) (sym b)
    (subst (λ (k : TNodeId). Sits nodes s k) (sym (no_kid index)) (bare (first_bare nodes o)))

kid_sits : (nodes : List TNode) → IsOrdered nodes → (s : TreeSetting) (id : TNodeId) (index : ℕ) → Sits nodes s id
    → Sits nodes s (kid_in (low.node_in nodes id).kids index)
kid_sits nodes o s id index (bare b) = bare_sits nodes o s id index b
kid_sits nodes o s id index (lies h) = by (seen nodes o id)
  where
    by : Seen nodes id → Sits nodes s (kid_in (low.node_in nodes id).kids index)
    by (missing e) = bare_sits nodes o s id index (ap (λ (found : Option TNode). (node_or found).kids) e)
    by (there n e t) = subst (λ (found : Option TNode). Sits nodes s (kid_in (node_or found).kids index)) (sym e)
        (list_sits nodes s n.kids.items index (kids_lie s (tree_of (trees_of nodes) n) (subst (λ (u : Tree). Lies s u) t h)) (bare (first_bare nodes o)))

all_sit : (g : Setting) → IsOrdered g.unit.nodes.items → (s : TreeSetting) (root : TNodeId) → Sits g.unit.nodes.items s root
    → (id : TNodeId) → IsBelow g root id → Sits g.unit.nodes.items s id
unfolding node_in
all_sit g o s root r id root_is = r
all_sit g o s root r id (kid up index b) = kid_sits g.unit.nodes.items o s up index (all_sit g o s root r up b)

-- ---- what is asked of them

makes_are : (g : Setting) → g.temporaries ≡ temporaries_of g.unit.nodes.items → (id : TNodeId)
    → makes_temporaries g id ≡ waits (tree_at (trees_of g.unit.nodes.items) id)
unfolding makes_temporaries
makes_are g e id = found_at g.temporaries id.0
    ∙ ap (λ (bs : List Bool). get_or bs id.0 false) (e ∙ known_waits g.unit.nodes.items)
    ∙ waits_at (trees_of g.unit.nodes.items) id.0

first_makes : (g : Setting) → IsOrdered g.unit.nodes.items → waits (tree_at (trees_of g.unit.nodes.items) first_id) ≡ false
first_makes g o = bare_none g.unit.nodes.items o first_id (first_bare g.unit.nodes.items o)

node_makes : (g : Setting) → IsOrdered g.unit.nodes.items → (id : TNodeId) → lets_wait (low.node_in g.unit.nodes.items id).kind ≡ true → (index : ℕ)
    → waits (tree_at (trees_of g.unit.nodes.items) (kid_in (low.node_in g.unit.nodes.items id).kids index)) ≡ true
    → waits (tree_at (trees_of g.unit.nodes.items) id) ≡ true
node_makes g o id l index e = by (seen nodes o id)
  where
    nodes : List TNode
    nodes = g.unit.nodes.items

    by : Seen nodes id → waits (tree_at (trees_of nodes) id) ≡ true
    by (missing m) = no_more (sym (first_makes g o) ∙ sym (ap (λ (k : TNodeId). waits (tree_at (trees_of nodes) k))
        (ap (λ (found : Option TNode). kid_in (node_or found).kids index) m ∙ no_kid index)) ∙ e)
    by (there n m t) = ap waits t ∙ passes_on n.kind (length (heads_of (trees_at (trees_of nodes) n.kids.items)))
        (any_wait (trees_at (trees_of nodes) n.kids.items)) (sym (ap (λ (found : Option TNode). lets_wait (node_or found).kind) m) ∙ l)
        (kid_waits (trees_of nodes) n.kids.items index (first_makes g o)
        (sym (ap (λ (found : Option TNode). waits (tree_at (trees_of nodes) (kid_in (node_or found).kids index))) m) ∙ e))

node_held : (g : Setting) → IsOrdered g.unit.nodes.items → (s : TreeSetting) (id : TNodeId) → holds (low.node_in g.unit.nodes.items id).kind ≡ true
    → Sits g.unit.nodes.items s id → waits (tree_at (trees_of g.unit.nodes.items) id) ≡ false
node_held g o s id h (bare b) = bare_none g.unit.nodes.items o id b
node_held g o s id h (lies y) = by (seen g.unit.nodes.items o id)
  where
    by : Seen g.unit.nodes.items id → waits (tree_at (trees_of g.unit.nodes.items) id) ≡ false
    by (missing m) = ap waits (no_tree g.unit.nodes.items id m)
    by (there n m t) = held_none s (tree_at (trees_of g.unit.nodes.items) id) y
        (ap (λ (u : Tree). holds (kind_of u)) t ∙ sym (ap (λ (found : Option TNode). holds (node_or found).kind) m) ∙ h)

same_default : (nodes : List TNode) → IsOrdered nodes → (id : TNodeId)
    → is_default (low.node_in nodes id).kind ≡ is_default (kind_of (tree_at (trees_of nodes) id))
same_default nodes o id = by (seen nodes o id)
  where
    by : Seen nodes id → is_default (low.node_in nodes id).kind ≡ is_default (kind_of (tree_at (trees_of nodes) id))
    by (missing m) = ap (λ (found : Option TNode). is_default (node_or found).kind) m
        ∙ sym (ap (λ (u : Tree). is_default (kind_of u)) (no_tree nodes id m))
    by (there n m t) = ap (λ (found : Option TNode). is_default (node_or found).kind) m ∙ sym (ap (λ (u : Tree). is_default (kind_of u)) t)

same_defaults : (g : Setting) → IsOrdered g.unit.nodes.items → (ids : List TNodeId) → defaults g ids ≡ defaults_in (trees_at (trees_of g.unit.nodes.items) ids)
unfolding node_in
same_defaults g o [] = refl
same_defaults g o (id ∷ ids) =
    ap (λ (v : Bool). one_if v + defaults g ids) (same_default g.unit.nodes.items o id)
    ∙ ap (λ (m : ℕ). one_if (is_default (kind_of (tree_at (trees_of g.unit.nodes.items) id))) + m) (same_defaults g o ids)

rest_are : (ts : List Tree) (ids : List TNodeId) → trees_at ts (drop 1 ids) ≡ rest (trees_at ts ids)
rest_are ts [] = refl
rest_are ts (id ∷ ids) = refl

node_default : (g : Setting) → IsOrdered g.unit.nodes.items → (s : TreeSetting) (id : TNodeId) → is_switch (low.node_in g.unit.nodes.items id).kind ≡ true
    → Sits g.unit.nodes.items s id → defaults g (drop 1 (low.node_in g.unit.nodes.items id).kids) ≤ 1
node_default g o s id h y = by (seen g.unit.nodes.items o id) y
  where
    few : (ids : List TNodeId) → ids ≡ [] → defaults g (drop 1 ids) ≤ 1
    few [] e = omega arith
    few (k ∷ ks) e = absurd cc

    by : Seen g.unit.nodes.items id → Sits g.unit.nodes.items s id → defaults g (drop 1 (low.node_in g.unit.nodes.items id).kids) ≤ 1
    by x (bare b) = few (low.node_in g.unit.nodes.items id).kids b
    by (missing m) (lies z) = few (low.node_in g.unit.nodes.items id).kids (ap (λ (found : Option TNode). (node_or found).kids) m)
    by (there n m t) (lies z) =
        let one : defaults_in (rest (trees_at (trees_of g.unit.nodes.items) n.kids.items)) ≤ 1 =
        one_default_in s (tree_of (trees_of g.unit.nodes.items) n) (subst (λ (u : Tree). Lies s u) t z)
        (sym (ap (λ (found : Option TNode). is_switch (node_or found).kind) m) ∙ h) in
        let same : defaults g (drop 1 n.kids.items) ≡ defaults_in (rest (trees_at (trees_of g.unit.nodes.items) n.kids.items)) =
        same_defaults g o (drop 1 n.kids.items) ∙ ap defaults_in (rest_are (trees_of g.unit.nodes.items) n.kids.items) in
        subst (λ (found : Option TNode). defaults g (drop 1 (node_or found).kids) ≤ 1) (sym m) (subst (λ (k : ℕ). k ≤ 1) (sym same) one)

pub well_formed_still : (g : Setting) (s : TreeSetting) (root : TNodeId) → IsOrdered g.unit.nodes.items
    → g.temporaries ≡ temporaries_of g.unit.nodes.items → WellFormedBody s (tree_at (trees_of g.unit.nodes.items) root)
    → suits (tree_at (trees_of g.unit.nodes.items) root) ≡ true → AreStill g root
unfolding node_in
well_formed_still g s root o e w u =
    let r : Sits g.unit.nodes.items s root = lies (stands_as outermost Statement w.nodes u (λ h. refl) (λ h. no_more h)) in
    record {
      makes = λ id b l index m. makes_are g e id ∙ node_makes g o id l index (sym (makes_are g e (kid_in (low.node_in g.unit.nodes.items id).kids index)) ∙ m);
      root_makes = makes_are g e root ∙ fit_none s outermost Statement (tree_at (trees_of g.unit.nodes.items) root) w.nodes refl;
      none_made = λ id b h. makes_are g e id ∙ node_held g o s id h (all_sit g o s root r id b);
      one_default = λ id b h. node_default g o s id h (all_sit g o s root r id b);
    }
