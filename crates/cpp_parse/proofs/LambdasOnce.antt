-- Where each node is held once at most, each lambda below some nodes is met once there, and nothing else is.
use Rattle.std.proofs.Common.{◌≡◌, ◌⊎◌, ℕ, zero, suc, ◌+◌, ◌-◌, ◌<◌, ◌≤◌, nat_eq, nat_lt, ◌&&◌, Bool, true, false, if◌then◌else◌, cond, List, [], ◌∷◌, ◌++◌}
use Rattle.std.proofs.Common.{length, take, slice_get, Some, refl, sym, ◌∙◌, ap, arith, inl, inr}
use Rattle.std.specs.List.{sum_by}
use Rattle.std.proofs.lemmas.Bool.{cases_eq, cases_lt, true≢false}
use Rattle.std.proofs.lemmas.List.{take_all}
use Rattle.std.proofs.lemmas.List.Sums.{sum_by-cons, sum_by-append, sum_by_more, sum_by-take-drop}
use Rattle.std.proofs.lemmas.Option.{get_or_from_slice_get}
use Rattle.cpp_ast.specs.declared.arena.Node.{Node}
use Rattle.cpp_ast.specs.declared.arena.NodeId.{NodeId}
use Rattle.cpp_ast.specs.Orders.{are_below}
use Rattle.cpp_ast.specs.Units.{times_in, times_a_kid}
use Rattle.cpp_syntax.specs.declared.positions.OpenBody.{OpenBody}
use Rattle.cpp_syntax.specs.View.{lambdas_at, is_lambda, BuiltTrees, lams_of}
use Rattle.cpp_parse_expr.specs.Depths.{HoldLower}
use Rattle.cpp_parse_expr.proofs.NodeIds.{held, below_at}
use Rattle.cpp_parse.specs.NotedBodies.{times, one_from, is_lambda_node, is_lambda_at, one_lambda}
use Rattle.cpp_syntax.proofs.NodeLambdas.{lambdas_of, lambdas_are, own_lambda}

pub times-append : (k : ℕ) (xs ys : List ℕ) → times k (xs ++ ys) ≡ times k xs + times k ys
times-append k xs ys = sum_by-append (λ (other : ℕ). cond (nat_eq other k) 1 0) xs ys

-- how often an index is met among the lambdas below a node
abbrev weight : List Node → ℕ → NodeId → ℕ
weight nodes k id = times k (lambdas_of nodes id.0)

times_below : (nodes : List Node) (k : ℕ) (ids : List NodeId) → times k (lambdas_at nodes ids) ≡ sum_by (weight nodes k) ids
times_below nodes k [] = refl
times_below nodes k (id ∷ ids) =
    times-append k (lambdas_of nodes id.0) (lambdas_at nodes ids)
    ∙ ap (λ (n : ℕ). weight nodes k id + n) (times_below nodes k ids)
    ∙ sym (sum_by-cons (weight nodes k) id ids)

nothing_in : (w : NodeId → ℕ) (ids : List NodeId) → ((j : ℕ) → times_in j ids ≤ 0) → sum_by w ids ≡ 0
nothing_in w [] h = refl
nothing_in w (id ∷ ids) h = absurd (let least = held (id ∷ ids) 0 id.0 refl in let none = h id.0 in omega (arith, least, none))

abbrev pub one_for : ℕ → NodeId → ℕ
one_for j id = cond (nat_eq id.0 j) 1 0

-- an index among ids
record SplitAt (m : ℕ) (ids : List NodeId) : Type 0 where
  front : List NodeId
  back : List NodeId
  are : ids ≡ front ++ record { 0 = m } ∷ back

same_front : (i m : ℕ) (ids : List NodeId) → i ≡ m → ◌≡◌ {A = List NodeId} (record { 0 = i } ∷ ids) (record { 0 = m } ∷ ids)
same_front i m ids same = ap (λ (k : ℕ). let j : NodeId = record { 0 = k } in j ∷ ids) same

behind_one : (id : NodeId) (m : ℕ) (ids : List NodeId) → SplitAt m ids → SplitAt m (id ∷ ids)
behind_one id m ids s = record { front = id ∷ s.front; back = s.back; are = ap (λ (is : List NodeId). id ∷ is) s.are }

split_at : (m : ℕ) (ids : List NodeId) → 1 ≤ times_in m ids → SplitAt m ids
split_at m [] h = absurd (omega (arith, h))
split_at m (id ∷ ids) h = elim (cases_eq id.0 m) [
  | inl same ↦ record { front = []; back = ids; are = same_front id.0 m ids same }
  | inr other ↦
      let cons : times_in m (id ∷ ids) ≡ one_for m id + times_in m ids = sum_by-cons (one_for m) id ids in
      let no : one_for m id ≡ 0 = grind (arith, other) in
      let rest = split_at m ids (omega (arith, h, cons, no)) in
      behind_one id m ids rest
]

none_below : (position j : ℕ) (ids : List NodeId) → are_below position ids ≡ true → position ≤ j → times_in j ids ≡ 0
none_below position j ids below le = none_at position j ids below le (times_in j ids) refl
  where
    none_at : (position j : ℕ) (ids : List NodeId) → are_below position ids ≡ true → position ≤ j → (n : ℕ) → times_in j ids ≡ n → times_in j ids ≡ 0
    none_at position j ids below le zero e = e
    none_at position j ids below le (suc n) e =
        let s = split_at j ids (omega (arith, e)) in
        absurd (lower position j s.front s.back (ap (λ (is : List NodeId). are_below position is) (sym s.are) ∙ below) le)
      where
        lower : (position j : ℕ) (front back : List NodeId) → are_below position (front ++ record { 0 = j } ∷ back) ≡ true → position ≤ j → ⊥
        lower position j [] back below le = let less = below_at position (record { 0 = j } ∷ back) 0 (record { 0 = j }) below refl in omega (arith, less, le)
        lower position j (id ∷ front) back below le =
            lower position j front back (and_rest (nat_lt id.0 position) (are_below position (front ++ record { 0 = j } ∷ back)) below) le
          where
            and_rest : (a b : Bool) → a && b ≡ true → b ≡ true
            and_rest true b e = e
            and_rest false b e = absurd (let f : false ≡ true = e in cc)

record There (nodes : List Node) (i : ℕ) : Type 0 where
  found : Node
  stands : slice_get nodes i ≡ Some found

node_there : (nodes : List Node) (i : ℕ) → i < length nodes → There nodes i
node_there [] i h = absurd (omega (arith, h))
node_there (n ∷ ns) zero h = record { found = n; stands = refl }
node_there (n ∷ ns) (suc i) h = let rest = node_there ns i (omega (arith, h)) in record { found = rest.found; stands = rest.stands }

-- how often the nodes before an index hold a node
abbrev held_before : List Node → ℕ → ℕ → ℕ
held_before nodes m j = times_a_kid j (take m nodes)

held_more : (nodes : List Node) (i m j : ℕ) (n : Node) → m ≡ i + 1 → i < length nodes → slice_get nodes i ≡ Some n
    → held_before nodes m j ≡ held_before nodes i j + times_in j n.kids.items
held_more nodes i m j n e inside stands =
    ap (λ (z : ℕ). held_before nodes z j) e
    ∙ sum_by_more (λ (node : Node). times_in j node.kids.items) nodes i n inside
    ∙ ap (λ (node : Node). held_before nodes i j + times_in j node.kids.items) (get_or_from_slice_get nodes i n n stands)

-- Numbers of a step.

one_none : (base j : ℕ) → one_from base base j ≡ 0
one_none base j = grind arith

one_more : (base i m j : ℕ) → base ≤ i → m ≡ i + 1 → one_from base m j ≡ one_from base i j + cond (nat_eq i j) 1 0
one_more base i m j from e = grind (arith, from, e)

own_times : (own : Bool) (i k : ℕ) → times k (if own then i ∷ [] else []) ≡ (if own then cond (nat_eq i k) 1 0 else 0)
own_times true i k = omega arith
own_times false i k = refl

by_node : (own there : Bool) (was one now : ℕ) → now ≡ was + one → (one ≡ 0) ⊎ (own ≡ there)
    → (if there then was else 0) + (if own then one else 0) ≤ (if there then now else 0)
by_node true true was one now e h = omega (arith, e)
by_node false false was one now e h = omega arith
by_node false true was one now e h = omega (arith, e)
by_node true false was one now e (inl f) = omega (arith, f)
by_node true false was one now e (inr f) = absurd (true≢false f)

pub one_other : (i j : ℕ) → (i ≡ j → ⊥) → one_for j (record { 0 = i }) ≡ 0
one_other i j other = grind (arith, other)

own_here : (nodes : List Node) (i k : ℕ) (n : Node) → slice_get nodes i ≡ Some n
    → (one_for k (record { 0 = i }) ≡ 0) ⊎ (is_lambda n.kind ≡ is_lambda_at nodes k)
own_here nodes i k n stands = elim (cases_eq i k) [
  | inl same ↦ inr (sym (ap (λ (z : ℕ). is_lambda_at nodes z) (sym same) ∙ ap is_lambda_node stands))
  | inr other ↦ inl (one_other i k other)
]

-- the lambda at an index, beside those before it
own_bound : (nodes : List Node) (base i m k : ℕ) (n : Node) → base ≤ i → m ≡ i + 1 → slice_get nodes i ≡ Some n
    → one_lambda nodes base i k + times k (own_lambda n.kind i) ≤ one_lambda nodes base m k
own_bound nodes base i m k n from e stands =
    let more = one_more base i m k from e in
    let own = own_times (is_lambda n.kind) i k in
    let whole = by_node (is_lambda n.kind) (is_lambda_at nodes k) (one_from base i k) (cond (nat_eq i k) 1 0) (one_from base m k) more
    (own_here nodes i k n stands) in
    omega (arith, own, whole)

no_less : (there : Bool) (was now : ℕ) → was ≤ now → (if there then was else 0) ≤ (if there then now else 0)
no_less true was now h = h
no_less false was now h = omega arith

module _ (nodes : List Node) (base k : ℕ) (lower : HoldLower base nodes) where
  -- no node before an index is held more often than those before the first, where kids stand before their nodes
  lower_none : (d m j : ℕ) → m ≡ base + d → m ≤ length nodes → m ≤ j → held_before nodes m j ≡ held_before nodes base j
  lower_none zero m j e inside past = ap (λ (z : ℕ). held_before nodes z j) (omega (arith, e))
  lower_none (suc d) m j e inside past =
      let i = base + d in
      let next : m ≡ i + 1 = omega (arith, e) in
      let n = node_there nodes i (omega (arith, next, inside)) in
      let below = none_below i j n.found.kids.items (lower.lower i n.found (omega arith) n.stands) (omega (arith, next, past)) in
      let more = held_more nodes i m j n.found next (omega (arith, next, inside)) n.stands in
      let rest = lower_none d i j refl (omega (arith, next, inside)) (omega (arith, next, past)) in
      omega (arith, below, more, rest)

  -- Each node is held once at most by the ids and the nodes from one on before another.
  abbrev AreApart : ℕ → List NodeId → Type 0
  AreApart m ids = (j : ℕ) → held_before nodes m j + times_in j ids ≤ one_from base m j + held_before nodes base j

  -- The node before an index leaves its kids in its index.
  record Before (i m : ℕ) (ids : List NodeId) : Type 0 where
    left : List NodeId
    apart : AreApart i left
    bound : sum_by (weight nodes k) left ≤ one_lambda nodes base i k → sum_by (weight nodes k) ids ≤ one_lambda nodes base m k

  own_weight : (i : ℕ) (n : Node) → base ≤ i → slice_get nodes i ≡ Some n
      → times k (lambdas_of nodes i) ≡ sum_by (weight nodes k) n.kids.items + times k (own_lambda n.kind i)
  own_weight i n from stands =
      ap (λ (ids : List ℕ). times k ids) (lambdas_are nodes i n stands (lower.lower i n from stands))
      ∙ times-append k (lambdas_at nodes n.kids.items) (own_lambda n.kind i)
      ∙ ap (λ (z : ℕ). z + times k (own_lambda n.kind i)) (times_below nodes k n.kids.items)

  before_some : (i m : ℕ) (n : Node) (ids : List NodeId) → base ≤ i → m ≡ i + 1 → i < length nodes → slice_get nodes i ≡ Some n → AreApart m ids
      → SplitAt i ids → Before i m ids
  before_some i m n ids from next inside stands h s =
      let here : NodeId = record { 0 = i } in
      let parts : (f : NodeId → ℕ) → sum_by f ids ≡ sum_by f s.front + (f here + sum_by f s.back) = λ f.
      ap (sum_by f) s.are ∙ sum_by-append f s.front (here ∷ s.back) ∙ ap (λ (z : ℕ). sum_by f s.front + z) (sum_by-cons f here s.back) in
      let changed : (f : NodeId → ℕ) → sum_by f (s.front ++ (n.kids.items ++ s.back)) ≡ sum_by f s.front + (sum_by f n.kids.items + sum_by f s.back) = λ f.
      sum_by-append f s.front (n.kids.items ++ s.back) ∙ ap (λ (z : ℕ). sum_by f s.front + z) (sum_by-append f n.kids.items s.back) in
      record {
        left = s.front ++ (n.kids.items ++ s.back);
        apart = λ j.
            let whole = h j in
            let more = held_more nodes i m j n next inside stands in
            let was = parts (one_for j) in
            let now = changed (one_for j) in
            let one = one_more base i m j from next in
            omega (arith, whole, more, was, now, one);
        bound = λ b.
            let was = parts (weight nodes k) in
            let now = changed (weight nodes k) in
            let own = own_weight i n from stands in
            let one = own_bound nodes base i m k n from next stands in
            omega (arith, b, was, now, own, one);
      }

  before_none : (i m : ℕ) (n : Node) (ids : List NodeId) → base ≤ i → m ≡ i + 1 → i < length nodes → slice_get nodes i ≡ Some n → AreApart m ids
      → times_in i ids ≡ 0 → held_before nodes i i ≡ held_before nodes base i → Before i m ids
  before_none i m n ids from next inside stands h none lowest = record {
    left = ids;
    apart = λ j.
        let whole = h j in
        let more = held_more nodes i m j n next inside stands in
        let one = one_more base i m j from next in
        elim (cases_eq i j) [
          | inl same ↦
              let a : times_in i ids ≡ times_in j ids = ap (λ (z : ℕ). times_in z ids) same in
              let b : held_before nodes i i ≡ held_before nodes i j = ap (λ (z : ℕ). held_before nodes i z) same in
              let c : held_before nodes base i ≡ held_before nodes base j = ap (λ (z : ℕ). held_before nodes base z) same in
              omega (arith, a, b, c, none, lowest)
          | inr other ↦
              let zero_one = one_other i j other in
              omega (arith, whole, more, one, zero_one)
        ];
    bound = λ b. let one = own_bound nodes base i m k n from next stands in omega (arith, b, one);
  }

  once_to : (d m : ℕ) → m ≡ base + d → m ≤ length nodes → (ids : List NodeId) → AreApart m ids → sum_by (weight nodes k) ids ≤ one_lambda nodes base m k
  once_to zero m e inside ids h =
      let none = nothing_in (weight nodes k) ids (λ j.
      let a = h j in
      let at : m ≡ base = omega (arith, e) in
      let b : held_before nodes m j ≡ held_before nodes base j = ap (λ (z : ℕ). held_before nodes z j) at in
      let c : one_from base m j ≡ one_from base base j = ap (λ (z : ℕ). one_from base z j) at in
      let f = one_none base j in
      omega (arith, a, b, c, f)) in
      omega (arith, none)
  once_to (suc d) m e inside ids h =
      let i = base + d in
      let next : m ≡ i + 1 = omega (arith, e) in
      let within : i < length nodes = omega (arith, next, inside) in
      let n = node_there nodes i within in
      let lowest = lower_none d i i refl (omega (arith, within)) (omega arith) in
      let s : Before i m ids = elim (cases_lt 0 (times_in i ids)) [
        | inl some ↦ before_some i m n.found ids (omega arith) next within n.stands h (split_at i ids (omega (arith, some)))
        | inr none ↦ before_none i m n.found ids (omega arith) next within n.stands h (omega (arith, none)) lowest
      ] in
      s.bound (once_to d i refl (omega (arith, within)) s.left s.apart)

-- Each lambda in trees that are shown is met once, and each of the lambdas is one.
pub lambdas_once : (nodes : List Node) (base k : ℕ) (ids : List NodeId) (bodies : List OpenBody) → base ≤ length nodes → HoldLower base nodes
    → BuiltTrees base nodes ids bodies → times k (lams_of bodies) ≤ one_lambda nodes base (length nodes) k
lambdas_once nodes base k ids bodies within lower s =
    let here : times k (lams_of bodies) ≡ sum_by (weight nodes k) ids = ap (λ (z : List ℕ). times k z) s.lambdas ∙ times_below nodes k ids in
    let most = once_to nodes base k lower (length nodes - base) (length nodes) (omega (arith, within)) (omega arith) ids (λ j.
    let apart = s.apart j in
    let whole : held_before nodes (length nodes) j ≡ times_a_kid j nodes = ap (λ (ns : List Node). times_a_kid j ns)
    (take_all (length nodes) nodes (omega arith)) in
    let parts = sum_by-take-drop (λ (node : Node). times_in j node.kids.items) nodes base in
    omega (arith, apart, whole, parts)) in
    omega (arith, here, most)
