-- The test of the order of nodes says what the order is.
use Rattle.std.proofs.Common.{◌≡◌, ◌∙◌, ℕ, zero, suc, ◌+◌, Bool, true, IsTrue, ◌↔◌, List, [], ◌∷◌, Some, slice_get, refl, sym, ap, arith}
use Rattle.std.proofs.lemmas.Bool.{and_parts, and_from}
use Rattle.cpp_tree.specs.declared.arena.TNode.{TNode}
use Rattle.cpp_tree.specs.Arena.{are_below, IsOrdered}
use Rattle.tree_nodes.specs.Order.{ordered_from}

each_lower : (ns : List TNode) (place i : ℕ) (n : TNode) → ordered_from place ns ≡ true → slice_get ns i ≡ Some n → are_below (place + i) n.kids.items ≡ true
each_lower [] place i n h e = absurd cc
each_lower (m ∷ ns) place zero n h e =
    let p = and_parts (are_below place m.kids.items) (ordered_from (place + 1) ns) h in
    let is : m ≡ n = cc in
    let here : place + 0 ≡ place = omega arith in
    ap (λ (z : ℕ). are_below z n.kids.items) here ∙ ap (λ (z : TNode). are_below place z.kids.items) (sym is) ∙ p.0
each_lower (m ∷ ns) place (suc i) n h e =
    let p = and_parts (are_below place m.kids.items) (ordered_from (place + 1) ns) h in
    let there : place + suc i ≡ place + 1 + i = omega arith in
    ap (λ (z : ℕ). are_below z n.kids.items) there ∙ each_lower ns (place + 1) i n p.1 e

all_lower : (ns : List TNode) (place : ℕ) → ((i : ℕ) (n : TNode) → slice_get ns i ≡ Some n → are_below (place + i) n.kids.items ≡ true)
    → ordered_from place ns ≡ true
all_lower [] place each = refl
all_lower (m ∷ ns) place each =
    let here : place + 0 ≡ place = omega arith in
    let first : are_below place m.kids.items ≡ true = ap (λ (z : ℕ). are_below z m.kids.items) (sym here) ∙ each 0 m refl in
    and_from (are_below place m.kids.items) (ordered_from (place + 1) ns) first
    (all_lower ns (place + 1) (λ i n e. let there : place + 1 + i ≡ place + suc i = omega arith in ap (λ (z : ℕ). are_below z n.kids.items) there ∙ each
    (suc i) n e))

pub ordered_is : (b : Bool) (ns : List TNode) → b ≡ ordered_from 0 ns → IsTrue b ↔ IsOrdered ns
ordered_is b ns e = (
  λ t. (let h : ordered_from 0 ns ≡ true = sym e ∙ t in
      record { lower = λ id n g. (let there : id ≡ 0 + id = omega arith in ap (λ (z : ℕ). are_below z n.kids.items) there ∙ each_lower ns 0 id n h g) }),
  λ o. e ∙ all_lower ns 0 (λ i n g. let there : 0 + i ≡ i = omega arith in ap (λ (z : ℕ). are_below z n.kids.items) there ∙ o.lower i n g),
)
