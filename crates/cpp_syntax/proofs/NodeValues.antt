-- The values of nodes: they stay when a node is added, and what is said of all of them by a function is said of each.
use Rattle.std.proofs.Common.{◌≡◌, ℕ, zero, suc, ◌+◌, ◌<◌, ◌≤◌, List, [], ◌∷◌, ◌++◌, length, map, take, drop, get_or, refl, sym, ◌∙◌, ap, arith, true, nat_lt}
use Rattle.std.proofs.Common.{slice_get, Some, length-append}
use Rattle.std.proofs.lemmas.Bool.{and_parts, and_from, ltb-true, lt-ltb}
use Rattle.std.proofs.lemmas.List.{map-append, take-append-drop, get_or_append_left}
use Rattle.std.proofs.lemmas.Option.{get_or_from_slice_get, none-some}
use Rattle.std.proofs.Math.ListN.{get_or-map}
use Rattle.std.proofs.Math.Seq.{get_or-append_seam}
use Rattle.cpp_ast.specs.declared.arena.Node.{Node}
use Rattle.cpp_ast.specs.declared.arena.NodeId.{NodeId}
use Rattle.cpp_ast.specs.Orders.{are_below}
use Rattle.cpp_syntax.specs.View.{values_at, values_from}

pub below_take : (index : ℕ) (n : ℕ) (ids : List NodeId) → are_below index ids ≡ true → are_below index (take n ids) ≡ true
below_take index zero ids h = refl
below_take index (suc n) [] h = refl
below_take index (suc n) (id ∷ ids) h =
    let parts = and_parts (nat_lt id.0 index) (are_below index ids) h in
    and_from (nat_lt id.0 index) (are_below index (take n ids)) parts.0 (below_take index n ids parts.1)

pub below_drop : (index : ℕ) (n : ℕ) (ids : List NodeId) → are_below index ids ≡ true → are_below index (drop n ids) ≡ true
below_drop index zero ids h = h
below_drop index (suc n) [] h = refl
below_drop index (suc n) (id ∷ ids) h = below_drop index n ids (and_parts (nat_lt id.0 index) (are_below index ids) h).1

module _ {A : Type 0} where
  pub values_long : (other : A) (make : ℕ → Node → List A → A) (vs : List A) (ns : List Node) → length (values_from other make vs ns) ≡ length vs + length ns
  values_long other make vs [] = omega arith
  values_long other make vs (n ∷ ns) =
      let longer = values_long other make (vs ++ make (length vs) n (values_at other vs n.kids.items) ∷ []) ns in
      let more = length-append vs (make (length vs) n (values_at other vs n.kids.items) ∷ []) in
      omega (arith, longer, more)

  -- the value of one node more
  pub values_snoc : (other : A) (make : ℕ → Node → List A → A) (vs : List A) (ns : List Node) (n : Node)
      → values_from other make vs (ns ++ n ∷ []) ≡ values_from other make vs ns ++ make (length vs + length ns) n
      (values_at other (values_from other make vs ns) n.kids.items) ∷ []
  values_snoc other make vs [] n = ap (λ (k : ℕ). vs ++ make k n (values_at other vs n.kids.items) ∷ []) (omega arith)
  values_snoc other make vs (m ∷ ns) n =
      let now : List A = vs ++ make (length vs) m (values_at other vs m.kids.items) ∷ [] in
      let long : length now + length ns ≡ length vs + length (m ∷ ns) = let more = length-append vs
      (make (length vs) m (values_at other vs m.kids.items) ∷ []) in omega (arith, more) in
      values_snoc other make now ns n ∙ ap (λ (k : ℕ). values_from other make now ns ++ make k n
      (values_at other (values_from other make now ns) n.kids.items) ∷ []) long

  pub at_grow : (other v : A) (vs : List A) (ids : List NodeId) → are_below (length vs) ids ≡ true → values_at other (vs ++ v ∷ []) ids ≡ values_at other vs ids
  at_grow other v vs [] h = refl
  at_grow other v vs (id ∷ ids) h =
      let parts = and_parts (nat_lt id.0 (length vs)) (are_below (length vs) ids) h in
      let first : get_or (vs ++ v ∷ []) id.0 other ≡ get_or vs id.0 other = get_or_append_left vs (v ∷ []) other id.0 (ltb-true id.0 (length vs) parts.0) in
      let rest = at_grow other v vs ids parts.1 in
      cc

  pub at_last : (other v : A) (vs : List A) (id : NodeId) → id.0 ≡ length vs → get_or (vs ++ v ∷ []) id.0 other ≡ v
  at_last other v vs id e = ap (λ (k : ℕ). get_or (vs ++ v ∷ []) k other) e ∙ get_or-append_seam vs v [] other

  module _ {B : Type 0} where
    -- a function of the values of ids is the function of all values, at the ids
    pub at_map : (h : A → B) (other : A) (vs : List A) (ids : List NodeId) → values_at (h other) (map h vs) ids ≡ map h (values_at other vs ids)
    at_map h other vs [] = refl
    at_map h other vs (id ∷ ids) = let first = get_or-map h vs id.0 other in let rest = at_map h other vs ids in cc

  -- One node is added, whose kids are the ids from an index on, in whose index it is.
  pub at_gathered : (other : A) (make : ℕ → Node → List A → A) (old new : List Node) (was ids : List NodeId) (start : ℕ) (added : Node) (id : NodeId)
      → new ≡ old ++ added ∷ [] → added.kids.items ≡ drop start was → id.0 ≡ length old → ids ≡ take start was ++ id ∷ []
      → are_below (length old) was ≡ true
      → values_at other (values_from other make [] new) ids ≡ values_at other (values_from other make [] old) (take start was) ++ make (length old)
      added (values_at other (values_from other make [] old) (drop start was)) ∷ []
  at_gathered other make old new was ids start added id nodes kids index pending below =
      let V : List A = values_from other make [] old in
      let v : A = make (length old) added (values_at other V (drop start was)) in
      let long : length V ≡ length old = let l = values_long other make [] old in omega (arith, l) in
      let more : values_from other make [] new ≡ V ++ v ∷ [] =
      ap (values_from other make []) nodes ∙ values_snoc other make [] old added
      ∙ ap (λ (k : ℕ). V ++ make k added (values_at other V added.kids.items) ∷ []) (omega arith)
      ∙ ap (λ (is : List NodeId). V ++ make (length old) added (values_at other V is) ∷ []) kids in
      let first : values_at other (V ++ v ∷ []) (take start was) ≡ values_at other V (take start was) = at_grow other v V (take start was)
      (below_take (length V) start was (ap (λ (k : ℕ). are_below k was) long ∙ below)) in
      let last : get_or (V ++ v ∷ []) id.0 other ≡ v = at_last other v V id (index ∙ sym long) in
      ap (λ (vs : List A). values_at other vs ids) more
      ∙ ap (values_at other (V ++ v ∷ [])) pending
      ∙ map-append (λ (i : NodeId). get_or (V ++ v ∷ []) i.0 other) (take start was) (id ∷ [])
      ∙ ap (λ (vs : List A). vs ++ get_or (V ++ v ∷ []) id.0 other ∷ []) first
      ∙ ap (λ (w : A). values_at other V (take start was) ++ w ∷ []) last

  -- the values of the nodes that were there, and of the new one
  pub value_grow : (other : A) (make : ℕ → Node → List A → A) (ns : List Node) (n : Node) (id : ℕ) → id < length ns
      → get_or (values_from other make [] (ns ++ n ∷ [])) id other ≡ get_or (values_from other make [] ns) id other
  value_grow other make ns n id h =
      let V : List A = values_from other make [] ns in
      let v : A = make (length {A = A} [] + length ns) n (values_at other V n.kids.items) in
      let long = values_long other make [] ns in
      ap (λ (vs : List A). get_or vs id other) (values_snoc other make [] ns n) ∙ get_or_append_left V (v ∷ []) other id (omega (arith, long, h))

  pub value_last : (other : A) (make : ℕ → Node → List A → A) (ns : List Node) (n : Node)
      → get_or (values_from other make [] (ns ++ n ∷ [])) (length ns) other ≡ make (length ns) n (values_at other (values_from other make [] ns) n.kids.items)
  value_last other make ns n =
      let V : List A = values_from other make [] ns in
      let long : length ns ≡ length V = let l = values_long other make [] ns in omega (arith, l) in
      ap (λ (vs : List A). get_or vs (length ns) other) (values_snoc other make [] ns n)
      ∙ ap (λ (k : ℕ). get_or (V ++ make k n (values_at other V n.kids.items) ∷ []) (length ns) other) (omega arith)
      ∙ ap (λ (k : ℕ). get_or (V ++ make (length ns) n (values_at other V n.kids.items) ∷ []) k other) long
      ∙ get_or-append_seam V (make (length ns) n (values_at other V n.kids.items)) [] other

pub below_more : (index more : ℕ) (ids : List NodeId) → index ≤ more → are_below index ids ≡ true → are_below more ids ≡ true
below_more index more [] le h = refl
below_more index more (id ∷ ids) le h =
    let parts = and_parts (nat_lt id.0 index) (are_below index ids) h in
    let less : id.0 < index = ltb-true id.0 index parts.0 in
    and_from (nat_lt id.0 more) (are_below more ids) (lt-ltb id.0 more (omega (arith, le, less))) (below_more index more ids le parts.1)

pub below_at : (index : ℕ) (ids : List NodeId) (i : ℕ) (id : NodeId) → are_below index ids ≡ true → slice_get ids i ≡ Some id → id.0 < index
below_at index [] zero id h e = absurd (none-some id e)
below_at index [] (suc i) id h e = absurd (none-some id e)
below_at index (j ∷ ids) zero id h e =
    let same : j ≡ id = get_or_from_slice_get (j ∷ ids) 0 id j e in
    ltb-true id.0 index (ap (λ (k : NodeId). nat_lt k.0 index) (sym same) ∙ (and_parts (nat_lt j.0 index) (are_below index ids) h).0)
below_at index (j ∷ ids) (suc i) id h e = below_at index ids i id (and_parts (nat_lt j.0 index) (are_below index ids) h).1 e
