-- Ids in lists: below an index, and how often.
use Rattle.std.proofs.Common.{◌≡◌, ℕ, zero, suc, ◌<◌, ◌≤◌, nat_lt, nat_eq, Bool, true, cond, List, [], ◌∷◌, get_or, slice_get, Some, refl, sym, ◌∙◌, ap, arith}
use Rattle.std.proofs.Common.{eq-eqb}
use Rattle.std.proofs.lemmas.Bool.{and_parts, and_from, ltb-true, lt-ltb}
use Rattle.std.proofs.lemmas.Option.{get_or_from_slice_get, none-some, slice_get_within}
use Rattle.std.proofs.lemmas.List.Sums.{get_or-le-sum_by}
use Rattle.cpp_ast.specs.declared.arena.NodeId.{NodeId}
use Rattle.cpp_ast.specs.Orders.{are_below}
use Rattle.cpp_ast.specs.Units.{times_in}

pub below_at : (position : ℕ) (ids : List NodeId) (i : ℕ) (id : NodeId) → are_below position ids ≡ true → slice_get ids i ≡ Some id → id.0 < position
below_at position [] zero id h e = absurd (none-some id e)
below_at position [] (suc i) id h e = absurd (none-some id e)
below_at position (j ∷ ids) zero id h e =
    let same : j ≡ id = get_or_from_slice_get (j ∷ ids) 0 id j e in
    ltb-true id.0 position (ap (λ (k : NodeId). nat_lt k.0 position) (sym same) ∙ (and_parts (nat_lt j.0 position) (are_below position ids) h).0)
below_at position (j ∷ ids) (suc i) id h e = below_at position ids i id (and_parts (nat_lt j.0 position) (are_below position ids) h).1 e

pub below_more : (position more : ℕ) (ids : List NodeId) → position ≤ more → are_below position ids ≡ true → are_below more ids ≡ true
below_more position more [] le h = refl
below_more position more (id ∷ ids) le h =
    let parts = and_parts (nat_lt id.0 position) (are_below position ids) h in
    let less : id.0 < position = ltb-true id.0 position parts.0 in
    and_from (nat_lt id.0 more) (are_below more ids) (lt-ltb id.0 more (omega (arith, le, less))) (below_more position more ids le parts.1)

abbrev one_if : Bool → ℕ
one_if b = cond b 1 0

one_if_same : (id : ℕ) → ◌≡◌ {A = ℕ} (cond (nat_eq id id) 1 0) 1
one_if_same id = ap (λ (b : Bool). one_if b) (eq-eqb id id refl)

pub held : (ids : List NodeId) (i id : ℕ) → slice_get ids i ≡ Some (record { 0 = id }) → 1 ≤ times_in id ids
held ids i id e =
    let found : get_or ids i (record { 0 = id }) ≡ record { 0 = id } = get_or_from_slice_get ids i (record { 0 = id }) (record { 0 = id }) e in
    let one : ◌≡◌ {A = ℕ} (cond (nat_eq (get_or ids i (record { 0 = id })).0 id) 1 0) 1 = ap (λ (j : NodeId). one_if (nat_eq j.0 id)) found ∙ one_if_same id in
    let least = get_or-le-sum_by (λ (j : NodeId). cond (nat_eq j.0 id) 1 0) ids i (record { 0 = id }) (slice_get_within ids i (record { 0 = id }) e) in
    omega (arith, one, least)
