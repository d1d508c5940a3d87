-- The lambdas below a node: those below its kids, and the node itself.
use Rattle.std.proofs.Common.{◌≡◌, ℕ, if◌then◌else◌, zero, suc, ◌+◌, ◌<◌, List, [], ◌∷◌, ◌++◌, length, get_or, slice_get, Some, refl, sym, ◌∙◌, ap, arith, true}
use Rattle.std.proofs.Common.{nat_lt, length-append}
use Rattle.std.proofs.lemmas.Bool.{and_parts, ltb-true}
use Rattle.std.proofs.lemmas.List.{get_or_append_left, get_or_push}
use Rattle.std.proofs.lemmas.Option.{none-some}
use Rattle.cpp_ast.specs.declared.arena.Node.{Node}
use Rattle.cpp_ast.specs.declared.arena.NodeId.{NodeId}
use Rattle.cpp_ast.specs.declared.kinds.NodeKind.{NodeKind}
use Rattle.cpp_ast.specs.Orders.{are_below}
use Rattle.cpp_syntax.specs.View.{values_at, values_from, lambdas_made, lambdas_at, is_lambda}

-- The value of a node is made of those of its kids, which stand before it.

module _ {A : Type 0} (other : A) (make : ℕ → Node → List A → A) where
  front_kept : (vs : List A) (ns : List Node) (i : ℕ) → i < length vs → get_or (values_from other make vs ns) i other ≡ get_or vs i other
  front_kept vs [] i h = refl
  front_kept vs (n ∷ ns) i h =
      let v : A = make (length vs) n (values_at other vs n.kids.items) in
      let longer = length-append vs (v ∷ []) in
      front_kept (vs ++ v ∷ []) ns i (omega (arith, h, longer)) ∙ get_or_append_left vs (v ∷ []) other i h

  fronts_kept : (vs : List A) (ns : List Node) (ids : List NodeId) → are_below (length vs) ids ≡ true
      → values_at other (values_from other make vs ns) ids ≡ values_at other vs ids
  fronts_kept vs ns [] h = refl
  fronts_kept vs ns (id ∷ ids) h =
      let parts = and_parts (nat_lt id.0 (length vs)) (are_below (length vs) ids) h in
      let first = front_kept vs ns id.0 (ltb-true id.0 (length vs) parts.0) in
      let rest = fronts_kept vs ns ids parts.1 in
      cc

  pub value_from : (vs : List A) (ns : List Node) (k i : ℕ) (n : Node) → slice_get ns k ≡ Some n → i ≡ length vs + k → are_below i n.kids.items ≡ true
      → get_or (values_from other make vs ns) i other ≡ make i n (values_at other (values_from other make vs ns) n.kids.items)
  value_from vs [] k i n e at below = absurd (none-some n e)
  value_from vs (m ∷ ns) zero i n e at below =
      let v : A = make (length vs) m (values_at other vs m.kids.items) in
      let longer = length-append vs (v ∷ []) in
      let node : m ≡ n = cc in
      let position : i ≡ length vs = omega (arith, at) in
      let kids : values_at other (values_from other make vs (m ∷ ns)) n.kids.items ≡ values_at other vs n.kids.items = fronts_kept vs (m ∷ ns)
      n.kids.items (ap (λ (z : ℕ). are_below z n.kids.items) (sym position) ∙ below) in
      front_kept (vs ++ v ∷ []) ns i (omega (arith, position, longer))
      ∙ get_or_push vs v other i (sym position)
      ∙ ap (λ (z : ℕ). make z m (values_at other vs m.kids.items)) (sym position)
      ∙ ap (λ (z : Node). make i z (values_at other vs z.kids.items)) node
      ∙ ap (make i n) (sym kids)
  value_from vs (m ∷ ns) (suc k) i n e at below =
      let v : A = make (length vs) m (values_at other vs m.kids.items) in
      let longer = length-append vs (v ∷ []) in
      value_from (vs ++ v ∷ []) ns k i n e (omega (arith, at, longer)) below

abbrev pub own_lambda : NodeKind → ℕ → List ℕ
own_lambda kind id = if is_lambda kind then id ∷ [] else []

abbrev pub lambdas_of : List Node → ℕ → List ℕ
lambdas_of nodes id = get_or (values_from [] lambdas_made [] nodes) id []

pub lambdas_are : (nodes : List Node) (id : ℕ) (n : Node) → slice_get nodes id ≡ Some n → are_below id n.kids.items ≡ true
    → lambdas_of nodes id ≡ lambdas_at nodes n.kids.items ++ own_lambda n.kind id
lambdas_are nodes id n e below = value_from [] lambdas_made [] nodes id id n e (omega arith) below
