-- Claims in other orders, and those of the labels of a `switch`.
use Rattle.std.proofs.Common.{◌≡◌, refl, sym, ap, Bool, true, false, ◌||◌, cond, ℕ, ◌+◌, ◌≤◌, List, [], ◌∷◌, drop, Option, arith}
use Rattle.std.specs.List.{list_any}
use Rattle.cpp_tree.specs.declared.arena.TNodeId.{TNodeId}
use Rattle.low_code.specs.declared.writer.Jump.{Jump}
use Rattle.low_code.specs.Nodes.{Node}
use Rattle.unwind_lower.specs.Settings.{Setting, node_in}
use Rattle.unwind_lower.specs.Kids.{kids_from}
use Rattle.unwind_lower.specs.Blocks.{is_default, has_default, label_of, first_label, other_labels}
use Rattle.lowered_states.specs.Claims.{Claim, with_jump, sum_of, one_if}
use Rattle.lowered_states.specs.Runs.{defaults}
use Rattle.lowered_states.proofs.Counting.{jump_sum}
use Rattle.lowered_states.proofs.Moves.{Fewer}

-- ---- other orders

pub jumps_turned : (i j : Option Jump) (cs : List Claim) → Fewer (with_jump i (with_jump j cs)) (with_jump j (with_jump i cs))
jumps_turned i j cs w = omega (arith, jump_sum w i (with_jump j cs), jump_sum w j cs, jump_sum w j (with_jump i cs), jump_sum w i cs)

pub jump_first : (j : Option Jump) (c : Claim) (cs : List Claim) → Fewer (with_jump j (c ∷ cs)) (c ∷ with_jump j cs)
jump_first j c cs w = omega (arith, jump_sum w j (c ∷ cs), jump_sum w j cs)

pub turned : (a b : Claim) (cs : List Claim) → Fewer (a ∷ b ∷ cs) (b ∷ a ∷ cs)
turned a b cs w = omega arith

-- the second one is let go
pub one_fewer : (a b : Claim) (cs : List Claim) → Fewer (a ∷ cs) (a ∷ b ∷ cs)
one_fewer a b cs w = omega arith

-- ---- labels

abbrev pub with_jumps : List (Option Jump) → List Claim → List Claim
with_jumps [] cs = cs
with_jumps (j ∷ js) cs = with_jump j (with_jumps js cs)

jumps_sum : (w : Claim → ℕ) (js : List (Option Jump)) (cs : List Claim) → sum_of w (with_jumps js cs) ≡ sum_of w (with_jumps js []) + sum_of w cs
jumps_sum w [] cs = omega arith
jumps_sum w (j ∷ js) cs = omega (arith, jump_sum w j (with_jumps js cs), jump_sum w j (with_jumps js []), jumps_sum w js cs)

pub label_first : (label : Option Jump) (others : List (Option Jump)) (cs : List Claim)
    → Fewer (with_jump label (with_jumps others cs)) (with_jumps others (with_jump label cs))
label_first label others cs w = omega (
  arith,
  jump_sum w label (with_jumps others cs),
  jumps_sum w others cs,
  jumps_sum w others (with_jump label cs),
  jump_sum w label cs,
)

-- the jumps that lead to items of a `switch`
abbrev pub bound_by : Setting → Option Jump → List TNodeId → List (Option Jump) → List Claim → List Claim
bound_by g otherwise [] labels cs = cs
bound_by g otherwise (id ∷ ids) labels cs =
    with_jump (label_of (node_in g id).kind (first_label labels) otherwise) (bound_by g otherwise ids (other_labels labels) cs)

bound_sum : (w : Claim → ℕ) (g : Setting) (otherwise : Option Jump) (ids : List TNodeId) (labels : List (Option Jump)) (cs : List Claim)
    → sum_of w (bound_by g otherwise ids labels cs) ≡ sum_of w (bound_by g otherwise ids labels []) + sum_of w cs
bound_sum w g otherwise [] labels cs = omega arith
bound_sum w g otherwise (id ∷ ids) labels cs =
    let j = label_of (node_in g id).kind (first_label labels) otherwise in
    omega (
      arith,
      jump_sum w j (bound_by g otherwise ids (other_labels labels) cs),
      jump_sum w j (bound_by g otherwise ids (other_labels labels) []),
      bound_sum w g otherwise ids (other_labels labels) cs,
    )

pub bound_last : (g : Setting) (otherwise : Option Jump) (ids : List TNodeId) (labels : List (Option Jump)) (j : Option Jump) (cs : List Claim)
    → Fewer (bound_by g otherwise ids labels (with_jump j cs)) (with_jump j (bound_by g otherwise ids labels cs))
bound_last g otherwise ids labels j cs w = omega (
  arith,
  bound_sum w g otherwise ids labels (with_jump j cs),
  bound_sum w g otherwise ids labels cs,
  jump_sum w j cs,
  jump_sum w j (bound_by g otherwise ids labels cs),
)

first_sum : (w : Claim → ℕ) (labels : List (Option Jump))
    → sum_of w (with_jump (first_label labels) []) + sum_of w (with_jumps (other_labels labels) []) ≡ sum_of w (with_jumps labels [])
first_sum w [] = refl
first_sum w (label ∷ labels) = sym (jump_sum w label (with_jumps labels []))

module _ (w : Claim → ℕ) (g : Setting) (otherwise : Option Jump) where
  -- without a `default` only the labels are taken
  no_default : (ids : List TNodeId) (labels : List (Option Jump)) → defaults g ids ≡ 0
      → sum_of w (bound_by g otherwise ids labels []) ≤ sum_of w (with_jumps labels [])
  no_default [] labels e = omega arith
  no_default (id ∷ ids) labels e = by (is_default (node_in g id).kind) e (no_default ids (other_labels labels))
    where
      by : (v : Bool) → one_if v + defaults g ids ≡ 0
          → (defaults g ids ≡ 0 → sum_of w (bound_by g otherwise ids (other_labels labels) []) ≤ sum_of w (with_jumps (other_labels labels) []))
          → sum_of w (with_jump (cond v otherwise (first_label labels)) (bound_by g otherwise ids (other_labels labels) [])) ≤ sum_of w (with_jumps labels [])
      by true e h = absurd (omega arith)
      by false e h =
          let k : sum_of w (bound_by g otherwise ids (other_labels labels) []) ≤ sum_of w (with_jumps (other_labels labels) []) = h (omega arith) in
          omega (arith, first_sum w labels, jump_sum w (first_label labels) (bound_by g otherwise ids (other_labels labels) []))

  -- with one at most the jump that is made otherwise is taken once
  one_default : (ids : List TNodeId) (labels : List (Option Jump)) → defaults g ids ≤ 1
      → sum_of w (bound_by g otherwise ids labels []) ≤ sum_of w (with_jump otherwise []) + sum_of w (with_jumps labels [])
  one_default [] labels e = omega arith
  one_default (id ∷ ids) labels e = by (is_default (node_in g id).kind) e (one_default ids (other_labels labels)) (no_default ids (other_labels labels))
    where
      by : (v : Bool) → one_if v + defaults g ids ≤ 1
          → (defaults g ids ≤ 1 → sum_of w (bound_by g otherwise ids (other_labels labels) [])
          ≤ sum_of w (with_jump otherwise []) + sum_of w (with_jumps (other_labels labels) []))
          → (defaults g ids ≡ 0 → sum_of w (bound_by g otherwise ids (other_labels labels) []) ≤ sum_of w (with_jumps (other_labels labels) []))
          → sum_of w (with_jump (cond v otherwise (first_label labels)) (bound_by g otherwise ids (other_labels labels) []))
          ≤ sum_of w (with_jump otherwise []) + sum_of w (with_jumps labels [])
      by true e h n =
          let k : sum_of w (bound_by g otherwise ids (other_labels labels) []) ≤ sum_of w (with_jumps (other_labels labels) []) = n (omega arith) in
          omega (arith, first_sum w labels, jump_sum w otherwise (bound_by g otherwise ids (other_labels labels) []))
      by false e h n =
          let k : sum_of w (bound_by g otherwise ids (other_labels labels) []) ≤ sum_of w (with_jump otherwise []) + sum_of w (with_jumps (other_labels labels) []) =
          h (omega arith) in
          omega (arith, first_sum w labels, jump_sum w (first_label labels) (bound_by g otherwise ids (other_labels labels) []))

-- the jump that is made otherwise, where there is no `default`
abbrev pub unless_default : Bool → Option Jump → List Claim → List Claim
unless_default true j cs = cs
unless_default false j cs = with_jump j cs

any_none : (b m : Bool) → (b || m) ≡ false → m ≡ false
any_none true m e = absurd cc
any_none false m e = e

any_here : (b m : Bool) → (b || m) ≡ false → b ≡ false
any_here true m e = absurd cc
any_here false m e = refl

none_found : (g : Setting) (ids : List TNodeId) → list_any (λ (id : TNodeId). is_default (node_in g id).kind) ids ≡ false → defaults g ids ≡ 0
none_found g [] e = refl
none_found g (id ∷ ids) e =
    let b : is_default (node_in g id).kind ≡ false = any_here (is_default (node_in g id).kind) (list_any (λ (i : TNodeId). is_default (node_in g i).kind) ids) e in
    let here : one_if (is_default (node_in g id).kind) ≡ 0 = ap one_if b in
    omega (arith, here, none_found g ids (any_none (is_default (node_in g id).kind) (list_any (λ (i : TNodeId). is_default (node_in g i).kind) ids) e))

none_behind : (g : Setting) (ids : List TNodeId) → defaults g ids ≡ 0 → defaults g (drop 1 ids) ≡ 0
none_behind g [] e = refl
none_behind g (id ∷ ids) e = omega arith

labels_behind : (w : Claim → ℕ) (labels : List (Option Jump)) → sum_of w (with_jumps (drop 1 labels) []) ≤ sum_of w (with_jumps labels [])
labels_behind w [] = omega arith
labels_behind w (label ∷ labels) = omega (arith, jump_sum w label (with_jumps labels []))

has_none : (g : Setting) (n : Node) → has_default g n.kids ≡ false → defaults g (kids_from n 1) ≡ 0
unfolding has_default
has_none g n e = none_behind g n.kids (none_found g n.kids e)

pub enough_labels : (g : Setting) (n : Node) (c : Claim) (otherwise : Option Jump) (labels : List (Option Jump)) (cs : List Claim)
    → defaults g (kids_from n 1) ≤ 1
    → Fewer (c ∷ unless_default (has_default g n.kids) otherwise (bound_by g otherwise (kids_from n 1) (drop 1 labels) cs))
    (with_jump otherwise (with_jumps labels (c ∷ cs)))
enough_labels g n c otherwise labels cs one w = by (has_default g n.kids) refl
  where
    all : sum_of w (with_jump otherwise (with_jumps labels (c ∷ cs))) ≡ sum_of w (with_jump otherwise []) + (sum_of w (with_jumps labels []) + (w c + sum_of w cs))
    all = omega (arith, jump_sum w otherwise (with_jumps labels (c ∷ cs)), jumps_sum w labels (c ∷ cs))

    by : (v : Bool) → has_default g n.kids ≡ v
        → sum_of w (c ∷ unless_default v otherwise (bound_by g otherwise (kids_from n 1) (drop 1 labels) cs))
        ≤ sum_of w (with_jump otherwise (with_jumps labels (c ∷ cs)))
    by true e = omega (
      arith,
      all,
      bound_sum w g otherwise (kids_from n 1) (drop 1 labels) cs,
      one_default w g otherwise (kids_from n 1) (drop 1 labels) one,
      labels_behind w labels,
    )
    by false e = omega (
      arith,
      all,
      bound_sum w g otherwise (kids_from n 1) (drop 1 labels) cs,
      no_default w g otherwise (kids_from n 1) (drop 1 labels) (has_none g n e),
      labels_behind w labels,
      jump_sum w otherwise (bound_by g otherwise (kids_from n 1) (drop 1 labels) cs),
    )
