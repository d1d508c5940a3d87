-- Conditionals.
use Rattle.std.proofs.Common.{Bool, List, None, [], cond, false, length, refl, true, ◌<◌, ◌≡◌}
use Rattle.low_code.specs.Nodes.{Node, kid_in}
use Rattle.unwind_lower.specs.Conditions as conditions
use Rattle.unwind_lower.specs.Conditions.{branches_make, other_of, up_to_end}
use Rattle.unwind_lower.specs.Settings.{Setting}
use Rattle.unwind_lower.specs.States as states
use Rattle.unwind_lower.specs.States.{State, jump_from, scope_of}
use Rattle.unwind_lower.specs.declared.items.Item.TheVariants.{Bind, Other, OtherAgain, Run}
use Rattle.unwind_lower.specs.declared.items.Other.{Other as OtherPart}
use Rattle.unwind_lower.specs.declared.items.Way.{Way}
use Rattle.lowered_states.specs.Claims.{Claim, claims_in, with_jump}
use Rattle.lowered_states.proofs.Basic.{at_scope, bind_behind, bound, jumped, jumped_if_zero, more, repeat_rest, within}
use Rattle.lowered_states.proofs.Labels.{jumps_turned}
use Rattle.lowered_states.proofs.Moves.{Moves, Start, fewer}

module _ {z : Start} where
  -- the jump from here and that of the test are at hand one behind the other
  start_other : (o : OtherPart) → (z.asleep → o.test ≡ None) → (cs : List Claim) {s : State} → o.scope < length s.body.scopes
      → Moves z (with_jump o.test cs) s → Moves z (with_jump (jump_from s) cs) (conditions.start_other o s)
  unfolding conditions.start_other states.jumped
  start_other o q cs {s} l m = bound o.test q (at_scope o.scope l (fewer (jumps_turned o.test (jump_from s) cs) (jumped o.at m)))

  pub other : (o : OtherPart) → (z.asleep → o.test ≡ None) → {cs : List Claim} {s : State} → o.scope < length s.body.scopes
      → Moves z (with_jump o.test cs) s → Moves z cs (conditions.other o s)
  unfolding conditions.other
  other o q {cs} {s} l m = more (Run o.id o.way) tt (more (Bind (jump_from s)) tt (start_other o q cs l m))

  pub other_again : (o : OtherPart) → (z.asleep → o.test ≡ None) → {cs : List Claim} {s : State} → o.scope < length s.body.scopes
      → Moves z (with_jump o.test cs) s → Moves z cs (conditions.other_again o s)
  unfolding conditions.other_again
  other_again o q {cs} {s} l m = more (Run o.id o.way) tt (bind_behind (jump_from s) (start_other o q cs l m))

  pub branch : (g : Setting) (n : Node) (way : Way) {cs : List Claim} {s : State} → (branches_make g n ≡ true → claims_in (up_to_end s.work) ≡ [])
      → Moves z cs s → Moves z cs (conditions.branch g n way s)
  unfolding conditions.branch states.jumped_if_zero states.scope_of
  branch g n way {cs} {s} apart m = more (Run (kid_in n.kids 1) way) tt (by (branches_make g n) refl)
    where
      by : (v : Bool) → branches_make g n ≡ v
          → Moves z cs (cond v (conditions.repeat_rest (OtherAgain (other_of n way s)) (states.jumped_if_zero n.at s))
          (states.later (Other (other_of n way s)) (states.jumped_if_zero n.at s)))
      by true e = repeat_rest (OtherAgain (other_of n way s)) (apart e) (within m) (jumped_if_zero n.at m)
      by false e = more (Other (other_of n way s)) (within m) (jumped_if_zero n.at m)
