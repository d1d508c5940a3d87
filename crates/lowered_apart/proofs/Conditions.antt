-- Conditionals.
use Rattle.std.proofs.Common.{Bool, cond, false, refl, true, ◌≡◌, ◌||◌}
use Rattle.low_code.specs.Nodes.{Node, kid_in}
use Rattle.unwind_lower.specs.Conditions as conditions
use Rattle.unwind_lower.specs.Conditions.{branches_make, other_of, up_to_end}
use Rattle.unwind_lower.specs.Settings.{makes_temporaries}
use Rattle.unwind_lower.specs.States as states
use Rattle.unwind_lower.specs.States.{State, jump_from, scope_of}
use Rattle.unwind_lower.specs.declared.items.Item.TheVariants.{Bind, Other, OtherAgain, Run}
use Rattle.unwind_lower.specs.declared.items.Other.{Other as OtherPart}
use Rattle.unwind_lower.specs.declared.items.Way.{Way}
use Rattle.lowered_apart.specs.Still.{Nodes}
use Rattle.lowered_apart.specs.Waiting.{MayRun, AllRun, Waiting}
use Rattle.lowered_apart.proofs.Lists.{not_both}
use Rattle.lowered_apart.proofs.Basic.{at_scope, bind_behind, bound, calm, hold, jumped, jumped_if_zero, repeat_rest, run_next, surely}

pub by_either : {A : Type 0} (a b : Bool) → (a ≡ true → A) → (b ≡ true → A) → a || b ≡ true → A
by_either true b f g e = f refl
by_either false b f g e = g e

neither : (a b : Bool) → a || b ≡ false → (a ≡ false) × (b ≡ false)
neither true b e = absurd cc
neither false b e = (refl, e)

module _ {z : Nodes} where
  start_other : (o : OtherPart) {free : Bool} {s : State} → Waiting z free s → Waiting z free (conditions.start_other o s)
  unfolding conditions.start_other
  start_other o m = bound o.test (at_scope o.scope (jumped o.at m))

  pub other : (o : OtherPart) {s : State} → MayRun z false o.id → Waiting z false s → Waiting z false (conditions.other o s)
  unfolding conditions.other
  other o {s} k m = run_next o.id o.way k (hold (Bind (jump_from s)) tt (start_other o m))

  pub other_again : (o : OtherPart) {free : Bool} {s : State} → MayRun z free o.id → Waiting z free s → Waiting z free (conditions.other_again o s)
  unfolding conditions.other_again
  other_again o {s = s} k m = run_next o.id o.way k (bind_behind (jump_from s) (start_other o m))

  pub branch : (n : Node) (way : Way) {free : Bool} {s : State} → AllRun z free n.kids → Waiting z free s → Waiting z false (conditions.branch z.setting n way s)
  unfolding conditions.branch
  branch n way {free} {s} k m = by (branches_make z.setting n) refl
    where
      by : (v : Bool) → branches_make z.setting n ≡ v → Waiting z false (states.later (Run (kid_in n.kids 1) way)
          (cond v (conditions.repeat_rest (OtherAgain (other_of n way s)) (states.jumped_if_zero n.at s))
          (states.later (Other (other_of n way s)) (states.jumped_if_zero n.at s))))
      by true e =
          let f : free ≡ true = by_either (makes_temporaries z.setting (kid_in n.kids 1)) (makes_temporaries z.setting (kid_in n.kids 2))
          (k 1).1 (k 2).1 e in
          calm (run_next (kid_in n.kids 1) way ((k 1).0, λ h. refl) (repeat_rest (other_of n way s) ((k 2).0, λ h. refl) (surely f (jumped_if_zero n.at m))))
      by false e =
          let c = neither (makes_temporaries z.setting (kid_in n.kids 1)) (makes_temporaries z.setting (kid_in n.kids 2)) e in
          run_next (kid_in n.kids 1) way ((k 1).0, λ h. not_both (makes_temporaries z.setting (kid_in n.kids 1)) c.0 h)
          (hold (Other (other_of n way s)) ((k 2).0, λ h. not_both (makes_temporaries z.setting (kid_in n.kids 2)) c.1 h) (jumped_if_zero n.at m))
