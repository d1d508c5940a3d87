-- What all steps of the writing of an item keep.
use Rattle.std.proofs.Common.{◌≡◌, ◌∙◌, refl, ap, Bool, true, false, not, ◌&&◌, cond, ℕ, ◌≤◌, List, ◌∷◌, ◌++◌, length, Option, None, arith, le_of_eq, [], nat_eq, slice_set}
use Rattle.std.proofs.lemmas.List.{length-map}
use Rattle.cpp_tree.specs.cpp_types.declared.classes.At.{At}
use Rattle.tx_code.specs.declared.instr.Instr.{Instr}
use Rattle.low_code.specs.declared.writer.Jump.{Jump}
use Rattle.low_code.specs.Effects.{ends, takes_of, leaves_of}
use Rattle.low_code.specs.Writer.{Body}
use Rattle.low_code.specs.Writer as low
use Rattle.unwind_lower.specs.declared.items.Item.{Item}
use Rattle.unwind_lower.specs.declared.items.Item.TheVariants.{Bind}
use Rattle.unwind_lower.specs.States.{State}
use Rattle.unwind_lower.specs.Conditions.{up_to_end, with_behind}
use Rattle.lowered_states.specs.Claims.{Claim, sum_of, claims_in}
use Rattle.lowered_states.specs.Kept.{bare}
use Rattle.lowered_states.specs.Sound.{SoundWith}
use Rattle.lowered_states.proofs.Counting.{begins_same, begins_push, begins_longer, jump_sum, claims_append, put_sum, behind_sum}
use Rattle.lowered_states.proofs.Knowing.{all_know_append, up_to_know, behind_know}
use Rattle.lowered_states.proofs.Moves.{Start, Moves, same, wrote, added, linked, moved, caught, named, padded, deepened, lit, more, opened, bound, parked, all_bound, copied, behind, fewer}
use Rattle.lowered_states.proofs.Single.{Step, step_same, step_then, coded_of, beside_step, wrote_step, opened_step, bound_step, all_bound_step, parked_step, added_step, linked_step, named_step, work_step}

none_in : (w : Claim → ℕ) (items : List Item) → claims_in items ≡ [] → sum_of w (claims_in items) ≡ 0
none_in w items e = ap (sum_of w) e

and_false : (b : Bool) → (b && false) ≡ false
and_false true = refl
and_false false = refl

-- nothing is written where no instruction can be reached
pub wrote_none : (instr : Instr) (b : Body) → b.live ≡ false → (not (ends instr) && b.live) ≡ false
wrote_none instr b e = ap (λ v. not (ends instr) && v) e ∙ and_false (not (ends instr))

pub code_none : (instr : Instr) (at : At) (takes leaves : ℕ) (b : Body) → b.live ≡ false → (low.written instr at takes leaves b).code ≡ b.code
code_none instr at takes leaves b e =
    ap (λ v. cond v (b.code ++ record { instr = instr; at = at; scope = (low.innermost b).rows } ∷ []) b.code) e

bound_none : (j : Option Jump) (b : Body) → j ≡ None → low.bound j b ≡ b
bound_none j b e = ap (λ i. low.bound i b) e

linked_live : (inner outer : ℕ) (b : Body) → (low.linked inner outer b).live ≡ b.live
linked_live inner outer b = elim (nat_eq inner 0) as (λ v. (cond v b (record b { scopes = slice_set b.scopes inner (low.led outer (low.scope_in b inner)) })).live
    ≡ b.live) [ true ↦ refl | false ↦ refl ]

linked_code : (inner outer : ℕ) (b : Body) → (low.linked inner outer b).code ≡ b.code
linked_code inner outer b = elim (nat_eq inner 0) as (λ v. (cond v b (record b { scopes = slice_set b.scopes inner (low.led outer (low.scope_in b inner)) })).code
    ≡ b.code) [ true ↦ refl | false ↦ refl ]

module _ {z : Start} where
  pub steps : {cs : List Claim} {s : State} → Moves z cs s → Step z.claims z.from cs s
  steps same = step_same z.claims z.from z.sound
  steps (wrote instr at takes leaves m) = let a = steps m in step_then a (wrote_step a.sound instr at takes leaves)
  steps (added scope p o m) = let a = steps m in step_then a (added_step a.sound scope p o)
  steps (linked inner outer l m) = let a = steps m in step_then a (linked_step a.sound inner outer l)
  steps (moved {s = s} number l m) = let a = steps m in
      step_then a (beside_step a.sound (coded_of (low.at_scope number s.body)) refl l (begins_same s.body.catches) (begins_same s.body.pads))
  steps (caught {s = s} scope what ty m) = let a = steps m in
      step_then a (beside_step a.sound (coded_of (low.caught_as scope what ty s.body)) refl a.sound.within
      (begins_push s.body.catches (record { scope = scope; target = length s.body.code; what = what; ty = ty })) (begins_same s.body.pads))
  steps (named name m) = let a = steps m in step_then a (named_step a.sound name)
  steps (padded {s = s} index m) = let a = steps m in
      step_then a (beside_step a.sound (coded_of (record s.body { pads = s.body.pads ++ index ∷ [] })) refl a.sound.within
      (begins_same s.body.catches) (begins_push s.body.pads index))
  steps (deepened {s = s} depth m) = let a = steps m in
      step_then a (beside_step a.sound (coded_of (record s.body { depth = depth })) refl a.sound.within (begins_same s.body.catches) (begins_same s.body.pads))
  steps (lit {s = s} live q m) = let a = steps m in
      step_then a (beside_step a.sound (coded_of (record s.body { live = live })) refl a.sound.within (begins_same s.body.catches) (begins_same s.body.pads))
  steps (more {cs = cs} {s = s} item k m) = let a = steps m in
      step_then a (work_step a.sound cs (item ∷ s.work) (k, a.sound.knows) (λ w. le_of_eq (put_sum w item cs s.work)))
  steps (opened instr at o m) = let a = steps m in step_then a (opened_step a.sound instr at o)
  steps (bound jump q m) = let a = steps m in step_then a (bound_step jump a.sound)
  steps (parked scope sort jump l m) = let a = steps m in step_then a (parked_step scope sort jump l a.sound)
  steps (all_bound scope sort q m) = let a = steps m in step_then a (all_bound_step scope sort a.sound)
  steps (copied {cs = cs} {s = s} item e k m) = let a = steps m in
      step_then a (work_step a.sound cs (up_to_end s.work ++ item ∷ s.work)
      (all_know_append (length s.body.scopes) (up_to_end s.work) (item ∷ s.work) (up_to_know (length s.body.scopes) s.work a.sound.knows) (k, a.sound.knows))
      (λ w. omega (arith, put_sum w item cs s.work, claims_append w (up_to_end s.work) (item ∷ s.work), none_in w (up_to_end s.work) e)))
  steps (behind {cs = cs} {s = s} jump m) = let a = steps m in
      step_then a (work_step a.sound cs (with_behind (Bind jump) s.work) (behind_know (length s.body.scopes) (Bind jump) s.work tt a.sound.knows)
      (λ w. omega (arith, behind_sum w (Bind jump) s.work, jump_sum w jump cs)))
  steps (fewer {cs = cs} {s = s} f m) = let a = steps m in
      step_then a (work_step a.sound cs s.work a.sound.knows (λ w. omega (arith, f w)))

  pub sound_in : {cs : List Claim} {s : State} → Moves z cs s → SoundWith cs s
  sound_in m = (steps m).sound

  -- there are only more scopes
  pub grown : {cs : List Claim} {s : State} → Moves z cs s → length z.from.body.scopes ≤ length s.body.scopes
  grown {s = s} m = omega (arith, begins_longer (steps m).kept.scopes, length-map z.from.body.scopes bare, length-map s.body.scopes bare)

  -- where no instruction can be reached, and nothing leads to the next one, none is written
  pub asleep_in : {cs : List Claim} {s : State} → Moves z cs s → z.asleep → (s.body.live ≡ false) × (s.body.code ≡ z.from.body.code)
  asleep_in same a = (z.rests a, refl)
  asleep_in (wrote {s = s} instr at takes leaves m) a = let h = asleep_in m a in
      (wrote_none instr s.body h.0, code_none instr at takes leaves s.body h.0 ∙ h.1)
  asleep_in (added scope p o m) a = asleep_in m a
  asleep_in (linked {s = s} inner outer l m) a = let h = asleep_in m a in (linked_live inner outer s.body ∙ h.0, linked_code inner outer s.body ∙ h.1)
  asleep_in (moved number l m) a = asleep_in m a
  asleep_in (caught scope what ty m) a = asleep_in m a
  asleep_in (named name m) a = asleep_in m a
  asleep_in (padded index m) a = asleep_in m a
  asleep_in (deepened depth m) a = asleep_in m a
  asleep_in (lit live q m) a = (q a, (asleep_in m a).1)
  asleep_in (more item k m) a = asleep_in m a
  asleep_in (opened {s = s} instr at o m) a = let h = asleep_in m a in
      (wrote_none instr s.body h.0, code_none instr at (takes_of instr) (leaves_of instr) s.body h.0 ∙ h.1)
  asleep_in (bound {s = s} jump q m) a = let h = asleep_in m a in
      (ap (λ (b : Body). b.live) (bound_none jump s.body (q a)) ∙ h.0, ap (λ (b : Body). b.code) (bound_none jump s.body (q a)) ∙ h.1)
  asleep_in (parked scope sort jump l m) a = asleep_in m a
  asleep_in (all_bound scope sort q m) a = absurd (q a)
  asleep_in (copied item e k m) a = asleep_in m a
  asleep_in (behind jump m) a = asleep_in m a
  asleep_in (fewer f m) a = asleep_in m a
