-- The notes of straight code fit that leads to where something else is left to write.
use Rattle.std.proofs.Common.{ℕ, ◌≡◌, ◌+◌, ◌-◌, ◌≤◌, ◌⊎◌, ◌%◌, ◌^◌, ◌==◌, refl, ap, sym, ◌∙◌, subst, Bool, true, false, cond, List, [], ◌∷◌, ◌++◌, nat_lt}
use Rattle.std.specs.Prelude.{nat_eq}
use Rattle.std.proofs.lemmas.Bool.{eqb-true}
use Rattle.tx_ints.specs.declared.kinds.BinOp.TheVariants.{Add}
use Rattle.tx_code.specs.declared.instr.Instr.{Instr}
use Rattle.tx_code.specs.declared.instr.Instr.TheVariants.{Push, JumpZero}
use Rattle.low_code.specs.declared.scopes.ScopeKind.{ScopeKind}
use Rattle.low_code.specs.Numbers.{address_sum}
use Rattle.src_mean.specs.Linked.{Program}
use Rattle.symbolic_source.specs.Terms.{Term, number, plus_number}
use Rattle.symbolic_source.specs.Outcomes.{Outcome, chooses}
use Rattle.symbolic_source.specs.Small.{is_stuck}
use Rattle.symbolic_code.specs.Facts.{Fact}
use Rattle.symbolic_code.specs.Places.{Place, with_operands}
use Rattle.symbolic_code.specs.Following.{Next, quietly, jumps_zero, followed}
use Rattle.body_check.specs.Notes.{Bounds, LandsOn, Fits}
use Rattle.body_check.specs.Calls.{Book, StepFits}
use Rattle.body_check.specs.Linked.{Held}
use Rattle.unwind_lower.specs.declared.items.Item.{Item}
use Rattle.unwind_lower.specs.Settings.{Setting}
use Rattle.lowered_frames.specs.Modes.{Mode}
use Rattle.lowered_frames.specs.Left.{Left, operands}
use Rattle.lowered_notes.specs.Straight.{Moved, pushed, computed, Straight, done, moves, is_operator, Stand, AreNoted, Ends, AllFit}
use Rattle.lowered_notes.proofs.Straight.{moved_follows, all_fit}
use Rattle.lowered_steps.specs.Ahead.{Ahead}
use Rattle.lowered_steps.proofs.Landings.{quiet_landing}
use Rattle.lowered_objects.specs.Passing.{Passes, index_behind, rank_of_last, is_choice, offset_instrs}
use Rattle.lowered_objects.proofs.Lists.{plus_none}

-- ---- straight code

pub joined : {known : List Fact} {is js : List Instr} {us vs ws : List Term} → Straight known is us vs → Straight known js vs ws → Straight known (is ++ js) us ws
joined done t = t
joined (moves m s) t = moves m (joined s t)

module _ (known : List Fact) (offset : ℕ) (small : nat_lt offset (2 ^ 64) ≡ true) (t : Term) (ws : List Term) where
  offset_by : (z : Bool) → nat_eq offset 0 ≡ z → Straight known (cond z [] (Push offset ∷ address_sum ∷ [])) (t ∷ ws) (plus_number t offset ∷ ws)
  offset_by true e = subst (λ (z : ℕ). Straight known [] (t ∷ ws) (plus_number t z ∷ ws)) (sym (eqb-true offset 0 e))
      (subst (λ (z : Term). Straight known [] (t ∷ ws) (z ∷ ws)) (sym (plus_none t)) done)
  offset_by false e = moves (pushed offset small) (moves (computed Add t (number offset) (plus_number t offset) refl) done)

  -- a number is added to the address on top
  pub offset_moves : Straight known (offset_instrs offset) (t ∷ ws) (plus_number t offset ∷ ws)
  offset_moves = offset_by (nat_eq offset 0) refl

module _ (p : Program) (b : Bounds) (book : Book) (h : Held) where
  -- one instruction, where the source has taken some silent steps before
  carried : (q : Place) (known : List Fact) (o : Outcome) (lead rank index : ℕ) → is_operator o ≡ false → {instr : Instr} {ws us : List Term} (m : Moved known instr ws us)
      → LandsOn p h.func b h.notes book.thrown known lead rank (index + 1) (with_operands q us) o
      → Fits p h.func b h.notes book.thrown book.numbers h.rows known lead rank (followed h.table known index instr (with_operands q ws) o)
  carried q known o lead rank index plain m l = subst (λ (z : Next). Fits p h.func b h.notes book.thrown book.numbers h.rows known lead rank z)
      (sym (moved_follows h.table known index q o plain m)) l

  pub moved_step : (q : Place) (known : List Fact) (o : Outcome) (lead rank index : ℕ) → is_operator o ≡ false → {instr : Instr} {ws us : List Term} (m : Moved known instr ws us)
      → LandsOn p h.func b h.notes book.thrown known lead rank (index + 1) (with_operands q us) o
      → StepFits p b book h known lead rank index instr (with_operands q ws) o
  moved_step q known o lead rank index plain (pushed n small) l = carried q known o lead rank index plain (pushed n small) l
  moved_step q known o lead rank index plain m l = carried q known o lead rank index plain m l

  -- the end of straight code
  ends_so : (q : Place) (known : List Fact) (o : Outcome) {instrs : List Instr} {ws vs : List Term} (s : Straight known instrs ws vs) (index rank : ℕ)
      → LandsOn p h.func b h.notes book.thrown known 0 (rank_of_last instrs rank) (index_behind instrs index) (with_operands q vs) o
      → Ends p b book h q known o s index rank
  ends_so q known o done index rank l = tt
  ends_so q known o (moves m done) index rank l = l
  ends_so q known o (moves m (moves n s)) index rank l = ends_so q known o (moves n s) (index + 1) (rank - 1) l

  module _ (g : Setting) (q : Place) (o : Outcome) {n : Mode} {others : List Item} (e : Left g n others) (outer : List ScopeKind) (steps : ℕ) (known : List Fact)
      (instrs : List Instr) (s : Passes p b book h g q o e outer steps known instrs) where
    -- what stands behind the instructions has come to its note
    pub passed : (lead rank index after : ℕ) → Ahead p b book h g e outer index after → lead + steps ≤ b.longest → ((1 ≤ lead + steps) ⊎ (after + 1 ≤ rank))
        → LandsOn p h.func b h.notes book.thrown known lead rank index (with_operands q (operands g e outer s.value s.terms)) o
    passed lead rank index after a short on = quiet_landing p b book h g e outer s.value s.exceptions s.terms known s.filled lead steps rank index after a short on _ _
        s.place_is s.outcome_is

    pub passes_fit : (index rank after : ℕ) → 1 ≤ b.half → is_stuck o ≡ false → is_operator o ≡ false → Stand h.body.code index instrs
        → AreNoted b h.notes q known o s.moved index rank → Ahead p b book h g e outer (index_behind instrs index) after → 0 + steps ≤ b.longest
        → ((1 ≤ 0 + steps) ⊎ (after + 1 ≤ rank_of_last instrs rank)) → AllFit p b book h q known o s.moved index rank
    passes_fit index rank after half going plain there noted a short on = all_fit p b book h q known o half going plain s.moved index rank there noted
        (ends_so q known o s.moved index rank (passed 0 (rank_of_last instrs rank) (index_behind instrs index) after a short on))

  -- ---- jumps where it is known how many are left

  module _ (i n : ℕ) (q : Place) (k : ℕ) (ws : List Term) where
    number_jumps : (o : Outcome) → is_choice o ≡ false → jumps_zero i n q (number k) ws o
        ≡ cond (k % 2 ^ 64 == 0) (quietly n (with_operands q ws) o) (quietly (i + 1) (with_operands q ws) o)
    number_jumps (chooses w first other) e = absurd cc
    number_jumps o e = refl

  module _ (q : Place) (known : List Fact) (o : Outcome) (lead rank index target k : ℕ) (ws : List Term) (plain : is_choice o ≡ false) where
    pub jump_not_made : (k % 2 ^ 64 == 0) ≡ false → LandsOn p h.func b h.notes book.thrown known lead rank (index + 1) (with_operands q ws) o
        → StepFits p b book h known lead rank index (JumpZero target) (with_operands q (number k ∷ ws)) o
    jump_not_made e l = subst (λ (z : Next). Fits p h.func b h.notes book.thrown book.numbers h.rows known lead rank z)
        (sym (number_jumps index target (with_operands q (number k ∷ ws)) k ws o plain ∙ ap (λ (z : Bool). cond z (quietly target (with_operands q ws) o)
        (quietly (index + 1) (with_operands q ws) o)) e)) l

    pub jump_made : (k % 2 ^ 64 == 0) ≡ true → LandsOn p h.func b h.notes book.thrown known lead rank target (with_operands q ws) o
        → StepFits p b book h known lead rank index (JumpZero target) (with_operands q (number k ∷ ws)) o
    jump_made e l = subst (λ (z : Next). Fits p h.func b h.notes book.thrown book.numbers h.rows known lead rank z)
        (sym (number_jumps index target (with_operands q (number k ∷ ws)) k ws o plain ∙ ap (λ (z : Bool). cond z (quietly target (with_operands q ws) o)
        (quietly (index + 1) (with_operands q ws) o)) e)) l
