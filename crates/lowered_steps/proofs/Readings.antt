-- What fits where something is read otherwise fits there, after as many silent steps more as the other reading takes.
use Rattle.std.proofs.Common.{ℕ, suc, ap, sym, ◌∙◌, subst, List, ◌≡◌, ◌+◌, ◌≤◌, ◌⊎◌}
use Rattle.tx_code.specs.declared.instr.Instr.{Instr}
use Rattle.low_code.specs.declared.scopes.ScopeKind.{ScopeKind}
use Rattle.src_mean.specs.Linked.{Program}
use Rattle.symbolic_source.specs.Terms.{Term, Exception}
use Rattle.symbolic_source.specs.Outcomes.{Outcome}
use Rattle.symbolic_source.specs.Steps.{step_of, advanced}
use Rattle.symbolic_source.specs.Small.{is_stuck}
use Rattle.symbolic_code.specs.Facts.{Fact}
use Rattle.symbolic_code.specs.Places.{Place}
use Rattle.body_check.specs.Notes.{Bounds, LandsOn, no_answers}
use Rattle.body_check.specs.Calls.{Book, StepFits}
use Rattle.body_check.specs.Linked.{Held}
use Rattle.unwind_lower.specs.declared.items.Item.{Item}
use Rattle.unwind_lower.specs.Settings.{Setting}
use Rattle.lowered_frames.specs.Modes.{Mode}
use Rattle.lowered_frames.specs.Left.{Left}
use Rattle.lowered_steps.specs.Ahead.{standing, comes_of, FitsAfter, Rereads, Ahead}
use Rattle.lowered_steps.proofs.Landings.{quiet_landing}

module _ (p : Program) (b : Bounds) (book : Book) (h : Held) (g : Setting) {m n : Mode} {items others : List Item} (d : Left g m items) (chain : List ScopeKind)
    (e : Left g n others) (outer : List ScopeKind) (v : Term) (es : List Exception) (ts : List Term) (known : List Fact) where
  -- the source takes a silent step
  pub step_before : (r : Rereads p b book h g d chain e outer (step_of p h.func no_answers) v es ts known) (steps lead rank index : ℕ) (instr : Instr)
      → FitsAfter p b book h g e outer r.value r.exceptions r.terms known steps lead rank index instr
      → FitsAfter p b book h g d chain v es ts known (suc steps) lead rank index instr
  step_before r steps lead rank index instr f = record {
    foreseen = ap (λ (z : Outcome). is_stuck (advanced p h.func no_answers steps z)) r.outcome_is ∙ f.foreseen;
    fits = subst (λ (z : Outcome). StepFits p b book h known lead rank index instr (standing p b book h g d chain v es ts) (advanced p h.func no_answers steps z))
        (sym r.outcome_is)
        (subst (λ (q : Place). StepFits p b book h known lead rank index instr q
        (advanced p h.func no_answers steps (comes_of p b book h g e outer r.value r.exceptions r.terms))) (sym r.place_is) f.fits);
  }

  -- it takes none
  pub none_before : (r : Rereads p b book h g d chain e outer (λ (z : Outcome). z) v es ts known) (steps lead rank index : ℕ) (instr : Instr)
      → FitsAfter p b book h g e outer r.value r.exceptions r.terms known steps lead rank index instr
      → FitsAfter p b book h g d chain v es ts known steps lead rank index instr
  none_before r steps lead rank index instr f = record {
    foreseen = ap (λ (z : Outcome). is_stuck (advanced p h.func no_answers steps z)) r.outcome_is ∙ f.foreseen;
    fits = subst (λ (z : Outcome). StepFits p b book h known lead rank index instr (standing p b book h g d chain v es ts) (advanced p h.func no_answers steps z))
        (sym r.outcome_is)
        (subst (λ (q : Place). StepFits p b book h known lead rank index instr q
        (advanced p h.func no_answers steps (comes_of p b book h g e outer r.value r.exceptions r.terms))) (sym r.place_is) f.fits);
  }

  -- a silent step to where this is left to write comes to the note of the other reading
  pub read_landing : Rereads p b book h g d chain e outer (λ (z : Outcome). z) v es ts known → (lead lag rank index after : ℕ) → Ahead p b book h g e outer index after
      → lead + lag ≤ b.longest → ((1 ≤ lead + lag) ⊎ (after + 1 ≤ rank)) → (q : Place) (o : Outcome) → q ≡ standing p b book h g d chain v es ts
      → advanced p h.func no_answers lag o ≡ comes_of p b book h g d chain v es ts → LandsOn p h.func b h.notes book.thrown known lead rank index q o
  read_landing r lead lag rank index after a short on q o place_is outcome_is = quiet_landing p b book h g e outer r.value r.exceptions r.terms known r.filled
      lead lag rank index after a short on q o (place_is ∙ r.place_is) (outcome_is ∙ r.outcome_is)
