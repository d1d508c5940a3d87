-- From what was compared to what the definitions ask behind a call.
use Rattle.std.proofs.Common.{ℕ, ◌≡◌, ◌∙◌, ◌+◌, ◌≤◌, ap, ap₂, subst, Bool, true, false, List, ◌∷◌}
use Rattle.symbolic_source.specs.Terms.{Term, variable, number}
use Rattle.symbolic_source.specs.Frames.{Waiting, Frame, Gives, handled, blocks_in}
use Rattle.symbolic_source.specs.Outcomes.{Outcome, silent, goes}
use Rattle.symbolic_source.specs.Replacing.{in_terms, in_waitings, in_frames}
use Rattle.symbolic_source.specs.Steps.{step_of, advanced}
use Rattle.symbolic_code.specs.Facts.{Fact}
use Rattle.symbolic_code.specs.Places.{Place, later, place_later}
use Rattle.symbolic_terms.specs.Meanings.{Meaning}
use Rattle.symbolic_terms.specs.declared.outcomes.Rest.{Rest}
use Rattle.symbolic_leaving.specs.Shown.{waits_in, left_in}
use Rattle.body_check.specs.Notes.{no_answers}
use Rattle.body_check.specs.Calls.{first_of, AllThrown}
use Rattle.note_landing.specs.declared.notes.Notes.{Notes}
use Rattle.note_landing.specs.declared.compiled.Compiled.{Compiled}
use Rattle.note_landing.specs.Shown.{linked_by, func_by, notes_by, thrown_by, AgreesBy}
use Rattle.note_landing.proofs.Lands.{back_at}
use Rattle.body_notes.specs.declared.calls.Ends.{Ends}
use Rattle.body_notes.specs.Fits.{RisesBy}
use Rattle.body_notes.specs.Called.{given_back, place_back, facts_back, BackBy, BackWithBy, BehindBy}

-- what the source does behind a call, with the word that is handed back, or with none
pub given_word : (b : Compiled) (m : Meaning) (rest : Rest) (w : Term) (ws : List Waiting) (k : List Frame) (o : Outcome) → ws ≡ in_waitings later (waits_in b.source m rest) → k ≡ in_frames later (left_in b.source m rest) → w ≡ variable 0
    → o ≡ goes silent ws (Gives w ∷ k) → o ≡ given_back b m true rest
given_word b m rest w ws k o i j r e =
    e ∙ ap (λ z. goes silent z (Gives w ∷ k)) i ∙ ap (λ z. goes silent (in_waitings later (waits_in b.source m rest)) (Gives z ∷ k)) r ∙ ap (λ z. goes silent (in_waitings later (waits_in b.source m rest)) (Gives (variable 0) ∷ z)) j

pub given_none : (b : Compiled) (m : Meaning) (rest : Rest) (w : Term) (o : Outcome) → w ≡ number 0 → o ≡ goes silent (waits_in b.source m rest) (Gives w ∷ left_in b.source m rest) → o ≡ given_back b m false rest
given_none b m rest w o i e = e ∙ ap (λ z. goes silent (waits_in b.source m rest) (Gives z ∷ left_in b.source m rest)) i

-- where the operands are
pub place_word : (q q2 : Place) (w : Term) (ws others : List Term) → ws ≡ in_terms later q.operands → w ≡ variable 0 → others ≡ w ∷ ws → q2 ≡ place_later q others → q2 ≡ place_back true q
place_word q q2 w ws others i j k e = e ∙ ap (λ z. place_later q z) (k ∙ ap₂ (λ (x : Term) (xs : List Term). x ∷ xs) j i)

module _ (b : Compiled) (m : Meaning) (ns : Notes) where
  -- the caller goes on
  pub back_by : (known : List Fact) (index : ℕ) (q : Place) (o o1 o2 : Outcome) (lag n rank : ℕ) → o1 ≡ step_of (linked_by b) (func_by b) no_answers o → o2 ≡ advanced (linked_by b) (func_by b) no_answers lag o1 → n ≡ 1 + lag → n ≤ 512
      → AgreesBy b m ns known index q o2 rank → BackBy b m ns known index q o
  back_by known index q o o1 o2 lag n rank e1 e2 i h a =
      let l = back_at (linked_by b) (func_by b) (notes_by b m ns) (thrown_by b) known index q o o1 o2 lag n rank e1 e2 i h a in
      record { lands = l.0; some = l.1; short = l.2 }

  pub back_with_as : (gives : Bool) (known ks : List Fact) (index : ℕ) (q q2 : Place) (rest : Rest) (o2 : Outcome) → ks ≡ facts_back gives known → q2 ≡ place_back gives q → o2 ≡ given_back b m gives rest → BackBy b m ns ks index q2 o2 → BackWithBy b m ns gives known index q rest
  back_with_as gives known ks index q q2 rest o2 i j k w =
      subst (λ z. BackBy b m ns z index (place_back gives q) (given_back b m gives rest)) i
      (subst (λ z. BackBy b m ns ks index z (given_back b m gives rest)) j
      (subst (λ z. BackBy b m ns ks index q2 z) k w))

  pub left_behind : (ends : Ends) (known : List Fact) (index next : ℕ) (q : Place) (rest : Rest) → next ≡ index + 1 → BackWithBy b m ns ends.gives known next q rest → (ends.stops ≡ false → RisesBy b m ns known index q rest 63)
      → q.opens ≡ blocks_in (left_in b.source m rest) → first_of q.caught ≡ handled (left_in b.source m rest) → AllThrown (thrown_by b) q.caught → BehindBy b m ns ends known index q rest
  left_behind ends known index next q rest i back thrown opens caught type = record {
    back = subst (λ z. BackWithBy b m ns ends.gives known z q rest) i back;
    thrown = thrown;
    opens = opens;
    caught = caught;
    type = type;
  }
