-- What a function hands back, and the exception of its innermost entered handler.
use Rattle.std.proofs.Common.{◌≡◌, ◌∙◌, ap, sym, subst, List, ◌∷◌, Option, Some, None}
use Rattle.symbolic_source.specs.Terms.{Term, Exception, number}
use Rattle.symbolic_source.specs.Outcomes as outcomes
use Rattle.symbolic_terms.specs.Meanings.{Meaning, word_of, thrown_of, all_thrown}
use Rattle.symbolic_terms.specs.declared.ids.WordId.{WordId}
use Rattle.symbolic_terms.specs.declared.ids.ExceptionId.{ExceptionId}
use Rattle.symbolic_terms.specs.declared.ids.Exceptions.{Exceptions}
use Rattle.symbolic_terms.specs.declared.ids.Exceptions.TheVariants.{Empty}
use Rattle.symbolic_terms.specs.declared.frames.Exit.TheVariants.{Returns}
use Rattle.symbolic_terms.specs.declared.frames.Waitings.{Waitings}
use Rattle.symbolic_terms.specs.declared.outcomes.Outcome.{Outcome}
use Rattle.symbolic_terms.specs.declared.outcomes.Outcome.TheVariants.{Hands, GoesOut}
use Rattle.body_check.specs.Calls as checked
use Rattle.body_check.specs.Calls.{by_end, by_return, first_of}
use Rattle.note_landing.specs.declared.compiled.Compiled.{Compiled}
use Rattle.note_landing.specs.Shown.{outcome_by}

module _ (b : Compiled) (m : Meaning) (o : Outcome) (other w : WordId) (ws : Waitings) where
  pub ends_as : o ≡ Hands other ws → word_of m other ≡ word_of m w → checked.Hands (word_of m w) (outcome_by b m o)
  ends_as is i = subst (λ z. checked.Hands (word_of m w) (outcome_by b m z)) (sym is) (subst (λ z. checked.Hands z (outcome_by b m (Hands other ws))) i by_end)

  pub returns_as : o ≡ GoesOut (Returns other) ws → word_of m other ≡ word_of m w → checked.Hands (word_of m w) (outcome_by b m o)
  returns_as is i = subst (λ z. checked.Hands (word_of m w) (outcome_by b m z)) (sym is) (subst (λ z. checked.Hands z (outcome_by b m (GoesOut (Returns other) ws))) i by_return)

-- no word is handed back
pub none_as : (w : Term) (o : outcomes.Outcome) → w ≡ number 0 → checked.Hands w o → checked.Hands (number 0) o
none_as w o is h = subst (λ z. checked.Hands z o) is h

-- the exception of the innermost entered handler
module _ (m : Meaning) (caught : Exceptions) (own : Option Exception) where
  pub none_caught : caught ≡ Empty → own ≡ None → first_of (all_thrown m caught) ≡ own
  none_caught is e = ap (λ z. first_of (all_thrown m z)) is ∙ sym e

  pub one_caught : (x e : ExceptionId) (others : List Exception) → all_thrown m caught ≡ thrown_of m x ∷ others → own ≡ Some (thrown_of m e) → thrown_of m x ≡ thrown_of m e → first_of (all_thrown m caught) ≡ own
  one_caught x e others is h i = ap (λ z. first_of z) is ∙ ap (λ (z : Exception). Some z) i ∙ sym h
