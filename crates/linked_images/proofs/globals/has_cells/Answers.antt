use Rattle.std.proofs.Common.{rules, sym, ◌∙◌}
use Rattle.std.proofs.lemmas.Bool.Decides.{not_from_Decides}
use Rattle.std.proofs.lemmas.Slice.Eq.{slice_eq-Decides}
use Rattle.linked_images.proofs.globals.has_cells.Goals as goal

pub returns-clause-yes : goal.returns-clause-yes
returns-clause-yes c = λ h. sym c.as_slice.ensures.value ∙ (slice_eq-Decides (λ a b. search rules) _ _ _ c.eq.ensures).0 h

pub returns-clause-no : goal.returns-clause-no
returns-clause-no c = λ h e. not_from_Decides _ (slice_eq-Decides (λ a b. search rules) _ _ _ c.eq.ensures) h (c.as_slice.ensures.value ∙ e)
