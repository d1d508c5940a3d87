-- Terms in the place of variables of the frames, the operands, the temporaries and the exceptions are terms in the place of variables before.
use Rattle.std.proofs.Common.{ℕ, ◌≡◌, refl, ap, ap₂, ◌∙◌, List, ◌++◌}
use Rattle.low_code.specs.declared.scopes.ScopeKind.{ScopeKind}
use Rattle.symbolic_source.specs.Terms.{Term, Exception}
use Rattle.symbolic_source.specs.Frames.{Frame, Waiting}
use Rattle.symbolic_source.specs.Replacing.{Replacing, in_term, in_terms, in_frames, in_waitings}
use Rattle.unwind_lower.specs.declared.items.Item.{Item}
use Rattle.unwind_lower.specs.Settings.{Setting}
use Rattle.lowered_frames.specs.Lists.{behind, firsts, more_by, exceptions_behind, in_exceptions}
use Rattle.lowered_frames.specs.Modes.{Mode, topped}
use Rattle.lowered_frames.specs.Statements.{exit_words, exit_count}
use Rattle.lowered_frames.specs.Left.{Left, body_ends, before, other_again, leave, head_frames, head_words, head_count, head_exceptions, head_handled, head_scopes, head_temporaries}
use Rattle.lowered_frames.specs.Left.{scopes_out, exit_frames, temporaries, below, caught, frames, operands}
use Rattle.lowered_frames.proofs.Lists.{behind_in, joined_in, firsts_in, frames_joined_in, exceptions_behind_in, exceptions_joined_in, topped_in}
use Rattle.lowered_frames.proofs.Heads.{exit_words_in, exit_frames_in, head_frames_in, head_words_in, head_handled_in, head_temporaries_in}

module _ (g : Setting) (r : Replacing) where
  pub temporaries_in : {m : Mode} {items : List Item} (d : Left g m items) (chain : List ScopeKind) (ts : List Term)
      → in_waitings r (temporaries g d chain ts) ≡ temporaries g d chain (in_terms r ts)
  temporaries_in (body_ends at) chain ts = refl
  temporaries_in (before h d) chain ts =
      head_temporaries_in g r h (temporaries g d (head_scopes g h chain) (behind (head_count g h chain) ts)) chain ts
      ∙ ap (λ (z : List Waiting). head_temporaries g h z chain (in_terms r ts))
      (temporaries_in d (head_scopes g h chain) (behind (head_count g h chain) ts)
      ∙ ap (λ (z : List Term). temporaries g d (head_scopes g h chain) z) (behind_in r (head_count g h chain) ts))
  temporaries_in (other_again o a e d) chain ts = temporaries_in d chain ts
  temporaries_in (leave x cleans origin junk at d o) chain ts =
      temporaries_in o (scopes_out cleans chain) (behind (more_by (exit_count x) junk) ts)
      ∙ ap (λ (z : List Term). temporaries g o (scopes_out cleans chain) z) (behind_in r (more_by (exit_count x) junk) ts)

  pub below_in : {m : Mode} {items : List Item} (d : Left g m items) (chain : List ScopeKind) (ts : List Term)
      → in_terms r (below g d chain ts) ≡ below g d chain (in_terms r ts)
  below_in (body_ends at) chain ts = refl
  below_in (before h d) chain ts =
      joined_in r (head_words g h chain ts) (below g d (head_scopes g h chain) (behind (head_count g h chain) ts))
      ∙ ap₂ (λ (y z : List Term). y ++ z) (head_words_in g r h chain ts)
      (below_in d (head_scopes g h chain) (behind (head_count g h chain) ts)
      ∙ ap (λ (z : List Term). below g d (head_scopes g h chain) z) (behind_in r (head_count g h chain) ts))
  below_in (other_again o a e d) chain ts = below_in d chain ts
  below_in (leave x cleans origin junk at d o) chain ts =
      joined_in r (exit_words x ts) (firsts junk (behind (exit_count x) ts) ++ below g o (scopes_out cleans chain) (behind (more_by (exit_count x) junk) ts))
      ∙ ap₂ (λ (y z : List Term). y ++ z) (exit_words_in g r x ts)
      (joined_in r (firsts junk (behind (exit_count x) ts)) (below g o (scopes_out cleans chain) (behind (more_by (exit_count x) junk) ts))
      ∙ ap₂ (λ (y z : List Term). y ++ z)
      (firsts_in r junk (behind (exit_count x) ts) ∙ ap (λ (z : List Term). firsts junk z) (behind_in r (exit_count x) ts))
      (below_in o (scopes_out cleans chain) (behind (more_by (exit_count x) junk) ts)
      ∙ ap (λ (z : List Term). below g o (scopes_out cleans chain) z) (behind_in r (more_by (exit_count x) junk) ts)))

  pub operands_in : {m : Mode} {items : List Item} (d : Left g m items) (chain : List ScopeKind) (v : Term) (ts : List Term)
      → in_terms r (operands g d chain v ts) ≡ operands g d chain (in_term r v) (in_terms r ts)
  operands_in {m} d chain v ts = topped_in r m v (below g d chain ts) ∙ ap (λ (z : List Term). topped m (in_term r v) z) (below_in d chain ts)

  pub caught_in : {m : Mode} {items : List Item} (d : Left g m items) (es : List Exception) → in_exceptions r (caught g d es) ≡ caught g d (in_exceptions r es)
  caught_in (body_ends at) es = refl
  caught_in (before h d) es =
      exceptions_joined_in r (head_handled g h es) (caught g d (exceptions_behind (head_exceptions g h) es))
      ∙ ap₂ (λ (y z : List Exception). y ++ z) (head_handled_in g r h es)
      (caught_in d (exceptions_behind (head_exceptions g h) es)
      ∙ ap (λ (z : List Exception). caught g d z) (exceptions_behind_in r (head_exceptions g h) es))
  caught_in (other_again o a e d) es = caught_in d es
  caught_in (leave x cleans origin junk at d o) es = caught_in o es

module _ (g : Setting) (number : ℕ → ℕ) (r : Replacing) where
  pub frames_in : {m : Mode} {items : List Item} (d : Left g m items) (chain : List ScopeKind) (es : List Exception) (ts : List Term)
      → in_frames r (frames g number d chain es ts) ≡ frames g number d chain (in_exceptions r es) (in_terms r ts)
  frames_in (body_ends at) chain es ts = refl
  frames_in (before h d) chain es ts =
      frames_joined_in r (head_frames g number h (temporaries g d (head_scopes g h chain) (behind (head_count g h chain) ts)) chain es ts)
      (frames g number d (head_scopes g h chain) (exceptions_behind (head_exceptions g h) es) (behind (head_count g h chain) ts))
      ∙ ap₂ (λ (y z : List Frame). y ++ z)
      (head_frames_in g number r h (temporaries g d (head_scopes g h chain) (behind (head_count g h chain) ts)) chain es ts
      ∙ ap (λ (z : List Waiting). head_frames g number h z chain (in_exceptions r es) (in_terms r ts))
      (temporaries_in g r d (head_scopes g h chain) (behind (head_count g h chain) ts)
      ∙ ap (λ (z : List Term). temporaries g d (head_scopes g h chain) z) (behind_in r (head_count g h chain) ts)))
      (frames_in d (head_scopes g h chain) (exceptions_behind (head_exceptions g h) es) (behind (head_count g h chain) ts)
      ∙ ap₂ (λ (y : List Exception) (z : List Term). frames g number d (head_scopes g h chain) y z)
      (exceptions_behind_in r (head_exceptions g h) es) (behind_in r (head_count g h chain) ts))
  frames_in (other_again o a e d) chain es ts = frames_in d chain es ts
  frames_in (leave x cleans origin junk at d o) chain es ts =
      frames_joined_in r (exit_frames g x cleans chain ts) (frames g number o (scopes_out cleans chain) es (behind (more_by (exit_count x) junk) ts))
      ∙ ap₂ (λ (y z : List Frame). y ++ z) (exit_frames_in g r x cleans chain ts)
      (frames_in o (scopes_out cleans chain) es (behind (more_by (exit_count x) junk) ts)
      ∙ ap (λ (z : List Term). frames g number o (scopes_out cleans chain) (in_exceptions r es) z) (behind_in r (more_by (exit_count x) junk) ts))
