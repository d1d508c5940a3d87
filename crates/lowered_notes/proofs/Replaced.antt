-- Terms and exceptions in the place of variables, in the facts and the frame's exception.
use Rattle.std.proofs.Common.{◌≡◌, refl, ap, ap₂, ◌∙◌, List, [], ◌∷◌, ◌++◌}
use Rattle.low_code.specs.declared.scopes.ScopeKind.{ScopeKind}
use Rattle.symbolic_source.specs.Terms.{Term, Exception, Puts, untouched}
use Rattle.symbolic_source.specs.Replacing.{Replacing, in_term, in_terms}
use Rattle.symbolic_source.specs.Steps.{first_word}
use Rattle.symbolic_code.specs.Facts.{Fact, has_function, in_fact, in_facts}
use Rattle.symbolic_code.specs.Places.{Hold, making, flying}
use Rattle.body_check.specs.Notes.{in_caught, in_hold, in_place}
use Rattle.src_mean.specs.Linked.{Func, Program}
use Rattle.unwind_lower.specs.declared.items.Item.{Item}
use Rattle.unwind_lower.specs.Settings.{Setting, node_in}
use Rattle.cpp_tree.specs.declared.arena.TNodeId.{TNodeId}
use Rattle.lowered_frames.specs.Lists.{others, behind, more_by, first_exception, exceptions_behind, in_exceptions}
use Rattle.lowered_frames.specs.Modes.{Mode}
use Rattle.lowered_frames.specs.Calls.{Called, by_name, by_slot, by_pointer, built_in, Calling, words}
use Rattle.lowered_frames.specs.Statements.{exit_count}
use Rattle.lowered_frames.specs.Throws.{Throwing, thrown_in, put_as, puts_with, fills, filled, fills_scalar, scalar_filled, flies, flies_cleaning, flies_parts, flies_elements}
use Rattle.lowered_frames.specs.Left.{Head, calling, throwing, head_count, head_exceptions, head_scopes, scopes_out}
use Rattle.lowered_frames.specs.Left.{Left, body_ends, before, other_again, leave, operands, caught, opened}
use Rattle.lowered_frames.proofs.Lists.{first_in, behind_in, first_exception_in, exceptions_behind_in}
use Rattle.lowered_frames.proofs.Throws.{put_in, others_puts_in}
use Rattle.lowered_frames.proofs.Replaced.{operands_in, caught_in}
use Rattle.lowered_notes.specs.Canonical.{found_by, call_facts, head_facts, facts, throwing_hold, head_hold, hold, place_with}
use Rattle.lowered_notes.proofs.Terms.{caught_so}

module _ (g : Setting) (r : Replacing) where
  facts_joined_in : (ks js : List Fact) → in_facts r (ks ++ js) ≡ in_facts r ks ++ in_facts r js
  facts_joined_in [] js = refl
  facts_joined_in (k ∷ ks) js = ap (λ (z : List Fact). in_fact r k ∷ z) (facts_joined_in ks js)

  found_in : (c : Called) (ts : List Term) → in_facts r (found_by g c ts) ≡ found_by g c (in_terms r ts)
  found_in (by_slot class slot) ts = ap (λ (z : Term). has_function class slot z ∷ []) (first_in r ts)
  found_in (by_name func) ts = refl
  found_in (by_pointer sig) ts = refl
  found_in (built_in which) ts = refl

  call_facts_in : {m n : Mode} {items rest : List Item} (h : Calling g m items n rest) (ts : List Term)
      → in_facts r (call_facts g h ts) ≡ call_facts g h (in_terms r ts)
  call_facts_in (words c n ids id way) ts = found_in c (behind n ts) ∙ ap (λ (z : List Term). found_by g c z) (behind_in r n ts)
  call_facts_in h ts = refl

  head_facts_in : {m n : Mode} {items rest : List Item} (h : Head g m items n rest) (ts : List Term) → in_facts r (head_facts g h ts) ≡ head_facts g h (in_terms r ts)
  head_facts_in (calling h) ts = call_facts_in h ts
  head_facts_in h ts = refl

  pub facts_in : {m : Mode} {items : List Item} (d : Left g m items) (chain : List ScopeKind) (ts : List Term)
      → in_facts r (facts g d chain ts) ≡ facts g d chain (in_terms r ts)
  facts_in (body_ends at) chain ts = refl
  facts_in (before h d) chain ts = facts_joined_in (head_facts g h ts) (facts g d (head_scopes g h chain) (behind (head_count g h chain) ts))
      ∙ ap₂ (λ (y z : List Fact). y ++ z) (head_facts_in h ts)
      (facts_in d (head_scopes g h chain) (behind (head_count g h chain) ts)
      ∙ ap (λ (z : List Term). facts g d (head_scopes g h chain) z) (behind_in r (head_count g h chain) ts))
  facts_in (other_again o a e d) chain ts = facts_in d chain ts
  facts_in (leave x cleans origin junk at d o) chain ts = facts_in o (scopes_out cleans chain) (behind (more_by (exit_count x) junk) ts)
      ∙ ap (λ (z : List Term). facts g o (scopes_out cleans chain) z) (behind_in r (more_by (exit_count x) junk) ts)

  -- what is made of the scalars that were put
  made_in : (id : TNodeId) (done : List TNodeId) (ts : List Term)
      → in_hold r (making (thrown_in g id) (puts_with g done (others ts))) ≡ making (thrown_in g id) (puts_with g done (others (in_terms r ts)))
  made_in id done ts = ap (λ (z : Puts). making (thrown_in g id) z) (others_puts_in g r done ts)

  flying_in : (es : List Exception) → in_hold r (flying (first_exception es)) ≡ flying (first_exception (in_exceptions r es))
  flying_in es = ap flying (first_exception_in r es)

  throwing_hold_in : {m n : Mode} {items rest : List Item} (h : Throwing g m items n rest) (es : List Exception) (ts : List Term) (further : Hold)
      → in_hold r (throwing_hold g h es ts further) ≡ throwing_hold g h (in_exceptions r es) (in_terms r ts) (in_hold r further)
  throwing_hold_in (fills id done ids o) es ts further = made_in id done ts
  throwing_hold_in (filled id field done ids offset kind o is) es ts further = made_in id done ts
  throwing_hold_in (fills_scalar id o) es ts further = refl
  throwing_hold_in (scalar_filled id field ids o) es ts further = ap (λ (z : Puts). making (thrown_in g id) z)
      (put_in g r (node_in g field).kind (first_word ts) untouched ∙ ap (λ (z : Term). put_as (node_in g field).kind z untouched) (first_in r ts))
  throwing_hold_in (flies at next) es ts further = flying_in es
  throwing_hold_in (flies_cleaning owner at next) es ts further = flying_in es
  throwing_hold_in (flies_parts at next) es ts further = flying_in es
  throwing_hold_in (flies_elements id stride built at next) es ts further = flying_in es
  throwing_hold_in h es ts further = refl

  head_hold_in : {m n : Mode} {items rest : List Item} (h : Head g m items n rest) (es : List Exception) (ts : List Term) (further : Hold)
      → in_hold r (head_hold g h es ts further) ≡ head_hold g h (in_exceptions r es) (in_terms r ts) (in_hold r further)
  head_hold_in (throwing h) es ts further = throwing_hold_in h es ts further
  head_hold_in h es ts further = refl

  pub hold_in : {m : Mode} {items : List Item} (d : Left g m items) (chain : List ScopeKind) (es : List Exception) (ts : List Term)
      → in_hold r (hold g d chain es ts) ≡ hold g d chain (in_exceptions r es) (in_terms r ts)
  hold_in (body_ends at) chain es ts = refl
  hold_in (before h d) chain es ts =
      head_hold_in h es ts (hold g d (head_scopes g h chain) (exceptions_behind (head_exceptions g h) es) (behind (head_count g h chain) ts))
      ∙ ap (λ (z : Hold). head_hold g h (in_exceptions r es) (in_terms r ts) z)
      (hold_in d (head_scopes g h chain) (exceptions_behind (head_exceptions g h) es) (behind (head_count g h chain) ts)
      ∙ ap₂ (λ (y : List Exception) (z : List Term). hold g d (head_scopes g h chain) y z)
      (exceptions_behind_in r (head_exceptions g h) es) (behind_in r (head_count g h chain) ts))
  hold_in (other_again o a e d) chain es ts = hold_in d chain es ts
  hold_in (leave x cleans origin junk at d o) chain es ts = hold_in o (scopes_out cleans chain) es (behind (more_by (exit_count x) junk) ts)
      ∙ ap (λ (z : List Term). hold g o (scopes_out cleans chain) (in_exceptions r es) z) (behind_in r (more_by (exit_count x) junk) ts)

  -- the whole place
  pub place_in : (p : Program) (f : Func) {m : Mode} {items : List Item} (d : Left g m items) (chain : List ScopeKind) (v : Term) (es : List Exception) (ts : List Term)
      → in_place r (place_with p f g d chain v es ts) ≡ place_with p f g d chain (in_term r v) (in_exceptions r es) (in_terms r ts)
  place_in p f d chain v es ts = ap (λ (z : List Term). record { operands = z; opens = opened g d; caught = in_caught r (caught g d es); hold = in_hold r (hold g d chain es ts) })
      (operands_in g r d chain v ts)
      ∙ ap₂ (λ (y : List Exception) (z : Hold). record { operands = operands g d chain (in_term r v) (in_terms r ts); opens = opened g d; caught = y; hold = z })
      (caught_so r (caught g d es) ∙ caught_in g r d es) (hold_in d chain es ts)
