-- Where the code stands with some terms, and the source gives the value, it has come to the note.
use Rattle.std.proofs.Common.{ℕ, ◌≡◌, refl, ap, ap₂, sym, ◌∙◌, subst, Bool, false, List}
use Rattle.cpp_tree.specs.cpp_types.Typ.{Typ}
use Rattle.low_code.specs.declared.scopes.ScopeKind.{ScopeKind}
use Rattle.src_mean.specs.Linked.{Func, Program}
use Rattle.src_mean.specs.Frames.{State}
use Rattle.src_mean.specs.Frames as source
use Rattle.symbolic_source.specs.Terms.{Term, Values, variable, Exception}
use Rattle.symbolic_source.specs.Frames.{Frame, Waiting}
use Rattle.symbolic_source.specs.Outcomes.{Outcome, Shows}
use Rattle.symbolic_source.specs.Steps.{Answers, given, advanced}
use Rattle.symbolic_source.specs.Small.{AreWords, is_stuck}
use Rattle.symbolic_source.specs.Replacing.{Replacing, seen_by, in_term, in_terms, in_frames, in_waitings}
use Rattle.symbolic_instances.proofs.Steps.{none_kept, value_seen}
use Rattle.symbolic_code.specs.Facts.{Fact, AllHold, in_facts}
use Rattle.symbolic_code.specs.Places.{Place, frame_at}
use Rattle.symbolic_code.proofs.Facts.{facts_replaced}
use Rattle.body_check.specs.Notes.{Note, Bounds, Lands, no_answers, in_place}
use Rattle.body_check.proofs.Landing.{frame_replaced}
use Rattle.unwind_lower.specs.declared.items.Item.{Item}
use Rattle.unwind_lower.specs.Settings.{Setting}
use Rattle.lowered_frames.specs.Lists.{AreSo, AreAll, in_exceptions}
use Rattle.lowered_frames.specs.Modes.{Mode}
use Rattle.lowered_frames.specs.Left.{Left, frames, temporaries, count, exception_count}
use Rattle.lowered_frames.proofs.Replaced.{frames_in, temporaries_in}
use Rattle.lowered_notes.specs.Canonical.{value_of, Comes, placing, AreThrown, numbers_of, place_with, coming, words_of_note, exceptions_of_note, canonical, facts, Known, There}
use Rattle.lowered_notes.proofs.Terms.{words_placed, exceptions_placed, value_placed, types_are}
use Rattle.lowered_notes.proofs.Replaced.{facts_in, place_in}

module _ (p : Program) (f : Func) (g : Setting) {m : Mode} {items : List Item} (d : Left g m items) (chain : List ScopeKind) (v : Term) (es : List Exception)
    (ts : List Term) (all : AreAll (exception_count g d) es) (so : AreSo (count g d chain) ts) where
  abbrev r : Replacing
  r = placing v es ts

  words_are : in_terms r (words_of_note p f g d chain) ≡ ts
  words_are = words_placed v es (count g d chain) ts so

  exceptions_are : in_exceptions r (exceptions_of_note p f g d chain) ≡ es
  exceptions_are = exceptions_placed v es (exception_count g d) ts all

  frames_placed : in_frames r (frames g (numbers_of p f g) d chain (exceptions_of_note p f g d chain) (words_of_note p f g d chain))
      ≡ frames g (numbers_of p f g) d chain es ts
  frames_placed = frames_in g (numbers_of p f g) r d chain (exceptions_of_note p f g d chain) (words_of_note p f g d chain)
      ∙ ap₂ (λ (y : List Exception) (z : List Term). frames g (numbers_of p f g) d chain y z) exceptions_are words_are

  temporaries_placed : in_waitings r (temporaries g d chain (words_of_note p f g d chain)) ≡ temporaries g d chain ts
  temporaries_placed = temporaries_in g r d chain (words_of_note p f g d chain) ∙ ap (λ (z : List Term). temporaries g d chain z) words_are

  pub place_placed : in_place r (place_with p f g d chain (variable 0) (exceptions_of_note p f g d chain) (words_of_note p f g d chain)) ≡ place_with p f g d chain v es ts
  place_placed = place_in g r p f d chain (variable 0) (exceptions_of_note p f g d chain) (words_of_note p f g d chain)
      ∙ ap₂ (λ (y : List Exception) (z : List Term). place_with p f g d chain v y z) exceptions_are words_are

  pub facts_placed : in_facts r (facts g d chain (words_of_note p f g d chain)) ≡ facts g d chain ts
  facts_placed = facts_in g r d chain (words_of_note p f g d chain) ∙ ap (λ (z : List Term). facts g d chain z) words_are

  pub same_outcome : Comes m v → (answers : Answers) (x : Values) → AreWords x → (rest : List source.Frame) (s : State)
      → Shows p f x rest (coming p f g d chain answers v es ts) s
      → Shows p f (seen_by p f r x) rest (coming p f g d chain no_answers (value_of m) (exceptions_of_note p f g d chain) (words_of_note p f g d chain)) s
  same_outcome comes answers x bounded rest s h = value_seen p f r x answers no_answers rest bounded (none_kept p f r answers) 0
      (temporaries g d chain (words_of_note p f g d chain)) (value_of m) (frames g (numbers_of p f g) d chain (exceptions_of_note p f g d chain) (words_of_note p f g d chain)) s
      (subst (λ (z : List Waiting). Shows p f x rest (given p f answers z (in_term r (value_of m))
      (in_frames r (frames g (numbers_of p f g) d chain (exceptions_of_note p f g d chain) (words_of_note p f g d chain)))) s) (sym temporaries_placed)
      (subst (λ (z : List Frame). Shows p f x rest (given p f answers (temporaries g d chain ts) (in_term r (value_of m)) z) s) (sym frames_placed)
      (subst (λ (z : Term). Shows p f x rest (given p f answers (temporaries g d chain ts) z (frames g (numbers_of p f g) d chain es ts)) s)
      (sym (value_placed m v es ts comes)) h)))

  pub same_facts : (known : List Fact) → Known p f g d chain ts known → (x : Values) → AreWords x → AllHold p f x known
      → AllHold p f (seen_by p f r x) (facts g d chain (words_of_note p f g d chain))
  same_facts known k x bounded holds = facts_replaced p f r x (facts g d chain (words_of_note p f g d chain))
      (subst (λ (z : List Fact). AllHold p f x z) (sym facts_placed) (k x bounded holds))

  -- the landing: once, for all that can be left to write
  module _ (b : Bounds) (notes : List Note) (thrown : Typ → Bool) (known : List Fact) (answers : Answers) (lag index rank : ℕ) where
    abbrev pub lands : AreThrown thrown es → Known p f g d chain ts known → Comes m v → There p f g d chain b notes index rank → (q : Place) (o : Outcome)
        → q ≡ place_with p f g d chain v es ts → advanced p f answers lag o ≡ coming p f g d chain answers v es ts
        → is_stuck (coming p f g d chain answers v es ts) ≡ false → Lands p f b notes thrown known answers index q o
    lands types k comes t q o place_is outcome_is going = record {
      at = t.at;
      note = canonical p f g d chain index t.lead rank;
      is = t.is;
      there = refl;
      lag = lag;
      terms = r;
      types = types_are thrown es types;
      same_place = λ x bounded holds numbers home. ap (λ (z : Place). frame_at p f numbers x home index z) (place_is ∙ sym place_placed)
          ∙ frame_replaced p f numbers r x home index (place_with p f g d chain (variable 0) (exceptions_of_note p f g d chain) (words_of_note p f g d chain));
      same_facts = λ x bounded holds. same_facts known k x bounded holds;
      same_outcome = λ x bounded holds rest s h. same_outcome comes answers x bounded rest s (subst (λ (z : Outcome). Shows p f x rest z s) outcome_is h);
      foreseen = ap (λ (z : Outcome). is_stuck z) outcome_is ∙ going;
      low = t.low;
    }
