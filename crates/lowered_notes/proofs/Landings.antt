-- Landings behind an instruction: a silent one, or one with an event.
use Rattle.std.proofs.Common.{ℕ, zero, suc, ◌≡◌, ◌+◌, ◌≤◌, ◌⊎◌, refl, ap, ap₂, ◌∙◌, subst, Bool, List, [], ◌∷◌}
use Rattle.cpp_tree.specs.cpp_types.Typ.{Typ}
use Rattle.low_code.specs.declared.scopes.ScopeKind.{ScopeKind}
use Rattle.src_mean.specs.Linked.{Program}
use Rattle.symbolic_source.specs.Terms.{Term, Exception, unknown, made}
use Rattle.symbolic_source.specs.Frames.{Frame, Waiting}
use Rattle.symbolic_source.specs.Outcomes.{Outcome}
use Rattle.symbolic_source.specs.Steps.{given, advanced}
use Rattle.symbolic_source.specs.Replacing.{in_terms, in_exception, in_frames, in_waitings}
use Rattle.symbolic_code.specs.Facts.{Fact, in_facts, AllHold}
use Rattle.symbolic_code.specs.Places.{Place, Hold, nothing, making, flying, later, all_later, hold_later}
use Rattle.symbolic_code.proofs.Facts.{facts_replaced, facts_placed}
use Rattle.body_check.specs.Notes.{Bounds, Lands, LandsOn, IsThrown, no_answers, in_hold}
use Rattle.body_check.specs.Calls.{Book}
use Rattle.body_check.specs.Linked.{Held}
use Rattle.unwind_lower.specs.declared.items.Item.{Item}
use Rattle.unwind_lower.specs.Settings.{Setting}
use Rattle.lowered_frames.specs.Lists.{AreSo, AreAll, in_exceptions}
use Rattle.lowered_frames.specs.Modes.{Mode}
use Rattle.lowered_frames.specs.Left.{Left, frames, operands, temporaries, count, exception_count, caught, opened}
use Rattle.lowered_frames.specs.Sound.{Sound}
use Rattle.lowered_frames.proofs.Replaced.{frames_in, temporaries_in, caught_in}
use Rattle.lowered_frames.proofs.Foreseen.{goes_on}
use Rattle.lowered_notes.specs.Canonical.{Comes, AreThrown, Known, numbers_of, place_with, coming, facts, hold, There}
use Rattle.lowered_notes.proofs.Terms.{so_in}
use Rattle.lowered_notes.proofs.Replaced.{facts_in, hold_in}
use Rattle.lowered_notes.proofs.Landing.{lands}

pub all_in : (n : ℕ) (es : List Exception) → AreAll n es → AreAll n (in_exceptions later es)
all_in zero [] all = tt
all_in zero (e ∷ es) all = absurd all
all_in (suc n) [] all = absurd all
all_in (suc n) (e ∷ es) all = all_in n es all

one_thrown : (thrown : Typ → Bool) (e : Exception) → IsThrown thrown e → IsThrown thrown (in_exception later e)
one_thrown thrown (unknown n) i = tt
one_thrown thrown (made t puts) i = i

pub thrown_in : (thrown : Typ → Bool) (es : List Exception) → AreThrown thrown es → AreThrown thrown (in_exceptions later es)
thrown_in thrown [] all = tt
thrown_in thrown (e ∷ es) all = (one_thrown thrown e all.0, thrown_in thrown es all.1)

later_so : (es : List Exception) → all_later es ≡ in_exceptions later es
later_so [] = refl
later_so (e ∷ es) = ap (λ (z : List Exception). in_exception later e ∷ z) (later_so es)

hold_so : (h : Hold) → hold_later h ≡ in_hold later h
hold_so nothing = refl
hold_so (making t puts) = refl
hold_so (flying e) = refl

module _ (p : Program) (b : Bounds) (book : Book) (h : Held) (g : Setting) where
  abbrev pub nums : ℕ → ℕ
  nums = numbers_of p h.func g

  module _ {m : Mode} {items : List Item} (d : Left g m items) (chain : List ScopeKind) where
    -- the note of what is left to write next is there, and the source goes on from it
    pub record Ahead (index rank : ℕ) : Type 0 where
      pub there : There p h.func g d chain b h.notes index rank
      pub sound : Sound g d

    -- these are terms and exceptions for it
    pub record Fitted (es : List Exception) (ts : List Term) (known : List Fact) : Type 0 where
      pub all : AreAll (exception_count g d) es
      pub so : AreSo (count g d chain) ts
      pub thrown : AreThrown book.thrown es
      pub so_known : Known p h.func g d chain ts known

    -- a silent step to a note
    pub quiet_landing : (v : Term) (es : List Exception) (ts : List Term) (known : List Fact) → Fitted es ts known → Comes m v → (lead lag rank index after : ℕ)
        → Ahead index after → lead + lag ≤ b.longest → ((1 ≤ lead + lag) ⊎ (after + 1 ≤ rank)) → (q : Place) (o : Outcome) → q ≡ place_with p h.func g d chain v es ts
        → advanced p h.func no_answers lag o ≡ coming p h.func g d chain no_answers v es ts → LandsOn p h.func b h.notes book.thrown known lead rank index q o
    quiet_landing v es ts known fit comes lead lag rank index after a short on q o place_is outcome_is = record {
      lands = lands p h.func g d chain v es ts fit.all fit.so b h.notes book.thrown known no_answers lag index after fit.thrown fit.so_known comes a.there q o place_is
          outcome_is (goes_on p h.func no_answers g nums d a.sound chain es ts (temporaries g d chain ts) v);
      short = short;
      goes_on = on;
    }

    pub known_later : (ts : List Term) (known : List Fact) → Known p h.func g d chain ts known → Known p h.func g d chain (in_terms later ts) (in_facts later known)
    known_later ts known k x bounded holds = subst (λ (z : List Fact). AllHold p h.func x z) (facts_in g later d chain ts)
        (facts_placed p h.func later x (facts g d chain ts) (k _ (λ n. bounded (suc n)) (facts_replaced p h.func later x known holds)))

    -- an event, and then the note
    abbrev pub loud_landing : (v : Term) (es : List Exception) (ts : List Term) (known : List Fact) → Fitted es ts known → Comes m v → (index after : ℕ) → Ahead index after
        → (q : Place) → q ≡ place_with p h.func g d chain v (in_exceptions later es) (in_terms later ts)
        → Lands p h.func b h.notes book.thrown (in_facts later known) no_answers index q
        (given p h.func no_answers (in_waitings later (temporaries g d chain ts)) v (in_frames later (frames g nums d chain es ts)))
    loud_landing v es ts known fit comes index after a q place_is =
        lands p h.func g d chain v (in_exceptions later es) (in_terms later ts) (all_in (exception_count g d) es fit.all) (so_in later (count g d chain) ts fit.so)
        b h.notes book.thrown (in_facts later known) no_answers 0 index after (thrown_in book.thrown es fit.thrown) (known_later ts known fit.so_known) comes a.there q
        (given p h.func no_answers (in_waitings later (temporaries g d chain ts)) v (in_frames later (frames g nums d chain es ts))) place_is
        (ap₂ (λ (y : List Waiting) (z : List Frame). given p h.func no_answers y v z) (temporaries_in g later d chain ts) (frames_in g nums later d chain es ts))
        (goes_on p h.func no_answers g nums d a.sound chain (in_exceptions later es) (in_terms later ts) (temporaries g d chain (in_terms later ts)) v)

    -- the rest of the place after an event
    pub place_goes_later : (v : Term) (es : List Exception) (ts ws : List Term) → ws ≡ operands g d chain v (in_terms later ts)
        → record { operands = ws; opens = opened g d; caught = all_later (caught g d es); hold = hold_later (hold g d chain es ts) }
        ≡ place_with p h.func g d chain v (in_exceptions later es) (in_terms later ts)
    place_goes_later v es ts ws is =
        ap (λ (z : List Term). record { operands = z; opens = opened g d; caught = all_later (caught g d es); hold = hold_later (hold g d chain es ts) }) is
        ∙ ap₂ (λ (y : List Exception) (z : Hold). record { operands = operands g d chain v (in_terms later ts); opens = opened g d; caught = y; hold = z })
        (later_so (caught g d es) ∙ caught_in g later d es) (hold_so (hold g d chain es ts) ∙ hold_in g later d chain es ts)

    -- one silent step of the source, after a reply or without one
    abbrev pub later_landing : (v : Term) (es : List Exception) (ts : List Term) (known : List Fact) → Fitted es ts known → Comes m v → (index after : ℕ) → Ahead index after
        → (q : Place) (o : Outcome) → q ≡ place_with p h.func g d chain v (in_exceptions later es) (in_terms later ts)
        → advanced p h.func no_answers 1 o ≡ given p h.func no_answers (in_waitings later (temporaries g d chain ts)) v (in_frames later (frames g nums d chain es ts))
        → Lands p h.func b h.notes book.thrown (in_facts later known) no_answers index q o
    later_landing v es ts known fit comes index after a q o place_is outcome_is =
        lands p h.func g d chain v (in_exceptions later es) (in_terms later ts) (all_in (exception_count g d) es fit.all) (so_in later (count g d chain) ts fit.so)
        b h.notes book.thrown (in_facts later known) no_answers 1 index after (thrown_in book.thrown es fit.thrown) (known_later ts known fit.so_known) comes a.there q o place_is
        (outcome_is ∙ ap₂ (λ (y : List Waiting) (z : List Frame). given p h.func no_answers y v z) (temporaries_in g later d chain ts) (frames_in g nums later d chain es ts))
        (goes_on p h.func no_answers g nums d a.sound chain (in_exceptions later es) (in_terms later ts) (temporaries g d chain (in_terms later ts)) v)

    abbrev pub once_landing : (v : Term) (es : List Exception) (ts : List Term) (known : List Fact) → Fitted es ts known → Comes m v → (index after : ℕ) → Ahead index after
        → (q : Place) (o : Outcome) → q ≡ place_with p h.func g d chain v es ts → advanced p h.func no_answers 1 o ≡ coming p h.func g d chain no_answers v es ts
        → Lands p h.func b h.notes book.thrown known no_answers index q o
    once_landing v es ts known fit comes index after a q o place_is outcome_is =
        lands p h.func g d chain v es ts fit.all fit.so b h.notes book.thrown known no_answers 1 index after fit.thrown fit.so_known comes a.there q o place_is outcome_is
        (goes_on p h.func no_answers g nums d a.sound chain es ts (temporaries g d chain ts) v)
