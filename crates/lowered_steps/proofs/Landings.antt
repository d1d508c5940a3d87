-- Silent steps and events that come to the note of what is left to write.
use Rattle.std.proofs.Common.{ℕ, zero, suc, ◌≡◌, ◌+◌, ◌≤◌, ◌⊎◌, refl, ap, ap₂, ◌∙◌, subst, Bool, List, [], ◌∷◌}
use Rattle.cpp_tree.specs.cpp_types.Typ.{Typ}
use Rattle.low_code.specs.declared.scopes.ScopeKind.{ScopeKind}
use Rattle.src_mean.specs.Linked.{Program}
use Rattle.symbolic_source.specs.Terms.{Term, Exception, unknown, made}
use Rattle.symbolic_source.specs.Frames.{Frame, Waiting}
use Rattle.symbolic_source.specs.Outcomes.{Outcome}
use Rattle.symbolic_source.specs.Steps.{given, advanced}
use Rattle.symbolic_source.specs.Replacing.{Replacing, seen_by, in_terms, in_frames, in_waitings, in_exception}
use Rattle.symbolic_code.specs.Facts.{Fact, AllHold, in_facts}
use Rattle.symbolic_code.specs.Places.{Place, Hold, nothing, making, flying, later, all_later, hold_later, place_later}
use Rattle.symbolic_code.proofs.Facts.{facts_replaced, facts_placed}
use Rattle.body_check.specs.Notes.{Bounds, Lands, LandsOn, IsThrown, no_answers, in_hold}
use Rattle.body_check.specs.Calls.{Book}
use Rattle.body_check.specs.Linked.{Held}
use Rattle.unwind_lower.specs.declared.items.Item.{Item}
use Rattle.unwind_lower.specs.Settings.{Setting}
use Rattle.lowered_frames.specs.Lists.{AreAll, in_exceptions}
use Rattle.lowered_frames.specs.Modes.{Mode}
use Rattle.lowered_frames.specs.Left.{Left, frames, temporaries, operands, opened, caught, count, exception_count}
use Rattle.lowered_frames.proofs.Replaced.{frames_in, temporaries_in, caught_in}
use Rattle.lowered_notes.specs.Canonical.{Comes, AreThrown, Known, numbers_of, facts, hold}
use Rattle.lowered_notes.proofs.Terms.{so_in}
use Rattle.lowered_notes.proofs.Replaced.{facts_in, hold_in}
use Rattle.lowered_notes.proofs.Landing.{lands}
use Rattle.lowered_steps.specs.Ahead.{standing, comes_of, Ahead, Filled}

-- ---- later

pub later_all : (es : List Exception) → all_later es ≡ in_exceptions later es
later_all [] = refl
later_all (e ∷ es) = ap (λ (z : List Exception). in_exception later e ∷ z) (later_all es)

pub later_hold : (q : Hold) → hold_later q ≡ in_hold later q
later_hold nothing = refl
later_hold (making t puts) = refl
later_hold (flying e) = refl

all_so : (r : Replacing) (n : ℕ) (es : List Exception) → AreAll n es → AreAll n (in_exceptions r es)
all_so r zero [] all = tt
all_so r zero (e ∷ es) all = all
all_so r (suc n) [] all = all
all_so r (suc n) (e ∷ es) all = all_so r n es all

later_type : (thrown : Typ → Bool) (e : Exception) → IsThrown thrown e → IsThrown thrown (in_exception later e)
later_type thrown (unknown n) is = tt
later_type thrown (made t puts) is = is

later_types : (thrown : Typ → Bool) (es : List Exception) → AreThrown thrown es → AreThrown thrown (in_exceptions later es)
later_types thrown [] are = tt
later_types thrown (e ∷ es) are = (later_type thrown e are.0, later_types thrown es are.1)

module _ (p : Program) (b : Bounds) (book : Book) (h : Held) (g : Setting) {m : Mode} {items : List Item} (d : Left g m items) (chain : List ScopeKind) where
  knows_later : (ts : List Term) (known : List Fact) → Known p h.func g d chain ts known → Known p h.func g d chain (in_terms later ts) (in_facts later known)
  knows_later ts known k x bounded holds = subst (λ (z : List Fact). AllHold p h.func x z) (facts_in g later d chain ts)
      (facts_placed p h.func later x (facts g d chain ts) (k (seen_by p h.func later x) (λ n. bounded (suc n)) (facts_replaced p h.func later x known holds)))

  -- terms that fit do so after a reply
  pub filled_later : (v w : Term) (es : List Exception) (ts : List Term) (known : List Fact) → Comes m w → Filled p b book h g d chain v es ts known
      → Filled p b book h g d chain w (in_exceptions later es) (in_terms later ts) (in_facts later known)
  filled_later v w es ts known comes f = record {
    all = all_so later (exception_count g d) es f.all;
    so = so_in later (count g d chain) ts f.so;
    types = later_types book.thrown es f.types;
    knows = knows_later ts known f.knows;
    comes = comes;
  }

  -- where the code stands after a reply, with these operands
  pub place_after : (u v : Term) (es : List Exception) (ts ws : List Term) → ws ≡ operands g d chain v (in_terms later ts)
      → place_later (standing p b book h g d chain u es ts) ws ≡ standing p b book h g d chain v (in_exceptions later es) (in_terms later ts)
  place_after u v es ts ws is = ap (λ (z : List Term). record {
    operands = z;
    opens = opened g d;
    caught = all_later (caught g d es);
    hold = hold_later (hold g d chain es ts);
  }) is
      ∙ ap₂ (λ (y : List Exception) (z : Hold). record { operands = operands g d chain v (in_terms later ts); opens = opened g d; caught = y; hold = z })
      (later_all (caught g d es) ∙ caught_in g later d es)
      (later_hold (hold g d chain es ts) ∙ hold_in g later d chain es ts)

  -- a silent step to a note
  pub quiet_landing : (v : Term) (es : List Exception) (ts : List Term) (known : List Fact) → Filled p b book h g d chain v es ts known
      → (lead lag rank index after : ℕ) → Ahead p b book h g d chain index after → lead + lag ≤ b.longest → ((1 ≤ lead + lag) ⊎ (after + 1 ≤ rank))
      → (q : Place) (o : Outcome) → q ≡ standing p b book h g d chain v es ts → advanced p h.func no_answers lag o ≡ comes_of p b book h g d chain v es ts
      → LandsOn p h.func b h.notes book.thrown known lead rank index q o
  quiet_landing v es ts known f lead lag rank index after a short on q o place_is outcome_is = record {
    lands = lands p h.func g d chain v es ts f.all f.so b h.notes book.thrown known no_answers lag index after f.types f.knows f.comes a.there q o place_is outcome_is
        (a.going no_answers v es ts f.comes);
    short = short;
    goes_on = on;
  }

  -- what the source does after an event
  pub going_on_later : (v : Term) (es : List Exception) (ts : List Term)
      → given p h.func no_answers (in_waitings later (temporaries g d chain ts)) v (in_frames later (frames g (numbers_of p h.func g) d chain es ts))
      ≡ comes_of p b book h g d chain v (in_exceptions later es) (in_terms later ts)
  going_on_later v es ts = ap₂ (λ (y : List Waiting) (z : List Frame). given p h.func no_answers y v z) (temporaries_in g later d chain ts)
      (frames_in g (numbers_of p h.func g) later d chain es ts)

  -- an event, and then the note
  pub loud_landing : (u v : Term) (es : List Exception) (ts : List Term) (known : List Fact) → Filled p b book h g d chain u es ts known → Comes m v
      → (index after : ℕ) → Ahead p b book h g d chain index after → (q : Place)
      → q ≡ standing p b book h g d chain v (in_exceptions later es) (in_terms later ts)
      → (l : Lands p h.func b h.notes book.thrown (in_facts later known) no_answers index q
      (given p h.func no_answers (in_waitings later (temporaries g d chain ts)) v (in_frames later (frames g (numbers_of p h.func g) d chain es ts))))
      × (l.lag ≡ 0)
  loud_landing u v es ts known f comes index after a q place_is = (
    lands p h.func g d chain v (in_exceptions later es) (in_terms later ts) (filled.all) (filled.so) b h.notes book.thrown (in_facts later known) no_answers 0 index
        after filled.types filled.knows comes a.there q
        (given p h.func no_answers (in_waitings later (temporaries g d chain ts)) v (in_frames later (frames g (numbers_of p h.func g) d chain es ts)))
        place_is (going_on_later v es ts) (a.going no_answers v (in_exceptions later es) (in_terms later ts) comes),
    refl,
  )
    where
      filled : Filled p b book h g d chain v (in_exceptions later es) (in_terms later ts) (in_facts later known)
      filled = filled_later u v es ts known comes f
