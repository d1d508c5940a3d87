-- Behind a call the code comes to the note of what is left to write there.
use Rattle.std.proofs.Common.{ℕ, ◌≡◌, ◌+◌, ◌≤◌, refl, ap, sym, ◌∙◌, Bool, true, false, List, ◌∷◌, arith}
use Rattle.low_code.specs.declared.scopes.ScopeKind.{ScopeKind}
use Rattle.src_mean.specs.Linked.{Program}
use Rattle.symbolic_source.specs.Terms.{Term, variable, number, Exception}
use Rattle.symbolic_source.specs.Frames.{Gives}
use Rattle.symbolic_source.specs.Outcomes.{silent, goes}
use Rattle.symbolic_source.specs.Replacing.{in_terms, in_frames, in_waitings}
use Rattle.symbolic_code.specs.Facts.{Fact, in_facts}
use Rattle.symbolic_code.specs.Places.{later, with_operands, place_later}
use Rattle.body_check.specs.Notes.{Bounds, no_answers}
use Rattle.body_check.specs.Calls.{Book, BackWith, ThrownWith, Behind}
use Rattle.body_check.specs.Linked.{Held}
use Rattle.unwind_lower.specs.declared.items.Item.{Item}
use Rattle.unwind_lower.specs.Settings.{Setting}
use Rattle.lowered_frames.specs.Lists.{in_exceptions}
use Rattle.lowered_frames.specs.Modes.{Mode, top, doubled, tripled, second, gone, nought, IsBare}
use Rattle.lowered_frames.specs.Left.{Left, frames, temporaries, below, opened, caught, AreEntered}
use Rattle.lowered_frames.proofs.Replaced.{below_in}
use Rattle.lowered_frames.proofs.Opened.{blocks_are, handlers_are}
use Rattle.lowered_notes.specs.Canonical.{numbers_of, hold}
use Rattle.lowered_notes.proofs.Terms.{first_so}
use Rattle.lowered_notes.proofs.Landing.{lands}
use Rattle.lowered_steps.specs.Ahead.{standing, Ahead, Filled}
use Rattle.lowered_steps.proofs.Landings.{filled_later, place_after, going_on_later}
use Rattle.lowered_calls.specs.Back.{HandsBack}
use Rattle.lowered_calls.proofs.Rest.{caught_thrown, bare_operands, bare_comes}

one_is : 1 ≤ 1
one_is = omega arith

module _ (p : Program) (b : Bounds) (book : Book) (h : Held) (g : Setting) where
  -- a word lies on top
  module _ {items : List Item} (d : Left g top items) (chain : List ScopeKind) (v : Term) (es : List Exception) (ts ws : List Term) (known : List Fact)
      (index after : ℕ) where
    word_back : Filled p b book h g d chain v es ts known → Ahead p b book h g d chain (index + 1) after → 1 ≤ b.half
        → BackWith p b book true h known index (with_operands (standing p b book h g d chain v es ts) ws) (below g d chain ts) (temporaries g d chain ts)
        (frames g (numbers_of p h.func g) d chain es ts)
    word_back f a wide = record {
      lands = lands p h.func g d chain (variable 0) (in_exceptions later es) (in_terms later ts) filled.all filled.so b h.notes book.thrown
          (in_facts later known)
          no_answers 1 (index + 1) after filled.types filled.knows tt a.there
          (place_later (standing p b book h g d chain v es ts) (variable 0 ∷ in_terms later (below g d chain ts)))
          (goes silent (in_waitings later (temporaries g d chain ts)) (Gives (variable 0) ∷ in_frames later (frames g (numbers_of p h.func g) d chain es ts)))
          (place_after p b book h g d chain v (variable 0) es ts (variable 0 ∷ in_terms later (below g d chain ts))
          (ap (λ (z : List Term). variable 0 ∷ z) (below_in g later d chain ts)))
          (going_on_later p b book h g d chain (variable 0) es ts)
          (a.going no_answers (variable 0) (in_exceptions later es) (in_terms later ts) tt);
      some = one_is;
      short = wide;
    }
      where
        filled : Filled p b book h g d chain (variable 0) (in_exceptions later es) (in_terms later ts) (in_facts later known)
        filled = filled_later p b book h g d chain v (variable 0) es ts known tt f

  -- nothing lies there
  module _ {m : Mode} {items : List Item} (d : Left g m items) (chain : List ScopeKind) (v : Term) (es : List Exception) (ts ws : List Term) (known : List Fact)
      (index after : ℕ) where
    nothing_back : IsBare m → Filled p b book h g d chain v es ts known → Ahead p b book h g d chain (index + 1) after → 1 ≤ b.half
        → BackWith p b book false h known index (with_operands (standing p b book h g d chain v es ts) ws) (below g d chain ts) (temporaries g d chain ts)
        (frames g (numbers_of p h.func g) d chain es ts)
    nothing_back e f a wide = record {
      lands = lands p h.func g d chain (number 0) es ts f.all f.so b h.notes book.thrown known no_answers 1 (index + 1) after f.types f.knows (bare_comes m e)
          a.there
          (with_operands (standing p b book h g d chain v es ts) (below g d chain ts))
          (goes silent (temporaries g d chain ts) (Gives (number 0) ∷ frames g (numbers_of p h.func g) d chain es ts))
          (ap (λ (z : List Term). record { operands = z; opens = opened g d; caught = caught g d es; hold = hold g d chain es ts })
          (sym (bare_operands m (number 0) (below g d chain ts) e)))
          refl (a.going no_answers (number 0) es ts (bare_comes m e));
      some = one_is;
      short = wide;
    }

  back : (gives : Bool) (m : Mode) {items : List Item} (d : Left g m items) (chain : List ScopeKind) (v : Term) (es : List Exception) (ts ws : List Term)
      (known : List Fact)
      (index after : ℕ) → HandsBack gives m → Filled p b book h g d chain v es ts known → Ahead p b book h g d chain (index + 1) after → 1 ≤ b.half
      → BackWith p b book gives h known index (with_operands (standing p b book h g d chain v es ts) ws) (below g d chain ts) (temporaries g d chain ts)
      (frames g (numbers_of p h.func g) d chain es ts)
  back true top d chain v es ts ws known index after e f a wide = word_back d chain v es ts ws known index after f a wide
  back true doubled d chain v es ts ws known index after e f a wide = absurd e
  back true tripled d chain v es ts ws known index after e f a wide = absurd e
  back true second d chain v es ts ws known index after e f a wide = absurd e
  back true gone d chain v es ts ws known index after e f a wide = absurd e
  back true nought d chain v es ts ws known index after e f a wide = absurd e
  back false m d chain v es ts ws known index after e f a wide = nothing_back d chain v es ts ws known index after e f a wide

  -- with the exceptions that come out of it, where they come to
  module _ {m : Mode} {items : List Item} (d : Left g m items) (chain : List ScopeKind) (v : Term) (es : List Exception) (ts ws : List Term) (known : List Fact)
      (gives stops : Bool) (index after : ℕ) where
    pub left_behind : HandsBack gives m → AreEntered g d → Filled p b book h g d chain v es ts known → Ahead p b book h g d chain (index + 1) after → 1 ≤ b.half
        → (stops ≡ false → ThrownWith p b book h known index (with_operands (standing p b book h g d chain v es ts) ws) (below g d chain ts)
        (temporaries g d chain ts)
        (frames g (numbers_of p h.func g) d chain es ts))
        → Behind p b book gives stops h known index (with_operands (standing p b book h g d chain v es ts) ws) (below g d chain ts) (temporaries g d chain ts)
        (frames g (numbers_of p h.func g) d chain es ts)
    left_behind e entered f a wide out = record {
      back = back gives m d chain v es ts ws known index after e f a wide;
      thrown = out;
      opens = sym (blocks_are g (numbers_of p h.func g) d chain es ts entered);
      caught = first_so (caught g d es) ∙ sym (handlers_are g (numbers_of p h.func g) d chain es ts);
      type = caught_thrown g book.thrown d es f.all f.types;
    }
