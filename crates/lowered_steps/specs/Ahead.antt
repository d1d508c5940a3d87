-- What is asked of an instruction where something is left to write, and what is given to show it: the notes of what comes next, and terms that fit.
use Rattle.std.specs.Prelude.{ℕ, ◌+◌, ◌≤◌, ◌≡◌, false, true, List, [], ◌∷◌}
use Rattle.tx_code.specs.declared.instr.Instr.{Instr}
use Rattle.low_code.specs.declared.scopes.ScopeKind.{ScopeKind}
use Rattle.src_mean.specs.Linked.{Program}
use Rattle.symbolic_source.specs.Terms.{Term, converted_to, Exception}
use Rattle.symbolic_source.specs.Outcomes.{Outcome}
use Rattle.symbolic_source.specs.Steps.{advanced}
use Rattle.symbolic_source.specs.Small.{is_stuck}
use Rattle.symbolic_code.specs.Facts.{Fact}
use Rattle.symbolic_code.specs.Places.{Place}
use Rattle.symbolic_code.specs.Same.{same_term}
use Rattle.body_check.specs.Notes.{Bounds, no_answers}
use Rattle.body_check.specs.Calls.{Book, StepFits}
use Rattle.body_check.specs.Linked.{Held}
use Rattle.unwind_lower.specs.declared.items.Item.{Item}
use Rattle.unwind_lower.specs.Settings.{Setting}
use Rattle.lowered_frames.specs.Lists.{AreSo, AreAll}
use Rattle.lowered_frames.specs.Modes.{Mode}
use Rattle.lowered_frames.specs.Left.{Left, count, exception_count}
use Rattle.lowered_notes.specs.Canonical.{Comes, AreThrown, Known, There, IsForeseen, place_with, coming}

-- a term that the check tells from others: one without bytes of an exception that is made here; and no conversion, of which a store keeps nothing
abbrev pub IsTold : Term → Type 0
IsTold (converted_to kind t) = ⊥
IsTold t = same_term t t ≡ true

abbrev pub AreTold : List Term → Type 0
AreTold [] = Unit {0}
AreTold (t ∷ ts) = IsTold t × AreTold ts

module _ (p : Program) (b : Bounds) (book : Book) (h : Held) (g : Setting) where
  module _ {m : Mode} {items : List Item} (d : Left g m items) (chain : List ScopeKind) where
    -- where the code stands, and what comes of the source
    abbrev pub standing : Term → List Exception → List Term → Place
    standing v es ts = place_with p h.func g d chain v es ts

    abbrev pub comes_of : Term → List Exception → List Term → Outcome
    comes_of v es ts = coming p h.func g d chain no_answers v es ts

    -- the instruction fits where this is left to write, where the source has taken so many silent steps before
    abbrev pub Fitting : Term → List Exception → List Term → (known : List Fact) (lead rank index : ℕ) → Instr → Type 0
    Fitting v es ts known lead rank index instr = StepFits p b book h known lead rank index instr (standing v es ts) (comes_of v es ts)

    -- the same where the source takes some of these steps from here on
    pub record FitsAfter (v : Term) (es : List Exception) (ts : List Term) (known : List Fact) (steps lead rank index : ℕ) (instr : Instr) : Type 0 where
      pub foreseen : is_stuck (advanced p h.func no_answers steps (comes_of v es ts)) ≡ false
      pub fits : StepFits p b book h known lead rank index instr (standing v es ts) (advanced p h.func no_answers steps (comes_of v es ts))

    -- the note of what is left to write is there, and the source goes on from it
    pub record Ahead (index rank : ℕ) : Type 0 where
      pub there : There p h.func g d chain b h.notes index rank
      pub going : IsForeseen p h.func g d chain

    -- terms and exceptions that this can be left to write with
    pub record Filled (v : Term) (es : List Exception) (ts : List Term) (known : List Fact) : Type 0 where
      pub all : AreAll (exception_count g d) es
      pub so : AreSo (count g d chain) ts
      pub types : AreThrown book.thrown es
      pub knows : Known p h.func g d chain ts known
      pub comes : Comes m v

  -- whatever the terms are, the instruction at the index fits after so many silent steps of the source from here on; some may have been taken before
  abbrev pub Moves : {m : Mode} {items : List Item} → Left g m items → List ScopeKind → (steps rank index : ℕ) → Instr → Type 0
  Moves d chain steps rank index instr = (v : Term) (es : List Exception) (ts : List Term) (known : List Fact) → Filled d chain v es ts known → IsTold v → AreTold ts
      → (lead : ℕ) → steps ≤ lead → lead + 1 ≤ b.half → FitsAfter d chain v es ts known steps lead rank index instr

  -- with a silent step of the source, or none, what is left to write is read otherwise
  module _ {m n : Mode} {items others : List Item} (d : Left g m items) (chain : List ScopeKind) (e : Left g n others) (outer : List ScopeKind) where
    pub record Rereads (stepped : Outcome → Outcome) (v : Term) (es : List Exception) (ts : List Term) (known : List Fact) : Type 0 where
      pub value : Term
      pub exceptions : List Exception
      pub terms : List Term
      pub filled : Filled e outer value exceptions terms known
      pub told : IsTold v → AreTold ts → IsTold value × AreTold terms
      pub place_is : standing d chain v es ts ≡ standing e outer value exceptions terms
      pub outcome_is : stepped (comes_of d chain v es ts) ≡ comes_of e outer value exceptions terms

    abbrev pub AlwaysRereads : (Outcome → Outcome) → Type 0
    AlwaysRereads stepped = (v : Term) (es : List Exception) (ts : List Term) (known : List Fact) → Filled d chain v es ts known → Rereads stepped v es ts known
