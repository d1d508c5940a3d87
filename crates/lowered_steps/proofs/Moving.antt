-- Where the instruction fits whatever the terms are, it does so before silent steps, and the note fits.
use Rattle.std.proofs.Common.{ℕ, zero, suc, ◌≡◌, ◌+◌, ◌≤◌, refl, subst, List, Some, Bool, arith}
use Rattle.std.specs.Prelude.{slice_get}
use Rattle.cpp_tree.specs.cpp_types.Typ.{Typ}
use Rattle.tx_code.specs.declared.instr.Instr.{Instr}
use Rattle.low_code.specs.declared.scopes.ScopeKind.{ScopeKind}
use Rattle.src_mean.specs.Linked.{Program}
use Rattle.symbolic_source.specs.Terms.{Term, variable, Exception}
use Rattle.symbolic_source.specs.Outcomes.{Outcome}
use Rattle.symbolic_source.specs.Steps.{step_of, advanced}
use Rattle.symbolic_code.specs.Facts.{Fact}
use Rattle.symbolic_code.specs.Places.{Place}
use Rattle.body_check.specs.Notes.{Bounds, no_answers, variables}
use Rattle.body_check.specs.Calls.{Book, StepFits, NoteFits}
use Rattle.body_check.specs.Linked.{Held}
use Rattle.unwind_lower.specs.declared.items.Item.{Item}
use Rattle.unwind_lower.specs.Settings.{Setting}
use Rattle.lowered_frames.specs.Lists.{AreAll}
use Rattle.lowered_frames.specs.Modes.{Mode, top, doubled, tripled, second, gone, nought}
use Rattle.lowered_frames.specs.Left.{Left, count, exception_count}
use Rattle.lowered_notes.specs.Canonical.{value_of, Comes, unknowns, AreThrown, IsForeseen, words_of_note, exceptions_of_note, facts, canonical}
use Rattle.lowered_notes.proofs.Terms.{variables_so}
use Rattle.lowered_steps.specs.Ahead.{standing, comes_of, Fitting, FitsAfter, Filled, IsTold, AreTold, Rereads, AlwaysRereads, Moves}
use Rattle.lowered_steps.proofs.Readings.{step_before, none_before}
use Rattle.lowered_steps.proofs.Words.{told_variable}

-- a step less
step_less : (m n : ℕ) → suc m ≤ n → m ≤ n
step_less m n l = omega arith

-- what a note may lead by is short
pub half_is_short : (b : Bounds) (lead : ℕ) → lead + 1 ≤ b.half → lead + 0 ≤ b.longest
half_is_short b lead l = let both : b.half + b.half ≤ b.longest = b.both in omega arith

pub half_and_one_is_short : (b : Bounds) (lead : ℕ) → lead + 1 ≤ b.half → lead + 1 ≤ b.longest
half_and_one_is_short b lead l = let both : b.half + b.half ≤ b.longest = b.both in omega arith

-- ---- the terms of a note

unknowns_all : (k n : ℕ) → AreAll n (unknowns k n)
unknowns_all k zero = tt
unknowns_all k (suc n) = unknowns_all (suc k) n

unknowns_thrown : (thrown : Typ → Bool) (k n : ℕ) → AreThrown thrown (unknowns k n)
unknowns_thrown thrown k zero = tt
unknowns_thrown thrown k (suc n) = (tt, unknowns_thrown thrown (suc k) n)

value_comes : (m : Mode) → Comes m (value_of m)
value_comes nought = refl
value_comes top = tt
value_comes doubled = tt
value_comes tripled = tt
value_comes second = tt
value_comes gone = tt

value_told : (m : Mode) → IsTold (value_of m)
value_told nought = refl
value_told top = refl
value_told doubled = refl
value_told tripled = refl
value_told second = refl
value_told gone = refl

variables_told : (k n : ℕ) → AreTold (variables k n)
variables_told k zero = tt
variables_told k (suc n) = (told_variable k, variables_told (suc k) n)

module _ (p : Program) (b : Bounds) (book : Book) (h : Held) (g : Setting) where
  -- an instruction that fits at once
  pub at_once : {m : Mode} {items : List Item} (d : Left g m items) (chain : List ScopeKind) (rank index : ℕ) (instr : Instr) → IsForeseen p h.func g d chain
      → ((v : Term) (es : List Exception) (ts : List Term) (known : List Fact) → Filled p b book h g d chain v es ts known → IsTold v → AreTold ts → (lead : ℕ)
      → lead + 1 ≤ b.half → Fitting p b book h g d chain v es ts known lead rank index instr)
      → Moves p b book h g d chain 0 rank index instr
  at_once d chain rank index instr going fits v es ts known f told all_told lead within short = record {
    foreseen = going no_answers v es ts f.comes;
    fits = fits v es ts known f told all_told lead short;
  }

  module _ {m n : Mode} {items others : List Item} (d : Left g m items) (chain : List ScopeKind) (e : Left g n others) (outer : List ScopeKind) (steps rank index : ℕ)
      (instr : Instr) where
    -- before a silent step of the source
    pub step_moves : AlwaysRereads p b book h g d chain e outer (step_of p h.func no_answers) → Moves p b book h g e outer steps rank index instr
        → Moves p b book h g d chain (suc steps) rank index instr
    step_moves rereads moves v es ts known f told all_told lead within short = step_before p b book h g d chain e outer v es ts known read steps lead rank index instr
        (moves read.value read.exceptions read.terms known read.filled (read.told told all_told).0 (read.told told all_told).1 lead (step_less steps lead within) short)
      where
        read : Rereads p b book h g d chain e outer (step_of p h.func no_answers) v es ts known
        read = rereads v es ts known f

    -- and where the source takes none
    pub none_moves : AlwaysRereads p b book h g d chain e outer (λ (z : Outcome). z) → Moves p b book h g e outer steps rank index instr
        → Moves p b book h g d chain steps rank index instr
    none_moves rereads moves v es ts known f told all_told lead within short = none_before p b book h g d chain e outer v es ts known read steps lead rank index instr
        (moves read.value read.exceptions read.terms known read.filled (read.told told all_told).0 (read.told told all_told).1 lead within short)
      where
        read : Rereads p b book h g d chain e outer (λ (z : Outcome). z) v es ts known
        read = rereads v es ts known f

  -- ---- notes

  module _ {m : Mode} {items : List Item} (d : Left g m items) (chain : List ScopeKind) where
    abbrev words : List Term
    words = words_of_note p h.func g d chain

    abbrev exceptions : List Exception
    exceptions = exceptions_of_note p h.func g d chain

    pub note_filled : Filled p b book h g d chain (value_of m) exceptions words (facts g d chain words)
    note_filled = record {
      all = unknowns_all 0 (exception_count g d);
      so = variables_so 1 (count g d chain);
      types = unknowns_thrown book.thrown 0 (exception_count g d);
      knows = λ x bounded holds. holds;
      comes = value_comes m;
    }

  -- a value that lies nowhere makes no difference to the place
  value_there : (m : Mode) {items : List Item} (d : Left g m items) (chain : List ScopeKind) (es : List Exception) (ts : List Term)
      → standing p b book h g d chain (value_of m) es ts ≡ standing p b book h g d chain (variable 0) es ts
  value_there top d chain es ts = refl
  value_there doubled d chain es ts = refl
  value_there tripled d chain es ts = refl
  value_there second d chain es ts = refl
  value_there gone d chain es ts = refl
  value_there nought d chain es ts = refl

  -- the note of what is left to write fits, where the instruction does so whatever the terms are
  pub note_fits : {m : Mode} {items : List Item} (d : Left g m items) (chain : List ScopeKind) (lead rank index : ℕ) (instr : Instr)
      → Moves p b book h g d chain lead rank index instr → slice_get h.body.code index ≡ Some instr → lead + 1 ≤ b.half
      → NoteFits p b book h (canonical p h.func g d chain index lead rank)
  note_fits {m} {items} d chain lead rank index instr moves is short = record {
    instr = instr;
    is = is;
    short = short;
    foreseen = found.foreseen;
    fits = subst (λ (q : Place). StepFits p b book h (facts g d chain (words d chain)) lead rank index instr q
        (advanced p h.func no_answers lead (comes_of p b book h g d chain (value_of m) (exceptions d chain) (words d chain))))
        (value_there m d chain (exceptions d chain) (words d chain)) found.fits;
  }
    where
      reflexive : (n : ℕ) → n ≤ n
      reflexive n = omega arith

      found : FitsAfter p b book h g d chain (value_of m) (exceptions d chain) (words d chain) (facts g d chain (words d chain)) lead lead rank index instr
      found = moves (value_of m) (exceptions d chain) (words d chain) (facts g d chain (words d chain)) (note_filled d chain) (value_told m)
          (variables_told 1 (count g d chain)) lead (reflexive lead) short
