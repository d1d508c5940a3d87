-- Reads, writes, operators and branches that come to notes.
use Rattle.std.proofs.Common.{ℕ, ◌≡◌, ◌+◌, ◌≤◌, ◌⊎◌, refl, sym, subst, Bool, true, false, cond, List, ◌∷◌, ◌==◌}
use Rattle.std.specs.Prelude.{slice_get, ◌%◌, ◌^◌}
use Rattle.tx_ints.specs.declared.kinds.IntKind.{IntKind}
use Rattle.tx_ints.specs.declared.kinds.BinOp.{BinOp}
use Rattle.tx_code.specs.Meaning.{kinds, operators}
use Rattle.cpp_tree.specs.cpp_layout.Layout.{kind_size}
use Rattle.low_code.specs.declared.scopes.ScopeKind.{ScopeKind}
use Rattle.low_code.specs.Numbers.{kind_number, operator_number, load, store_number}
use Rattle.src_mean.specs.Linked.{Program}
use Rattle.symbolic_source.specs.Terms.{Term, number, variable, local, global, function, table, slot_function, sum, product, before, low_byte, converted_to, result, field, Exception}
use Rattle.symbolic_source.specs.Frames.{Frame, Waiting, Loaded, Gives}
use Rattle.symbolic_source.specs.Outcomes.{Outcome, silent, reads, writes, goes, results, either}
use Rattle.symbolic_source.specs.Steps.{given, advanced}
use Rattle.symbolic_source.specs.Replacing.{in_term, in_terms, in_waitings, in_frames}
use Rattle.symbolic_code.specs.Facts.{Fact, not_zero, in_facts}
use Rattle.symbolic_code.specs.Places.{Place, later, with_operands, place_later}
use Rattle.symbolic_code.specs.Same.{same_term}
use Rattle.symbolic_code.specs.Following.{Next, refused, quietly, either_way, one_of, two_of, if_found, loads, stores, operates, jumps_zero, stored_term, kept}
use Rattle.body_check.specs.Notes.{Bounds, Fits, Lands, LandsOn, no_answers}
use Rattle.body_check.specs.Calls.{Book, StepFits}
use Rattle.body_check.specs.Linked.{Held}
use Rattle.unwind_lower.specs.declared.items.Item.{Item}
use Rattle.unwind_lower.specs.Settings.{Setting}
use Rattle.lowered_frames.specs.Lists.{in_exceptions}
use Rattle.lowered_frames.specs.Modes.{Mode}
use Rattle.lowered_frames.specs.Left.{Left, frames, temporaries}
use Rattle.lowered_notes.specs.Canonical.{Comes, numbers_of}
use Rattle.lowered_notes.proofs.KindNumbers.{small_sizes}
use Rattle.lowered_steps.specs.Ahead.{IsTold, standing, comes_of, Ahead, Filled}
use Rattle.lowered_steps.proofs.Landings.{quiet_landing, loud_landing}
use Rattle.lowered_steps.proofs.Words.{told_same, loads_so, stores_so, operates_so}

module _ (p : Program) (b : Bounds) (book : Book) (h : Held) (g : Setting) where
  -- what is asked of the way on
  abbrev pub Goes : List Fact → (lead rank : ℕ) → Next → Type 0
  Goes known lead rank next = Fits p h.func b h.notes book.thrown book.numbers h.rows known lead rank next

  -- what a read and a write ask, volatile or not
  pub load_asks : (known : List Fact) (lead rank index : ℕ) (kind : IntKind) (volatile : Bool) (q : Place) (o : Outcome)
      → Goes known lead rank (if_found (slice_get kinds (kind_number kind)) (λ k. one_of q.operands (λ a ws. loads index q k volatile a ws o)))
      → StepFits p b book h known lead rank index (load kind volatile) q o
  load_asks known lead rank index kind true q o fits = fits
  load_asks known lead rank index kind false q o fits = fits

  pub store_asks : (known : List Fact) (lead rank index n : ℕ) (volatile : Bool) (q : Place) (o : Outcome)
      → Goes known lead rank (if_found (slice_get kinds n) (λ k. two_of q.operands (λ a w ws. stores index q k volatile a w ws o)))
      → StepFits p b book h known lead rank index (store_number n volatile) q o
  store_asks known lead rank index n true q o fits = fits
  store_asks known lead rank index n false q o fits = fits

  module _ {m : Mode} {items : List Item} (d : Left g m items) (chain : List ScopeKind) (es : List Exception) (ts : List Term) (known : List Fact) (index after : ℕ)
      (a : Ahead p b book h g d chain (index + 1) after) where
    -- the note is come to after an event
    abbrev Loudly : ℕ → Term → Place → Type 0
    Loudly to v q = (l : Lands p h.func b h.notes book.thrown (in_facts later known) no_answers to q
        (given p h.func no_answers (in_waitings later (temporaries g d chain ts)) v (in_frames later (frames g (numbers_of p h.func g) d chain es ts)))) × (l.lag ≡ 0)

    -- a read, which comes to its note with the value on top
    pub read_fits : (u : Term) → Filled p b book h g d chain u es ts known → (lead rank : ℕ) (q : Place) (v : Term) (under : List Term) (kind : IntKind)
        → (volatile : Bool) → IsTold v → Comes m (converted_to kind (variable 0)) → place_later q (converted_to kind (variable 0) ∷ in_terms later under)
        ≡ standing p b book h g d chain (converted_to kind (variable 0)) (in_exceptions later es) (in_terms later ts)
        → Goes known lead rank (if_found (slice_get kinds (kind_number kind)) (λ k. loads index q k volatile v under
        (goes (reads v (kind_size kind) volatile) (temporaries g d chain ts) (Loaded kind ∷ frames g (numbers_of p h.func g) d chain es ts))))
    read_fits u f lead rank q v under kind volatile told comes place_is = subst (λ (z : Next). Goes known lead rank z)
        (sym (loads_so index q kind volatile v under (temporaries g d chain ts) (Loaded kind ∷ frames g (numbers_of p h.func g) d chain es ts) told))
        (small_sizes kind, landing.0, landing.1)
      where
        landing : Loudly (index + 1) (converted_to kind (variable 0)) (place_later q (converted_to kind (variable 0) ∷ in_terms later under))
        landing = loud_landing p b book h g d chain u (converted_to kind (variable 0)) es ts known f comes (index + 1) after a (place_later q (converted_to kind (variable 0) ∷ in_terms later under)) place_is

    -- a write, after which the source gives a term
    pub write_fits : (u : Term) → Filled p b book h g d chain u es ts known → (lead rank : ℕ) (q : Place) (k j : IntKind) (volatile : Bool)
        → (address w written answer : Term) (under : List Term) → IsTold address → (kind_size k == kind_size j) ≡ true
        → same_term (kept (kind_size k) (stored_term k w)) (kept (kind_size k) written) ≡ true → Comes m (in_term later answer)
        → place_later q (in_terms later under) ≡ standing p b book h g d chain (in_term later answer) (in_exceptions later es) (in_terms later ts)
        → Goes known lead rank (if_found (slice_get kinds (kind_number k)) (λ z. stores index q z volatile address w under
        (goes (writes address j written volatile) (temporaries g d chain ts) (Gives answer ∷ frames g (numbers_of p h.func g) d chain es ts))))
    write_fits u f lead rank q k j volatile address w written answer under told sizes words comes place_is = subst (λ (z : Next). Goes known lead rank z)
        (sym (stores_so index q k j volatile address w written under (temporaries g d chain ts) (Gives answer ∷ frames g (numbers_of p h.func g) d chain es ts) told sizes words))
        (refl, landing.0, landing.1)
      where
        landing : Loudly (index + 1) (in_term later answer) (place_later q (in_terms later under))
        landing = loud_landing p b book h g d chain u (in_term later answer) es ts known f comes (index + 1) after a (place_later q (in_terms later under)) place_is

    -- an operator that does not trap
    pub operator_goes : (op : BinOp) (kind : IntKind) (x y : Term) (under : List Term) → IsTold x → IsTold y
        → Filled p b book h g d chain (result op kind x y) es ts known → (lead lag rank : ℕ) → lead + lag ≤ b.longest → ((1 ≤ lead + lag) ⊎ (after + 1 ≤ rank))
        → (q : Place) (o : Outcome) → with_operands q (result op kind x y ∷ under) ≡ standing p b book h g d chain (result op kind x y) es ts
        → advanced p h.func no_answers lag o ≡ comes_of p b book h g d chain (result op kind x y) es ts
        → Goes known lead rank (if_found (slice_get operators (operator_number op)) (λ o'. if_found (slice_get kinds (kind_number kind))
        (λ k'. operates known index q o' k' x y under (results op kind x y o))))
    operator_goes op kind x y under told_x told_y f lead lag rank short on q o place_is outcome_is = subst (λ (z : Next). Goes known lead rank z)
        (sym (operates_so known index q op kind x y under o told_x told_y))
        (quiet_landing p b book h g d chain (result op kind x y) es ts known f lead lag rank (index + 1) after a
        short on (with_operands q (result op kind x y ∷ under)) o place_is outcome_is)

  -- a branch on a word, both of whose ways go on, be the word known or not
  module _ (known : List Fact) (lead rank index target : ℕ) (q : Place) (under : List Term) (ws us : List Waiting) (k j : List Frame) where
    -- where the word is 0, and where it is not
    abbrev pub GoesThere : Type 0
    GoesThere = LandsOn p h.func b h.notes book.thrown known lead rank target (with_operands q under) (goes silent ws k)

    abbrev pub GoesHere : List Fact → Type 0
    GoesHere ks = LandsOn p h.func b h.notes book.thrown ks lead rank (index + 1) (with_operands q under) (goes silent us j)

    number_goes : (n : ℕ) (z : Bool) → (n % 2 ^ 64 == 0) ≡ z → GoesThere → GoesHere known
        → Goes known lead rank (jumps_zero index target q (number n) under (cond z (goes silent ws k) (goes silent us j)))
    number_goes n true is there here = subst (λ (z : Bool). Goes known lead rank (cond z (quietly target (with_operands q under) (goes silent ws k))
        (quietly (index + 1) (with_operands q under) (goes silent ws k)))) (sym is) there
    number_goes n false is there here = subst (λ (z : Bool). Goes known lead rank (cond z (quietly target (with_operands q under) (goes silent us j))
        (quietly (index + 1) (with_operands q under) (goes silent us j)))) (sym is) here

    other_goes : (v : Term) → IsTold v → GoesThere → GoesHere (not_zero v ∷ known)
        → Goes known lead rank (cond (same_term v v) (either_way v (quietly target (with_operands q under) (goes silent ws k))
        (quietly (index + 1) (with_operands q under) (goes silent us j))) refused)
    other_goes v told there here = subst (λ (z : Bool). Goes known lead rank (cond z (either_way v (quietly target (with_operands q under) (goes silent ws k))
        (quietly (index + 1) (with_operands q under) (goes silent us j))) refused)) (sym (told_same v told)) (there, here)

    pub branch_goes : (v : Term) → IsTold v → GoesThere → GoesHere known → GoesHere (not_zero v ∷ known)
        → Goes known lead rank (jumps_zero index target q v under (either v (goes silent ws k) (goes silent us j)))
    branch_goes (number n) told there here_too here = number_goes n (n % 2 ^ 64 == 0) refl there here_too
    branch_goes (converted_to c w) told there here_too here = absurd told
    branch_goes (variable n) told there here_too here = other_goes (variable n) told there here
    branch_goes (local n) told there here_too here = other_goes (local n) told there here
    branch_goes (global n) told there here_too here = other_goes (global n) told there here
    branch_goes (function n) told there here_too here = other_goes (function n) told there here
    branch_goes (table n) told there here_too here = other_goes (table n) told there here
    branch_goes (slot_function c s a) told there here_too here = other_goes (slot_function c s a) told there here
    branch_goes (sum a c) told there here_too here = other_goes (sum a c) told there here
    branch_goes (product a c) told there here_too here = other_goes (product a c) told there here
    branch_goes (before a) told there here_too here = other_goes (before a) told there here
    branch_goes (low_byte a) told there here_too here = other_goes (low_byte a) told there here
    branch_goes (result o i a c) told there here_too here = other_goes (result o i a c) told there here
    branch_goes (field e m n) told there here_too here = other_goes (field e m n) told there here
