-- What the instructions of expressions do where they were written, with landings where the next is left to write.
use Rattle.low_code.specs.Types.{is_void}
use Rattle.std.proofs.Common.{ℕ, ◌≡◌, ◌+◌, ◌≤◌, inl, inr, refl, ap, sym, ◌∙◌, subst, Bool, true, false, cond, List, ◌∷◌, ◌==◌, ◌&&◌, suc}
use Rattle.std.specs.Prelude.{slice_get}
use Rattle.tx_ints.specs.declared.kinds.IntKind.{IntKind}
use Rattle.tx_ints.specs.declared.kinds.BinOp.{BinOp}
use Rattle.tx_code.specs.declared.instr.Instr.{Instr}
use Rattle.tx_code.specs.declared.instr.Instr.TheVariants.{Pop, Bin, Load, VLoad, Jump, JumpZero, Conv, Dup, Store, VStore}
use Rattle.tx_code.specs.Meaning.{kinds, operators, size_of}
use Rattle.cpp_tree.specs.cpp_layout.Layout.{kind_size}
use Rattle.cpp_tree.specs.cpp_types.declared.classes.At.{At}
use Rattle.cpp_tree.specs.declared.arena.TNodeId.{TNodeId}
use Rattle.low_code.specs.declared.scopes.ScopeKind.{ScopeKind}
use Rattle.low_code.specs.Nodes.{kid_in}
use Rattle.low_code.specs.Numbers.{kind_number, operator_number, bytes_kind, bytes_number, load, store}
use Rattle.src_mean.specs.Linked.{Program}
use Rattle.symbolic_source.specs.Terms.{Term, number, variable, converted_to, result, Exception}
use Rattle.symbolic_source.specs.Frames.{Run, Loaded, Gives}
use Rattle.symbolic_source.specs.Outcomes.{silent, reads, writes, Outcome, goes}
use Rattle.symbolic_source.specs.Replacing.{in_terms}
use Rattle.symbolic_code.specs.Facts.{Fact, not_zero}
use Rattle.symbolic_code.specs.Same.{same_term, same_number, same_operator}
use Rattle.symbolic_code.specs.Places.{Place, later, with_operands, place_later}
use Rattle.symbolic_code.specs.Following.{Next, refused, quietly, loudly, unless_trap, either_way, if_found, loads as loads_next, stores as stores_next, kept, stored_term, operates, pushes, same_flag, addresses}
use Rattle.body_check.specs.Notes.{Bounds, Fits}
use Rattle.body_check.specs.Notes as notes
use Rattle.body_check.specs.Calls.{Book, StepFits}
use Rattle.body_check.specs.Linked.{Held}
use Rattle.unwind_lower.specs.declared.items.Item.{Item}
use Rattle.unwind_lower.specs.declared.items.Item.TheVariants.{Run as RunIt, Put, Branch}
use Rattle.unwind_lower.specs.declared.items.Way.{Way}
use Rattle.unwind_lower.specs.declared.items.Way.TheVariants.{Value}
use Rattle.unwind_lower.specs.declared.items.Other.{Other as OtherPart}
use Rattle.unwind_lower.specs.Settings.{Setting, node_in}
use Rattle.lowered_frames.specs.Lists.{behind}
use Rattle.lowered_frames.specs.Modes.{Mode, top, gone, After, valued, way_with, way_count, tree_in}
use Rattle.lowered_frames.specs.Expressions.{run, loads, converts, apply, drop, branch, other, assign_to, assigned, stored}
use Rattle.lowered_frames.specs.Left.{expression, Left, before, frames, below, temporaries}
use Rattle.lowered_frames.proofs.Replaced.{below_in}
use Rattle.lowered_notes.specs.Canonical.{Comes, place_with, coming}
use Rattle.lowered_notes.proofs.KindNumbers.{kind_found, operator_found, same_sizes, small_sizes, one_number, one_operator, one_flag, both, same_itself, bytes_sizes, bytes_stored}
use Rattle.lowered_notes.proofs.Landings.{nums, Ahead, Fitted, quiet_landing, loud_landing, place_goes_later}

module _ (p : Program) (b : Bounds) (book : Book) (h : Held) (g : Setting) where
  -- the instruction fits where this is left to write
  abbrev pub Fitting : {m : Mode} {items : List Item} → Left g m items → List ScopeKind → Term → List Exception → List Term → (known : List Fact) (lead rank index : ℕ)
      → Instr → Type 0
  Fitting d chain v es ts known lead rank index instr = StepFits p b book h known lead rank index instr (place_with p h.func g d chain v es ts)
      (coming p h.func g d chain notes.no_answers v es ts)

  -- ---- reads

  module _ {items : List Item} (d : Left g top items) (chain : List ScopeKind) (kind : IntKind) (at : At) (v : Term) (es : List Exception) (ts : List Term)
      (known : List Fact) (lead rank index : ℕ) (self : same_term v v ≡ true) where
    abbrev load_head : (volatile : Bool) → Left g top (Put (load kind volatile) at ∷ items)
    load_head volatile = before (expression (loads kind volatile at)) d

    abbrev after_read : (volatile : Bool) → Next
    after_read volatile = loudly (reads v (kind_size kind) volatile) (temporaries g d chain ts) (Loaded kind ∷ frames g (nums p b book h g) d chain es ts) (index + 1)
        (place_later (place_with p h.func g (load_head volatile) chain v es ts) (converted_to kind (variable 0) ∷ in_terms later (below g d chain ts)))

    read_follows : (volatile : Bool) → if_found (slice_get kinds (kind_number kind)) (λ k. loads_next index (place_with p h.func g (load_head volatile) chain v es ts) k volatile
        v (below g d chain ts) (coming p h.func g (load_head volatile) chain notes.no_answers v es ts)) ≡ after_read volatile
    read_follows volatile = ap (λ z. if_found z (λ k. loads_next index (place_with p h.func g (load_head volatile) chain v es ts) k volatile
        v (below g d chain ts) (coming p h.func g (load_head volatile) chain notes.no_answers v es ts))) (kind_found kind)
        ∙ ap (λ (z : Bool). cond z (after_read volatile) refused)
        (both (same_term v v && (kind_size kind == size_of kind)) (same_flag volatile volatile)
        (both (same_term v v) (kind_size kind == size_of kind) self (same_sizes kind)) (one_flag volatile))

    read_fits : (volatile : Bool) → Fitted p b book h g d chain es ts known → (after : ℕ) → Ahead p b book h g d chain (index + 1) after
        → Fits p h.func b h.notes book.thrown book.numbers h.rows known lead rank (after_read volatile)
    read_fits volatile fit after a = (
      small_sizes kind,
      loud_landing p b book h g d chain (converted_to kind (variable 0)) es ts known fit tt (index + 1) after a
          (place_later (place_with p h.func g (load_head volatile) chain v es ts) (converted_to kind (variable 0) ∷ in_terms later (below g d chain ts)))
          (place_goes_later p b book h g d chain (converted_to kind (variable 0)) es ts (converted_to kind (variable 0) ∷ in_terms later (below g d chain ts))
          (ap (λ (z : List Term). converted_to kind (variable 0) ∷ z) (below_in g later d chain ts))),
      refl,
    )

    pub load_fits : Fitted p b book h g d chain es ts known → (after : ℕ) → Ahead p b book h g d chain (index + 1) after
        → Fitting (load_head false) chain v es ts known lead rank index (Load (kind_number kind))
    load_fits fit after a = subst (λ (z : Next). Fits p h.func b h.notes book.thrown book.numbers h.rows known lead rank z) (sym (read_follows false)) (read_fits false fit after a)

    pub volatile_load_fits : Fitted p b book h g d chain es ts known → (after : ℕ) → Ahead p b book h g d chain (index + 1) after
        → Fitting (load_head true) chain v es ts known lead rank index (VLoad (kind_number kind))
    volatile_load_fits fit after a = subst (λ (z : Next). Fits p h.func b h.notes book.thrown book.numbers h.rows known lead rank z) (sym (read_follows true)) (read_fits true fit after a)

  -- ---- dropped values

  module _ {items : List Item} (d : Left g gone items) (chain : List ScopeKind) (at : At) (v : Term) (es : List Exception) (ts : List Term)
      (known : List Fact) (lead rank index : ℕ) where
    pub drop_fits : Fitted p b book h g d chain es ts known → (after : ℕ) → Ahead p b book h g d chain (index + 1) after → lead + 0 ≤ b.longest → after + 1 ≤ rank
        → Fitting (before (expression (drop at)) d) chain v es ts known lead rank index Pop
    drop_fits fit after a short falls = quiet_landing p b book h g d chain v es ts known fit tt lead 0 rank (index + 1) after a short (inr falls)
        (with_operands (place_with p h.func g (before (expression (drop at)) d) chain v es ts) (below g d chain ts))
        (coming p h.func g d chain notes.no_answers v es ts) refl refl

  -- ---- operators

  module _ {items : List Item} (d : Left g top items) (chain : List ScopeKind) (op : BinOp) (kind : IntKind) (at : At) (u v : Term) (es : List Exception) (ts : List Term)
      (known : List Fact) (lead rank index : ℕ) (first : same_term u u ≡ true) (second : same_term v v ≡ true) where
    abbrev apply_head : Left g top (Put (Bin (operator_number op) (kind_number kind)) at ∷ items)
    apply_head = before (expression (apply op kind at)) d

    abbrev apply_place : Place
    apply_place = place_with p h.func g apply_head chain v es (u ∷ ts)

    abbrev after_operator : Next
    after_operator = unless_trap op kind u v (pushes index apply_place (coming p h.func g d chain notes.no_answers (result op kind u v) es ts) (result op kind u v) (below g d chain ts))

    abbrev operates_as : BinOp → IntKind → Next
    operates_as o k = operates known index apply_place o k u v (below g d chain ts) (coming p h.func g apply_head chain notes.no_answers v es (u ∷ ts))

    operator_follows : if_found (slice_get operators (operator_number op)) (λ o. if_found (slice_get kinds (kind_number kind)) (λ k. operates_as o k)) ≡ after_operator
    operator_follows = ap (λ z. if_found z (λ o. if_found (slice_get kinds (kind_number kind)) (λ k. operates_as o k))) (operator_found op)
        ∙ ap (λ z. if_found z (λ k. operates_as op k)) (kind_found kind)
        ∙ ap (λ (z : Bool). cond z after_operator (if_found (addresses known op kind u v) (λ w. pushes index apply_place
        (coming p h.func g apply_head chain notes.no_answers v es (u ∷ ts)) w (below g d chain ts))))
        (both (same_operator op op && same_number kind kind) (same_term u u && same_term v v) (both (same_operator op op) (same_number kind kind) (one_operator op)
        (one_number kind)) (both (same_term u u) (same_term v v) first second))

    pub operator_fits : Fitted p b book h g d chain es ts known → (after : ℕ) → Ahead p b book h g d chain (index + 1) after → lead + 0 ≤ b.longest → after + 1 ≤ rank
        → Fitting apply_head chain v es (u ∷ ts) known lead rank index (Bin (operator_number op) (kind_number kind))
    operator_fits fit after a short falls = subst (λ (z : Next). Fits p h.func b h.notes book.thrown book.numbers h.rows known lead rank z) (sym operator_follows)
        (quiet_landing p b book h g d chain (result op kind u v) es ts known fit tt lead 0 rank (index + 1) after a short (inr falls)
        (with_operands apply_place (result op kind u v ∷ below g d chain ts)) (coming p h.func g d chain notes.no_answers (result op kind u v) es ts) refl refl)

  -- ---- jumps

  -- behind the first branch, a jump over the other one to where it is bound
  module _ {m : Mode} {items : List Item} (d : Left g m items) (chain : List ScopeKind) (part : OtherPart) (x : After (node_in g part.id) part.way m) (v : Term)
      (es : List Exception) (ts : List Term) (known : List Fact) (lead rank index target : ℕ) where
    pub jump_fits : Comes m v → Fitted p b book h g d chain es ts known → (after : ℕ) → Ahead p b book h g d chain target after → lead + 0 ≤ b.longest → after + 1 ≤ rank
        → Fitting (before (expression (other part x)) d) chain v es ts known lead rank index (Jump target)
    jump_fits comes fit after a short falls = quiet_landing p b book h g d chain v es ts known fit comes lead 0 rank target after a short (inr falls)
        (place_with p h.func g (before (expression (other part x)) d) chain v es ts) (coming p h.func g d chain notes.no_answers v es ts) refl refl

  -- a test decides which branch is run
  module _ {m : Mode} {items : List Item} (d : Left g m items) (chain : List ScopeKind) (id : TNodeId) (way : Way)
      (x : After (node_in g (kid_in (node_in g id).kids 1)) way m) (y : After (node_in g (kid_in (node_in g id).kids 2)) way m) (j : ℕ) (es : List Exception)
      (ts : List Term) (known : List Fact) (lead rank index target : ℕ) where
    abbrev branch_head : Left g top (Branch id way ∷ items)
    branch_head = before (expression (branch id way x y)) d

    abbrev first_head : Left g gone (RunIt (kid_in (node_in g id).kids 1) way ∷ items)
    first_head = before (expression (run (kid_in (node_in g id).kids 1) way x)) d

    abbrev second_head : Left g gone (RunIt (kid_in (node_in g id).kids 2) way ∷ items)
    second_head = before (expression (run (kid_in (node_in g id).kids 2) way y)) d

    abbrev branch_place : Place
    branch_place = place_with p h.func g branch_head chain (variable j) es ts

    abbrev chosen : TNodeId → Outcome
    chosen kid = goes silent (temporaries g branch_head chain ts)
        (Run (way_with way ts) (tree_in g kid) ∷ frames g (nums p b book h g) d chain es (behind (way_count way) ts))

    pub branch_fits : Fitted p b book h g first_head chain es ts (not_zero (variable j) ∷ known) → Fitted p b book h g second_head chain es ts known → (first second : ℕ)
        → Ahead p b book h g second_head chain target second → Ahead p b book h g first_head chain (index + 1) first → lead + 1 ≤ b.longest → 1 ≤ lead + 1
        → Fitting branch_head chain (variable j) es ts known lead rank index (JumpZero target)
    branch_fits fit_first fit_second first second there here short some = subst (λ (z : Bool). Fits p h.func b h.notes book.thrown book.numbers h.rows known lead rank
        (cond z (either_way (variable j) (quietly target (with_operands branch_place (below g branch_head chain ts)) (chosen (kid_in (node_in g id).kids 2)))
        (quietly (index + 1) (with_operands branch_place (below g branch_head chain ts)) (chosen (kid_in (node_in g id).kids 1)))) refused)) (sym (same_itself j)) (
          quiet_landing p b book h g second_head chain (number 0) es ts known fit_second tt lead 1 rank target second there short (inl some)
              (with_operands branch_place (below g branch_head chain ts)) (chosen (kid_in (node_in g id).kids 2)) refl refl,
          quiet_landing p b book h g first_head chain (number 0) es ts (not_zero (variable j) ∷ known) fit_first tt lead 1 rank (index + 1) first here short (inl some)
              (with_operands branch_place (below g branch_head chain ts)) (chosen (kid_in (node_in g id).kids 1)) refl refl,
        )

  -- ---- conversions

  module _ {items : List Item} (d : Left g top items) (chain : List ScopeKind) (to : IntKind) (at : At) (v : Term) (es : List Exception) (ts : List Term)
      (known : List Fact) (lead rank index : ℕ) where
    abbrev convert_place : Place
    convert_place = place_with p h.func g (before (expression (converts to at)) d) chain v es ts

    pub convert_fits : Fitted p b book h g d chain es ts known → (after : ℕ) → Ahead p b book h g d chain (index + 1) after → lead + 0 ≤ b.longest → after + 1 ≤ rank
        → Fitting (before (expression (converts to at)) d) chain v es ts known lead rank index (Conv 9 (kind_number to))
    convert_fits fit after a short falls = subst (λ (z : Next). Fits p h.func b h.notes book.thrown book.numbers h.rows known lead rank z)
        (sym (ap (λ z. if_found z (λ k. pushes index convert_place (coming p h.func g (before (expression (converts to at)) d) chain notes.no_answers v es ts)
        (converted_to k v) (below g d chain ts))) (kind_found to)))
        (quiet_landing p b book h g d chain (converted_to to v) es ts known fit tt lead 0 rank (index + 1) after a short (inr falls)
        (with_operands convert_place (converted_to to v ∷ below g d chain ts)) (coming p h.func g d chain notes.no_answers (converted_to to v) es ts) refl refl)

  -- ---- stores

  -- the address lies below the word, and stays as the value or not; the word is a variable
  module _ {m : Mode} {items : List Item} (d : Left g m items) (chain : List ScopeKind) (kind : IntKind) (i j : ℕ) (answer : Term) (under : List Term) (es : List Exception)
      (ts : List Term) (index : ℕ) (q : Place) where
    abbrev after_write : (volatile : Bool) → Next
    after_write volatile = loudly (writes (variable i) kind (variable j) volatile) (temporaries g d chain ts) (Gives answer ∷ frames g (nums p b book h g) d chain es ts) (index + 1)
        (place_later q (in_terms later under))

    abbrev stores_as : (volatile : Bool) → IntKind → Next
    stores_as volatile k = stores_next index q k volatile (variable i) (variable j) under
        (goes (writes (variable i) kind (variable j) volatile) (temporaries g d chain ts) (Gives answer ∷ frames g (nums p b book h g) d chain es ts))

    pub write_follows : (volatile : Bool) → if_found (slice_get kinds (bytes_number kind)) (λ k. stores_as volatile k) ≡ after_write volatile
    write_follows volatile = ap (λ z. if_found z (λ k. stores_as volatile k)) (kind_found (bytes_kind kind))
        ∙ ap (λ (z : Bool). cond z (after_write volatile) refused)
        (both ((i == i) && (kind_size (bytes_kind kind) == kind_size kind))
        (same_term (kept (kind_size (bytes_kind kind)) (stored_term (bytes_kind kind) (variable j))) (variable j) && same_flag volatile volatile)
        (both (i == i) (kind_size (bytes_kind kind) == kind_size kind) (same_itself i) (bytes_sizes kind))
        (both (same_term (kept (kind_size (bytes_kind kind)) (stored_term (bytes_kind kind) (variable j))) (variable j)) (same_flag volatile volatile)
        (ap (λ (z : Term). same_term (kept (kind_size (bytes_kind kind)) z) (variable j)) (bytes_stored kind j) ∙ same_itself j) (one_flag volatile)))

  -- the address stays below as the value
  module _ {items : List Item} (d : Left g top items) (chain : List ScopeKind) (kind : IntKind) (volatile : Bool) (at : At) (i j : ℕ) (es : List Exception) (ts : List Term)
      (known : List Fact) (lead rank index : ℕ) where
    abbrev assigned_head : Left g top (Put (store kind volatile) at ∷ items)
    assigned_head = before (expression (assigned kind volatile at)) d

    abbrev assigned_place : Place
    assigned_place = place_with p h.func g assigned_head chain (variable j) es (variable i ∷ ts)

    abbrev assigned_under : List Term
    assigned_under = variable i ∷ below g d chain ts

    assigned_lands : Fitted p b book h g d chain es ts known → (after : ℕ) → Ahead p b book h g d chain (index + 1) after
        → Fits p h.func b h.notes book.thrown book.numbers h.rows known lead rank (after_write d chain kind i j (variable i) assigned_under es ts index assigned_place volatile)
    assigned_lands fit after a = (
      refl,
      loud_landing p b book h g d chain (variable (suc i)) es ts known fit tt (index + 1) after a
          (place_later assigned_place (in_terms later assigned_under))
          (place_goes_later p b book h g d chain (variable (suc i)) es ts (in_terms later assigned_under)
          (ap (λ (z : List Term). variable (suc i) ∷ z) (below_in g later d chain ts))),
      refl,
    )

    assigned_fits_as : Fitted p b book h g d chain es ts known → (after : ℕ) → Ahead p b book h g d chain (index + 1) after
        → Fits p h.func b h.notes book.thrown book.numbers h.rows known lead rank
        (if_found (slice_get kinds (bytes_number kind)) (λ k. stores_as d chain kind i j (variable i) assigned_under es ts index assigned_place volatile k))
    assigned_fits_as fit after a = subst (λ (z : Next). Fits p h.func b h.notes book.thrown book.numbers h.rows known lead rank z)
        (sym (write_follows d chain kind i j (variable i) assigned_under es ts index assigned_place volatile)) (assigned_lands fit after a)

  module _ {items : List Item} (d : Left g top items) (chain : List ScopeKind) (kind : IntKind) (at : At) (i j : ℕ) (es : List Exception) (ts : List Term)
      (known : List Fact) (lead rank index : ℕ) where
    pub assigned_fits : Fitted p b book h g d chain es ts known → (after : ℕ) → Ahead p b book h g d chain (index + 1) after
        → Fitting (assigned_head d chain kind false at i j es ts known lead rank index) chain (variable j) es (variable i ∷ ts) known lead rank index (Store (bytes_number kind))
    assigned_fits fit after a = assigned_fits_as d chain kind false at i j es ts known lead rank index fit after a

    pub volatile_assigned_fits : Fitted p b book h g d chain es ts known → (after : ℕ) → Ahead p b book h g d chain (index + 1) after
        → Fitting (assigned_head d chain kind true at i j es ts known lead rank index) chain (variable j) es (variable i ∷ ts) known lead rank index (VStore (bytes_number kind))
    volatile_assigned_fits fit after a = assigned_fits_as d chain kind true at i j es ts known lead rank index fit after a

  -- nothing stays
  module _ {items : List Item} (d : Left g gone items) (chain : List ScopeKind) (kind : IntKind) (volatile : Bool) (at : At) (i j : ℕ) (es : List Exception) (ts : List Term)
      (known : List Fact) (lead rank index : ℕ) where
    abbrev stored_head : Left g top (Put (store kind volatile) at ∷ items)
    stored_head = before (expression (stored kind volatile at)) d

    abbrev stored_place : Place
    stored_place = place_with p h.func g stored_head chain (variable j) es (variable i ∷ ts)

    stored_lands : Fitted p b book h g d chain es ts known → (after : ℕ) → Ahead p b book h g d chain (index + 1) after
        → Fits p h.func b h.notes book.thrown book.numbers h.rows known lead rank (after_write d chain kind i j (number 0) (below g d chain ts) es ts index stored_place volatile)
    stored_lands fit after a = (
      refl,
      loud_landing p b book h g d chain (number 0) es ts known fit tt (index + 1) after a
          (place_later stored_place (in_terms later (below g d chain ts)))
          (place_goes_later p b book h g d chain (number 0) es ts (in_terms later (below g d chain ts)) (below_in g later d chain ts)),
      refl,
    )

    stored_fits_as : Fitted p b book h g d chain es ts known → (after : ℕ) → Ahead p b book h g d chain (index + 1) after
        → Fits p h.func b h.notes book.thrown book.numbers h.rows known lead rank
        (if_found (slice_get kinds (bytes_number kind)) (λ k. stores_as d chain kind i j (number 0) (below g d chain ts) es ts index stored_place volatile k))
    stored_fits_as fit after a = subst (λ (z : Next). Fits p h.func b h.notes book.thrown book.numbers h.rows known lead rank z)
        (sym (write_follows d chain kind i j (number 0) (below g d chain ts) es ts index stored_place volatile)) (stored_lands fit after a)

  module _ {items : List Item} (d : Left g gone items) (chain : List ScopeKind) (kind : IntKind) (at : At) (i j : ℕ) (es : List Exception) (ts : List Term)
      (known : List Fact) (lead rank index : ℕ) where
    pub stored_fits : Fitted p b book h g d chain es ts known → (after : ℕ) → Ahead p b book h g d chain (index + 1) after
        → Fitting (stored_head d chain kind false at i j es ts known lead rank index) chain (variable j) es (variable i ∷ ts) known lead rank index (Store (bytes_number kind))
    stored_fits fit after a = stored_fits_as d chain kind false at i j es ts known lead rank index fit after a

    pub volatile_stored_fits : Fitted p b book h g d chain es ts known → (after : ℕ) → Ahead p b book h g d chain (index + 1) after
        → Fitting (stored_head d chain kind true at i j es ts known lead rank index) chain (variable j) es (variable i ∷ ts) known lead rank index (VStore (bytes_number kind))
    volatile_stored_fits fit after a = stored_fits_as d chain kind true at i j es ts known lead rank index fit after a

  -- ---- addresses that are needed again

  -- the address of an assignment is copied, and the source goes on to the word
  module _ {items : List Item} (d : Left g top items) (chain : List ScopeKind) (kind : IntKind) (volatile : Bool) (id : TNodeId) (at : At)
      (e : is_void (node_in g id).typ ≡ false) (v : Term) (es : List Exception) (ts : List Term) (known : List Fact) (lead rank index : ℕ) where
    abbrev word_head : Left g gone (RunIt id Value ∷ Put (store kind volatile) at ∷ items)
    word_head = before (expression (run id Value (valued e))) (before (expression (assigned kind volatile at)) d)

    pub copy_fits : Fitted p b book h g word_head chain es (v ∷ ts) known → (after : ℕ) → Ahead p b book h g word_head chain (index + 1) after → lead + 1 ≤ b.longest
        → 1 ≤ lead + 1 → Fitting (before (expression (assign_to kind volatile id at e)) d) chain v es ts known lead rank index Dup
    copy_fits fit after a short some = quiet_landing p b book h g word_head chain (number 0) es (v ∷ ts) known fit tt lead 1 rank (index + 1) after a short (inl some)
        (with_operands (place_with p h.func g (before (expression (assign_to kind volatile id at e)) d) chain v es ts) (v ∷ v ∷ below g d chain ts))
        (coming p h.func g (before (expression (assign_to kind volatile id at e)) d) chain notes.no_answers v es ts) refl refl
