-- Instructions of expressions that are silent steps of the code.
use Rattle.std.proofs.Common.{ℕ, ◌≡◌, ◌+◌, ◌≤◌, inl, inr, refl, ap, sym, subst, Bool, true, false, cond, List, ◌∷◌, Option}
use Rattle.std.specs.Prelude.{nat_lt, ◌^◌}
use Rattle.tx_ints.specs.declared.kinds.IntKind.{IntKind}
use Rattle.tx_ints.specs.declared.kinds.BinOp.{BinOp}
use Rattle.tx_code.specs.declared.instr.Instr.{Instr}
use Rattle.tx_code.specs.declared.instr.Instr.TheVariants.{Push, Dup, Pop, Swap, Over, FrameAddr, Bin, Conv}
use Rattle.cpp_tree.specs.cpp_types.declared.classes.At.{At}
use Rattle.cpp_tree.specs.declared.arena.TNodeId.{TNodeId}
use Rattle.low_code.specs.declared.numbers.TheConstants.{ADDRESS}
use Rattle.low_code.specs.declared.scopes.ScopeKind.{ScopeKind}
use Rattle.low_code.specs.Numbers.{kind_number, operator_number}
use Rattle.low_code.specs.Types.{is_void}
use Rattle.src_mean.specs.Frames.{Change}
use Rattle.src_mean.specs.Linked.{Program}
use Rattle.symbolic_source.specs.Terms.{Term, number, local, converted_to, result, Exception}
use Rattle.symbolic_source.specs.Steps.{first_word, second_word}
use Rattle.symbolic_code.specs.Facts.{Fact}
use Rattle.symbolic_code.specs.Places.{Place, with_operands}
use Rattle.symbolic_code.specs.Following.{refused, pushes, if_found}
use Rattle.body_check.specs.Notes.{Bounds}
use Rattle.body_check.specs.Calls.{Book}
use Rattle.body_check.specs.Linked.{Held}
use Rattle.unwind_lower.specs.declared.items.Item.{Item}
use Rattle.unwind_lower.specs.declared.items.Way.TheVariants.{Value, Copying}
use Rattle.unwind_lower.specs.Settings.{Setting, node_in}
use Rattle.lowered_frames.specs.Lists.{others, behind}
use Rattle.lowered_frames.specs.Modes.{Mode, top, gone, valued, copied}
use Rattle.lowered_frames.specs.Expressions.{run, drop, gives, gives_local, gives_number, converts, apply, assign_to, assigned, update_new, update_doubled, update_tripled}
use Rattle.lowered_frames.specs.Expressions.{update_old, update_again, update_swap, update_over, update_by, update_store, copy_by, copy_swap}
use Rattle.lowered_frames.specs.Left.{Left, below, count}
use Rattle.lowered_notes.proofs.Terms.{others_so, behind_so}
use Rattle.lowered_notes.proofs.KindNumbers.{kind_found}
use Rattle.lowered_steps.specs.Ahead.{IsTold, AreTold, standing, comes_of, Fitting, Ahead, Filled}
use Rattle.lowered_steps.proofs.Landings.{quiet_landing}
use Rattle.lowered_steps.proofs.Words.{first_told}
use Rattle.lowered_steps.proofs.Events.{Goes, operator_goes}
use Rattle.lowered_expressions.specs.Heads.{led}

module _ (p : Program) (b : Bounds) (book : Book) (h : Held) (g : Setting) (chain : List ScopeKind) (v : Term) (es : List Exception) (ts : List Term)
    (known : List Fact) (lead rank index after : ℕ) where
  abbrev pub Filling : {m : Mode} {items : List Item} → Left g m items → Type 0
  Filling d = Filled p b book h g d chain v es ts known

  abbrev pub FitsThere : {m : Mode} {items : List Item} → Left g m items → Instr → Type 0
  FitsThere d instr = Fitting p b book h g d chain v es ts known lead rank index instr

  abbrev pub Behind : {m : Mode} {items : List Item} → Left g m items → Type 0
  Behind d = Ahead p b book h g d chain (index + 1) after

  -- where the code stands, with other operands
  abbrev moved : {m : Mode} {items : List Item} → Left g m items → List Term → Place
  moved d ws = with_operands (standing p b book h g d chain v es ts) ws

  -- ---- the source stands still

  module _ (short : lead + 0 ≤ b.longest) (falls : after + 1 ≤ rank) where
    pub drop_fits : {items : List Item} (d : Left g gone items) (at : At) → Filling (led (drop at) d) → Behind d → FitsThere (led (drop at) d) Pop
    drop_fits d at f a = quiet_landing p b book h g d chain v es ts known (record { all = f.all; so = f.so; types = f.types; knows = f.knows; comes = tt })
        lead 0 rank (index + 1) after a short (inr falls) (moved (led (drop at) d) (below g d chain ts)) (comes_of p b book h g d chain v es ts) refl refl

    pub local_gives : {items : List Item} (d : Left g top items) (offset : ℕ) (at : At) → Filling (led (gives_local offset at) d) → Behind d
        → FitsThere (led (gives_local offset at) d) (FrameAddr offset)
    local_gives d offset at f a = quiet_landing p b book h g d chain (local offset) es ts known
        (record { all = f.all; so = f.so; types = f.types; knows = f.knows; comes = tt })
        lead 0 rank (index + 1) after a short (inr falls) (moved (led (gives_local offset at) d) (local offset ∷ below g d chain ts))
        (comes_of p b book h g d chain (local offset) es ts) refl refl

    pub number_gives : {items : List Item} (d : Left g top items) (n : ℕ) (at : At) → nat_lt n (2 ^ 64) ≡ true → Filling (led (gives_number n at) d) → Behind d
        → FitsThere (led (gives_number n at) d) (Push n)
    number_gives d n at small f a = subst (λ (z : Bool). Goes p b book h g known lead rank (cond z (pushes index (standing p b book h g (led (gives_number n at) d) chain v es ts)
        (comes_of p b book h g d chain (number n) es ts) (number n) (below g d chain ts)) refused)) (sym small)
        (quiet_landing p b book h g d chain (number n) es ts known (record { all = f.all; so = f.so; types = f.types; knows = f.knows; comes = tt })
        lead 0 rank (index + 1) after a short (inr falls) (moved (led (gives_number n at) d) (number n ∷ below g d chain ts))
        (comes_of p b book h g d chain (number n) es ts) refl refl)

    pub conversion_fits : {items : List Item} (d : Left g top items) (to : IntKind) (at : At) → Filling (led (converts to at) d) → Behind d
        → FitsThere (led (converts to at) d) (Conv ADDRESS (kind_number to))
    conversion_fits d to at f a = subst (λ (z : Option IntKind). Goes p b book h g known lead rank (if_found z (λ k. pushes index
        (standing p b book h g (led (converts to at) d) chain v es ts) (comes_of p b book h g d chain (converted_to to v) es ts) (converted_to k v) (below g d chain ts))))
        (sym (kind_found to))
        (quiet_landing p b book h g d chain (converted_to to v) es ts known (record { all = f.all; so = f.so; types = f.types; knows = f.knows; comes = tt })
        lead 0 rank (index + 1) after a short (inr falls) (moved (led (converts to at) d) (converted_to to v ∷ below g d chain ts))
        (comes_of p b book h g d chain (converted_to to v) es ts) refl refl)

    pub operator_fits : {items : List Item} (d : Left g top items) (op : BinOp) (kind : IntKind) (at : At) → IsTold v → AreTold ts → Filling (led (apply op kind at) d)
        → Behind d → FitsThere (led (apply op kind at) d) (Bin (operator_number op) (kind_number kind))
    operator_fits d op kind at told all_told f a = operator_goes p b book h g d chain es (others ts) known index after a op kind (first_word ts) v
        (below g d chain (others ts)) (first_told ts all_told) told
        (record { all = f.all; so = others_so (count g d chain) ts f.so; types = f.types; knows = f.knows; comes = tt }) lead 0 rank short (inr falls)
        (standing p b book h g (led (apply op kind at) d) chain v es ts) (comes_of p b book h g d chain (result op kind (first_word ts) v) es (others ts)) refl refl

    -- the address of an update comes twice and three times
    module _ {items : List Item} (d : Left g top items) (c : Change) (id : TNodeId) (at : At) (e : is_void (node_in g id).typ ≡ false) where
      module _ (o : c.old ≡ false) where
        pub first_copy_fits : Filling (led (update_new c id at o e) d) → Behind (led (update_doubled c id at o e) d) → FitsThere (led (update_new c id at o e) d) Dup
        first_copy_fits f a = quiet_landing p b book h g (led (update_doubled c id at o e) d) chain v es ts known
            (record { all = f.all; so = f.so; types = f.types; knows = f.knows; comes = tt }) lead 0 rank (index + 1) after a short (inr falls)
            (moved (led (update_new c id at o e) d) (v ∷ v ∷ below g d chain ts)) (comes_of p b book h g (led (update_new c id at o e) d) chain v es ts) refl refl

        pub second_copy_fits : Filling (led (update_doubled c id at o e) d) → Behind (led (update_tripled c id at o e) d)
            → FitsThere (led (update_doubled c id at o e) d) Dup
        second_copy_fits f a = quiet_landing p b book h g (led (update_tripled c id at o e) d) chain v es ts known
            (record { all = f.all; so = f.so; types = f.types; knows = f.knows; comes = tt }) lead 0 rank (index + 1) after a short (inr falls)
            (moved (led (update_doubled c id at o e) d) (v ∷ v ∷ v ∷ below g d chain ts))
            (comes_of p b book h g (led (update_doubled c id at o e) d) chain v es ts) refl refl

      module _ (o : c.old ≡ true) where
        pub one_copy_fits : Filling (led (update_old c id at o e) d) → Behind (led (update_again c id at o e) d) → FitsThere (led (update_old c id at o e) d) Dup
        one_copy_fits f a = quiet_landing p b book h g (led (update_again c id at o e) d) chain v es ts known
            (record { all = f.all; so = f.so; types = f.types; knows = f.knows; comes = tt }) lead 0 rank (index + 1) after a short (inr falls)
            (moved (led (update_old c id at o e) d) (v ∷ v ∷ below g d chain ts)) (comes_of p b book h g (led (update_old c id at o e) d) chain v es ts) refl refl

        -- the old value goes below the address
        pub old_below_fits : Filling (led (update_swap c id at o e) d) → Behind (led (update_over c id at o e) d) → FitsThere (led (update_swap c id at o e) d) Swap
        old_below_fits f a = quiet_landing p b book h g (led (update_over c id at o e) d) chain v es ts known
            (record { all = f.all; so = f.so; types = f.types; knows = f.knows; comes = tt }) lead 0 rank (index + 1) after a short (inr falls)
            (moved (led (update_swap c id at o e) d) (first_word ts ∷ v ∷ below g d chain (others ts)))
            (comes_of p b book h g (led (update_swap c id at o e) d) chain v es ts) refl refl

    -- the operator of an update
    pub update_operator_fits : {items : List Item} (d : Left g top items) (c : Change) (at : At) → IsTold v → AreTold ts → Filling (led (update_by c at) d)
        → Behind (led (update_store c.stored c.volatile at) d) → FitsThere (led (update_by c at) d) (Bin (operator_number c.op) (kind_number c.operation))
    update_operator_fits d c at told all_told f a = operator_goes p b book h g (led (update_store c.stored c.volatile at) d) chain es
        (second_word ts ∷ cond c.old (first_word ts) (second_word ts) ∷ behind 2 ts) known index after a c.op c.operation (first_word ts) v
        (second_word ts ∷ cond c.old (first_word ts) (second_word ts) ∷ below g d chain (behind 2 ts)) (first_told ts all_told) told
        (record { all = f.all; so = behind_so 2 (count g d chain) ts f.so; types = f.types; knows = f.knows; comes = tt }) lead 0 rank short (inr falls)
        (standing p b book h g (led (update_by c at) d) chain v es ts)
        (comes_of p b book h g (led (update_store c.stored c.volatile at) d) chain (result c.op c.operation (first_word ts) v) es
        (second_word ts ∷ cond c.old (first_word ts) (second_word ts) ∷ behind 2 ts)) refl refl

    -- the target of a copy comes above what is copied
    pub target_over_fits : {items : List Item} (d : Left g top items) (init : TNodeId) (at : At) → Filling (led (copy_by init at) d) → Behind (led (copy_swap init at) d)
        → FitsThere (led (copy_by init at) d) Over
    target_over_fits d init at f a = quiet_landing p b book h g (led (copy_swap init at) d) chain v es ts known
        (record { all = f.all; so = f.so; types = f.types; knows = f.knows; comes = tt }) lead 0 rank (index + 1) after a short (inr falls)
        (moved (led (copy_by init at) d) (first_word ts ∷ v ∷ first_word ts ∷ below g d chain (others ts)))
        (comes_of p b book h g (led (copy_by init at) d) chain v es ts) refl refl

  -- ---- the source takes a step

  module _ (short : lead + 1 ≤ b.longest) (some : 1 ≤ lead + 1) where
    -- the address comes once more, for the value
    pub address_copy_fits : {items : List Item} (d : Left g top items) (kind : IntKind) (volatile : Bool) (id : TNodeId) (at : At) (e : is_void (node_in g id).typ ≡ false)
        → Filling (led (assign_to kind volatile id at e) d) → Behind (led (run id Value (valued e)) (led (assigned kind volatile at) d))
        → FitsThere (led (assign_to kind volatile id at e) d) Dup
    address_copy_fits d kind volatile id at e f a = quiet_landing p b book h g (led (run id Value (valued e)) (led (assigned kind volatile at) d)) chain (number 0) es
        (v ∷ ts) known (record { all = f.all; so = f.so; types = f.types; knows = f.knows; comes = tt }) lead 1 rank (index + 1) after a short (inl some)
        (moved (led (assign_to kind volatile id at e) d) (v ∷ v ∷ below g d chain ts))
        (comes_of p b book h g (led (assign_to kind volatile id at e) d) chain v es ts) refl refl

    -- the old value comes above the address once more, and the right operand is next
    pub old_over_fits : {items : List Item} (d : Left g top items) (c : Change) (id : TNodeId) (at : At) (o : c.old ≡ true) (e : is_void (node_in g id).typ ≡ false)
        → Filling (led (update_over c id at o e) d) → Behind (led (run id Value (valued e)) (led (update_by c at) d)) → FitsThere (led (update_over c id at o e) d) Over
    old_over_fits d c id at o e f a = quiet_landing p b book h g (led (run id Value (valued e)) (led (update_by c at) d)) chain (number 0) es (v ∷ ts) known
        (record { all = f.all; so = f.so; types = f.types; knows = f.knows; comes = tt }) lead 1 rank (index + 1) after a short (inl some)
        (moved (led (update_over c id at o e) d) (v ∷ first_word ts ∷ v ∷ below g d chain (others ts)))
        (comes_of p b book h g (led (update_over c id at o e) d) chain v es ts)
        (ap (λ (z : Bool). moved (led (update_over c id at o e) d) (v ∷ first_word ts ∷ cond z v (first_word ts) ∷ below g d chain (others ts))) (sym o)) refl

    -- the target of a copy comes below what is copied, and the copy is next
    pub target_below_fits : {items : List Item} (d : Left g top items) (init : TNodeId) (at : At) → Filling (led (copy_swap init at) d)
        → Behind (led (run init Copying copied) (led gives d)) → FitsThere (led (copy_swap init at) d) Swap
    target_below_fits d init at f a = quiet_landing p b book h g (led (run init Copying copied) (led gives d)) chain (number 0) es (first_word ts ∷ v ∷ ts) known
        (record { all = f.all; so = f.so; types = f.types; knows = f.knows; comes = tt }) lead 1 rank (index + 1) after a short (inl some)
        (moved (led (copy_swap init at) d) (v ∷ first_word ts ∷ first_word ts ∷ below g d chain (others ts)))
        (comes_of p b book h g (led (copy_swap init at) d) chain v es ts) refl refl
