-- Instructions of expressions that read and write.
use Rattle.std.proofs.Common.{ℕ, ◌≡◌, ◌+◌, ap, Bool, true, false, List, ◌∷◌}
use Rattle.tx_ints.specs.declared.kinds.IntKind.{IntKind}
use Rattle.tx_code.specs.declared.instr.Instr.{Instr}
use Rattle.cpp_tree.specs.cpp_layout.Layout.{kind_size}
use Rattle.cpp_tree.specs.cpp_types.declared.classes.At.{At}
use Rattle.cpp_tree.specs.declared.arena.TNodeId.{TNodeId}
use Rattle.low_code.specs.declared.scopes.ScopeKind.{ScopeKind}
use Rattle.low_code.specs.Numbers.{bytes_kind, bytes_number, kind_number, load, store, store_converted}
use Rattle.low_code.specs.Types.{is_void}
use Rattle.src_mean.specs.Frames.{Change}
use Rattle.src_mean.specs.Linked.{Program}
use Rattle.symbolic_source.specs.Terms.{Term, number, variable, converted_to, Exception}
use Rattle.symbolic_source.specs.Steps.{first_word, second_word}
use Rattle.symbolic_source.specs.Replacing.{in_term, in_terms}
use Rattle.symbolic_code.specs.Facts.{Fact}
use Rattle.symbolic_code.specs.Places.{later, place_later}
use Rattle.body_check.specs.Notes.{Bounds}
use Rattle.body_check.specs.Calls.{Book}
use Rattle.body_check.specs.Linked.{Held}
use Rattle.unwind_lower.specs.declared.items.Item.{Item}
use Rattle.unwind_lower.specs.Settings.{Setting, node_in}
use Rattle.lowered_frames.specs.Lists.{others, behind, in_exceptions}
use Rattle.lowered_frames.specs.Modes.{Mode, top, gone}
use Rattle.lowered_frames.specs.Expressions.{loads, stored, assigned, update_tripled, update_read, update_again, update_swap, update_store}
use Rattle.lowered_frames.specs.Left.{Left, below, count}
use Rattle.lowered_frames.proofs.Replaced.{below_in}
use Rattle.lowered_notes.proofs.Terms.{others_so, behind_so}
use Rattle.lowered_notes.proofs.KindNumbers.{bytes_sizes, same_itself}
use Rattle.lowered_steps.specs.Ahead.{IsTold, AreTold, standing, comes_of, Fitting, Ahead, Filled}
use Rattle.lowered_steps.proofs.Landings.{place_after}
use Rattle.lowered_steps.proofs.Words.{first_told, bytes_same, converted_same}
use Rattle.lowered_steps.proofs.Events.{load_asks, store_asks, read_fits, write_fits}
use Rattle.lowered_expressions.specs.Heads.{led}

module _ (p : Program) (b : Bounds) (book : Book) (h : Held) (g : Setting) (chain : List ScopeKind) (v : Term) (es : List Exception) (ts : List Term)
    (known : List Fact) (lead rank index after : ℕ) where
  abbrev Filling : {m : Mode} {items : List Item} → Left g m items → Type 0
  Filling d = Filled p b book h g d chain v es ts known

  abbrev FitsThere : {m : Mode} {items : List Item} → Left g m items → Instr → Type 0
  FitsThere d instr = Fitting p b book h g d chain v es ts known lead rank index instr

  abbrev Behind : {m : Mode} {items : List Item} → Left g m items → Type 0
  Behind d = Ahead p b book h g d chain (index + 1) after

  -- after a read, what is left behind it has the word on top
  read_place : {items : List Item} (d : Left g top items) (x : Term) (us : List Term) → place_later (standing p b book h g d chain v es us) (x ∷ in_terms later (below g d chain us))
      ≡ standing p b book h g d chain x (in_exceptions later es) (in_terms later us)
  read_place d x us = place_after p b book h g d chain v x es us (x ∷ in_terms later (below g d chain us)) (ap (λ (z : List Term). x ∷ z) (below_in g later d chain us))

  -- ---- reads

  pub loads_fit : {items : List Item} (d : Left g top items) (kind : IntKind) (volatile : Bool) (at : At) → IsTold v → Filling (led (loads kind volatile at) d) → Behind d
      → FitsThere (led (loads kind volatile at) d) (load kind volatile)
  loads_fit d kind volatile at told f a = load_asks p b book h g known lead rank index kind volatile (standing p b book h g (led (loads kind volatile at) d) chain v es ts)
      (comes_of p b book h g (led (loads kind volatile at) d) chain v es ts)
      (read_fits p b book h g d chain es ts known index after a v (record { all = f.all; so = f.so; types = f.types; knows = f.knows; comes = tt }) lead rank
      (standing p b book h g (led (loads kind volatile at) d) chain v es ts) v (below g d chain ts) kind volatile told tt (read_place d (converted_to kind (variable 0)) ts))

  -- the old value of an update
  module _ {items : List Item} (d : Left g top items) (c : Change) (id : TNodeId) (at : At) (e : is_void (node_in g id).typ ≡ false) (told : IsTold v) where
    pub old_value_fits : (o : c.old ≡ false) → Filling (led (update_tripled c id at o e) d) → Behind (led (update_read c id at o e) d)
        → FitsThere (led (update_tripled c id at o e) d) (load c.stored c.volatile)
    old_value_fits o f a = load_asks p b book h g known lead rank index c.stored c.volatile (standing p b book h g (led (update_tripled c id at o e) d) chain v es ts)
        (comes_of p b book h g (led (update_tripled c id at o e) d) chain v es ts)
        (read_fits p b book h g (led (update_read c id at o e) d) chain es (v ∷ ts) known index after a v
        (record { all = f.all; so = f.so; types = f.types; knows = f.knows; comes = tt }) lead rank
        (standing p b book h g (led (update_tripled c id at o e) d) chain v es ts) v (v ∷ v ∷ below g d chain ts) c.stored c.volatile told tt
        (read_place (led (update_read c id at o e) d) (converted_to c.stored (variable 0)) (v ∷ ts)))

    -- where it is the whole's
    pub own_old_value_fits : (o : c.old ≡ true) → Filling (led (update_again c id at o e) d) → Behind (led (update_swap c id at o e) d)
        → FitsThere (led (update_again c id at o e) d) (load c.stored c.volatile)
    own_old_value_fits o f a = load_asks p b book h g known lead rank index c.stored c.volatile (standing p b book h g (led (update_again c id at o e) d) chain v es ts)
        (comes_of p b book h g (led (update_again c id at o e) d) chain v es ts)
        (read_fits p b book h g (led (update_swap c id at o e) d) chain es (v ∷ ts) known index after a v
        (record { all = f.all; so = f.so; types = f.types; knows = f.knows; comes = tt }) lead rank
        (standing p b book h g (led (update_again c id at o e) d) chain v es ts) v (v ∷ below g d chain ts) c.stored c.volatile told tt
        (read_place (led (update_swap c id at o e) d) (converted_to c.stored (variable 0)) (v ∷ ts)))

  -- ---- writes

  -- a scalar that is built
  pub stored_fits : {items : List Item} (d : Left g gone items) (kind : IntKind) (volatile : Bool) (at : At) → IsTold v → AreTold ts → Filling (led (stored kind volatile at) d)
      → Behind d → FitsThere (led (stored kind volatile at) d) (store kind volatile)
  stored_fits d kind volatile at told all_told f a = store_asks p b book h g known lead rank index (bytes_number kind) volatile
      (standing p b book h g (led (stored kind volatile at) d) chain v es ts) (comes_of p b book h g (led (stored kind volatile at) d) chain v es ts)
      (write_fits p b book h g d chain es (others ts) known index after a v
      (record { all = f.all; so = others_so (count g d chain) ts f.so; types = f.types; knows = f.knows; comes = tt }) lead rank
      (standing p b book h g (led (stored kind volatile at) d) chain v es ts) (bytes_kind kind) kind volatile (first_word ts) v v (number 0)
      (below g d chain (others ts)) (first_told ts all_told) (bytes_sizes kind) (bytes_same kind v told) tt
      (place_after p b book h g d chain v (number 0) es (others ts) (in_terms later (below g d chain (others ts))) (below_in g later d chain (others ts))))

  -- an assignment, whose value is the address
  pub assigned_fits : {items : List Item} (d : Left g top items) (kind : IntKind) (volatile : Bool) (at : At) → IsTold v → AreTold ts → Filling (led (assigned kind volatile at) d)
      → Behind d → FitsThere (led (assigned kind volatile at) d) (store kind volatile)
  assigned_fits d kind volatile at told all_told f a = store_asks p b book h g known lead rank index (bytes_number kind) volatile
      (standing p b book h g (led (assigned kind volatile at) d) chain v es ts) (comes_of p b book h g (led (assigned kind volatile at) d) chain v es ts)
      (write_fits p b book h g d chain es (others ts) known index after a v
      (record { all = f.all; so = others_so (count g d chain) ts f.so; types = f.types; knows = f.knows; comes = tt }) lead rank
      (standing p b book h g (led (assigned kind volatile at) d) chain v es ts) (bytes_kind kind) kind volatile (first_word ts) v v (first_word ts)
      (first_word ts ∷ below g d chain (others ts)) (first_told ts all_told) (bytes_sizes kind) (bytes_same kind v told) tt
      (read_place d (in_term later (first_word ts)) (others ts)))

  -- an update, which converts the word
  pub update_store_fits : {items : List Item} (d : Left g top items) (kind : IntKind) (volatile : Bool) (at : At) → IsTold v → AreTold ts
      → Filling (led (update_store kind volatile at) d) → Behind d → FitsThere (led (update_store kind volatile at) d) (store_converted kind volatile)
  update_store_fits d kind volatile at told all_told f a = store_asks p b book h g known lead rank index (kind_number kind) volatile
      (standing p b book h g (led (update_store kind volatile at) d) chain v es ts) (comes_of p b book h g (led (update_store kind volatile at) d) chain v es ts)
      (write_fits p b book h g d chain es (behind 2 ts) known index after a v
      (record { all = f.all; so = behind_so 2 (count g d chain) ts f.so; types = f.types; knows = f.knows; comes = tt }) lead rank
      (standing p b book h g (led (update_store kind volatile at) d) chain v es ts) kind kind volatile (first_word ts) v (converted_to kind v) (second_word ts)
      (second_word ts ∷ below g d chain (behind 2 ts)) (first_told ts all_told) (same_itself (kind_size kind))
      (converted_same kind v told) tt
      (read_place d (in_term later (second_word ts)) (behind 2 ts)))
