-- Scalars that are built: stored in an object, or copied from one.
use Rattle.std.proofs.Common.{ℕ, ◌≡◌, ◌+◌, ◌≤◌, ◌⊎◌, refl, ap, ap₂, sym, ◌∙◌, subst, Bool, true, false, cond, List, ◌∷◌, ◌==◌, ◌&&◌}
use Rattle.std.specs.Prelude.{length, slice_get}
use Rattle.tx_ints.specs.declared.kinds.IntKind.{IntKind}
use Rattle.cpp_tree.specs.Trees.{Tree, node}
use Rattle.cpp_tree.specs.cpp_types.Typ.{Typ}
use Rattle.cpp_tree.specs.cpp_types.declared.classes.At.{At}
use Rattle.cpp_tree.specs.cpp_types.declared.ranks.Cat.{Cat}
use Rattle.cpp_tree.specs.cpp_layout.Layout.{kind_size}
use Rattle.cpp_tree.specs.declared.arena.TNodeId.{TNodeId}
use Rattle.cpp_tree.specs.declared.kinds.TKind.TheVariants.{Store, CopyScalar, CopyFrom}
use Rattle.tx_code.specs.declared.instr.Instr.TheVariants.{Pop}
use Rattle.tx_code.specs.Meaning.{kinds, size_of}
use Rattle.low_code.specs.declared.scopes.ScopeKind.{ScopeKind}
use Rattle.low_code.specs.Nodes.{kid_in}
use Rattle.low_code.specs.Numbers.{kind_number, load}
use Rattle.low_code.specs.Types.{is_void}
use Rattle.src_mean.specs.Linked.{Program}
use Rattle.symbolic_source.specs.Terms.{Term, number, variable, converted_to, Exception}
use Rattle.symbolic_source.specs.Frames.{Frame, value, into, Run, StoreTo, From, Loaded}
use Rattle.symbolic_source.specs.Outcomes.{Outcome, reads}
use Rattle.symbolic_source.specs.Steps.{given, step_of, first_word, second_word}
use Rattle.symbolic_source.specs.Replacing.{in_terms, in_term}
use Rattle.symbolic_code.specs.Facts.{Fact}
use Rattle.symbolic_code.specs.Same.{same_term}
use Rattle.symbolic_code.specs.Places.{Place, later, place_later}
use Rattle.symbolic_code.specs.Following.{Next, loudly, refused, if_found, loads, same_flag}
use Rattle.body_check.specs.Notes.{Bounds, Fits, no_answers}
use Rattle.body_check.specs.Calls.{Book}
use Rattle.body_check.specs.Linked.{Held}
use Rattle.unwind_lower.specs.declared.items.Way.TheVariants.{Value, Into, Copying}
use Rattle.unwind_lower.specs.declared.items.Item.{Item}
use Rattle.unwind_lower.specs.Settings.{Setting, node_in}
use Rattle.lowered_frames.specs.Lists.{behind}
use Rattle.lowered_frames.specs.Modes.{gone, valued, built, copied, tree_in, trees_in}
use Rattle.lowered_frames.specs.Expressions.{run, stored, from}
use Rattle.lowered_frames.specs.Left.{Left, before, expression, frames, temporaries, count, below}
use Rattle.lowered_frames.proofs.Replaced.{below_in}
use Rattle.lowered_frames.proofs.Trees.{first_is, second_is}
use Rattle.lowered_notes.specs.Canonical.{numbers_of}
use Rattle.lowered_notes.proofs.KindNumbers.{kind_found, same_sizes, small_sizes, one_flag, both}
use Rattle.lowered_steps.specs.Ahead.{standing, comes_of, Fitting, Ahead, Filled, IsTold, AlwaysRereads}
use Rattle.lowered_steps.proofs.Landings.{quiet_landing, loud_landing, place_after}
use Rattle.lowered_steps.proofs.Words.{told_same}
use Rattle.lowered_objects.proofs.Lists.{behind_two, others_told}
use Rattle.lowered_objects.proofs.Closed.{first_told}

with_first : {A L : Type 0} {P : L → Type 0} → A → (l : L) × P l → A × (l : L) × P l
with_first a pair = (a, pair.0, pair.1)

module _ (p : Program) (b : Bounds) (book : Book) (h : Held) (g : Setting) {items : List Item} (d : Left g gone items) (chain : List ScopeKind) (id : TNodeId) where
  abbrev stepped : Outcome → Outcome
  stepped = step_of p h.func no_answers

  abbrev kids : List TNodeId
  kids = (node_in g id).kids

  -- what does not look at what is copied drops its address
  pub source_dropped_fits : (v : Term) (es : List Exception) (ts : List Term) (known : List Fact) (lead rank index after : ℕ)
      → Filled p b book h g (before (expression (run id Copying copied)) d) chain v es ts known
      → Ahead p b book h g (before (expression (run id Into built)) d) chain (index + 1) after → lead + 0 ≤ b.longest → ((1 ≤ lead + 0) ⊎ (after + 1 ≤ rank))
      → Fitting p b book h g (before (expression (run id Copying copied)) d) chain v es ts known lead rank index Pop
  source_dropped_fits v es ts known lead rank index after f a short on = quiet_landing p b book h g (before (expression (run id Into built)) d) chain v es ts known
      (record { all = f.all; so = f.so; types = f.types; knows = f.knows; comes = tt }) lead 0 rank (index + 1) after a short on _ _ refl refl

  module _ (t : Typ) (cat : Cat) (place at : At) (x : is_void (node_in g (kid_in kids 0)).typ ≡ false) where
    -- a word that is stored
    pub store_reads : (kind : IntKind) (volatile : Bool) → tree_in g id ≡ node (Store kind volatile) t cat place (trees_in g kids) → 1 ≤ length kids
        → AlwaysRereads p b book h g (before (expression (run id Into built)) d) chain
        (before (expression (run (kid_in kids 0) Value (valued x))) (before (expression (stored kind volatile at)) d)) chain stepped
    store_reads kind volatile is some v es ts known f = record {
      value = number 0;
      exceptions = es;
      terms = first_word ts ∷ behind 2 ts;
      filled = record { all = f.all; so = behind_two (count g d chain) ts f.so; types = f.types; knows = f.knows; comes = tt };
      told = λ one all. (refl, (first_told ts all, others_told _ (others_told ts all)));
      place_is = refl;
      outcome_is = ap (λ (z : Tree). stepped (given p h.func no_answers (temporaries g d chain (behind 2 ts)) v
          (Run (into (first_word ts) (second_word ts)) z ∷ frames g (numbers_of p h.func g) d chain es (behind 2 ts)))) is
          ∙ ap (λ (z : Tree). given p h.func no_answers (temporaries g d chain (behind 2 ts)) (number 0) (Run value z ∷ StoreTo (first_word ts) kind volatile (number 0)
          ∷ frames g (numbers_of p h.func g) d chain es (behind 2 ts))) (first_is g kids some);
    }

    -- an object whose source a node gives
    pub copy_from_reads : tree_in g id ≡ node CopyFrom t cat place (trees_in g kids) → 1 ≤ length kids → 2 ≤ length kids
        → AlwaysRereads p b book h g (before (expression (run id Into built)) d) chain
        (before (expression (run (kid_in kids 0) Value (valued x))) (before (expression (from (kid_in kids 1))) d)) chain stepped
    copy_from_reads is some two v es ts known f = record {
      value = number 0;
      exceptions = es;
      terms = first_word ts ∷ behind 2 ts;
      filled = record { all = f.all; so = behind_two (count g d chain) ts f.so; types = f.types; knows = f.knows; comes = tt };
      told = λ one all. (refl, (first_told ts all, others_told _ (others_told ts all)));
      place_is = refl;
      outcome_is = ap (λ (z : Tree). stepped (given p h.func no_answers (temporaries g d chain (behind 2 ts)) v
          (Run (into (first_word ts) (second_word ts)) z ∷ frames g (numbers_of p h.func g) d chain es (behind 2 ts)))) is
          ∙ ap₂ (λ (y z : Tree). given p h.func no_answers (temporaries g d chain (behind 2 ts)) (number 0) (Run value y ∷ From (first_word ts) z
          ∷ frames g (numbers_of p h.func g) d chain es (behind 2 ts))) (first_is g kids some) (second_is g kids two);
    }

  -- ---- a scalar that is copied is read

  module _ (kind : IntKind) (t : Typ) (cat : Cat) (place at : At) (v : Term) (es : List Exception) (ts : List Term) (known : List Fact) (lead rank index : ℕ) where
    abbrev here : Place
    here = standing p b book h g (before (expression (run id Copying copied)) d) chain v es ts

    abbrev copied_frames : Bool → List Frame
    copied_frames volatile = StoreTo (first_word ts) kind volatile (number 0) ∷ frames g (numbers_of p h.func g) d chain es (behind 2 ts)

    abbrev after_read : Bool → Next
    after_read volatile = loudly (reads (second_word ts) (kind_size kind) volatile) (temporaries g d chain (behind 2 ts)) (Loaded kind ∷ copied_frames volatile) (index + 1)
        (place_later here (converted_to kind (variable 0) ∷ in_terms later (first_word ts ∷ below g d chain (behind 2 ts))))

    abbrev reading : Bool → Outcome → Next
    reading volatile o = if_found (slice_get kinds (kind_number kind)) (λ k. loads index here k volatile (second_word ts) (first_word ts ∷ below g d chain (behind 2 ts)) o)

    read_follows : (volatile : Bool) → IsTold (second_word ts) → tree_in g id ≡ node (CopyScalar kind volatile) t cat place (trees_in g kids)
        → reading volatile (comes_of p b book h g (before (expression (run id Copying copied)) d) chain v es ts) ≡ after_read volatile
    read_follows volatile told is = ap (λ (z : Tree). reading volatile (given p h.func no_answers (temporaries g d chain (behind 2 ts)) v
        (Run (into (first_word ts) (second_word ts)) z ∷ frames g (numbers_of p h.func g) d chain es (behind 2 ts)))) is
        ∙ ap (λ z. if_found z (λ k. loads index here k volatile (second_word ts) (first_word ts ∷ below g d chain (behind 2 ts))
        (given p h.func no_answers (temporaries g d chain (behind 2 ts)) v (Run (into (first_word ts) (second_word ts)) (node (CopyScalar kind volatile) t cat place (trees_in g kids))
        ∷ frames g (numbers_of p h.func g) d chain es (behind 2 ts))))) (kind_found kind)
        ∙ ap (λ (z : Bool). cond z (after_read volatile) refused)
        (both (same_term (second_word ts) (second_word ts) && (kind_size kind == size_of kind)) (same_flag volatile volatile)
        (both (same_term (second_word ts) (second_word ts)) (kind_size kind == size_of kind) (told_same (second_word ts) told) (same_sizes kind)) (one_flag volatile))

    read_fits : (volatile : Bool) → Filled p b book h g (before (expression (run id Copying copied)) d) chain v es ts known → (after : ℕ)
        → Ahead p b book h g (before (expression (stored kind volatile at)) d) chain (index + 1) after
        → Fits p h.func b h.notes book.thrown book.numbers h.rows known lead rank (after_read volatile)
    read_fits volatile f after a = with_first (small_sizes kind) (loud_landing p b book h g (before (expression (stored kind volatile at)) d) chain v (converted_to kind (variable 0)) es
        (first_word ts ∷ behind 2 ts) known (record { all = f.all; so = behind_two (count g d chain) ts f.so; types = f.types; knows = f.knows; comes = tt }) tt (index + 1) after a _
        (place_after p b book h g (before (expression (stored kind volatile at)) d) chain v (converted_to kind (variable 0)) es (first_word ts ∷ behind 2 ts) _
        (ap (λ (z : List Term). converted_to kind (variable 0) ∷ in_term later (first_word ts) ∷ z) (below_in g later d chain (behind 2 ts)))))

    pub copy_read_fits : (volatile : Bool) → IsTold (second_word ts) → tree_in g id ≡ node (CopyScalar kind volatile) t cat place (trees_in g kids)
        → Filled p b book h g (before (expression (run id Copying copied)) d) chain v es ts known → (after : ℕ)
        → Ahead p b book h g (before (expression (stored kind volatile at)) d) chain (index + 1) after
        → Fitting p b book h g (before (expression (run id Copying copied)) d) chain v es ts known lead rank index (load kind volatile)
    copy_read_fits true told is f after a = subst (λ (z : Next). Fits p h.func b h.notes book.thrown book.numbers h.rows known lead rank z) (sym (read_follows true told is))
        (read_fits true f after a)
    copy_read_fits false told is f after a = subst (λ (z : Next). Fits p h.func b h.notes book.thrown book.numbers h.rows known lead rank z) (sym (read_follows false told is))
        (read_fits false f after a)
