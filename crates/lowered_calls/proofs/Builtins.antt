-- Calls of built-in functions, and the swap of a pointer and the address of a class result.
use Rattle.std.proofs.Common.{ℕ, ◌≡◌, ◌+◌, ◌≤◌, inr, refl, ap, sym, ◌∙◌, subst, Bool, cond, List, [], ◌∷◌}
use Rattle.cpp_tree.specs.cpp_types.Typ.{Typ, Signature}
use Rattle.cpp_tree.specs.cpp_types.declared.classes.At.{At}
use Rattle.cpp_tree.specs.cpp_types.declared.ranks.Cat.{Cat}
use Rattle.cpp_tree.specs.declared.arena.TNodeId.{TNodeId}
use Rattle.cpp_tree.specs.declared.kinds.Builtin.TheVariants.{PutChar, GetChar, Spawn as SpawnThread, Join as JoinThread, Abort as AbortProgram}
use Rattle.cpp_tree.specs.declared.kinds.TKind.TheVariants.{Builtin as BuiltinCall}
use Rattle.cpp_tree.specs.Trees.{Tree, node}
use Rattle.tx_code.specs.declared.instr.Instr.TheVariants.{Swap, Out, Inp, Spawn, Join, Abort}
use Rattle.low_code.specs.declared.scopes.ScopeKind.{ScopeKind}
use Rattle.src_mean.specs.Linked.{Program}
use Rattle.symbolic_source.specs.Terms.{Term, number, variable, low_byte, Exception}
use Rattle.symbolic_source.specs.Frames.{value, Run, Gives, Replied}
use Rattle.symbolic_source.specs.Outcomes.{Outcome, goes, takes_in, puts_out, joins}
use Rattle.symbolic_source.specs.Steps.{given, first_word}
use Rattle.symbolic_source.specs.Replacing.{in_term, in_terms, in_frames, in_waitings}
use Rattle.symbolic_code.specs.Facts.{Fact, in_facts}
use Rattle.symbolic_code.specs.Same.{same_term}
use Rattle.symbolic_code.specs.Places.{later, place_later}
use Rattle.symbolic_code.specs.Following.{Next, refused, loudly, starting}
use Rattle.body_check.specs.Notes.{Bounds, Lands, Fits, no_answers}
use Rattle.body_check.specs.Calls.{Book, StepFits}
use Rattle.body_check.specs.Linked.{Held}
use Rattle.unwind_lower.specs.declared.items.Way.{Way}
use Rattle.unwind_lower.specs.declared.items.Item.{Item}
use Rattle.unwind_lower.specs.declared.items.Item.TheVariants.{Invoke}
use Rattle.unwind_lower.specs.Settings.{Setting}
use Rattle.lowered_frames.specs.Lists.{others}
use Rattle.lowered_frames.specs.Modes.{Mode, top, gone, IsBare, tree_in, trees_in}
use Rattle.lowered_frames.specs.Calls.{built_in, words, bare_built_in, pointer_and_result, pointer_below}
use Rattle.lowered_frames.specs.Left.{Left, before, calling, frames, temporaries, below}
use Rattle.lowered_frames.proofs.Replaced.{below_in}
use Rattle.lowered_notes.specs.Canonical.{numbers_of}
use Rattle.lowered_notes.proofs.KindNumbers.{both}
use Rattle.lowered_steps.specs.Ahead.{standing, comes_of, Fitting, Ahead, Filled, IsTold}
use Rattle.lowered_steps.proofs.Words.{told_same}
use Rattle.lowered_steps.proofs.Landings.{quiet_landing, loud_landing, place_after}
use Rattle.lowered_calls.proofs.Rest.{filled_behind, bare_operands, bare_comes}

module _ (p : Program) (b : Bounds) (book : Book) (h : Held) (g : Setting) where
  abbrev NextFits : (known : List Fact) (lead rank : ℕ) → Next → Type 0
  NextFits known lead rank next = Fits p h.func b h.notes book.thrown book.numbers h.rows known lead rank next

  -- ---- output

  module _ {items : List Item} (d : Left g top items) (id : TNodeId) (way : Way) (chain : List ScopeKind) (v : Term) (es : List Exception) (ts : List Term)
      (known : List Fact) (lead rank index after : ℕ) where
    abbrev outputs_left : Left g top (Invoke id way ∷ items)
    outputs_left = before (calling (words (built_in PutChar) 0 [] id way)) d

    abbrev after_output : Next
    after_output = loudly (puts_out (low_byte v)) (temporaries g d chain ts) (Gives (low_byte v) ∷ frames g (numbers_of p h.func g) d chain es ts) (index + 1)
        (place_later (standing p b book h g outputs_left chain v es ts) (in_terms later (low_byte v ∷ below g d chain ts)))

    output_lands : Filled p b book h g outputs_left chain v es ts known → Ahead p b book h g d chain (index + 1) after → NextFits known lead rank after_output
    output_lands f a = (refl, lands.0, lands.1)
      where
        lands : (l : Lands p h.func b h.notes book.thrown (in_facts later known) no_answers (index + 1)
            (place_later (standing p b book h g outputs_left chain v es ts) (in_terms later (low_byte v ∷ below g d chain ts)))
            (given p h.func no_answers (in_waitings later (temporaries g d chain ts)) (in_term later (low_byte v))
            (in_frames later (frames g (numbers_of p h.func g) d chain es ts)))) × (l.lag ≡ 0)
        lands = loud_landing p b book h g d chain (number 0) (in_term later (low_byte v)) es ts known
            (filled_behind p b book h g (calling (words (built_in PutChar) 0 [] id way)) d chain v (number 0) es ts known tt f) tt (index + 1) after a
            (place_later (standing p b book h g outputs_left chain v es ts) (in_terms later (low_byte v ∷ below g d chain ts)))
            (place_after p b book h g d chain v (in_term later (low_byte v)) es ts (in_terms later (low_byte v ∷ below g d chain ts))
            (ap (λ (z : List Term). in_term later (low_byte v) ∷ z) (below_in g later d chain ts)))

    pub output_fits : IsTold v → Filled p b book h g outputs_left chain v es ts known → Ahead p b book h g d chain (index + 1) after
        → Fitting p b book h g outputs_left chain v es ts known lead rank index Out
    unfolding trees_in
    output_fits told f a = subst (λ (z : Bool). NextFits known lead rank (cond z after_output refused)) (sym (told_same v told)) (output_lands f a)

  -- ---- input

  module _ {items : List Item} (d : Left g top items) (id : TNodeId) (way : Way) (chain : List ScopeKind) (v : Term) (es : List Exception) (ts : List Term)
      (known : List Fact) (lead rank index after : ℕ) (t : Typ) (cat : Cat) (place : At) where
    abbrev inputs_left : Left g gone (Invoke id way ∷ items)
    inputs_left = before (calling (bare_built_in id way)) d

    input_comes : tree_in g id ≡ node (BuiltinCall GetChar) t cat place (trees_in g [])
        → comes_of p b book h g inputs_left chain v es ts ≡ goes takes_in (temporaries g d chain ts) (Replied ∷ frames g (numbers_of p h.func g) d chain es ts)
    unfolding trees_in
    input_comes is = ap (λ (z : Tree). given p h.func no_answers (temporaries g d chain ts) v (Run value z ∷ frames g (numbers_of p h.func g) d chain es ts)) is

    abbrev after_input : Next
    after_input = loudly takes_in (temporaries g d chain ts) (Replied ∷ frames g (numbers_of p h.func g) d chain es ts) (index + 1)
        (place_later (standing p b book h g inputs_left chain v es ts) (variable 0 ∷ in_terms later (below g d chain ts)))

    input_lands : Filled p b book h g inputs_left chain v es ts known → Ahead p b book h g d chain (index + 1) after → NextFits known lead rank after_input
    input_lands f a = (refl, lands.0, lands.1)
      where
        lands : (l : Lands p h.func b h.notes book.thrown (in_facts later known) no_answers (index + 1)
            (place_later (standing p b book h g inputs_left chain v es ts) (variable 0 ∷ in_terms later (below g d chain ts)))
            (given p h.func no_answers (in_waitings later (temporaries g d chain ts)) (variable 0)
            (in_frames later (frames g (numbers_of p h.func g) d chain es ts)))) × (l.lag ≡ 0)
        lands = loud_landing p b book h g d chain (number 0) (variable 0) es ts known
            (filled_behind p b book h g (calling (bare_built_in id way)) d chain v (number 0) es ts known tt f) tt (index + 1) after a
            (place_later (standing p b book h g inputs_left chain v es ts) (variable 0 ∷ in_terms later (below g d chain ts)))
            (place_after p b book h g d chain v (variable 0) es ts (variable 0 ∷ in_terms later (below g d chain ts))
            (ap (λ (z : List Term). variable 0 ∷ z) (below_in g later d chain ts)))

    pub input_fits : tree_in g id ≡ node (BuiltinCall GetChar) t cat place (trees_in g []) → Filled p b book h g inputs_left chain v es ts known
        → Ahead p b book h g d chain (index + 1) after → Fitting p b book h g inputs_left chain v es ts known lead rank index Inp
    input_fits is f a = subst (λ (z : Outcome). StepFits p b book h known lead rank index Inp (standing p b book h g inputs_left chain v es ts) z)
        (sym (input_comes is))
        (input_lands f a)

  -- ---- the end of the program

  module _ {m : Mode} {items : List Item} (d : Left g m items) (id : TNodeId) (way : Way) (chain : List ScopeKind) (v : Term) (es : List Exception)
      (ts : List Term)
      (known : List Fact) (lead rank index : ℕ) (t : Typ) (cat : Cat) (place : At) where
    abbrev aborts_left : Left g gone (Invoke id way ∷ items)
    aborts_left = before (calling (bare_built_in id way)) d

    pub abort_fits : tree_in g id ≡ node (BuiltinCall AbortProgram) t cat place (trees_in g [])
        → Fitting p b book h g aborts_left chain v es ts known lead rank index Abort
    unfolding trees_in
    abort_fits is = subst (λ (z : Tree). StepFits p b book h known lead rank index Abort (standing p b book h g aborts_left chain v es ts)
        (given p h.func no_answers (temporaries g d chain ts) v (Run value z ∷ frames g (numbers_of p h.func g) d chain es ts))) (sym is) tt

  -- ---- threads

  -- one is joined; no word comes of it
  module _ {m : Mode} {items : List Item} (d : Left g m items) (e : IsBare m) (id : TNodeId) (way : Way) (chain : List ScopeKind) (v : Term)
      (es : List Exception)
      (ts : List Term) (known : List Fact) (lead rank index after : ℕ) where
    abbrev joins_left : Left g top (Invoke id way ∷ items)
    joins_left = before (calling (words (built_in JoinThread) 0 [] id way)) d

    abbrev after_join : Next
    after_join = loudly (joins v) (temporaries g d chain ts) (Gives (number 0) ∷ frames g (numbers_of p h.func g) d chain es ts) (index + 1)
        (place_later (standing p b book h g joins_left chain v es ts) (in_terms later (below g d chain ts)))

    join_lands : Filled p b book h g joins_left chain v es ts known → Ahead p b book h g d chain (index + 1) after → NextFits known lead rank after_join
    join_lands f a = (refl, lands.0, lands.1)
      where
        lands : (l : Lands p h.func b h.notes book.thrown (in_facts later known) no_answers (index + 1)
            (place_later (standing p b book h g joins_left chain v es ts) (in_terms later (below g d chain ts)))
            (given p h.func no_answers (in_waitings later (temporaries g d chain ts)) (number 0)
            (in_frames later (frames g (numbers_of p h.func g) d chain es ts)))) × (l.lag ≡ 0)
        lands = loud_landing p b book h g d chain (number 0) (number 0) es ts known
            (filled_behind p b book h g (calling (words (built_in JoinThread) 0 [] id way)) d chain v (number 0) es ts known (bare_comes m e) f)
            (bare_comes m e)
            (index + 1) after a (place_later (standing p b book h g joins_left chain v es ts) (in_terms later (below g d chain ts)))
            (place_after p b book h g d chain v (number 0) es ts (in_terms later (below g d chain ts))
            (below_in g later d chain ts ∙ sym (bare_operands m (number 0) (below g d chain (in_terms later ts)) e)))

    pub join_fits : IsTold v → Filled p b book h g joins_left chain v es ts known → Ahead p b book h g d chain (index + 1) after
        → Fitting p b book h g joins_left chain v es ts known lead rank index Join
    unfolding trees_in
    join_fits told f a = subst (λ (z : Bool). NextFits known lead rank (cond z after_join refused)) (sym (told_same v told)) (join_lands f a)

  -- one is started
  module _ {items : List Item} (d : Left g top items) (id : TNodeId) (way : Way) (chain : List ScopeKind) (v : Term) (es : List Exception) (ts : List Term)
      (known : List Fact) (lead rank index after : ℕ) where
    abbrev spawns_left : Left g top (Invoke id way ∷ items)
    spawns_left = before (calling (words (built_in SpawnThread) 1 [] id way)) d

    abbrev after_spawn : Next
    after_spawn = starting (first_word ts) v (temporaries g d chain (others ts)) (frames g (numbers_of p h.func g) d chain es (others ts)) (index + 1)
        (place_later (standing p b book h g spawns_left chain v es ts) (variable 0 ∷ in_terms later (below g d chain (others ts))))

    spawn_lands : Filled p b book h g spawns_left chain v es ts known → Ahead p b book h g d chain (index + 1) after → NextFits known lead rank after_spawn
    spawn_lands f a = loud_landing p b book h g d chain (number 0) (variable 0) es (others ts) known
        (filled_behind p b book h g (calling (words (built_in SpawnThread) 1 [] id way)) d chain v (number 0) es ts known tt f) tt (index + 1) after a
        (place_later (standing p b book h g spawns_left chain v es ts) (variable 0 ∷ in_terms later (below g d chain (others ts))))
        (place_after p b book h g d chain v (variable 0) es (others ts) (variable 0 ∷ in_terms later (below g d chain (others ts)))
        (ap (λ (z : List Term). variable 0 ∷ z) (below_in g later d chain (others ts))))

    pub spawn_fits : IsTold v → IsTold (first_word ts) → Filled p b book h g spawns_left chain v es ts known → Ahead p b book h g d chain (index + 1) after
        → Fitting p b book h g spawns_left chain v es ts known lead rank index Spawn
    unfolding trees_in
    spawn_fits told other f a = subst (λ (z : Bool). NextFits known lead rank (cond z after_spawn refused))
        (sym (both (same_term (first_word ts) (first_word ts)) (same_term v v) (told_same (first_word ts) other) (told_same v told))) (spawn_lands f a)

  -- ---- a pointer goes below the address of a class result

  module _ {m : Mode} {items : List Item} (d : Left g m items) (sig : Signature) (ids : List TNodeId) (id : TNodeId) (place at : At) (chain : List ScopeKind)
      (v : Term)
      (es : List Exception) (ts : List Term) (known : List Fact) (lead rank index after : ℕ) where
    pub swap_fits : Filled p b book h g (before (calling (pointer_and_result sig ids id place at)) d) chain v es ts known
        → Ahead p b book h g (before (calling (pointer_below sig ids id at)) d) chain (index + 1) after → lead + 0 ≤ b.longest → after + 1 ≤ rank
        → Fitting p b book h g (before (calling (pointer_and_result sig ids id place at)) d) chain v es ts known lead rank index Swap
    swap_fits f a short falls = quiet_landing p b book h g (before (calling (pointer_below sig ids id at)) d) chain v es ts known
        (record { all = f.all; so = f.so; types = f.types; knows = f.knows; comes = tt }) lead 0 rank (index + 1) after a short (inr falls)
        (standing p b book h g (before (calling (pointer_below sig ids id at)) d) chain v es ts)
        (comes_of p b book h g (before (calling (pointer_below sig ids id at)) d) chain v es ts) refl refl
