-- Returns: where a `return` has come out of all scopes, and behind the body.
use Rattle.std.proofs.Common.{ℕ, ◌≡◌, ◌+◌, refl, ap, sym, ◌∙◌, subst, Bool, true, false, ◌&&◌, List, [], ◌∷◌, ◌++◌, Option, Some, None}
use Rattle.cpp_tree.specs.cpp_types.Typ.{Typ}
use Rattle.cpp_tree.specs.cpp_types.declared.classes.At.{At}
use Rattle.cpp_tree.specs.cpp_types.declared.ranks.Cat.{Cat}
use Rattle.cpp_tree.specs.declared.arena.TNodeId.{TNodeId}
use Rattle.cpp_tree.specs.declared.kinds.TKind.TheVariants.{Return as ReturnNode}
use Rattle.cpp_tree.specs.Trees.{Tree, node}
use Rattle.tx_code.specs.declared.instr.Instr.TheVariants.{Push, Ret}
use Rattle.low_code.specs.declared.scopes.Owner.{Owner}
use Rattle.low_code.specs.declared.scopes.ScopeKind.{ScopeKind}
use Rattle.src_mean.specs.Linked.{Program}
use Rattle.symbolic_source.specs.Terms.{Term, number, Exception}
use Rattle.symbolic_source.specs.Frames.{Frame, Waiting, returns, value, Run}
use Rattle.symbolic_source.specs.Outcomes.{Outcome, goes_out, hands}
use Rattle.symbolic_source.specs.Steps.{left, first_word, given, step_of}
use Rattle.symbolic_code.specs.Facts.{Fact}
use Rattle.symbolic_code.specs.Places.{with_operands}
use Rattle.body_check.specs.Notes.{Bounds, LandsOn, no_answers}
use Rattle.body_check.specs.Calls.{Book, StepFits, Hands, by_end, by_return, Returning}
use Rattle.body_check.specs.Linked.{Held}
use Rattle.unwind_lower.specs.declared.items.Leaving.{Leaving}
use Rattle.unwind_lower.specs.declared.items.Leaving.TheVariants.{Return}
use Rattle.unwind_lower.specs.declared.items.Way.TheVariants.{Value, Dropped}
use Rattle.unwind_lower.specs.declared.items.Item.{Item}
use Rattle.unwind_lower.specs.declared.items.Item.TheVariants.{Leave, BodyEnds}
use Rattle.low_code.specs.Types.{is_void}
use Rattle.unwind_lower.specs.Settings.{Setting, node_in}
use Rattle.lowered_frames.specs.Lists.{behind, more_by, exceptions_behind}
use Rattle.lowered_frames.specs.Modes.{Mode, gone, nought, After, valued, tree_in, trees_in}
use Rattle.lowered_frames.specs.Expressions.{Expression, expression_frames, drop, run}
use Rattle.lowered_frames.specs.Calls.{Calling, call_frames, bare}
use Rattle.lowered_frames.specs.Objects.{Making, making_frames, due}
use Rattle.lowered_frames.specs.Closings.{Closing, closing_frames, close_block, close_call, close_full, cleaning}
use Rattle.lowered_frames.specs.Statements.{Statement, statement_frames, picked_by_word, picked, block_done, returning, Exiting, returns_word, returns_nothing, exit_count}
use Rattle.lowered_frames.specs.Throws.{Throwing, throwing_frames, handler_done}
use Rattle.lowered_frames.specs.Left.{Head, expression, calling, making, closing, statement, throwing, head_frames, head_scopes, head_count, head_exceptions}
use Rattle.lowered_frames.specs.Left.{Left, body_ends, before, other_again, leave, scopes_out, exit_frames, temporaries, frames}
use Rattle.lowered_notes.specs.Canonical.{numbers_of}
use Rattle.lowered_steps.specs.Ahead.{standing, comes_of, Fitting, Filled, AlwaysRereads}
use Rattle.lowered_calls.specs.Passing.{closing_passed, statement_passed, head_passed, passed}

-- ---- frames that are passed

both_are : (a b : Bool) → a && b ≡ true → (a ≡ true) × (b ≡ true)
both_are true b e = (refl, e)
both_are false b e = absurd cc

module _ (g : Setting) (number_of : ℕ → ℕ) (us : List Waiting) (w : Term) where
  module _ (k : List Frame) where
    expression_out : {m n : Mode} {items rest : List Item} (h : Expression g m items n rest) (ts : List Term)
        → left us (returns w) (expression_frames g h ts ++ k) ≡ left us (returns w) k
    expression_out (drop at) ts = refl
    expression_out h ts = refl

    call_out : {m n : Mode} {items rest : List Item} (h : Calling g m items n rest) (ts : List Term)
        → left us (returns w) (call_frames g number_of h ts ++ k) ≡ left us (returns w) k
    call_out (bare id way at) ts = refl
    call_out h ts = refl

    making_out : {m n : Mode} {items rest : List Item} (h : Making g m items n rest) (chain : List ScopeKind) (ts : List Term)
        → left us (returns w) (making_frames g number_of h chain ts ++ k) ≡ left us (returns w) k
    making_out (due id first) chain ts = refl
    making_out h chain ts = refl

    closing_out : {m n : Mode} {items rest : List Item} (h : Closing g m items n rest) (outer : List Waiting) (chain : List ScopeKind) (ts : List Term)
        → closing_passed g h ≡ true → left us (returns w) (closing_frames g h outer chain ts ++ k) ≡ left us (returns w) k
    closing_out (close_block true at) outer chain ts e = absurd cc
    closing_out (close_block false at) outer chain ts e = refl
    closing_out (close_call at) outer chain ts e = absurd cc
    closing_out (close_full at) outer chain ts e = absurd cc
    closing_out (cleaning owner at) outer chain ts e = refl

    statement_out : {m n : Mode} {items rest : List Item} (h : Statement g m items n rest) (ts : List Term) → statement_passed g h ≡ true
        → left us (returns w) (statement_frames g h ts ++ k) ≡ left us (returns w) k
    statement_out (block_done block scope end at) ts e = absurd cc
    statement_out (picked_by_word id ids) ts e = absurd cc
    statement_out (picked id ids) ts e = absurd cc
    statement_out h ts e = refl

    throwing_out : {m n : Mode} {items rest : List Item} (h : Throwing g m items n rest) (chain : List ScopeKind) (es : List Exception) (ts : List Term)
        → left us (returns w) (throwing_frames g h chain es ts ++ k) ≡ left us (returns w) k
    throwing_out (handler_done handler scope at) chain es ts = refl
    throwing_out h chain es ts = refl

    head_out : {m n : Mode} {items rest : List Item} (h : Head g m items n rest) (outer : List Waiting) (chain : List ScopeKind) (es : List Exception)
        (ts : List Term)
        → head_passed g h ≡ true → left us (returns w) (head_frames g number_of h outer chain es ts ++ k) ≡ left us (returns w) k
    head_out (expression h) outer chain es ts e = expression_out h ts
    head_out (calling h) outer chain es ts e = call_out h ts
    head_out (making h) outer chain es ts e = making_out h chain ts
    head_out (closing h) outer chain es ts e = closing_out h outer chain ts e
    head_out (statement h) outer chain es ts e = statement_out h ts e
    head_out (throwing h) outer chain es ts e = throwing_out h chain es ts

    exit_out : {leaving : Leaving} (x : Exiting leaving) (cleans : Option Owner) (chain : List ScopeKind) (ts : List Term)
        → left us (returns w) (exit_frames g x cleans chain ts ++ k) ≡ left us (returns w) k
    exit_out x None chain ts = refl
    exit_out x (Some owner) chain ts = refl

  pub goes_outward : {m : Mode} {items : List Item} (d : Left g m items) (chain : List ScopeKind) (es : List Exception) (ts : List Term) → passed g d ≡ true
      → left us (returns w) (frames g number_of d chain es ts) ≡ goes_out (returns w) us
  goes_outward (body_ends at) chain es ts e = refl
  goes_outward (before h d) chain es ts e =
      head_out (frames g number_of d (head_scopes g h chain) (exceptions_behind (head_exceptions g h) es) (behind (head_count g h chain) ts)) h
      (temporaries g d (head_scopes g h chain) (behind (head_count g h chain) ts)) chain es ts (both_are (head_passed g h) (passed g d) e).0
      ∙ goes_outward d (head_scopes g h chain) (exceptions_behind (head_exceptions g h) es) (behind (head_count g h chain) ts)
      (both_are (head_passed g h) (passed g d) e).1
  goes_outward (other_again o a c d) chain es ts e = goes_outward d chain es ts e
  goes_outward (leave x cleans origin junk at d o) chain es ts e =
      exit_out (frames g number_of o (scopes_out cleans chain) es (behind (more_by (exit_count x) junk) ts)) x cleans chain ts
      ∙ goes_outward o (scopes_out cleans chain) es (behind (more_by (exit_count x) junk) ts) e

-- ---- a `return`

module _ (p : Program) (b : Bounds) (book : Book) (h : Held) (g : Setting) where
  -- the value of a `return` is taken along
  module _ {m : Mode} {items : List Item} (d : Left g m items) (origin : ℕ) (at : At) (chain : List ScopeKind) where
    pub returning_reads : AlwaysRereads p b book h g (before (statement (returning origin at)) d) chain (leave returns_word None origin 0 at d d) chain
        (λ (o : Outcome). o)
    returning_reads v es ts known f = record {
      value = number 0;
      exceptions = es;
      terms = v ∷ ts;
      filled = record { all = f.all; so = f.so; types = f.types; knows = f.knows; comes = tt };
      told = λ one all. (refl, (one, all));
      place_is = refl;
      outcome_is = refl;
    }

  -- the node of a `return`, with a value or without
  module _ {m : Mode} {items : List Item} (d : Left g m items) (id : TNodeId) (a : After (node_in g id) Dropped m) (origin : ℕ) (at : At)
      (chain : List ScopeKind)
      (t : Typ) (cat : Cat) (place : At) where
    return_is : (v : Term) (es : List Exception) (ts : List Term) (w : Tree) → tree_in g id ≡ w → (f : Outcome → Outcome)
        → f (comes_of p b book h g (before (expression (run id Dropped a)) d) chain v es ts)
        ≡ f (given p h.func no_answers (temporaries g d chain ts) v (Run value w ∷ frames g (numbers_of p h.func g) d chain es ts))
    return_is v es ts w is f = ap (λ (z : Tree). f (given p h.func no_answers (temporaries g d chain ts) v
        (Run value z ∷ frames g (numbers_of p h.func g) d chain es ts))) is

    pub return_reads : tree_in g id ≡ node ReturnNode t cat place (trees_in g []) → AlwaysRereads p b book h g (before (expression (run id Dropped a)) d) chain
        (leave returns_nothing None origin 0 at d d) chain (λ (o : Outcome). o)
    unfolding trees_in
    return_reads is v es ts known f = record {
      value = number 0;
      exceptions = es;
      terms = ts;
      filled = record { all = f.all; so = f.so; types = f.types; knows = f.knows; comes = tt };
      told = λ one all. (refl, all);
      place_is = refl;
      outcome_is = return_is v es ts (node ReturnNode t cat place (trees_in g [])) is (λ (o : Outcome). o);
    }

    pub value_return_reads : (i : TNodeId) (x : is_void (node_in g i).typ ≡ false) → tree_in g id ≡ node ReturnNode t cat place (trees_in g (i ∷ []))
        → AlwaysRereads p b book h g (before (expression (run id Dropped a)) d) chain
        (before (expression (run i Value (valued x))) (before (statement (returning origin at)) d)) chain (step_of p h.func no_answers)
    unfolding tree_in trees_in
    value_return_reads i x is v es ts known f = record {
      value = number 0;
      exceptions = es;
      terms = ts;
      filled = record { all = f.all; so = f.so; types = f.types; knows = f.knows; comes = tt };
      told = λ one all. (refl, all);
      place_is = refl;
      outcome_is = return_is v es ts (node ReturnNode t cat place (trees_in g (i ∷ []))) is (step_of p h.func no_answers);
    }

  -- all scopes are left
  module _ {m n : Mode} {items outer : List Item} (d : Left g m items) (o : Left g n outer) (origin junk : ℕ) (at : At) (chain : List ScopeKind) (v : Term)
      (es : List Exception) (ts : List Term) (known : List Fact) (lead rank index : ℕ) (out : passed g o ≡ true) where
    abbrev with_word : Left g gone (Leave Return origin at ∷ items)
    with_word = leave returns_word None origin junk at d o

    abbrev with_nothing : Left g gone (Leave Return origin at ∷ items)
    with_nothing = leave returns_nothing None origin junk at d o

    pub return_fits : book.gives h.number ≡ true → Fitting p b book h g with_word chain v es ts known lead rank index (Ret 1)
    return_fits gives = (
      gives,
      subst (λ (z : Outcome). Returning p b book true (standing p b book h g with_word chain v es ts) z)
          (sym (goes_outward g (numbers_of p h.func g) (temporaries g o chain (behind (more_by 1 junk) ts)) (first_word ts) o chain es
          (behind (more_by 1 junk) ts) out))
          (first_word ts, _, refl, by_return),
    )

    pub return_nothing_fits : book.gives h.number ≡ false → Fitting p b book h g with_nothing chain v es ts known lead rank index (Ret 0)
    return_nothing_fits gives = (
      gives,
      subst (λ (z : Outcome). Returning p b book false (standing p b book h g with_nothing chain v es ts) z)
          (sym (goes_outward g (numbers_of p h.func g) (temporaries g o chain (behind junk ts)) (number 0) o chain es (behind junk ts) out))
          by_return,
    )

  -- ---- behind the body

  module _ (at : At) (chain : List ScopeKind) (v : Term) (es : List Exception) (ts : List Term) (known : List Fact) (lead rank index : ℕ) where
    abbrev ended : Left g nought (BodyEnds at ∷ [])
    ended = body_ends at

    pub end_fits : book.gives h.number ≡ false → Filled p b book h g ended chain v es ts known
        → Fitting p b book h g ended chain v es ts known lead rank index (Ret 0)
    end_fits gives f = (gives, subst (λ (z : Term). Returning p b book false (standing p b book h g ended chain v es ts) (hands z [])) (sym f.comes) by_end)

    -- the word 0 is handed back: its push comes to the note of the return, which fits
    pub word_end_fits : book.gives h.number ≡ true → Filled p b book h g ended chain v es ts known
        → StepFits p b book h known lead rank index (Ret 1) (with_operands (standing p b book h g ended chain v es ts) (number 0 ∷ []))
        (comes_of p b book h g ended chain v es ts)
    word_end_fits gives f = (gives, (number 0, [], refl, subst (λ (z : Term). Hands (number 0) (hands z [])) (sym f.comes) by_end))

    pub end_push_fits : LandsOn p h.func b h.notes book.thrown known lead rank (index + 1)
        (with_operands (standing p b book h g ended chain v es ts) (number 0 ∷ [])) (comes_of p b book h g ended chain v es ts)
        → Fitting p b book h g ended chain v es ts known lead rank index (Push 0)
    end_push_fits l = l
