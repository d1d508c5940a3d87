-- Calls fit where their last word lies on top, and the caller goes on behind them.
use Rattle.std.proofs.Common.{ℕ, zero, suc, ◌≡◌, ◌+◌, ◌≤◌, refl, ap, sym, ◌∙◌, Bool, true, false, List, [], ◌∷◌, ◌++◌, Some, append_assoc, arith}
use Rattle.cpp_tree.specs.cpp_types.Typ.{Typ, Signature}
use Rattle.cpp_tree.specs.declared.arena.TNodeId.{TNodeId}
use Rattle.low_code.specs.declared.scopes.ScopeKind.{ScopeKind}
use Rattle.src_mean.specs.Linked.{Program}
use Rattle.symbolic_source.specs.Terms.{Term, number, variable, Exception, slot_function}
use Rattle.symbolic_source.specs.Frames.{Gives, virtual, pointer}
use Rattle.symbolic_source.specs.Outcomes.{goes, silent}
use Rattle.symbolic_source.specs.Steps.{first_word}
use Rattle.symbolic_source.specs.Replacing.{in_terms, in_frames, in_waitings}
use Rattle.symbolic_code.specs.Facts.{Fact, has_function, Among}
use Rattle.symbolic_code.specs.Places.{Place, later, place_later, with_operands}
use Rattle.body_check.specs.Notes.{Bounds, no_answers}
use Rattle.body_check.specs.Calls.{Book, BackWith, ThrownWith, Behind, Calling, CallingFound, AllThrown, taken_off, by_slot, by_pointer}
use Rattle.body_check.specs.Linked.{Held}
use Rattle.unwind_lower.specs.declared.items.Item.{Item}
use Rattle.unwind_lower.specs.declared.items.Item.TheVariants.{Invoke}
use Rattle.unwind_lower.specs.declared.items.Way.{Way}
use Rattle.unwind_lower.specs.Settings.{Setting}
use Rattle.lowered_frames.specs.Lists.{AreAll, behind, firsts, turned, more_by, first_exception, other_exceptions, exceptions_behind}
use Rattle.lowered_frames.specs.Modes.{Mode, top, gone, trees_in}
use Rattle.lowered_frames.specs.Calls.{Called, called_count, called_with, called_words, words}
use Rattle.lowered_frames.specs.Calls as low
use Rattle.lowered_frames.specs.Throws.{Throwing, throwing_exceptions, throwing_handled, handler_done}
use Rattle.lowered_frames.specs.Left.{Head, calling, throwing, head_exceptions, head_handled}
use Rattle.lowered_frames.specs.Left.{Left, body_ends, before, other_again, leave, frames, temporaries, below, caught, exception_count, AreEntered}
use Rattle.lowered_frames.proofs.Replaced.{below_in}
use Rattle.lowered_frames.proofs.Opened.{blocks_are, handlers_are}
use Rattle.lowered_notes.specs.Canonical.{AreThrown, place_with, coming}
use Rattle.lowered_notes.proofs.Terms.{first_so, words_taken}
use Rattle.lowered_notes.proofs.Landings.{nums, Ahead, Fitted, later_landing, once_landing, place_goes_later}

-- ---- the exceptions of handlers are of types that are thrown

others_all : (n : ℕ) (es : List Exception) → AreAll (suc n) es → AreAll n (other_exceptions es)
others_all n [] all = absurd all
others_all n (e ∷ es) all = all

behind_all : (k n : ℕ) (es : List Exception) → AreAll (more_by k n) es → AreAll n (exceptions_behind k es)
behind_all zero n es all = all
behind_all (suc k) n es all = behind_all k n (other_exceptions es) (others_all (more_by k n) es all)

others_thrown : (thrown : Typ → Bool) (es : List Exception) → AreThrown thrown es → AreThrown thrown (other_exceptions es)
others_thrown thrown [] t = tt
others_thrown thrown (e ∷ es) t = t.1

behind_thrown : (thrown : Typ → Bool) (k : ℕ) (es : List Exception) → AreThrown thrown es → AreThrown thrown (exceptions_behind k es)
behind_thrown thrown zero es t = t
behind_thrown thrown (suc k) es t = behind_thrown thrown k (other_exceptions es) (others_thrown thrown es t)

first_thrown : (thrown : Typ → Bool) (n : ℕ) (es : List Exception) → AreAll (suc n) es → AreThrown thrown es → AreThrown thrown (first_exception es ∷ [])
first_thrown thrown n [] all t = absurd all
first_thrown thrown n (e ∷ es) all t = (t.0, tt)

joined_thrown : (thrown : Typ → Bool) (es fs : List Exception) → AreThrown thrown es → AreThrown thrown fs → AreThrown thrown (es ++ fs)
joined_thrown thrown [] fs t u = u
joined_thrown thrown (e ∷ es) fs t u = (t.0, joined_thrown thrown es fs t.1 u)

module _ (thrown : Typ → Bool) (g : Setting) where
  throwing_thrown : {m n : Mode} {items rest : List Item} (h : Throwing g m items n rest) (k : ℕ) (es : List Exception) → AreAll (more_by (throwing_exceptions g h) k) es
      → AreThrown thrown es → AreThrown thrown (throwing_handled g h es)
  throwing_thrown (handler_done handler scope at) k es all t = first_thrown thrown k es all t
  throwing_thrown h k es all t = tt

  head_thrown : {m n : Mode} {items rest : List Item} (h : Head g m items n rest) (k : ℕ) (es : List Exception) → AreAll (more_by (head_exceptions g h) k) es
      → AreThrown thrown es → AreThrown thrown (head_handled g h es)
  head_thrown (throwing h) k es all t = throwing_thrown h k es all t
  head_thrown h k es all t = tt

  caught_thrown : {m : Mode} {items : List Item} (d : Left g m items) (es : List Exception) → AreAll (exception_count g d) es → AreThrown thrown es
      → AreThrown thrown (caught g d es)
  caught_thrown (body_ends at) es all t = tt
  caught_thrown (before h d) es all t = joined_thrown thrown (head_handled g h es) (caught g d (exceptions_behind (head_exceptions g h) es))
      (head_thrown h (exception_count g d) es all t)
      (caught_thrown d (exceptions_behind (head_exceptions g h) es) (behind_all (head_exceptions g h) (exception_count g d) es all)
      (behind_thrown thrown (head_exceptions g h) es t))
  caught_thrown (other_again o a e d) es all t = caught_thrown d es all t
  caught_thrown (leave x cleans origin junk at d o) es all t = caught_thrown o es all t

  all_thrown : (es : List Exception) → AreThrown thrown es → AllThrown thrown es
  all_thrown [] t = tt
  all_thrown (e ∷ es) t = t.0

-- ---- calls

module _ (p : Program) (b : Bounds) (book : Book) (h : Held) (g : Setting) where
  -- the words are there: so many below that on top, and then what is called
  module _ {m : Mode} {items : List Item} (d : Left g m items) (chain : List ScopeKind) (c : Called) (n : ℕ) (id : TNodeId) (way : Way) (v : Term)
      (es : List Exception) (ts : List Term) (known : List Fact) (index : ℕ) where
    abbrev pub call_head : Left g top (Invoke id way ∷ items)
    call_head = before (calling (words c n [] id way)) d

    abbrev pub call_place : Place
    call_place = place_with p h.func g call_head chain v es ts

    -- the terms behind
    abbrev pub rest_terms : List Term
    rest_terms = behind (more_by n (called_count c)) ts

    -- what a call leaves behind it
    pub behind_it : AreEntered g d → Fitted p b book h g d chain es rest_terms known → (gives stops : Bool)
        → BackWith p b book gives h known index call_place (below g d chain rest_terms) (temporaries g d chain rest_terms) (frames g (nums p b book h g) d chain es rest_terms)
        → (stops ≡ false → ThrownWith p b book h known index call_place (below g d chain rest_terms) (temporaries g d chain rest_terms)
        (frames g (nums p b book h g) d chain es rest_terms))
        → Behind p b book gives stops h known index call_place (below g d chain rest_terms) (temporaries g d chain rest_terms) (frames g (nums p b book h g) d chain es rest_terms)
    behind_it entered fit gives stops back out = record {
      back = back;
      thrown = out;
      opens = sym (blocks_are g (nums p b book h g) d chain es rest_terms entered);
      caught = first_so (caught g d es) ∙ sym (handlers_are g (nums p b book h g) d chain es rest_terms);
      type = all_thrown book.thrown g (caught g d es) (caught_thrown book.thrown g d es fit.all fit.thrown);
    }

    -- the words, and those below
    words_are_taken : taken_off (suc n) call_place.operands [] ≡ Some (turned n ts ++ v ∷ [], called_words c (behind n ts) ++ below g d chain rest_terms)
    words_are_taken = ap (λ (z : List Term). taken_off n z (v ∷ [])) (append_assoc (firsts n ts) (called_words c (behind n ts)) (below g d chain rest_terms))
        ∙ words_taken n ts (called_words c (behind n ts) ++ below g d chain rest_terms) (v ∷ [])

  -- a call by name
  module _ {m : Mode} {items : List Item} (d : Left g m items) (chain : List ScopeKind) (func n : ℕ) (id : TNodeId) (way : Way) (v : Term)
      (es : List Exception) (ts : List Term) (known : List Fact) (index name : ℕ) where
    abbrev pub named_head : Left g top (Invoke id way ∷ items)
    named_head = before (calling (words (low.by_name func) n [] id way)) d

    pub named_fits : h.table.function_of name ≡ Some func → book.takes (p.number h.func.unit func) ≡ suc n
        → Behind p b book (book.gives (p.number h.func.unit func)) (book.stops (p.number h.func.unit func)) h known index (place_with p h.func g named_head chain v es ts)
        (below g d chain (behind (more_by n 0) ts)) (temporaries g d chain (behind (more_by n 0) ts)) (frames g (nums p b book h g) d chain es (behind (more_by n 0) ts))
        → Calling p b book h known index (place_with p h.func g named_head chain v es ts) (coming p h.func g named_head chain no_answers v es ts) name (suc n)
    unfolding trees_in
    named_fits named takes further = record {
      callee = func;
      named = named;
      words = turned n ts ++ v ∷ [];
      under = below g d chain (behind (more_by n 0) ts);
      temporaries = temporaries g d chain (behind (more_by n 0) ts);
      others = frames g (nums p b book h g) d chain es (behind (more_by n 0) ts);
      outcome_is = refl;
      operands_are = words_are_taken d chain (low.by_name func) n id way v es ts known index;
      taken = takes;
      behind = further;
    }

  -- a call of what a pointer points to, which lies below the words
  module _ {m : Mode} {items : List Item} (d : Left g m items) (chain : List ScopeKind) (sig : Signature) (n : ℕ) (id : TNodeId) (way : Way) (v : Term)
      (es : List Exception) (ts : List Term) (known : List Fact) (index name : ℕ) (gives : Bool) where
    abbrev pub pointed_head : Left g top (Invoke id way ∷ items)
    pointed_head = before (calling (words (low.by_pointer sig) n [] id way)) d

    pub pointed_fits : h.table.is_signature name sig ≡ true → book.takes_as sig (suc n) gives ≡ true
        → Behind p b book gives false h known index (place_with p h.func g pointed_head chain v es ts)
        (below g d chain (behind (more_by n 1) ts)) (temporaries g d chain (behind (more_by n 1) ts)) (frames g (nums p b book h g) d chain es (behind (more_by n 1) ts))
        → CallingFound p b book h known index (place_with p h.func g pointed_head chain v es ts) (coming p h.func g pointed_head chain no_answers v es ts) name (suc n)
    unfolding trees_in
    pointed_fits named takes further = record {
      address = first_word (behind n ts);
      callee = pointer (first_word (behind n ts)) sig;
      gives = gives;
      found = by_pointer (first_word (behind n ts)) sig named takes;
      words = turned n ts ++ v ∷ [];
      under = below g d chain (behind (more_by n 1) ts);
      temporaries = temporaries g d chain (behind (more_by n 1) ts);
      others = frames g (nums p b book h g) d chain es (behind (more_by n 1) ts);
      outcome_is = refl;
      operands_are = words_are_taken d chain (low.by_pointer sig) n id way v es ts known index;
      behind = further;
    }

  -- a call of what a slot has, where that is known
  module _ {m : Mode} {items : List Item} (d : Left g m items) (chain : List ScopeKind) (class slot : ℕ) (n : ℕ) (id : TNodeId) (way : Way) (v : Term)
      (es : List Exception) (ts : List Term) (known : List Fact) (index name : ℕ) (gives : Bool) where
    abbrev pub slot_head : Left g top (Invoke id way ∷ items)
    slot_head = before (calling (words (low.by_slot class slot) n [] id way)) d

    pub slot_fits : h.table.is_slot name class slot ≡ true → book.slot_takes class slot (suc n) gives ≡ true → Among (has_function class slot (first_word (behind n ts))) known
        → Behind p b book gives false h known index (place_with p h.func g slot_head chain v es ts)
        (below g d chain (behind (more_by n 1) ts)) (temporaries g d chain (behind (more_by n 1) ts)) (frames g (nums p b book h g) d chain es (behind (more_by n 1) ts))
        → CallingFound p b book h known index (place_with p h.func g slot_head chain v es ts) (coming p h.func g slot_head chain no_answers v es ts) name (suc n)
    unfolding trees_in
    slot_fits named takes there further = record {
      address = slot_function class slot (first_word (behind n ts));
      callee = virtual class slot (first_word (behind n ts));
      gives = gives;
      found = by_slot class slot (first_word (behind n ts)) named takes there;
      words = turned n ts ++ v ∷ [];
      under = below g d chain (behind (more_by n 1) ts);
      temporaries = temporaries g d chain (behind (more_by n 1) ts);
      others = frames g (nums p b book h g) d chain es (behind (more_by n 1) ts);
      outcome_is = refl;
      operands_are = words_are_taken d chain (low.by_slot class slot) n id way v es ts known index;
      behind = further;
    }

  -- ---- the caller goes on

  module _ {items : List Item} (d : Left g top items) (chain : List ScopeKind) (c : Called) (n : ℕ) (id : TNodeId) (way : Way) (v : Term)
      (es : List Exception) (ts : List Term) (known : List Fact) (index : ℕ) where
    -- with the word that is handed back
    pub word_back : Fitted p b book h g d chain es (rest_terms d chain c n id way v es ts known index) known → (after : ℕ) → Ahead p b book h g d chain (index + 1) after → 1 ≤ b.half
        → BackWith p b book true h known index (call_place d chain c n id way v es ts known index) (below g d chain (rest_terms d chain c n id way v es ts known index))
        (temporaries g d chain (rest_terms d chain c n id way v es ts known index)) (frames g (nums p b book h g) d chain es (rest_terms d chain c n id way v es ts known index))
    word_back fit after a wide = record {
      lands = later_landing p b book h g d chain (variable 0) es (rest_terms d chain c n id way v es ts known index) known fit tt (index + 1) after a
          (place_later (call_place d chain c n id way v es ts known index) (variable 0 ∷ in_terms later (below g d chain (rest_terms d chain c n id way v es ts known index))))
          (goes silent (in_waitings later (temporaries g d chain (rest_terms d chain c n id way v es ts known index)))
          (Gives (variable 0) ∷ in_frames later (frames g (nums p b book h g) d chain es (rest_terms d chain c n id way v es ts known index))))
          (place_goes_later p b book h g d chain (variable 0) es (rest_terms d chain c n id way v es ts known index)
          (variable 0 ∷ in_terms later (below g d chain (rest_terms d chain c n id way v es ts known index)))
          (ap (λ (z : List Term). variable 0 ∷ z) (below_in g later d chain (rest_terms d chain c n id way v es ts known index)))) refl;
      some = omega arith;
      short = wide;
    }

  -- with none
  module _ {items : List Item} (d : Left g gone items) (chain : List ScopeKind) (c : Called) (n : ℕ) (id : TNodeId) (way : Way) (v : Term)
      (es : List Exception) (ts : List Term) (known : List Fact) (index rank : ℕ) where
    pub none_back : Fitted p b book h g d chain es (rest_terms d chain c n id way v es ts known index) known → (after : ℕ) → Ahead p b book h g d chain (index + 1) after
        → 1 ≤ b.half → 1 ≤ b.longest
        → BackWith p b book false h known index (call_place d chain c n id way v es ts known index) (below g d chain (rest_terms d chain c n id way v es ts known index))
        (temporaries g d chain (rest_terms d chain c n id way v es ts known index)) (frames g (nums p b book h g) d chain es (rest_terms d chain c n id way v es ts known index))
    none_back fit after a wide long = record {
      lands = once_landing p b book h g d chain (number 0) es (rest_terms d chain c n id way v es ts known index) known fit tt (index + 1) after a
          (with_operands (call_place d chain c n id way v es ts known index) (below g d chain (rest_terms d chain c n id way v es ts known index)))
          (goes silent (temporaries g d chain (rest_terms d chain c n id way v es ts known index))
          (Gives (number 0) ∷ frames g (nums p b book h g) d chain es (rest_terms d chain c n id way v es ts known index))) refl refl;
      some = omega arith;
      short = wide;
    }
