-- The objects of an owner end: they are destroyed, one by one, and then the value is given that was kept.
use Rattle.std.proofs.Common.{ℕ, ◌≡◌, ◌+◌, ◌≤◌, inl, refl, ap, ap₂, subst, Bool, true, false, cond, List, [], ◌∷◌, ◌++◌}
use Rattle.cpp_tree.specs.cpp_types.declared.classes.At.{At}
use Rattle.cpp_tree.specs.declared.arena.TNodeId.{TNodeId}
use Rattle.tx_code.specs.declared.instr.Instr.TheVariants.{FrameAddr}
use Rattle.low_code.specs.declared.scopes.Owner.{Owner}
use Rattle.low_code.specs.declared.scopes.Owner.TheVariants.{Block as OfBlock, Call as OfCall, Full as OfFull, Parts as OfParts}
use Rattle.low_code.specs.declared.scopes.Address.TheVariants.{Frame as InFrame, Node as OfNode}
use Rattle.low_code.specs.declared.scopes.ScopeKind.{ScopeKind}
use Rattle.low_code.specs.declared.scopes.ScopeKind.TheVariants.{Waits, Mark}
use Rattle.low_code.specs.Scopes.{same_owner}
use Rattle.low_code.specs.Types.{is_void}
use Rattle.src_mean.specs.Linked.{Program}
use Rattle.symbolic_source.specs.Terms.{Term, number, local, Exception, Values}
use Rattle.symbolic_source.specs.Frames.{Cleans, Gives}
use Rattle.symbolic_source.specs.Outcomes.{Outcome}
use Rattle.symbolic_source.specs.Steps.{given, step_of, first_word}
use Rattle.symbolic_source.specs.Small.{AreWords}
use Rattle.symbolic_code.specs.Facts.{Fact, AllHold}
use Rattle.symbolic_code.specs.Places.{Place}
use Rattle.body_check.specs.Notes.{Bounds, no_answers}
use Rattle.body_check.specs.Calls.{Book}
use Rattle.body_check.specs.Linked.{Held}
use Rattle.unwind_lower.specs.declared.items.Way.TheVariants.{Value}
use Rattle.unwind_lower.specs.declared.items.Item.{Item}
use Rattle.unwind_lower.specs.Settings.{Setting, node_in}
use Rattle.lowered_frames.specs.Lists.{AreSo, others, behind, firsts, more_by}
use Rattle.lowered_frames.specs.Modes.{Mode, top, gone, nought, valued}
use Rattle.lowered_frames.specs.Chains.{before_mark, behind_mark, waitings, words_of_all}
use Rattle.lowered_frames.specs.Expressions.{run}
use Rattle.lowered_frames.specs.Objects.{due}
use Rattle.lowered_frames.specs.Closings.{close_block, close_call, close_full, cleaning, kept_value, kept_words, kept_count}
use Rattle.lowered_frames.specs.Left.{Left, before, expression, making, closing, frames, temporaries, count, below, opened, caught}
use Rattle.lowered_notes.specs.Canonical.{numbers_of, facts, hold}
use Rattle.lowered_notes.proofs.Terms.{others_so}
use Rattle.lowered_steps.specs.Ahead.{standing, comes_of, Fitting, Ahead, Filled, IsTold, AreTold, AlwaysRereads}
use Rattle.lowered_steps.proofs.Landings.{quiet_landing}
use Rattle.lowered_objects.specs.Scopes.{is_kept}
use Rattle.lowered_objects.proofs.Lists.{above, others_told}

pub first_told : (ts : List Term) → AreTold ts → IsTold (first_word ts)
first_told [] all = refl
first_told (t ∷ ts) all = all.0

module _ (p : Program) (b : Bounds) (book : Book) (h : Held) (g : Setting) where
  abbrev stepped : Outcome → Outcome
  stepped = step_of p h.func no_answers

  abbrev at_once : Outcome → Outcome
  at_once o = o

  -- ---- the end comes

  pub close_block_reads : (m : Mode) {items : List Item} (d : Left g m items) (chain : List ScopeKind) (at : At) → is_kept m ≡ true
      → AlwaysRereads p b book h g (before (closing (close_block true at)) d) chain (before (closing (cleaning OfBlock at)) d) chain stepped
  close_block_reads top d chain at k v es ts known f = record {
    value = number 0;
    exceptions = es;
    terms = v ∷ ts;
    filled = record { all = f.all; so = f.so; types = f.types; knows = f.knows; comes = tt };
    told = λ one all. (refl, (one, all));
    place_is = refl;
    outcome_is = refl;
  }
  close_block_reads gone d chain at k v es ts known f = record {
    value = number 0;
    exceptions = es;
    terms = v ∷ ts;
    filled = record { all = f.all; so = f.so; types = f.types; knows = f.knows; comes = tt };
    told = λ one all. (refl, (one, all));
    place_is = refl;
    outcome_is = refl;
  }
  close_block_reads nought d chain at k v es ts known f = record {
    value = number 0;
    exceptions = es;
    terms = ts;
    filled = record { all = f.all; so = f.so; types = f.types; knows = f.knows; comes = tt };
    told = λ one all. (refl, all);
    place_is = refl;
    outcome_is = ap (λ (z : Term). stepped (comes_of p b book h g (before (closing (close_block true at)) d) chain z es ts)) f.comes;
  }
  close_block_reads m d chain at k v es ts known f = absurd cc

  pub close_call_reads : (m : Mode) {items : List Item} (d : Left g m items) (chain : List ScopeKind) (at : At) → is_kept m ≡ true
      → AlwaysRereads p b book h g (before (closing (close_call at)) d) chain (before (closing (cleaning OfCall at)) d) chain stepped
  close_call_reads top d chain at k v es ts known f = record {
    value = number 0;
    exceptions = es;
    terms = v ∷ ts;
    filled = record { all = f.all; so = f.so; types = f.types; knows = f.knows; comes = tt };
    told = λ one all. (refl, (one, all));
    place_is = refl;
    outcome_is = refl;
  }
  close_call_reads gone d chain at k v es ts known f = record {
    value = number 0;
    exceptions = es;
    terms = v ∷ ts;
    filled = record { all = f.all; so = f.so; types = f.types; knows = f.knows; comes = tt };
    told = λ one all. (refl, (one, all));
    place_is = refl;
    outcome_is = refl;
  }
  close_call_reads nought d chain at k v es ts known f = record {
    value = number 0;
    exceptions = es;
    terms = ts;
    filled = record { all = f.all; so = f.so; types = f.types; knows = f.knows; comes = tt };
    told = λ one all. (refl, all);
    place_is = refl;
    outcome_is = ap (λ (z : Term). stepped (comes_of p b book h g (before (closing (close_call at)) d) chain z es ts)) f.comes;
  }
  close_call_reads m d chain at k v es ts known f = absurd cc

  pub close_full_reads : (m : Mode) {items : List Item} (d : Left g m items) (chain : List ScopeKind) (at : At) → is_kept m ≡ true
      → AlwaysRereads p b book h g (before (closing (close_full at)) d) chain (before (closing (cleaning OfFull at)) d) chain stepped
  close_full_reads top d chain at k v es ts known f = record {
    value = number 0;
    exceptions = es;
    terms = v ∷ ts;
    filled = record { all = f.all; so = f.so; types = f.types; knows = f.knows; comes = tt };
    told = λ one all. (refl, (one, all));
    place_is = refl;
    outcome_is = refl;
  }
  close_full_reads gone d chain at k v es ts known f = record {
    value = number 0;
    exceptions = es;
    terms = v ∷ ts;
    filled = record { all = f.all; so = f.so; types = f.types; knows = f.knows; comes = tt };
    told = λ one all. (refl, (one, all));
    place_is = refl;
    outcome_is = refl;
  }
  close_full_reads nought d chain at k v es ts known f = record {
    value = number 0;
    exceptions = es;
    terms = ts;
    filled = record { all = f.all; so = f.so; types = f.types; knows = f.knows; comes = tt };
    told = λ one all. (refl, all);
    place_is = refl;
    outcome_is = ap (λ (z : Term). stepped (comes_of p b book h g (before (closing (close_full at)) d) chain z es ts)) f.comes;
  }
  close_full_reads m d chain at k v es ts known f = absurd cc

  -- ---- one object is destroyed

  module _ {m : Mode} {items : List Item} (d : Left g m items) (chain : List ScopeKind) (owner other : Owner) (at : At) (always : Bool) (id : TNodeId) (first : ℕ) where
    -- one of the frame: its address comes on top
    pub clean_frame_fits : (offset : ℕ) (v : Term) (es : List Exception) (ts : List Term) (known : List Fact) (lead rank index after : ℕ)
        → Filled p b book h g (before (closing (cleaning owner at)) d) (Waits other always (InFrame offset) id first ∷ chain) v es ts known
        → Ahead p b book h g (before (making (due id first)) (before (closing (cleaning owner at)) d)) chain (index + 1) after → lead + 1 ≤ b.longest
        → Fitting p b book h g (before (closing (cleaning owner at)) d) (Waits other always (InFrame offset) id first ∷ chain) v es ts known lead rank index (FrameAddr offset)
    clean_frame_fits offset v es ts known lead rank index after f a short =
        quiet_landing p b book h g (before (making (due id first)) (before (closing (cleaning owner at)) d)) chain (local offset) es ts known
        (record { all = f.all; so = f.so; types = f.types; knows = f.knows; comes = tt }) lead 1 rank (index + 1) after a short (inl (above lead)) _ _ refl refl

    -- one whose address a node gives
    pub clean_node_reads : (node : TNodeId) (e : is_void (node_in g node).typ ≡ false)
        → AlwaysRereads p b book h g (before (closing (cleaning owner at)) d) (Waits other always (OfNode node) id first ∷ chain)
        (before (expression (run node Value (valued e))) (before (making (due id first)) (before (closing (cleaning owner at)) d))) chain stepped
    clean_node_reads node e v es ts known f = record {
      value = number 0;
      exceptions = es;
      terms = ts;
      filled = record { all = f.all; so = f.so; types = f.types; knows = f.knows; comes = tt };
      told = λ one all. (refl, all);
      place_is = refl;
      outcome_is = refl;
    }

  -- ---- all are destroyed

  module _ (owner : Owner) (chain : List ScopeKind) where
    marked_itself : (o : Owner) → same_owner o o ≡ true
    marked_itself OfBlock = refl
    marked_itself OfCall = refl
    marked_itself OfParts = refl
    marked_itself OfFull = refl

    none_before : before_mark owner (Mark owner ∷ chain) ≡ []
    none_before = ap (λ (z : Bool). cond z [] (Mark owner ∷ before_mark owner chain)) (marked_itself owner)

    all_behind : behind_mark owner (Mark owner ∷ chain) ≡ chain
    all_behind = ap (λ (z : Bool). cond z chain (behind_mark owner chain)) (marked_itself owner)

  -- what is left where these scopes end and those are behind
  module _ (m : Mode) {items : List Item} (d : Left g m items) (owner : Owner) (at : At) where
    abbrev cleaned_count : List ScopeKind → List ScopeKind → ℕ
    cleaned_count y z = more_by (more_by (kept_count m) (words_of_all y)) (count g d z)

    abbrev cleaned_facts : List Term → List ScopeKind → List ScopeKind → List Fact
    cleaned_facts ts y z = facts g d z (behind (more_by (kept_count m) (words_of_all y)) ts)

    abbrev cleaned_place : List Exception → List Term → List ScopeKind → List ScopeKind → Place
    cleaned_place es ts y z = record {
      operands = (kept_words m ts ++ firsts (words_of_all y) (behind (kept_count m) ts)) ++ below g d z (behind (more_by (kept_count m) (words_of_all y)) ts);
      opens = opened g d;
      caught = caught g d es;
      hold = hold g d z es (behind (more_by (kept_count m) (words_of_all y)) ts);
    }

    abbrev cleaned_outcome : Term → List Exception → List Term → List ScopeKind → List ScopeKind → Outcome
    cleaned_outcome v es ts y z = given p h.func no_answers (temporaries g d z (behind (more_by (kept_count m) (words_of_all y)) ts)) v
        (Cleans (waitings g y (behind (kept_count m) ts)) ∷ Gives (kept_value m ts)
        ∷ frames g (numbers_of p h.func g) d z es (behind (more_by (kept_count m) (words_of_all y)) ts))

  module _ (m : Mode) {items : List Item} (d : Left g m items) (chain : List ScopeKind) (owner : Owner) (at : At) where
    cleaned_so : (ts : List Term) → AreSo (count g (before (closing (cleaning owner at)) d) (Mark owner ∷ chain)) ts → AreSo (cleaned_count m d owner at [] chain) ts
    cleaned_so ts so = subst (λ (z : ℕ). AreSo z ts) (ap₂ (λ (y z : List ScopeKind). cleaned_count m d owner at y z) (none_before owner chain) (all_behind owner chain)) so

    cleaned_knows : (ts : List Term) → facts g (before (closing (cleaning owner at)) d) (Mark owner ∷ chain) ts ≡ cleaned_facts m d owner at ts [] chain
    cleaned_knows ts = ap₂ (λ (y z : List ScopeKind). cleaned_facts m d owner at ts y z) (none_before owner chain) (all_behind owner chain)

    cleaned_stands : (v : Term) (es : List Exception) (ts : List Term)
        → standing p b book h g (before (closing (cleaning owner at)) d) (Mark owner ∷ chain) v es ts ≡ cleaned_place m d owner at es ts [] chain
    cleaned_stands v es ts = ap₂ (λ (y z : List ScopeKind). cleaned_place m d owner at es ts y z) (none_before owner chain) (all_behind owner chain)

    cleaned_comes : (v : Term) (es : List Exception) (ts : List Term)
        → comes_of p b book h g (before (closing (cleaning owner at)) d) (Mark owner ∷ chain) v es ts ≡ cleaned_outcome m d owner at v es ts [] chain
    cleaned_comes v es ts = ap₂ (λ (y z : List ScopeKind). cleaned_outcome m d owner at v es ts y z) (none_before owner chain) (all_behind owner chain)

    knows_cleaned : (v : Term) (es : List Exception) (ts : List Term) (known : List Fact)
        → Filled p b book h g (before (closing (cleaning owner at)) d) (Mark owner ∷ chain) v es ts known
        → (x : Values) → AreWords x → AllHold p h.func x known → AllHold p h.func x (cleaned_facts m d owner at ts [] chain)
    knows_cleaned v es ts known f x bounded holds = subst (λ (z : List Fact). AllHold p h.func x z) (cleaned_knows ts) (f.knows x bounded holds)

  pub cleaned_reads : (m : Mode) {items : List Item} (d : Left g m items) (chain : List ScopeKind) (owner : Owner) (at : At) → is_kept m ≡ true
      → AlwaysRereads p b book h g (before (closing (cleaning owner at)) d) (Mark owner ∷ chain) d chain at_once
  cleaned_reads top d chain owner at k v es ts known f = record {
    value = first_word ts;
    exceptions = es;
    terms = others ts;
    filled = record {
      all = f.all;
      so = others_so (count g d chain) ts (cleaned_so top d chain owner at ts f.so);
      types = f.types;
      knows = λ x bounded holds. knows_cleaned top d chain owner at v es ts known f x bounded holds;
      comes = tt;
    };
    told = λ one all. (first_told ts all, others_told ts all);
    place_is = cleaned_stands top d chain owner at v es ts;
    outcome_is = cleaned_comes top d chain owner at v es ts;
  }
  cleaned_reads gone d chain owner at k v es ts known f = record {
    value = first_word ts;
    exceptions = es;
    terms = others ts;
    filled = record {
      all = f.all;
      so = others_so (count g d chain) ts (cleaned_so gone d chain owner at ts f.so);
      types = f.types;
      knows = λ x bounded holds. knows_cleaned gone d chain owner at v es ts known f x bounded holds;
      comes = tt;
    };
    told = λ one all. (first_told ts all, others_told ts all);
    place_is = cleaned_stands gone d chain owner at v es ts;
    outcome_is = cleaned_comes gone d chain owner at v es ts;
  }
  cleaned_reads nought d chain owner at k v es ts known f = record {
    value = number 0;
    exceptions = es;
    terms = ts;
    filled = record {
      all = f.all;
      so = cleaned_so nought d chain owner at ts f.so;
      types = f.types;
      knows = λ x bounded holds. knows_cleaned nought d chain owner at v es ts known f x bounded holds;
      comes = refl;
    };
    told = λ one all. (refl, all);
    place_is = cleaned_stands nought d chain owner at v es ts;
    outcome_is = cleaned_comes nought d chain owner at v es ts;
  }
  cleaned_reads m d chain owner at k v es ts known f = absurd cc

  -- a block whose objects only wait for an exception, and none of them with a word
  pub close_marked_reads : {m : Mode} {items : List Item} (d : Left g m items) (chain : List ScopeKind) (at : At)
      → AlwaysRereads p b book h g (before (closing (close_block false at)) d) (Mark OfBlock ∷ chain) d chain stepped
  close_marked_reads d chain at v es ts known f = record {
    value = v;
    exceptions = es;
    terms = ts;
    filled = record { all = f.all; so = f.so; types = f.types; knows = f.knows; comes = f.comes };
    told = λ one all. (one, all);
    place_is = refl;
    outcome_is = refl;
  }
