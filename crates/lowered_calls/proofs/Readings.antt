-- Items of calls for which nothing is written: the source takes a silent step or none, and what is left to write is read otherwise.
use Rattle.std.proofs.Common.{ℕ, suc, ◌≡◌, refl, ap, false, List, ◌∷◌}
use Rattle.cpp_tree.specs.cpp_types.Typ.{Typ, Signature}
use Rattle.cpp_tree.specs.cpp_types.declared.classes.At.{At}
use Rattle.cpp_tree.specs.cpp_types.declared.ranks.Cat.{Cat}
use Rattle.cpp_tree.specs.declared.arena.TNodeId.{TNodeId}
use Rattle.cpp_tree.specs.declared.kinds.Builtin.{Builtin}
use Rattle.cpp_tree.specs.declared.kinds.TKind.TheVariants.{Call as CallOf, Construct, VirtualCall, PointerCall, Builtin as BuiltinCall}
use Rattle.cpp_tree.specs.Trees.{Tree, node, typ_in}
use Rattle.low_code.specs.declared.scopes.Owner.TheVariants.{Call as OfCall}
use Rattle.low_code.specs.declared.scopes.ScopeKind.{ScopeKind}
use Rattle.low_code.specs.declared.scopes.ScopeKind.TheVariants.{Mark}
use Rattle.low_code.specs.Types.{is_void}
use Rattle.src_mean.specs.Linked.{Program}
use Rattle.src_mean.specs.Source.{called_signature}
use Rattle.symbolic_source.specs.Terms.{Term, number, Exception}
use Rattle.symbolic_source.specs.Frames.{Run}
use Rattle.symbolic_source.specs.Outcomes.{Outcome}
use Rattle.symbolic_source.specs.Steps.{given, step_of, first_word}
use Rattle.body_check.specs.Notes.{Bounds, no_answers}
use Rattle.body_check.specs.Calls.{Book}
use Rattle.body_check.specs.Linked.{Held}
use Rattle.unwind_lower.specs.declared.items.Way.{Way}
use Rattle.unwind_lower.specs.declared.items.Way.TheVariants.{Value, Into}
use Rattle.unwind_lower.specs.declared.items.Item.{Item}
use Rattle.unwind_lower.specs.declared.items.Item.TheVariants.{Run as RunIt, Invoke, Close}
use Rattle.unwind_lower.specs.Settings.{Setting, node_in}
use Rattle.lowered_frames.specs.Lists.{AreSo, behind, others}
use Rattle.lowered_frames.specs.Modes.{Mode, gone, After, valued, way_with, all_run, tree_in, trees_in}
use Rattle.lowered_frames.specs.Expressions.{run}
use Rattle.lowered_frames.specs.Calls.{Called, by_name, by_pointer, built_in, words, bare, bare_built_in, object, pointer_on_top, pointer_and_result, pointer_below}
use Rattle.lowered_frames.specs.Closings.{close_call}
use Rattle.lowered_frames.specs.Left.{Left, before, expression, calling, closing, frames, temporaries}
use Rattle.lowered_notes.specs.Canonical.{numbers_of}
use Rattle.lowered_notes.proofs.Terms.{others_so}
use Rattle.lowered_steps.specs.Ahead.{AreTold, AlwaysRereads}
use Rattle.lowered_steps.proofs.Words.{first_told, others_told}

-- ---- terms

-- the first term, and those behind the second one
one_told : (ts : List Term) → AreTold ts → AreTold (first_word ts ∷ behind 2 ts)
one_told ts told = (first_told ts told, others_told (others ts) (others_told ts told))

pub two_so : (n : ℕ) (ts : List Term) → AreSo (suc (suc n)) ts → AreSo n (behind 2 ts)
two_so n ts so = others_so n (others ts) (others_so (suc n) ts so)

module _ (p : Program) (b : Bounds) (book : Book) (h : Held) (g : Setting) where
  abbrev stepped : Outcome → Outcome
  stepped = step_of p h.func no_answers

  abbrev unmoved : Outcome → Outcome
  unmoved o = o

  -- ---- the next word of a call

  module _ {m : Mode} {items : List Item} (d : Left g m items) (chain : List ScopeKind) (i : TNodeId) (ids : List TNodeId) (id : TNodeId)
      (x : is_void (node_in g i).typ ≡ false) where
    pub word_reads : (c : Called) (n : ℕ) (way : Way) → AlwaysRereads p b book h g (before (calling (words c n (i ∷ ids) id way)) d) chain
        (before (expression (run i Value (valued x))) (before (calling (words c (suc n) ids id way)) d)) chain stepped
    unfolding tree_in trees_in
    word_reads c n way v es ts known f = record {
      value = number 0;
      exceptions = es;
      terms = v ∷ ts;
      filled = record { all = f.all; so = f.so; types = f.types; knows = f.knows; comes = tt };
      told = λ one all. (refl, (one, all));
      place_is = refl;
      outcome_is = refl;
    }

  -- ---- the first word of a call through a pointer

  module _ {m : Mode} {items : List Item} (d : Left g m items) (outer : List ScopeKind) (i : TNodeId) (ids : List TNodeId) (id : TNodeId) (at : At)
      (sig : Signature)
      (x : is_void (node_in g i).typ ≡ false) where
    pub pointer_reads : (way : Way) → AlwaysRereads p b book h g (before (calling (pointer_on_top sig (i ∷ ids) id way at)) d) (Mark OfCall ∷ outer)
        (before (expression (run i Value (valued x))) (before (calling (words (by_pointer sig) 0 ids id way)) (before (closing (close_call at)) d)))
        (Mark OfCall ∷ outer) stepped
    unfolding tree_in trees_in
    pointer_reads way v es ts known f = record {
      value = number 0;
      exceptions = es;
      terms = v ∷ ts;
      filled = record { all = f.all; so = f.so; types = f.types; knows = f.knows; comes = tt };
      told = λ one all. (refl, (one, all));
      place_is = refl;
      outcome_is = refl;
    }

    pub pointed_reads : AlwaysRereads p b book h g (before (calling (pointer_below sig (i ∷ ids) id at)) d) (Mark OfCall ∷ outer)
        (before (expression (run i Value (valued x))) (before (calling (words (by_pointer sig) 1 ids id Into)) (before (closing (close_call at)) d)))
        (Mark OfCall ∷ outer) stepped
    unfolding tree_in trees_in
    pointed_reads v es ts known f = record {
      value = number 0;
      exceptions = es;
      terms = first_word ts ∷ v ∷ others ts;
      filled = record { all = f.all; so = others_so _ ts f.so; types = f.types; knows = f.knows; comes = tt };
      told = λ one all. (refl, (first_told ts all, (one, others_told ts all)));
      place_is = refl;
      outcome_is = refl;
    }

  -- ---- nodes that put their words

  module _ {m : Mode} {items : List Item} (d : Left g m items) (outer : List ScopeKind) (id : TNodeId) (t : Typ) (cat : Cat) (place at : At) where
    -- the outcome where the tree of the node is this one
    run_is : (way : Way) (a : After (node_in g id) way m) (v : Term) (es : List Exception) (ts : List Term) (w : Tree) → tree_in g id ≡ w
        → stepped (given p h.func no_answers (temporaries g d outer ts) v
        (Run (way_with way ts) (tree_in g id) ∷ frames g (numbers_of p h.func g) d outer es ts))
        ≡ stepped (given p h.func no_answers (temporaries g d outer ts) v (Run (way_with way ts) w ∷ frames g (numbers_of p h.func g) d outer es ts))
    run_is way a v es ts w is = ap (λ (z : Tree). stepped (given p h.func no_answers (temporaries g d outer ts) v
        (Run (way_with way ts) z ∷ frames g (numbers_of p h.func g) d outer es ts))) is

    into_is : (a : After (node_in g id) Into m) (v : Term) (es : List Exception) (ts : List Term) (w : Tree) → tree_in g id ≡ w
        → stepped (given p h.func no_answers (temporaries g d outer (behind 2 ts)) v
        (Run (way_with Into ts) (tree_in g id) ∷ frames g (numbers_of p h.func g) d outer es (behind 2 ts)))
        ≡ stepped (given p h.func no_answers (temporaries g d outer (behind 2 ts)) v
        (Run (way_with Into ts) w ∷ frames g (numbers_of p h.func g) d outer es (behind 2 ts)))
    into_is a v es ts w is = ap (λ (z : Tree). stepped (given p h.func no_answers (temporaries g d outer (behind 2 ts)) v
        (Run (way_with Into ts) z ∷ frames g (numbers_of p h.func g) d outer es (behind 2 ts)))) is

    -- a call without words
    pub bare_reads : (way : Way) (a : After (node_in g id) way m) → AlwaysRereads p b book h g (before (expression (run id way a)) d) outer
        (before (calling (bare id way at)) d) (Mark OfCall ∷ outer) unmoved
    bare_reads way a v es ts known f = record {
      value = v;
      exceptions = es;
      terms = ts;
      filled = record { all = f.all; so = f.so; types = f.types; knows = f.knows; comes = tt };
      told = λ one all. (one, all);
      place_is = refl;
      outcome_is = refl;
    }

    pub bare_built_in_reads : (a : After (node_in g id) Value m) → AlwaysRereads p b book h g (before (expression (run id Value a)) d) outer
        (before (calling (bare_built_in id Value)) d) outer unmoved
    bare_built_in_reads a v es ts known f = record {
      value = v;
      exceptions = es;
      terms = ts;
      filled = record { all = f.all; so = f.so; types = f.types; knows = f.knows; comes = tt };
      told = λ one all. (one, all);
      place_is = refl;
      outcome_is = refl;
    }

    module _ (i : TNodeId) (ids : List TNodeId) (x : is_void (node_in g i).typ ≡ false) where
      -- the first word is run
      abbrev first_run : (c : Called) (n : ℕ) (way : Way) → Left g gone (RunIt i Value ∷ all_run Value ids (Invoke id way ∷ Close OfCall at ∷ items))
      first_run c n way = before (expression (run i Value (valued x))) (before (calling (words c n ids id way)) (before (closing (close_call at)) d))

      pub call_reads : (func : ℕ) (a : After (node_in g id) Value m) → tree_in g id ≡ node (CallOf func) t cat place (trees_in g (i ∷ ids))
          → AlwaysRereads p b book h g (before (expression (run id Value a)) d) outer (first_run (by_name func) 0 Value) (Mark OfCall ∷ outer) stepped
      unfolding tree_in trees_in
      call_reads func a is v es ts known f = record {
        value = number 0;
        exceptions = es;
        terms = ts;
        filled = record { all = f.all; so = f.so; types = f.types; knows = f.knows; comes = tt };
        told = λ one all. (refl, all);
        place_is = refl;
        outcome_is = run_is Value a v es ts (node (CallOf func) t cat place (trees_in g (i ∷ ids))) is;
      }

      pub class_call_reads : (func : ℕ) (a : After (node_in g id) Into m) → tree_in g id ≡ node (CallOf func) t cat place (trees_in g (i ∷ ids))
          → AlwaysRereads p b book h g (before (expression (run id Into a)) d) outer (first_run (by_name func) 1 Into) (Mark OfCall ∷ outer) stepped
      unfolding tree_in trees_in
      class_call_reads func a is v es ts known f = record {
        value = number 0;
        exceptions = es;
        terms = first_word ts ∷ behind 2 ts;
        filled = record { all = f.all; so = two_so _ ts f.so; types = f.types; knows = f.knows; comes = tt };
        told = λ one all. (refl, one_told ts all);
        place_is = refl;
        outcome_is = into_is a v es ts (node (CallOf func) t cat place (trees_in g (i ∷ ids))) is;
      }

      pub construct_reads : (func : ℕ) (a : After (node_in g id) Into m) → tree_in g id ≡ node (Construct func) t cat place (trees_in g (i ∷ ids))
          → AlwaysRereads p b book h g (before (expression (run id Into a)) d) outer (first_run (by_name func) 1 Into) (Mark OfCall ∷ outer) stepped
      unfolding tree_in trees_in
      construct_reads func a is v es ts known f = record {
        value = number 0;
        exceptions = es;
        terms = first_word ts ∷ behind 2 ts;
        filled = record { all = f.all; so = two_so _ ts f.so; types = f.types; knows = f.knows; comes = tt };
        told = λ one all. (refl, one_told ts all);
        place_is = refl;
        outcome_is = into_is a v es ts (node (Construct func) t cat place (trees_in g (i ∷ ids))) is;
      }

      pub built_in_reads : (which : Builtin) (a : After (node_in g id) Value m) → tree_in g id ≡ node (BuiltinCall which) t cat place (trees_in g (i ∷ ids))
          → AlwaysRereads p b book h g (before (expression (run id Value a)) d) outer
          (before (expression (run i Value (valued x))) (before (calling (words (built_in which) 0 ids id Value)) d)) outer stepped
      unfolding tree_in trees_in
      built_in_reads which a is v es ts known f = record {
        value = number 0;
        exceptions = es;
        terms = ts;
        filled = record { all = f.all; so = f.so; types = f.types; knows = f.knows; comes = tt };
        told = λ one all. (refl, all);
        place_is = refl;
        outcome_is = run_is Value a v es ts (node (BuiltinCall which) t cat place (trees_in g (i ∷ ids))) is;
      }

      -- the object of a virtual call
      module _ (func class slot offset : ℕ) (is : (node_in g id).kind ≡ VirtualCall func class slot offset) where
        pub virtual_reads : (a : After (node_in g id) Value m) → tree_in g id ≡ node (VirtualCall func class slot offset) t cat place (trees_in g (i ∷ ids))
            → AlwaysRereads p b book h g (before (expression (run id Value a)) d) outer
            (before (expression (run i Value (valued x))) (before (calling (object id Value ids at func class slot offset is)) d)) (Mark OfCall ∷ outer) stepped
        unfolding tree_in trees_in
        virtual_reads a e v es ts known f = record {
          value = number 0;
          exceptions = es;
          terms = ts;
          filled = record { all = f.all; so = f.so; types = f.types; knows = f.knows; comes = tt };
          told = λ one all. (refl, all);
          place_is = refl;
          outcome_is = run_is Value a v es ts (node (VirtualCall func class slot offset) t cat place (trees_in g (i ∷ ids))) e;
        }

        pub class_virtual_reads : (a : After (node_in g id) Into m)
            → tree_in g id ≡ node (VirtualCall func class slot offset) t cat place (trees_in g (i ∷ ids))
            → AlwaysRereads p b book h g (before (expression (run id Into a)) d) outer
            (before (expression (run i Value (valued x))) (before (calling (object id Into ids at func class slot offset is)) d)) (Mark OfCall ∷ outer) stepped
        unfolding tree_in trees_in
        class_virtual_reads a e v es ts known f = record {
          value = number 0;
          exceptions = es;
          terms = first_word ts ∷ behind 2 ts;
          filled = record { all = f.all; so = two_so _ ts f.so; types = f.types; knows = f.knows; comes = tt };
          told = λ one all. (refl, one_told ts all);
          place_is = refl;
          outcome_is = into_is a v es ts (node (VirtualCall func class slot offset) t cat place (trees_in g (i ∷ ids))) e;
        }

      -- the pointer of a call through it
      pub pointer_call_reads : (a : After (node_in g id) Value m) → tree_in g id ≡ node PointerCall t cat place (trees_in g (i ∷ ids))
          → AlwaysRereads p b book h g (before (expression (run id Value a)) d) outer
          (before (expression (run i Value (valued x))) (before (calling (pointer_on_top (called_signature (typ_in (tree_in g i))) ids id Value at)) d))
          (Mark OfCall ∷ outer) stepped
      unfolding tree_in trees_in
      pointer_call_reads a is v es ts known f = record {
        value = number 0;
        exceptions = es;
        terms = ts;
        filled = record { all = f.all; so = f.so; types = f.types; knows = f.knows; comes = tt };
        told = λ one all. (refl, all);
        place_is = refl;
        outcome_is = run_is Value a v es ts (node PointerCall t cat place (trees_in g (i ∷ ids))) is;
      }

      pub class_pointer_call_reads : (a : After (node_in g id) Into m) (swap : At) → tree_in g id ≡ node PointerCall t cat place (trees_in g (i ∷ ids))
          → AlwaysRereads p b book h g (before (expression (run id Into a)) d) outer
          (before (expression (run i Value (valued x))) (before (calling (pointer_and_result (called_signature (typ_in (tree_in g i))) ids id swap at)) d))
          (Mark OfCall ∷ outer) stepped
      unfolding tree_in trees_in
      class_pointer_call_reads a swap is v es ts known f = record {
        value = number 0;
        exceptions = es;
        terms = first_word ts ∷ behind 2 ts;
        filled = record { all = f.all; so = two_so _ ts f.so; types = f.types; knows = f.knows; comes = tt };
        told = λ one all. (refl, one_told ts all);
        place_is = refl;
        outcome_is = into_is a v es ts (node PointerCall t cat place (trees_in g (i ∷ ids))) is;
      }
