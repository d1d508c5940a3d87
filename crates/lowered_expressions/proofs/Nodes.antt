-- Nodes that put their kids and what follows them: where the tree of the node is known, the source takes a silent step to the first kid.
use Rattle.std.proofs.Common.{◌≡◌, refl, ap, Bool, true, false, List, ◌∷◌}
use Rattle.tx_ints.specs.declared.kinds.IntKind.{IntKind}
use Rattle.tx_ints.specs.declared.kinds.BinOp.{BinOp}
use Rattle.cpp_tree.specs.cpp_types.Typ.{Typ}
use Rattle.cpp_tree.specs.cpp_types.declared.classes.At.{At}
use Rattle.cpp_tree.specs.cpp_types.declared.ranks.Cat.{Cat}
use Rattle.cpp_tree.specs.declared.arena.TNodeId.{TNodeId}
use Rattle.cpp_tree.specs.declared.kinds.TKind.{TKind}
use Rattle.cpp_tree.specs.declared.kinds.TKind.TheVariants.{Load, Convert, Retype, Binary, Conditional, Comma, Assign, Update, CopyAssign}
use Rattle.cpp_tree.specs.Trees.{Tree, Trees, node, one, two, three}
use Rattle.low_code.specs.declared.scopes.ScopeKind.{ScopeKind}
use Rattle.low_code.specs.Nodes.{kid_in}
use Rattle.low_code.specs.Types.{is_void}
use Rattle.src_mean.specs.Linked.{Program}
use Rattle.symbolic_source.specs.Terms.{Term, number, Exception}
use Rattle.symbolic_source.specs.Frames.{Run}
use Rattle.symbolic_source.specs.Outcomes.{Outcome}
use Rattle.symbolic_source.specs.Steps.{given, step_of}
use Rattle.body_check.specs.Notes.{Bounds, no_answers}
use Rattle.body_check.specs.Calls.{Book}
use Rattle.body_check.specs.Linked.{Held}
use Rattle.unwind_lower.specs.declared.items.Item.{Item}
use Rattle.unwind_lower.specs.declared.items.Way.{Way}
use Rattle.unwind_lower.specs.declared.items.Way.TheVariants.{Value, Dropped}
use Rattle.unwind_lower.specs.Settings.{Setting, node_in}
use Rattle.lowered_frames.specs.Lists.{behind}
use Rattle.lowered_frames.specs.Modes.{Mode, top, gone, After, dropped, way_with, way_count, tree_in}
use Rattle.lowered_frames.specs.Expressions.{run, next, loads, converts, right, assign_to, update_new, update_old, copy_to, branch}
use Rattle.lowered_frames.specs.Left.{Left, frames, temporaries}
use Rattle.lowered_notes.specs.Canonical.{numbers_of}
use Rattle.lowered_steps.specs.Ahead.{comes_of}
use Rattle.lowered_expressions.specs.Heads.{led}
use Rattle.lowered_expressions.proofs.Readings.{Later}

module _ (p : Program) (b : Bounds) (book : Book) (h : Held) (g : Setting) (chain : List ScopeKind) where
  module _ {m : Mode} {items : List Item} (d : Left g m items) (id : TNodeId) (way : Way) (a : After (node_in g id) way m) (t : Typ) (cat : Cat) (place : At) where
    -- what comes of the node, where this is its tree
    pub tree_comes : (v : Term) (es : List Exception) (ts : List Term) (kind : TKind) (kids : Trees) → tree_in g id ≡ node kind t cat place kids
        → comes_of p b book h g (led (run id way a) d) chain v es ts
        ≡ given p h.func no_answers (temporaries g d chain (behind (way_count way) ts)) v (Run (way_with way ts) (node kind t cat place kids)
        ∷ frames g (numbers_of p h.func g) d chain es (behind (way_count way) ts))
    tree_comes v es ts kind kids is = ap (λ (z : Tree). given p h.func no_answers (temporaries g d chain (behind (way_count way) ts)) v (Run (way_with way ts) z
        ∷ frames g (numbers_of p h.func g) d chain es (behind (way_count way) ts))) is

    pub comma_reads : (i j : TNodeId) (y : After (node_in g j) way m) → tree_in g id ≡ node Comma t cat place (two (tree_in g i) (tree_in g j))
        → Later p b book h g chain (led (run id way a) d) (led (run i Dropped dropped) (led (next j way y) d))
    comma_reads i j y is v es ts known f = record {
      value = number 0;
      exceptions = es;
      terms = ts;
      filled = record { all = f.all; so = f.so; types = f.types; knows = f.knows; comes = tt };
      told = λ r u. (refl, u);
      place_is = refl;
      outcome_is = ap (λ (z : Outcome). step_of p h.func no_answers z) (tree_comes v es ts Comma (two (tree_in g i) (tree_in g j)) is);
    }

    -- both branches leave their value as the whole does
    pub conditional_reads : (i : TNodeId) (x : After (node_in g i) Value top) (y : After (node_in g (kid_in (node_in g id).kids 1)) way m)
        (z : After (node_in g (kid_in (node_in g id).kids 2)) way m)
        → tree_in g id ≡ node Conditional t cat place (three (tree_in g i) (tree_in g (kid_in (node_in g id).kids 1)) (tree_in g (kid_in (node_in g id).kids 2)))
        → Later p b book h g chain (led (run id way a) d) (led (run i Value x) (led (branch id way y z) d))
    conditional_reads i x y z is v es ts known f = record {
      value = number 0;
      exceptions = es;
      terms = ts;
      filled = record { all = f.all; so = f.so; types = f.types; knows = f.knows; comes = tt };
      told = λ r u. (refl, u);
      place_is = refl;
      outcome_is = ap (λ (z : Outcome). step_of p h.func no_answers z)
          (tree_comes v es ts Conditional (three (tree_in g i) (tree_in g (kid_in (node_in g id).kids 1)) (tree_in g (kid_in (node_in g id).kids 2))) is);
    }

  -- nodes without a value
  module _ {items : List Item} (d : Left g gone items) (id : TNodeId) (a : After (node_in g id) Value gone) (t : Typ) (cat : Cat) (place : At) where
    -- the branches of a conditional are run for what they do
    pub void_conditional_reads : (i : TNodeId) (x : After (node_in g i) Value top)
        → tree_in g id ≡ node Conditional t cat place (three (tree_in g i) (tree_in g (kid_in (node_in g id).kids 1)) (tree_in g (kid_in (node_in g id).kids 2)))
        → Later p b book h g chain (led (run id Value a) d) (led (run i Value x) (led (branch id Dropped dropped dropped) d))
    void_conditional_reads i x is v es ts known f = record {
      value = number 0;
      exceptions = es;
      terms = ts;
      filled = record { all = f.all; so = f.so; types = f.types; knows = f.knows; comes = tt };
      told = λ r u. (refl, u);
      place_is = refl;
      outcome_is = ap (λ (z : Outcome). step_of p h.func no_answers z)
          (tree_comes d id Value a t cat place v es ts Conditional
          (three (tree_in g i) (tree_in g (kid_in (node_in g id).kids 1)) (tree_in g (kid_in (node_in g id).kids 2))) is);
    }

    pub void_retype_reads : (i : TNodeId) → tree_in g id ≡ node Retype t cat place (one (tree_in g i))
        → Later p b book h g chain (led (run id Value a) d) (led (run i Dropped dropped) d)
    void_retype_reads i is v es ts known f = record {
      value = number 0;
      exceptions = es;
      terms = ts;
      filled = record { all = f.all; so = f.so; types = f.types; knows = f.knows; comes = tt };
      told = λ r u. (refl, u);
      place_is = refl;
      outcome_is = ap (λ (z : Outcome). step_of p h.func no_answers z) (tree_comes d id Value a t cat place v es ts Retype (one (tree_in g i)) is);
    }

  -- nodes with a value
  module _ {items : List Item} (d : Left g top items) (id : TNodeId) (a : After (node_in g id) Value top) (t : Typ) (cat : Cat) (place : At) (i : TNodeId)
      (x : After (node_in g i) Value top) where
    pub load_reads : (kind : IntKind) (volatile : Bool) (at : At) → tree_in g id ≡ node (Load kind volatile) t cat place (one (tree_in g i))
        → Later p b book h g chain (led (run id Value a) d) (led (run i Value x) (led (loads kind volatile at) d))
    load_reads kind volatile at is v es ts known f = record {
      value = number 0;
      exceptions = es;
      terms = ts;
      filled = record { all = f.all; so = f.so; types = f.types; knows = f.knows; comes = tt };
      told = λ r u. (refl, u);
      place_is = refl;
      outcome_is = ap (λ (z : Outcome). step_of p h.func no_answers z) (tree_comes d id Value a t cat place v es ts (Load kind volatile) (one (tree_in g i)) is);
    }

    pub convert_reads : (to : IntKind) (at : At) → tree_in g id ≡ node (Convert to) t cat place (one (tree_in g i))
        → Later p b book h g chain (led (run id Value a) d) (led (run i Value x) (led (converts to at) d))
    convert_reads to at is v es ts known f = record {
      value = number 0;
      exceptions = es;
      terms = ts;
      filled = record { all = f.all; so = f.so; types = f.types; knows = f.knows; comes = tt };
      told = λ r u. (refl, u);
      place_is = refl;
      outcome_is = ap (λ (z : Outcome). step_of p h.func no_answers z) (tree_comes d id Value a t cat place v es ts (Convert to) (one (tree_in g i)) is);
    }

    pub retype_reads : tree_in g id ≡ node Retype t cat place (one (tree_in g i)) → Later p b book h g chain (led (run id Value a) d) (led (run i Value x) d)
    retype_reads is v es ts known f = record {
      value = number 0;
      exceptions = es;
      terms = ts;
      filled = record { all = f.all; so = f.so; types = f.types; knows = f.knows; comes = tt };
      told = λ r u. (refl, u);
      place_is = refl;
      outcome_is = ap (λ (z : Outcome). step_of p h.func no_answers z) (tree_comes d id Value a t cat place v es ts Retype (one (tree_in g i)) is);
    }

    module _ (j : TNodeId) (y : is_void (node_in g j).typ ≡ false) (at : At) where
      pub binary_reads : (op : BinOp) (kind : IntKind) → tree_in g id ≡ node (Binary op kind) t cat place (two (tree_in g i) (tree_in g j))
          → Later p b book h g chain (led (run id Value a) d) (led (run i Value x) (led (right op kind j at y) d))
      binary_reads op kind is v es ts known f = record {
        value = number 0;
        exceptions = es;
        terms = ts;
        filled = record { all = f.all; so = f.so; types = f.types; knows = f.knows; comes = tt };
        told = λ r u. (refl, u);
        place_is = refl;
        outcome_is = ap (λ (z : Outcome). step_of p h.func no_answers z)
            (tree_comes d id Value a t cat place v es ts (Binary op kind) (two (tree_in g i) (tree_in g j)) is);
      }

      pub assign_reads : (kind : IntKind) (volatile : Bool) → tree_in g id ≡ node (Assign kind volatile) t cat place (two (tree_in g i) (tree_in g j))
          → Later p b book h g chain (led (run id Value a) d) (led (run i Value x) (led (assign_to kind volatile j at y) d))
      assign_reads kind volatile is v es ts known f = record {
        value = number 0;
        exceptions = es;
        terms = ts;
        filled = record { all = f.all; so = f.so; types = f.types; knows = f.knows; comes = tt };
        told = λ r u. (refl, u);
        place_is = refl;
        outcome_is = ap (λ (z : Outcome). step_of p h.func no_answers z)
            (tree_comes d id Value a t cat place v es ts (Assign kind volatile) (two (tree_in g i) (tree_in g j)) is);
      }

      pub update_reads : (op : BinOp) (stored operation : IntKind) (volatile : Bool)
          → tree_in g id ≡ node (Update op stored operation volatile false) t cat place (two (tree_in g i) (tree_in g j))
          → Later p b book h g chain (led (run id Value a) d) (led (run i Value x)
          (led (update_new (record { op = op; stored = stored; operation = operation; volatile = volatile; old = false }) j at refl y) d))
      update_reads op stored operation volatile is v es ts known f = record {
        value = number 0;
        exceptions = es;
        terms = ts;
        filled = record { all = f.all; so = f.so; types = f.types; knows = f.knows; comes = tt };
        told = λ r u. (refl, u);
        place_is = refl;
        outcome_is = ap (λ (z : Outcome). step_of p h.func no_answers z)
            (tree_comes d id Value a t cat place v es ts (Update op stored operation volatile false) (two (tree_in g i) (tree_in g j)) is);
      }

      -- where the old value is the whole's
      pub old_update_reads : (op : BinOp) (stored operation : IntKind) (volatile : Bool)
          → tree_in g id ≡ node (Update op stored operation volatile true) t cat place (two (tree_in g i) (tree_in g j))
          → Later p b book h g chain (led (run id Value a) d) (led (run i Value x)
          (led (update_old (record { op = op; stored = stored; operation = operation; volatile = volatile; old = true }) j at refl y) d))
      old_update_reads op stored operation volatile is v es ts known f = record {
        value = number 0;
        exceptions = es;
        terms = ts;
        filled = record { all = f.all; so = f.so; types = f.types; knows = f.knows; comes = tt };
        told = λ r u. (refl, u);
        place_is = refl;
        outcome_is = ap (λ (z : Outcome). step_of p h.func no_answers z)
            (tree_comes d id Value a t cat place v es ts (Update op stored operation volatile true) (two (tree_in g i) (tree_in g j)) is);
      }

      pub copy_assign_reads : (l : TNodeId) → tree_in g id ≡ node CopyAssign t cat place (three (tree_in g i) (tree_in g j) (tree_in g l))
          → Later p b book h g chain (led (run id Value a) d) (led (run i Value x) (led (copy_to j l at y) d))
      copy_assign_reads l is v es ts known f = record {
        value = number 0;
        exceptions = es;
        terms = ts;
        filled = record { all = f.all; so = f.so; types = f.types; knows = f.knows; comes = tt };
        told = λ r u. (refl, u);
        place_is = refl;
        outcome_is = ap (λ (z : Outcome). step_of p h.func no_answers z)
            (tree_comes d id Value a t cat place v es ts CopyAssign (three (tree_in g i) (tree_in g j) (tree_in g l)) is);
      }
