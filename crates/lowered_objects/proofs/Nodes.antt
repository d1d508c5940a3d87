-- Nodes that make objects: what is left where they are to be run, and where what they put is.
use Rattle.std.proofs.Common.{ℕ, ◌≡◌, ◌+◌, ◌≤◌, inl, refl, ap, ap₂, sym, ◌∙◌, Bool, true, false, not, List, [], ◌∷◌, arith}
use Rattle.std.specs.Prelude.{length}
use Rattle.cpp_tree.specs.Trees.{Tree, Trees, node, rest}
use Rattle.cpp_tree.specs.cpp_types.Typ.{Typ}
use Rattle.cpp_tree.specs.cpp_types.declared.classes.At.{At}
use Rattle.cpp_tree.specs.cpp_types.declared.ranks.Cat.{Cat}
use Rattle.cpp_tree.specs.declared.arena.TNodeId.{TNodeId}
use Rattle.cpp_tree.specs.declared.kinds.TKind.{TKind}
use Rattle.cpp_tree.specs.declared.kinds.TKind.TheVariants.{Materialize, Init, Defer, Pieces, FullExpression, Block as BlockNode}
use Rattle.tx_code.specs.declared.instr.Instr.TheVariants.{FrameAddr}
use Rattle.low_code.specs.declared.scopes.Owner.TheVariants.{Block as OfBlock, Full as OfFull, Parts as OfParts}
use Rattle.low_code.specs.declared.scopes.Address.TheVariants.{Node as OfNode}
use Rattle.low_code.specs.declared.scopes.ScopeKind.{ScopeKind}
use Rattle.low_code.specs.declared.scopes.ScopeKind.TheVariants.{Waits, Mark}
use Rattle.low_code.specs.Nodes.{kid_in}
use Rattle.low_code.specs.Types.{is_void}
use Rattle.src_mean.specs.Linked.{Program}
use Rattle.src_mean.specs.Frames.{of_block, of_call}
use Rattle.symbolic_source.specs.Terms.{Term, number, local, Exception}
use Rattle.symbolic_source.specs.Frames.{Waiting, at_word, at_tree, value, into, Run, Keeps, Gives, InitAt, Full}
use Rattle.symbolic_source.specs.Frames.{Waits as WaitsFor}
use Rattle.symbolic_source.specs.Outcomes.{Outcome}
use Rattle.symbolic_source.specs.Steps.{given, step_of, place_of}
use Rattle.symbolic_code.specs.Facts.{Fact}
use Rattle.body_check.specs.Notes.{Bounds, no_answers}
use Rattle.body_check.specs.Calls.{Book}
use Rattle.body_check.specs.Linked.{Held}
use Rattle.unwind_lower.specs.declared.items.Way.{Way}
use Rattle.unwind_lower.specs.declared.items.Way.TheVariants.{Value, Into, Copying, Dropped}
use Rattle.unwind_lower.specs.declared.items.Item.{Item}
use Rattle.unwind_lower.specs.Settings.{Setting, node_in, place_in}
use Rattle.unwind_lower.specs.Kids.{kids_from}
use Rattle.lowered_frames.specs.Lists.{behind}
use Rattle.lowered_frames.specs.Modes.{Mode, gone, top, After, valued, dropped, built, copied, way_with, way_count, tree_in, trees_in, IsBare}
use Rattle.lowered_frames.specs.Expressions.{run}
use Rattle.lowered_frames.specs.Objects.{temporary_made, argument_made, init_plain, init_member, parts}
use Rattle.lowered_frames.specs.Closings.{close_block, close_full}
use Rattle.lowered_frames.specs.Statements.{rest_of_block}
use Rattle.lowered_frames.specs.Left.{Left, before, expression, making, closing, statement, frames, temporaries}
use Rattle.lowered_frames.proofs.Trees.{first_is, second_is, rest_is}
use Rattle.lowered_notes.specs.Canonical.{numbers_of}
use Rattle.lowered_steps.specs.Ahead.{comes_of, Fitting, Ahead, Filled, AlwaysRereads}
use Rattle.lowered_steps.proofs.Landings.{quiet_landing}
use Rattle.lowered_objects.specs.Scopes.{receives}
use Rattle.lowered_objects.proofs.Alike.{filled_alike, place_alike}
use Rattle.lowered_objects.proofs.Received.{Received, received}
use Rattle.lowered_objects.proofs.Lists.{above, trees_more, trees_none, put_into_its, rest_twice_is}

module _ (p : Program) (b : Bounds) (book : Book) (h : Held) (g : Setting) where
  abbrev stepped : Outcome → Outcome
  stepped = step_of p h.func no_answers

  abbrev after_two : Outcome → Outcome
  after_two o = stepped (stepped o)

  module _ {m : Mode} {items : List Item} (d : Left g m items) (chain : List ScopeKind) (id : TNodeId) (t : Typ) (cat : Cat) (place : At) where
    abbrev kids : List TNodeId
    kids = (node_in g id).kids

    -- the outcome where the tree of the node is this one
    run_is : (way : Way) (a : After (node_in g id) way m) (v : Term) (es : List Exception) (ts : List Term) (kind : TKind) → tree_in g id ≡ node kind t cat place (trees_in g kids)
        → stepped (comes_of p b book h g (before (expression (run id way a)) d) chain v es ts)
        ≡ stepped (given p h.func no_answers (temporaries g d chain (behind (way_count way) ts)) v
        (Run (way_with way ts) (node kind t cat place (trees_in g kids)) ∷ frames g (numbers_of p h.func g) d chain es (behind (way_count way) ts)))
    run_is way a v es ts kind is = ap (λ (z : Tree). stepped (given p h.func no_answers (temporaries g d chain (behind (way_count way) ts)) v
        (Run (way_with way ts) z ∷ frames g (numbers_of p h.func g) d chain es (behind (way_count way) ts)))) is

    -- a full-expression
    pub full_reads : (way : Way) (a : After (node_in g id) way m) (x : After (node_in g (kid_in kids 0)) way m) (at : At)
        → tree_in g id ≡ node FullExpression t cat place (trees_in g kids) → 1 ≤ length kids
        → AlwaysRereads p b book h g (before (expression (run id way a)) d) chain
        (before (expression (run (kid_in kids 0) way x)) (before (closing (close_full at)) d)) (Mark OfFull ∷ chain) stepped
    full_reads way a x at is some v es ts known f = record {
      value = number 0;
      exceptions = es;
      terms = ts;
      filled = record { all = f.all; so = f.so; types = f.types; knows = f.knows; comes = tt };
      told = λ one all. (refl, all);
      place_is = refl;
      outcome_is = run_is way a v es ts FullExpression is
          ∙ ap (λ (z : Tree). given p h.func no_answers [] (number 0) (Run (way_with way ts) z ∷ Full (temporaries g d chain (behind (way_count way) ts))
          ∷ frames g (numbers_of p h.func g) d chain es (behind (way_count way) ts))) (first_is g kids some);
    }

  -- a block, run for what it does
  module _ {m : Mode} {items : List Item} (d : Left g m items) (chain : List ScopeKind) (id : TNodeId) (a : After (node_in g id) Dropped m) (bare : IsBare m)
      (t : Typ) (cat : Cat) (place : At) where
    pub block_reads : (subobjects : Bool) (at : At) → tree_in g id ≡ node (BlockNode subobjects) t cat place (trees_in g (node_in g id).kids)
        → AlwaysRereads p b book h g (before (expression (run id Dropped a)) d) chain
        (before (statement (rest_of_block (node_in g id).kids bare)) (before (closing (close_block (not subobjects) at)) d)) (Mark OfBlock ∷ chain) stepped
    block_reads subobjects at is v es ts known f = record {
      value = number 0;
      exceptions = es;
      terms = ts;
      filled = record { all = f.all; so = f.so; types = f.types; knows = f.knows; comes = tt };
      told = λ one all. (refl, all);
      place_is = refl;
      outcome_is = run_is d chain id t cat place Dropped a v es ts (BlockNode subobjects) is;
    }

  -- ---- initialisations

  module _ {items : List Item} (d : Left g gone items) (chain : List ScopeKind) (id : TNodeId) (t : Typ) (cat : Cat) (place : At)
      (is : tree_in g id ≡ node Init t cat place (trees_in g (node_in g id).kids)) (two : 2 ≤ length (node_in g id).kids)
      (x : is_void (node_in g (kid_in (node_in g id).kids 0)).typ ≡ false) where
    abbrev parts_of : List TNodeId
    parts_of = (node_in g id).kids

    at_least_one : (n : ℕ) → 2 ≤ n → 1 ≤ n
    at_least_one n e = omega (arith, e)

    init_comes : (v : Term) (es : List Exception) (ts : List Term) → stepped (comes_of p b book h g (before (expression (run id Dropped dropped)) d) chain v es ts)
        ≡ given p h.func no_answers (temporaries g d chain ts) (number 0) (Run value (tree_in g (kid_in parts_of 0))
        ∷ InitAt (tree_in g (kid_in parts_of 1)) (trees_in g (kids_from (node_in g id) 2)) ∷ frames g (numbers_of p h.func g) d chain es ts)
    init_comes v es ts = run_is d chain id t cat place Dropped dropped v es ts Init is
        ∙ ap₂ (λ (y z : Tree). given p h.func no_answers (temporaries g d chain ts) (number 0) (Run value y
        ∷ InitAt z (rest (rest (trees_in g parts_of))) ∷ frames g (numbers_of p h.func g) d chain es ts))
        (first_is g parts_of (at_least_one (length parts_of) two)) (second_is g parts_of two)
        ∙ ap (λ (z : Trees). given p h.func no_answers (temporaries g d chain ts) (number 0) (Run value (tree_in g (kid_in parts_of 0))
        ∷ InitAt (tree_in g (kid_in parts_of 1)) z ∷ frames g (numbers_of p h.func g) d chain es ts)) (rest_twice_is g parts_of)

    pub init_plain_begins : (simple : kids_from (node_in g id) 2 ≡ [])
        → AlwaysRereads p b book h g (before (expression (run id Dropped dropped)) d) chain
        (before (expression (run (kid_in parts_of 0) Value (valued x))) (before (making (init_plain id simple)) d)) chain stepped
    init_plain_begins simple v es ts known f = record {
      value = number 0;
      exceptions = es;
      terms = ts;
      filled = record { all = f.all; so = f.so; types = f.types; knows = f.knows; comes = tt };
      told = λ one all. (refl, all);
      place_is = refl;
      outcome_is = init_comes v es ts
          ∙ ap (λ (z : Trees). given p h.func no_answers (temporaries g d chain ts) (number 0) (Run value (tree_in g (kid_in parts_of 0))
          ∷ InitAt (tree_in g (kid_in parts_of 1)) z ∷ frames g (numbers_of p h.func g) d chain es ts)) (trees_none g _ simple);
    }

    pub init_member_begins : (at : At)
        → AlwaysRereads p b book h g (before (expression (run id Dropped dropped)) d) chain
        (before (expression (run (kid_in parts_of 0) Value (valued x))) (before (making (init_member id at)) d)) chain stepped
    init_member_begins at v es ts known f = record {
      value = number 0;
      exceptions = es;
      terms = ts;
      filled = record { all = f.all; so = f.so; types = f.types; knows = f.knows; comes = tt };
      told = λ one all. (refl, all);
      place_is = refl;
      outcome_is = init_comes v es ts;
    }

  -- ---- what waits at once

  module _ {items : List Item} (d : Left g gone items) (chain : List ScopeKind) (id : TNodeId) (t : Typ) (cat : Cat) (place : At)
      (is : tree_in g id ≡ node Defer t cat place (trees_in g (node_in g id).kids)) (some : 1 ≤ length (node_in g id).kids)
      (c : TNodeId) (cs : List TNodeId) (rows : kids_from (node_in g id) 1 ≡ c ∷ cs) (receiving : receives g OfBlock d ≡ true) where
    abbrev deferred : ScopeKind
    deferred = Waits OfBlock true (OfNode (kid_in (node_in g id).kids 0)) id 1

    deferred_received : Received g (numbers_of p h.func g) OfBlock true (OfNode (kid_in (node_in g id).kids 0)) id 1 refl d chain
    deferred_received = received g (numbers_of p h.func g) true (OfNode (kid_in (node_in g id).kids 0)) id 1 refl OfBlock d chain receiving

    pub defer_reads : AlwaysRereads p b book h g (before (expression (run id Dropped dropped)) d) chain d (deferred ∷ chain) after_two
    defer_reads v es ts known f = record {
      value = number 0;
      exceptions = es;
      terms = ts;
      filled = filled_alike p b book h g d chain (deferred ∷ chain) deferred_received.alike (number 0) es ts known
          (record { all = f.all; so = f.so; types = f.types; knows = f.knows; comes = tt });
      told = λ one all. (refl, all);
      place_is = place_alike p b book h g d chain (deferred ∷ chain) deferred_received.alike v es ts;
      outcome_is = ap (λ (z : Outcome). stepped z) (run_is d chain id t cat place Dropped dropped v es ts Defer is)
          ∙ ap₂ (λ (y : Tree) (z : Trees). stepped (given p h.func no_answers (temporaries g d chain ts) (number 0) (WaitsFor of_block (at_tree y) z
          ∷ frames g (numbers_of p h.func g) d chain es ts))) (first_is g (node_in g id).kids some) (rest_is g (node_in g id).kids)
          ∙ put_into_its p h.func no_answers (temporaries g d chain ts) (number 0) of_block (at_tree (tree_in g (kid_in (node_in g id).kids 0)))
          (trees_in g (kids_from (node_in g id) 1)) (frames g (numbers_of p h.func g) d chain es ts) (frames g (numbers_of p h.func g) d (deferred ∷ chain) es ts)
          (tree_in g c) (trees_in g cs) (trees_more g _ c cs rows) (deferred_received.put es ts)
          ∙ ap (λ (z : List Waiting). given p h.func no_answers z (number 0) (frames g (numbers_of p h.func g) d (deferred ∷ chain) es ts)) (sym (deferred_received.temporaries_so ts));
    }

  -- ---- parts

  module _ {items : List Item} (d : Left g gone items) (chain : List ScopeKind) (id : TNodeId) (t : Typ) (cat : Cat) (place : At)
      (is : tree_in g id ≡ node Pieces t cat place (trees_in g (node_in g id).kids)) (at : At) where
    pub pieces_reads : AlwaysRereads p b book h g (before (expression (run id Into built)) d) chain
        (before (making (parts Into (node_in g id).kids at tt)) d) (Mark OfParts ∷ chain) stepped
    pieces_reads v es ts known f = record {
      value = number 0;
      exceptions = es;
      terms = ts;
      filled = record { all = f.all; so = f.so; types = f.types; knows = f.knows; comes = tt };
      told = λ one all. (refl, all);
      place_is = refl;
      outcome_is = run_is d chain id t cat place Into built v es ts Pieces is;
    }

    pub copied_pieces_reads : AlwaysRereads p b book h g (before (expression (run id Copying copied)) d) chain
        (before (making (parts Copying (node_in g id).kids at tt)) d) (Mark OfParts ∷ chain) stepped
    copied_pieces_reads v es ts known f = record {
      value = number 0;
      exceptions = es;
      terms = ts;
      filled = record { all = f.all; so = f.so; types = f.types; knows = f.knows; comes = tt };
      told = λ one all. (refl, all);
      place_is = refl;
      outcome_is = run_is d chain id t cat place Copying copied v es ts Pieces is;
    }

  -- ---- temporaries and arguments: the address comes on top

  module _ {items : List Item} (d : Left g top items) (chain : List ScopeKind) (id : TNodeId) (x : is_void (node_in g id).typ ≡ false) (t : Typ) (cat : Cat) (where_it_is at : At)
      (place : ℕ) (some : 1 ≤ length (node_in g id).kids) (lies : place_of p h.func no_answers place ≡ local (place_in g place))
      (v : Term) (es : List Exception) (ts : List Term) (known : List Fact) (lead rank index after : ℕ)
      (f : Filled p b book h g (before (expression (run id Value (valued x))) d) chain v es ts known) (short : lead + 1 ≤ b.longest) where
    pub temporary_fits : (kind : (node_in g id).kind ≡ Materialize place false) → tree_in g id ≡ node (Materialize place false) t cat where_it_is (trees_in g (node_in g id).kids)
        → Ahead p b book h g (before (expression (run (kid_in (node_in g id).kids 0) Into built)) (before (making (temporary_made id place at kind)) d)) chain (index + 1) after
        → Fitting p b book h g (before (expression (run id Value (valued x))) d) chain v es ts known lead rank index (FrameAddr (place_in g place))
    temporary_fits kind is a = quiet_landing p b book h g (before (expression (run (kid_in (node_in g id).kids 0) Into built)) (before (making (temporary_made id place at kind)) d)) chain
        (number 0) es (local (place_in g place) ∷ number 0 ∷ ts) known (record { all = f.all; so = f.so; types = f.types; knows = f.knows; comes = tt })
        lead 1 rank (index + 1) after a short (inl (above lead)) _ _ refl
        (run_is d chain id t cat where_it_is Value (valued x) v es ts (Materialize place false) is
        ∙ ap₂ (λ (y : Tree) (z : Trees). given p h.func no_answers (temporaries g d chain ts) (number 0) (Run (into (place_of p h.func no_answers place) (number 0)) y
        ∷ Keeps (at_word (place_of p h.func no_answers place)) z ∷ Gives (place_of p h.func no_answers place) ∷ frames g (numbers_of p h.func g) d chain es ts))
        (first_is g (node_in g id).kids some) (rest_is g (node_in g id).kids)
        ∙ ap (λ (z : Term). given p h.func no_answers (temporaries g d chain ts) (number 0) (Run (into z (number 0)) (tree_in g (kid_in (node_in g id).kids 0))
        ∷ Keeps (at_word z) (trees_in g (kids_from (node_in g id) 1)) ∷ Gives z ∷ frames g (numbers_of p h.func g) d chain es ts)) lies)

    pub argument_fits : (kind : (node_in g id).kind ≡ Materialize place true) → tree_in g id ≡ node (Materialize place true) t cat where_it_is (trees_in g (node_in g id).kids)
        → Ahead p b book h g (before (expression (run (kid_in (node_in g id).kids 0) Into built)) (before (making (argument_made id place at kind)) d)) chain (index + 1) after
        → Fitting p b book h g (before (expression (run id Value (valued x))) d) chain v es ts known lead rank index (FrameAddr (place_in g place))
    argument_fits kind is a = quiet_landing p b book h g (before (expression (run (kid_in (node_in g id).kids 0) Into built)) (before (making (argument_made id place at kind)) d)) chain
        (number 0) es (local (place_in g place) ∷ number 0 ∷ ts) known (record { all = f.all; so = f.so; types = f.types; knows = f.knows; comes = tt })
        lead 1 rank (index + 1) after a short (inl (above lead)) _ _ refl
        (run_is d chain id t cat where_it_is Value (valued x) v es ts (Materialize place true) is
        ∙ ap₂ (λ (y : Tree) (z : Trees). given p h.func no_answers (temporaries g d chain ts) (number 0) (Run (into (place_of p h.func no_answers place) (number 0)) y
        ∷ WaitsFor of_call (at_word (place_of p h.func no_answers place)) z ∷ Gives (place_of p h.func no_answers place) ∷ frames g (numbers_of p h.func g) d chain es ts))
        (first_is g (node_in g id).kids some) (rest_is g (node_in g id).kids)
        ∙ ap (λ (z : Term). given p h.func no_answers (temporaries g d chain ts) (number 0) (Run (into z (number 0)) (tree_in g (kid_in (node_in g id).kids 0))
        ∷ WaitsFor of_call (at_word z) (trees_in g (kids_from (node_in g id) 1)) ∷ Gives z ∷ frames g (numbers_of p h.func g) d chain es ts)) lies)
