-- With a silent step of the source, and none of the code, what is left to write is read otherwise.
use Rattle.std.proofs.Common.{ℕ, ◌≡◌, refl, ap, sym, ◌∙◌, Bool, true, false, not, List, ◌∷◌}
use Rattle.cpp_tree.specs.cpp_types.Typ.{Typ}
use Rattle.cpp_tree.specs.cpp_types.declared.classes.At.{At}
use Rattle.cpp_tree.specs.cpp_types.declared.ranks.Cat.{Cat}
use Rattle.cpp_tree.specs.declared.arena.TNodeId.{TNodeId}
use Rattle.cpp_tree.specs.declared.kinds.TKind.{TKind}
use Rattle.cpp_tree.specs.declared.kinds.TKind.TheVariants.{Load, Convert, Retype, Binary, Assign, Update, Comma, CopyAssign, FullExpression, Store, Call, Block, Loop, Return, Switch}
use Rattle.cpp_tree.specs.Trees.{Tree, Trees, node, one, two, three, more}
use Rattle.tx_ints.specs.declared.kinds.IntKind.{IntKind}
use Rattle.tx_ints.specs.declared.kinds.BinOp.{BinOp}
use Rattle.low_code.specs.declared.scopes.Owner.TheVariants.{Block as OfBlock, Full as OfFull, Call as OfCall}
use Rattle.low_code.specs.declared.scopes.ScopeKind.{ScopeKind}
use Rattle.low_code.specs.declared.scopes.ScopeKind.TheVariants.{Mark, Loop as InLoop}
use Rattle.low_code.specs.Nodes.{kid_in}
use Rattle.low_code.specs.Types.{is_void}
use Rattle.unwind_lower.specs.Kids.{kids_from}
use Rattle.unwind_lower.specs.declared.items.Turn.{Turn}
use Rattle.src_mean.specs.Linked.{Func, Program}
use Rattle.symbolic_source.specs.Terms.{Term, number, Exception}
use Rattle.symbolic_source.specs.Frames.{value, Run, Picks, Cleans, Gives}
use Rattle.symbolic_source.specs.Outcomes.{Outcome}
use Rattle.symbolic_source.specs.Steps.{given, advanced}
use Rattle.body_check.specs.Notes.{no_answers}
use Rattle.unwind_lower.specs.declared.items.Item.{Item}
use Rattle.unwind_lower.specs.declared.items.Item.TheVariants.{Run as RunIt}
use Rattle.unwind_lower.specs.declared.items.Way.{Way}
use Rattle.unwind_lower.specs.declared.items.Way.TheVariants.{Value, Dropped, Into, Copying}
use Rattle.unwind_lower.specs.Settings.{Setting, node_in}
use Rattle.lowered_frames.specs.Lists.{behind}
use Rattle.lowered_frames.specs.Modes.{Mode, IsBare, top, gone, After, valued, dropped, built, copied, way_with, way_count, tree_in, trees_in}
use Rattle.lowered_frames.specs.Expressions.{run, next, loads, converts, right, apply, assign_to, stored, update_new, update_old, copy_to, from}
use Rattle.lowered_frames.specs.Chains.{before_mark, behind_mark, waitings, words_of_all}
use Rattle.lowered_frames.specs.Calls.{by_name, words}
use Rattle.lowered_frames.specs.Objects.{Builds, init_doubled, member_made, parts, part}
use Rattle.lowered_frames.specs.Statements.{rest_of_block, test_done, body_done, step_done, returning, select}
use Rattle.lowered_frames.specs.Closings.{close_block, close_call, close_full}
use Rattle.lowered_frames.specs.Left.{expression, calling, making, statement, closing, Left, before, frames, temporaries}
use Rattle.lowered_notes.specs.Canonical.{numbers_of, place_with, coming}

module _ (p : Program) (f : Func) (g : Setting) where
  -- the place stays, and one step leads to what is read now
  pub record Rereads {m n : Mode} {items others : List Item} (d : Left g m items) (chain : List ScopeKind) (v : Term) (ts : List Term)
      (e : Left g n others) (around : List ScopeKind) (w : Term) (us : List Term) (es : List Exception) : Type 0 where
    pub place_is : place_with p f g d chain v es ts ≡ place_with p f g e around w es us
    pub outcome_is : advanced p f no_answers 1 (coming p f g d chain no_answers v es ts) ≡ coming p f g e around no_answers w es us

  -- ---- a node that is run

  module _ {m : Mode} {items : List Item} (d : Left g m items) (chain : List ScopeKind) (id : TNodeId) (way : Way) (a : After (node_in g id) way m)
      (t : Typ) (cat : Cat) (place : At) (v : Term) (es : List Exception) (ts : List Term) where
    abbrev pub run_head : Left g gone (RunIt id way ∷ items)
    run_head = before (expression (run id way a)) d

    -- what its tree makes of it
    abbrev pub as_node : TKind → Trees → Outcome
    as_node kind kids = given p f no_answers (temporaries g run_head chain ts) v
        (Run (way_with way ts) (node kind t cat place kids) ∷ frames g (numbers_of p f g) d chain es (behind (way_count way) ts))

    run_is : (kind : TKind) (kids : Trees) → tree_in g id ≡ node kind t cat place kids
        → advanced p f no_answers 1 (coming p f g run_head chain no_answers v es ts) ≡ advanced p f no_answers 1 (as_node kind kids)
    run_is kind kids is = ap (λ (z : Tree). advanced p f no_answers 1 (given p f no_answers (temporaries g run_head chain ts) v
        (Run (way_with way ts) z ∷ frames g (numbers_of p f g) d chain es (behind (way_count way) ts)))) is

    -- on the way of the whole
    pub comma_reads : (i j : TNodeId) (y : After (node_in g j) way m) → tree_in g id ≡ node Comma t cat place (two (tree_in g i) (tree_in g j))
        → Rereads run_head chain v ts (before (expression (run i Dropped dropped)) (before (expression (next j way y)) d)) chain (number 0) ts es
    comma_reads i j y is = record { place_is = refl; outcome_is = run_is Comma (two (tree_in g i) (tree_in g j)) is }

    pub full_reads : (i : TNodeId) (y : After (node_in g i) way m) (at : At) → tree_in g id ≡ node FullExpression t cat place (one (tree_in g i))
        → Rereads run_head chain v ts (before (expression (run i way y)) (before (closing (close_full at)) d)) (Mark OfFull ∷ chain) (number 0) ts es
    full_reads i y at is = record { place_is = refl; outcome_is = run_is FullExpression (one (tree_in g i)) is }

  module _ {m : Mode} {items : List Item} (d : Left g m items) (chain : List ScopeKind) (id : TNodeId) (a : After (node_in g id) Value m)
      (t : Typ) (cat : Cat) (place : At) (v : Term) (es : List Exception) (ts : List Term) where
    pub retype_reads : (i : TNodeId) (x : After (node_in g i) Value m) → tree_in g id ≡ node Retype t cat place (one (tree_in g i))
        → Rereads (before (expression (run id Value a)) d) chain v ts (before (expression (run i Value x)) d) chain (number 0) ts es
    retype_reads i x is = record { place_is = refl; outcome_is = run_is d chain id Value a t cat place v es ts Retype (one (tree_in g i)) is }

    -- calls by name, with a word or none: the scope of the arguments is entered
    pub call_reads : (func : ℕ) (i : TNodeId) (ids : List TNodeId) (x : is_void (node_in g i).typ ≡ false) (at : At)
        → tree_in g id ≡ node (Call func) t cat place (more (tree_in g i) (trees_in g ids))
        → Rereads (before (expression (run id Value a)) d) chain v ts (before (expression (run i Value (valued x)))
        (before (calling (words (by_name func) 0 ids id Value)) (before (closing (close_call at)) d))) (Mark OfCall ∷ chain) (number 0) ts es
    call_reads func i ids x at is = record { place_is = refl; outcome_is = run_is d chain id Value a t cat place v es ts (Call func) (more (tree_in g i) (trees_in g ids)) is }

  -- for its value
  module _ {items : List Item} (d : Left g top items) (chain : List ScopeKind) (id : TNodeId) (a : After (node_in g id) Value top)
      (t : Typ) (cat : Cat) (place : At) (v : Term) (es : List Exception) (ts : List Term) where
    abbrev value_head : Left g gone (RunIt id Value ∷ items)
    value_head = before (expression (run id Value a)) d

    pub load_reads : (kind : IntKind) (volatile : Bool) (i : TNodeId) (at : At) (x : is_void (node_in g i).typ ≡ false) → tree_in g id ≡ node (Load kind volatile) t cat place (one (tree_in g i))
        → Rereads value_head chain v ts (before (expression (run i Value (valued x))) (before (expression (loads kind volatile at)) d)) chain (number 0) ts es
    load_reads kind volatile i at x is = record { place_is = refl; outcome_is = run_is d chain id Value a t cat place v es ts (Load kind volatile) (one (tree_in g i)) is }

    pub convert_reads : (to : IntKind) (i : TNodeId) (at : At) (x : is_void (node_in g i).typ ≡ false) → tree_in g id ≡ node (Convert to) t cat place (one (tree_in g i))
        → Rereads value_head chain v ts (before (expression (run i Value (valued x))) (before (expression (converts to at)) d)) chain (number 0) ts es
    convert_reads to i at x is = record { place_is = refl; outcome_is = run_is d chain id Value a t cat place v es ts (Convert to) (one (tree_in g i)) is }

    pub binary_reads : (op : BinOp) (kind : IntKind) (i j : TNodeId) (at : At) (x : is_void (node_in g i).typ ≡ false) (y : is_void (node_in g j).typ ≡ false)
        → tree_in g id ≡ node (Binary op kind) t cat place (two (tree_in g i) (tree_in g j))
        → Rereads value_head chain v ts (before (expression (run i Value (valued x))) (before (expression (right op kind j at y)) d)) chain (number 0) ts es
    binary_reads op kind i j at x y is =
        record { place_is = refl; outcome_is = run_is d chain id Value a t cat place v es ts (Binary op kind) (two (tree_in g i) (tree_in g j)) is }

    pub assign_reads : (kind : IntKind) (volatile : Bool) (i j : TNodeId) (at : At) (x : is_void (node_in g i).typ ≡ false) (y : is_void (node_in g j).typ ≡ false)
        → tree_in g id ≡ node (Assign kind volatile) t cat place (two (tree_in g i) (tree_in g j))
        → Rereads value_head chain v ts (before (expression (run i Value (valued x))) (before (expression (assign_to kind volatile j at y)) d)) chain (number 0) ts es
    assign_reads kind volatile i j at x y is =
        record { place_is = refl; outcome_is = run_is d chain id Value a t cat place v es ts (Assign kind volatile) (two (tree_in g i) (tree_in g j)) is }

    pub update_reads : (op : BinOp) (stores operates : IntKind) (volatile : Bool) (i j : TNodeId) (at : At) (x : is_void (node_in g i).typ ≡ false)
        (y : is_void (node_in g j).typ ≡ false) → tree_in g id ≡ node (Update op stores operates volatile false) t cat place (two (tree_in g i) (tree_in g j))
        → Rereads value_head chain v ts (before (expression (run i Value (valued x))) (before (expression
        (update_new (record { op = op; stored = stores; operation = operates; volatile = volatile; old = false }) j at refl y)) d)) chain (number 0) ts es
    update_reads op stores operates volatile i j at x y is =
        record { place_is = refl; outcome_is = run_is d chain id Value a t cat place v es ts (Update op stores operates volatile false) (two (tree_in g i) (tree_in g j)) is }

    pub update_old_reads : (op : BinOp) (stores operates : IntKind) (volatile : Bool) (i j : TNodeId) (at : At) (x : is_void (node_in g i).typ ≡ false)
        (y : is_void (node_in g j).typ ≡ false) → tree_in g id ≡ node (Update op stores operates volatile true) t cat place (two (tree_in g i) (tree_in g j))
        → Rereads value_head chain v ts (before (expression (run i Value (valued x))) (before (expression
        (update_old (record { op = op; stored = stores; operation = operates; volatile = volatile; old = true }) j at refl y)) d)) chain (number 0) ts es
    update_old_reads op stores operates volatile i j at x y is =
        record { place_is = refl; outcome_is = run_is d chain id Value a t cat place v es ts (Update op stores operates volatile true) (two (tree_in g i) (tree_in g j)) is }

    pub copy_reads : (i j k : TNodeId) (at : At) (x : is_void (node_in g i).typ ≡ false) (y : is_void (node_in g j).typ ≡ false)
        → tree_in g id ≡ node CopyAssign t cat place (three (tree_in g i) (tree_in g j) (tree_in g k))
        → Rereads value_head chain v ts (before (expression (run i Value (valued x))) (before (expression (copy_to j k at y)) d)) chain (number 0) ts es
    copy_reads i j k at x y is =
        record { place_is = refl; outcome_is = run_is d chain id Value a t cat place v es ts CopyAssign (three (tree_in g i) (tree_in g j) (tree_in g k)) is }

  -- into an object
  module _ {items : List Item} (d : Left g gone items) (chain : List ScopeKind) (id : TNodeId) (t : Typ) (cat : Cat) (place : At) (v : Term) (es : List Exception)
      (target source : Term) (ts : List Term) where
    pub store_reads : (kind : IntKind) (volatile : Bool) (i : TNodeId) (at : At) (x : is_void (node_in g i).typ ≡ false)
        → tree_in g id ≡ node (Store kind volatile) t cat place (one (tree_in g i))
        → Rereads (before (expression (run id Into built)) d) chain v (target ∷ source ∷ ts)
        (before (expression (run i Value (valued x))) (before (expression (stored kind volatile at)) d)) chain (number 0) (target ∷ ts) es
    store_reads kind volatile i at x is = record {
      place_is = refl;
      outcome_is = run_is d chain id Into built t cat place v es (target ∷ source ∷ ts) (Store kind volatile) (one (tree_in g i)) is;
    }

  -- ---- kids that follow

  -- the right operand, and the operator behind it
  pub right_reads : {items : List Item} (d : Left g top items) (chain : List ScopeKind) (op : BinOp) (kind : IntKind) (i : TNodeId) (at : At)
      (x : is_void (node_in g i).typ ≡ false) (v : Term) (es : List Exception) (ts : List Term)
      → Rereads (before (expression (right op kind i at x)) d) chain v ts
      (before (expression (run i Value (valued x))) (before (expression (apply op kind at)) d)) chain (number 0) (v ∷ ts) es
  right_reads d chain op kind i at x v es ts = record { place_is = refl; outcome_is = refl }

  pub next_reads : {m : Mode} {items : List Item} (d : Left g m items) (chain : List ScopeKind) (i : TNodeId) (way : Way) (x : After (node_in g i) way m)
      (v : Term) (es : List Exception) (ts : List Term)
      → Rereads (before (expression (next i way x)) d) chain v ts (before (expression (run i way x)) d) chain (number 0) ts es
  next_reads d chain i way x v es ts = record { place_is = refl; outcome_is = refl }

  pub from_reads : {items : List Item} (d : Left g gone items) (chain : List ScopeKind) (i : TNodeId) (v target : Term) (es : List Exception) (ts : List Term)
      → Rereads (before (expression (from i)) d) chain v (target ∷ ts) (before (expression (run i Copying copied)) d) chain (number 0) (target ∷ v ∷ ts) es
  from_reads d chain i v target es ts = record { place_is = refl; outcome_is = refl }

  -- ---- statements

  module _ {m : Mode} {items : List Item} (d : Left g m items) (chain : List ScopeKind) (id : TNodeId) (a : After (node_in g id) Dropped m)
      (t : Typ) (cat : Cat) (place : At) (v : Term) (es : List Exception) (ts : List Term) where
    pub block_reads : (subobjects : Bool) (ids : List TNodeId) (at : At) (bare : IsBare m) → tree_in g id ≡ node (Block subobjects) t cat place (trees_in g ids)
        → Rereads (before (expression (run id Dropped a)) d) chain v ts
        (before (statement (rest_of_block ids bare)) (before (closing (close_block (not subobjects) at)) d)) (Mark OfBlock ∷ chain) (number 0) ts es
    block_reads subobjects ids at bare is = record { place_is = refl; outcome_is = run_is d chain id Dropped a t cat place v es ts (Block subobjects) (trees_in g ids) is }

  -- the next item
  pub item_reads : {m : Mode} {items : List Item} (d : Left g m items) (chain : List ScopeKind) (i : TNodeId) (ids : List TNodeId) (bare : IsBare m) (v : Term)
      (es : List Exception) (ts : List Term) → Rereads (before (statement (rest_of_block (i ∷ ids) bare)) d) chain v ts
      (before (expression (run i Dropped dropped)) (before (statement (rest_of_block ids bare)) d)) chain (number 0) ts es
  unfolding tree_in trees_in
  item_reads d chain i ids bare v es ts = record { place_is = refl; outcome_is = refl }

  module _ {items : List Item} (d : Left g gone items) (chain : List ScopeKind) (id : TNodeId) (t : Typ) (cat : Cat) (place : At) (v : Term) (es : List Exception) (ts : List Term) where
    abbrev statement_head : Left g gone (RunIt id Dropped ∷ items)
    statement_head = before (expression (run id Dropped dropped)) d

    -- the test, or the body, of a loop
    pub test_reads : (turn : Turn) → (x : is_void (node_in g (kid_in (node_in g turn.id).kids 0)).typ ≡ false)
        → tree_in g id ≡ node (Loop true) t cat place (three (tree_in g (kid_in (node_in g turn.id).kids 0)) (tree_in g (kid_in (node_in g turn.id).kids 1))
        (tree_in g (kid_in (node_in g turn.id).kids 2)))
        → Rereads statement_head chain v ts (before (expression (run (kid_in (node_in g turn.id).kids 0) Value (valued x))) (before (statement (test_done turn)) d)) chain
        (number 0) ts es
    test_reads turn x is = record {
      place_is = refl;
      outcome_is = run_is d chain id Dropped dropped t cat place v es ts (Loop true)
          (three (tree_in g (kid_in (node_in g turn.id).kids 0)) (tree_in g (kid_in (node_in g turn.id).kids 1)) (tree_in g (kid_in (node_in g turn.id).kids 2))) is;
    }

    pub body_reads : (turn : Turn) → tree_in g id ≡ node (Loop false) t cat place (three (tree_in g (kid_in (node_in g turn.id).kids 0))
        (tree_in g (kid_in (node_in g turn.id).kids 1)) (tree_in g (kid_in (node_in g turn.id).kids 2)))
        → Rereads statement_head chain v ts (before (expression (run (kid_in (node_in g turn.id).kids 1) Dropped dropped)) (before (statement (body_done turn)) d)) (InLoop ∷ chain)
        (number 0) ts es
    body_reads turn is = record {
      place_is = refl;
      outcome_is = run_is d chain id Dropped dropped t cat place v es ts (Loop false)
          (three (tree_in g (kid_in (node_in g turn.id).kids 0)) (tree_in g (kid_in (node_in g turn.id).kids 1)) (tree_in g (kid_in (node_in g turn.id).kids 2))) is;
    }

    -- the value of a `return`
    pub return_reads : (i : TNodeId) (x : is_void (node_in g i).typ ≡ false) (origin : ℕ) (at : At) → tree_in g id ≡ node Return t cat place (one (tree_in g i))
        → Rereads statement_head chain v ts (before (expression (run i Value (valued x))) (before (statement (returning origin at)) d)) chain (number 0) ts es
    return_reads i x origin at is = record { place_is = refl; outcome_is = run_is d chain id Dropped dropped t cat place v es ts Return (one (tree_in g i)) is }

    pub switch_reads : (i : TNodeId) (ids : List TNodeId) (x : is_void (node_in g i).typ ≡ false) → kids_from (node_in g id) 1 ≡ ids
        → tree_in g id ≡ node Switch t cat place (more (tree_in g i) (trees_in g ids))
        → Rereads statement_head chain v ts (before (expression (run i Value (valued x))) (before (statement (select id)) d)) chain (number 0) ts es
    switch_reads i ids x kids is = record {
      place_is = refl;
      outcome_is = run_is d chain id Dropped dropped t cat place v es ts Switch (more (tree_in g i) (trees_in g ids)) is
          ∙ ap (λ (z : List TNodeId). given p f no_answers (temporaries g d chain ts) (number 0) (Run value (tree_in g i) ∷ Picks (trees_in g z)
          ∷ frames g (numbers_of p f g) d chain es ts)) (sym kids);
    }

  -- behind the body of a loop its step, and then the test
  pub step_reads : {items : List Item} (d : Left g gone items) (chain : List ScopeKind) (turn : Turn) (v : Term) (es : List Exception) (ts : List Term)
      → Rereads (before (statement (body_done turn)) d) (InLoop ∷ chain) v ts
      (before (expression (run (kid_in (node_in g turn.id).kids 2) Dropped dropped)) (before (statement (step_done turn)) d)) chain (number 0) ts es
  step_reads d chain turn v es ts = record { place_is = refl; outcome_is = refl }

  pub again_reads : {items : List Item} (d : Left g gone items) (chain : List ScopeKind) (turn : Turn) (x : is_void (node_in g (kid_in (node_in g turn.id).kids 0)).typ ≡ false)
      (v : Term) (es : List Exception) (ts : List Term) → Rereads (before (statement (step_done turn)) d) chain v ts
      (before (expression (run (kid_in (node_in g turn.id).kids 0) Value (valued x))) (before (statement (test_done turn)) d)) chain (number 0) ts es
  again_reads d chain turn x v es ts = record { place_is = refl; outcome_is = refl }

  -- ---- objects

  -- a member at the address that lies there twice
  pub member_reads : {items : List Item} (d : Left g gone items) (chain : List ScopeKind) (id : TNodeId) (v source : Term) (es : List Exception) (ts : List Term)
      → Rereads (before (making (init_doubled id)) d) chain v ts
      (before (expression (run (kid_in (node_in g id).kids 1) Into built)) (before (making (member_made id)) d)) chain (number 0) (v ∷ number 0 ∷ v ∷ ts) es
  member_reads d chain id v source es ts = record { place_is = refl; outcome_is = refl }

  -- the next part
  pub part_reads : {items : List Item} (d : Left g gone items) (chain : List ScopeKind) (i : TNodeId) (way : Way) (ids : List TNodeId) (at : At) (bare : Builds way) (v : Term)
      (es : List Exception) (ts : List Term) → Rereads (before (making (parts way (i ∷ ids) at bare)) d) chain v ts
      (before (making (part i way ids at bare)) d) chain (number 0) ts es
  unfolding tree_in trees_in
  part_reads d chain i way ids at bare v es ts = record { place_is = refl; outcome_is = refl }

  -- rows of destructions: the first one begins
  pub closed_reads : {m : Mode} {items : List Item} (d : Left g m items) (chain : List ScopeKind) (at : At) (v : Term) (es : List Exception) (ts : List Term)
      → advanced p f no_answers 1 (coming p f g (before (closing (close_call at)) d) chain no_answers v es ts)
      ≡ given p f no_answers (temporaries g (before (closing (close_call at)) d) chain ts) (number 0)
      (Cleans (waitings g (before_mark OfCall chain) ts) ∷ Gives v ∷ frames g (numbers_of p f g) d (behind_mark OfCall chain) es
      (behind (words_of_all (before_mark OfCall chain)) ts))
  closed_reads d chain at v es ts = refl
