-- Nodes of expressions that write nothing themselves: the machine puts down their kids, and the source goes to the first.
use Rattle.std.proofs.Common.{◌≡◌, refl, ap, ap₂, sym, ◌∙◌, Bool, true, false, cond, List, [], ◌∷◌}
use Rattle.tx_ints.specs.declared.kinds.IntKind.{IntKind}
use Rattle.tx_ints.specs.declared.kinds.BinOp.{BinOp}
use Rattle.tx_code.specs.declared.instr.Instr.TheVariants.{Dup, Swap, Over, Bin, Conv}
use Rattle.cpp_tree.specs.Trees.{node, one, two, three}
use Rattle.cpp_tree.specs.declared.arena.TNodeId.{TNodeId}
use Rattle.cpp_tree.specs.declared.kinds.TKind.{TKind}
use Rattle.cpp_tree.specs.declared.kinds.TKind.TheVariants.{Load, Convert, Retype, Binary, Conditional, Comma, Assign, Update, CopyAssign}
use Rattle.low_code.specs.declared.numbers.TheConstants.{ADDRESS}
use Rattle.low_code.specs.declared.scopes.ScopeKind.{ScopeKind}
use Rattle.low_code.specs.Nodes.{Node, kid_in}
use Rattle.low_code.specs.Numbers.{kind_number, operator_number, load, store, store_converted}
use Rattle.low_code.specs.Types.{is_void}
use Rattle.src_mean.specs.Linked.{Program}
use Rattle.symbolic_source.specs.Steps.{step_of}
use Rattle.body_check.specs.Notes.{Bounds, no_answers}
use Rattle.body_check.specs.Calls.{Book}
use Rattle.body_check.specs.Linked.{Held}
use Rattle.unwind_lower.specs.declared.items.Item.{Item}
use Rattle.unwind_lower.specs.declared.items.Item.TheVariants.{Run, Put, Branch}
use Rattle.unwind_lower.specs.declared.items.Way.{Way}
use Rattle.unwind_lower.specs.declared.items.Way.TheVariants.{Value, Dropped, Into, Copying}
use Rattle.unwind_lower.specs.Settings.{Setting, node_in}
use Rattle.unwind_lower.specs.States.{State, later}
use Rattle.unwind_lower.specs.Steps.{written, drop_value, for_value}
use Rattle.unwind_lower.specs.Expressions.{way_of, branch_way}
use Rattle.lowered_frames.specs.Modes.{Mode, top, gone, After, dropped, tree_in, trees_in}
use Rattle.lowered_frames.specs.Expressions.{run, next, loads, converts, right, assign_to, update_new, update_old, copy_to, branch}
use Rattle.lowered_frames.specs.Left.{Left}
use Rattle.lowered_steps.specs.Passing.{IsNode, Passes}
use Rattle.lowered_expressions.specs.Heads.{led}
use Rattle.lowered_expressions.proofs.Nodes.{load_reads, convert_reads, retype_reads, void_retype_reads, binary_reads, conditional_reads, void_conditional_reads, comma_reads}
use Rattle.lowered_expressions.proofs.Nodes.{assign_reads, update_reads, old_update_reads, copy_assign_reads}
use Rattle.lowered_expressions.proofs.Written.{load_written, convert_written, retype_written, binary_written, conditional_written, comma_written, assign_written}
use Rattle.lowered_expressions.proofs.Written.{update_written, old_update_written, copy_assign_written}

-- ---- states

-- what one item more leaves
work_later : (item : Item) (s : State) → (later item s).work ≡ item ∷ s.work
unfolding later
work_later item s = refl

body_later : (item : Item) (s : State) → (later item s).body ≡ s.body
unfolding later
body_later item s = refl

-- so many items, the first one first
abbrev all_later : List Item → State → State
all_later [] s = s
all_later (item ∷ items) s = later item (all_later items s)

abbrev all_before : List Item → List Item → List Item
all_before [] work = work
all_before (item ∷ items) work = item ∷ all_before items work

work_of_all : (items : List Item) (s : State) → (all_later items s).work ≡ all_before items s.work
work_of_all [] s = refl
work_of_all (item ∷ items) s = work_later item (all_later items s) ∙ ap (λ (z : List Item). item ∷ z) (work_of_all items s)

body_of_all : (items : List Item) (s : State) → (all_later items s).body ≡ s.body
body_of_all [] s = refl
body_of_all (item ∷ items) s = body_later item (all_later items s) ∙ body_of_all items s

module _ (g : Setting) (id : TNodeId) (kind : TKind) (way : Way) (s : State) where
  -- the items of the node, by its kids
  works : (kids : List TNodeId) → IsNode g id kind kids → (items : List TNodeId → List Item) → written g (Run id way) s ≡ all_later (items (node_in g id).kids) s
      → (written g (Run id way) s).work ≡ all_before (items kids) s.work
  works kids k items is = ap (λ (z : State). z.work) is ∙ work_of_all (items (node_in g id).kids) s
      ∙ ap (λ (z : List TNodeId). all_before (items z) s.work) k.kids_are

  bodies : (items : List Item) → written g (Run id way) s ≡ all_later items s → (written g (Run id way) s).body ≡ s.body
  bodies items is = ap (λ (z : State). z.body) is ∙ body_of_all items s

-- ---- trees

module _ (g : Setting) (id : TNodeId) (kind : TKind) where
  one_kid : (i : TNodeId) (k : IsNode g id kind (i ∷ [])) → tree_in g id ≡ node kind k.typ k.cat k.place (one (tree_in g i))
  unfolding tree_in trees_in
  one_kid i k = k.tree_is

  two_kids : (i j : TNodeId) (k : IsNode g id kind (i ∷ j ∷ [])) → tree_in g id ≡ node kind k.typ k.cat k.place (two (tree_in g i) (tree_in g j))
  unfolding tree_in trees_in
  two_kids i j k = k.tree_is

  three_kids : (i j l : TNodeId) (k : IsNode g id kind (i ∷ j ∷ l ∷ [])) → tree_in g id ≡ node kind k.typ k.cat k.place (three (tree_in g i) (tree_in g j) (tree_in g l))
  unfolding tree_in trees_in
  three_kids i j l k = k.tree_is

-- the branches of a conditional, by the node's kids
branch_kids : (g : Setting) (id : TNodeId) (kind : TKind) (i j l : TNodeId) (k : IsNode g id kind (i ∷ j ∷ l ∷ []))
    → tree_in g id ≡ node kind k.typ k.cat k.place (three (tree_in g i) (tree_in g (kid_in (node_in g id).kids 1)) (tree_in g (kid_in (node_in g id).kids 2)))
branch_kids g id kind i j l k = three_kids g id kind i j l k
    ∙ ap (λ (z : List TNodeId). node kind k.typ k.cat k.place (three (tree_in g i) (tree_in g (kid_in z 1)) (tree_in g (kid_in z 2)))) (sym k.kids_are)

-- ---- nodes with a value

module _ (p : Program) (b : Bounds) (book : Book) (h : Held) (g : Setting) (chain : List ScopeKind) (s : State) (id : TNodeId) where
  abbrev n : Node
  n = node_in g id

  module _ (d : Left g top s.work) (a : After n Value top) (i : TNodeId) (x : After (node_in g i) Value top) where
    pub load_passes : (kind : IntKind) (volatile : Bool) (k : IsNode g id (Load kind volatile) (i ∷ [])) → Passes p b book h g (step_of p h.func no_answers) (led (run id Value a) d) chain (Run id Value) s
    load_passes kind volatile k = record {
      mode = gone;
      work = all_before (items kids) s.work;
      next = led (run i Value x) (led (loads kind volatile n.at) d);
      outer = chain;
      work_is = works g id (Load kind volatile) Value s kids k items is;
      body_is = bodies g id (Load kind volatile) Value s (items n.kids) is;
      reads = load_reads p b book h g chain d id a k.typ k.cat k.place i x kind volatile n.at (one_kid g id (Load kind volatile) i k);
    }
      where
        kids : List TNodeId
        kids = i ∷ []

        items : List TNodeId → List Item
        items z = Run (kid_in z 0) Value ∷ Put (load kind volatile) n.at ∷ []

        is : written g (Run id Value) s ≡ all_later (items n.kids) s
        is = load_written g id s kind volatile k.kind_is

    pub convert_passes : (to : IntKind) (k : IsNode g id (Convert to) (i ∷ [])) → Passes p b book h g (step_of p h.func no_answers) (led (run id Value a) d) chain (Run id Value) s
    convert_passes to k = record {
      mode = gone;
      work = all_before (items kids) s.work;
      next = led (run i Value x) (led (converts to n.at) d);
      outer = chain;
      work_is = works g id (Convert to) Value s kids k items is;
      body_is = bodies g id (Convert to) Value s (items n.kids) is;
      reads = convert_reads p b book h g chain d id a k.typ k.cat k.place i x to n.at (one_kid g id (Convert to) i k);
    }
      where
        kids : List TNodeId
        kids = i ∷ []

        items : List TNodeId → List Item
        items z = Run (kid_in z 0) Value ∷ Put (Conv ADDRESS (kind_number to)) n.at ∷ []

        is : written g (Run id Value) s ≡ all_later (items n.kids) s
        is = convert_written g id s to k.kind_is

    pub retype_passes : (k : IsNode g id Retype (i ∷ [])) → is_void n.typ ≡ false → Passes p b book h g (step_of p h.func no_answers) (led (run id Value a) d) chain (Run id Value) s
    retype_passes k e = record {
      mode = gone;
      work = all_before (items kids) s.work;
      next = led (run i Value x) d;
      outer = chain;
      work_is = works g id (Retype) Value s kids k items is;
      body_is = bodies g id (Retype) Value s (items n.kids) is;
      reads = retype_reads p b book h g chain d id a k.typ k.cat k.place i x (one_kid g id Retype i k);
    }
      where
        kids : List TNodeId
        kids = i ∷ []

        items : List TNodeId → List Item
        items z = Run (kid_in z 0) Value ∷ []

        is : written g (Run id Value) s ≡ all_later (items n.kids) s
        is = retype_written g id s k.kind_is ∙ ap (λ (z : Bool). later (Run (kid_in n.kids 0) (cond z Dropped Value)) s) e

    module _ (j : TNodeId) (y : is_void (node_in g j).typ ≡ false) where
      pub binary_passes : (op : BinOp) (kind : IntKind) (k : IsNode g id (Binary op kind) (i ∷ j ∷ [])) → Passes p b book h g (step_of p h.func no_answers) (led (run id Value a) d) chain (Run id Value) s
      binary_passes op kind k = record {
        mode = gone;
        work = all_before (items kids) s.work;
        next = led (run i Value x) (led (right op kind j n.at y) d);
        outer = chain;
        work_is = works g id (Binary op kind) Value s kids k items is;
        body_is = bodies g id (Binary op kind) Value s (items n.kids) is;
        reads = binary_reads p b book h g chain d id a k.typ k.cat k.place i x j y n.at op kind (two_kids g id (Binary op kind) i j k);
      }
        where
          kids : List TNodeId
          kids = i ∷ j ∷ []

          items : List TNodeId → List Item
          items z = Run (kid_in z 0) Value ∷ Run (kid_in z 1) Value ∷ Put (Bin (operator_number op) (kind_number kind)) n.at ∷ []

          is : written g (Run id Value) s ≡ all_later (items n.kids) s
          is = binary_written g id s op kind k.kind_is

      pub assign_passes : (kind : IntKind) (volatile : Bool) (k : IsNode g id (Assign kind volatile) (i ∷ j ∷ [])) → Passes p b book h g (step_of p h.func no_answers) (led (run id Value a) d) chain (Run id Value) s
      assign_passes kind volatile k = record {
        mode = gone;
        work = all_before (items kids) s.work;
        next = led (run i Value x) (led (assign_to kind volatile j n.at y) d);
        outer = chain;
        work_is = works g id (Assign kind volatile) Value s kids k items is;
        body_is = bodies g id (Assign kind volatile) Value s (items n.kids) is;
        reads = assign_reads p b book h g chain d id a k.typ k.cat k.place i x j y n.at kind volatile (two_kids g id (Assign kind volatile) i j k);
      }
        where
          kids : List TNodeId
          kids = i ∷ j ∷ []

          items : List TNodeId → List Item
          items z = Run (kid_in z 0) Value ∷ Put Dup n.at ∷ Run (kid_in z 1) Value ∷ Put (store kind volatile) n.at ∷ []

          is : written g (Run id Value) s ≡ all_later (items n.kids) s
          is = assign_written g id s kind volatile k.kind_is

      pub update_passes : (op : BinOp) (stored operation : IntKind) (volatile : Bool) (k : IsNode g id (Update op stored operation volatile false) (i ∷ j ∷ [])) → Passes p b book h g (step_of p h.func no_answers) (led (run id Value a) d) chain (Run id Value) s
      update_passes op stored operation volatile k = record {
        mode = gone;
        work = all_before (items kids) s.work;
        next = led (run i Value x) (led (update_new (record { op = op; stored = stored; operation = operation; volatile = volatile; old = false }) j n.at refl y) d);
        outer = chain;
        work_is = works g id (Update op stored operation volatile false) Value s kids k items is;
        body_is = bodies g id (Update op stored operation volatile false) Value s (items n.kids) is;
        reads = update_reads p b book h g chain d id a k.typ k.cat k.place i x j y n.at op stored operation volatile (two_kids g id (Update op stored operation volatile false) i j k);
      }
        where
          kids : List TNodeId
          kids = i ∷ j ∷ []

          items : List TNodeId → List Item
          items z = Run (kid_in z 0) Value ∷ Put Dup n.at ∷ Put Dup n.at ∷ Put (load stored volatile) n.at ∷ Run (kid_in z 1) Value ∷ Put (Bin (operator_number op) (kind_number operation)) n.at ∷ Put (store_converted stored volatile) n.at ∷ []

          is : written g (Run id Value) s ≡ all_later (items n.kids) s
          is = update_written g id s op stored operation volatile k.kind_is

      pub old_update_passes : (op : BinOp) (stored operation : IntKind) (volatile : Bool) (k : IsNode g id (Update op stored operation volatile true) (i ∷ j ∷ [])) → Passes p b book h g (step_of p h.func no_answers) (led (run id Value a) d) chain (Run id Value) s
      old_update_passes op stored operation volatile k = record {
        mode = gone;
        work = all_before (items kids) s.work;
        next = led (run i Value x) (led (update_old (record { op = op; stored = stored; operation = operation; volatile = volatile; old = true }) j n.at refl y) d);
        outer = chain;
        work_is = works g id (Update op stored operation volatile true) Value s kids k items is;
        body_is = bodies g id (Update op stored operation volatile true) Value s (items n.kids) is;
        reads = old_update_reads p b book h g chain d id a k.typ k.cat k.place i x j y n.at op stored operation volatile (two_kids g id (Update op stored operation volatile true) i j k);
      }
        where
          kids : List TNodeId
          kids = i ∷ j ∷ []

          items : List TNodeId → List Item
          items z = Run (kid_in z 0) Value ∷ Put Dup n.at ∷ Put (load stored volatile) n.at ∷ Put Swap n.at ∷ Put Over n.at ∷ Run (kid_in z 1) Value ∷ Put (Bin (operator_number op) (kind_number operation)) n.at ∷ Put (store_converted stored volatile) n.at ∷ []

          is : written g (Run id Value) s ≡ all_later (items n.kids) s
          is = old_update_written g id s op stored operation volatile k.kind_is

      pub copy_assign_passes : (l : TNodeId) (k : IsNode g id CopyAssign (i ∷ j ∷ l ∷ [])) → Passes p b book h g (step_of p h.func no_answers) (led (run id Value a) d) chain (Run id Value) s
      copy_assign_passes l k = record {
        mode = gone;
        work = all_before (items kids) s.work;
        next = led (run i Value x) (led (copy_to j l n.at y) d);
        outer = chain;
        work_is = works g id (CopyAssign) Value s kids k items is;
        body_is = bodies g id (CopyAssign) Value s (items n.kids) is;
        reads = copy_assign_reads p b book h g chain d id a k.typ k.cat k.place i x j y n.at l (three_kids g id CopyAssign i j l k);
      }
        where
          kids : List TNodeId
          kids = i ∷ j ∷ l ∷ []

          items : List TNodeId → List Item
          items z = Run (kid_in z 0) Value ∷ Run (kid_in z 1) Value ∷ Put Over n.at ∷ Put Swap n.at ∷ Run (kid_in z 2) Copying ∷ []

          is : written g (Run id Value) s ≡ all_later (items n.kids) s
          is = copy_assign_written g id s k.kind_is

-- ---- nodes on several ways

-- ways on which nothing is dropped
abbrev pub Keeps : Way → Type 0
Keeps Value = Unit {0}
Keeps Into = Unit {0}
Keeps Copying = Unit {0}
Keeps Dropped = ⊥

keeps_value : (way : Way) → Keeps way → for_value way ≡ way
keeps_value Value k = refl
keeps_value Into k = refl
keeps_value Copying k = refl
keeps_value Dropped k = absurd k

keeps_state : (n : Node) (way : Way) (s : State) → Keeps way → drop_value n way s ≡ s
unfolding drop_value
keeps_state n Value s k = refl
keeps_state n Into s k = refl
keeps_state n Copying s k = refl
keeps_state n Dropped s k = absurd k

module _ (p : Program) (b : Bounds) (book : Book) (h : Held) (g : Setting) (chain : List ScopeKind) (s : State) (id : TNodeId) where
  module _ {m : Mode} (d : Left g m s.work) (way : Way) (keeps : Keeps way) (a : After (node_in g id) way m) where
    pub comma_passes : (i j : TNodeId) (y : After (node_in g j) way m) → IsNode g id Comma (i ∷ j ∷ [])
        → Passes p b book h g (step_of p h.func no_answers) (led (run id way a) d) chain (Run id way) s
    comma_passes i j y k = record {
      mode = gone;
      work = all_before (items (i ∷ j ∷ [])) s.work;
      next = led (run i Dropped dropped) (led (next j way y) d);
      outer = chain;
      work_is = works g id Comma way s (i ∷ j ∷ []) k items is;
      body_is = bodies g id Comma way s (items (node_in g id).kids) is;
      reads = comma_reads p b book h g chain d id way a k.typ k.cat k.place i j y (two_kids g id Comma i j k);
    }
      where
        items : List TNodeId → List Item
        items z = Run (kid_in z 0) Dropped ∷ Run (kid_in z 1) way ∷ []

        is : written g (Run id way) s ≡ all_later (items (node_in g id).kids) s
        is = comma_written g id s way k.kind_is ∙ ap₂ (λ (y : Way) (z : State). later (Run (kid_in (node_in g id).kids 0) Dropped) (later (Run (kid_in (node_in g id).kids 1) y) z))
            (keeps_value way keeps) (keeps_state (node_in g id) way s keeps)

    -- the branches leave their value as the whole does
    pub conditional_passes : (i j l : TNodeId) (x : After (node_in g i) Value top) (y : After (node_in g (kid_in (node_in g id).kids 1)) way m)
        (z : After (node_in g (kid_in (node_in g id).kids 2)) way m) → IsNode g id Conditional (i ∷ j ∷ l ∷ []) → branch_way (node_in g id) way ≡ way
        → Passes p b book h g (step_of p h.func no_answers) (led (run id way a) d) chain (Run id way) s
    conditional_passes i j l x y z k same = record {
      mode = gone;
      work = all_before (items (i ∷ j ∷ l ∷ [])) s.work;
      next = led (run i Value x) (led (branch id way y z) d);
      outer = chain;
      work_is = works g id Conditional way s (i ∷ j ∷ l ∷ []) k items is;
      body_is = bodies g id Conditional way s (items (node_in g id).kids) is;
      reads = conditional_reads p b book h g chain d id way a k.typ k.cat k.place i x y z (branch_kids g id Conditional i j l k);
    }
      where
        items : List TNodeId → List Item
        items z = Run (kid_in z 0) Value ∷ Branch id way ∷ []

        is : written g (Run id way) s ≡ all_later (items (node_in g id).kids) s
        is = conditional_written g id s way k.kind_is
            ∙ ap₂ (λ (y : Way) (z : State). later (Run (kid_in (node_in g id).kids 0) Value) (later (Branch id (branch_way (node_in g id) y)) z))
            (keeps_value way keeps) (keeps_state (node_in g id) way s keeps)
            ∙ ap (λ (y : Way). later (Run (kid_in (node_in g id).kids 0) Value) (later (Branch id y) s)) same

  -- without a value
  module _ (d : Left g gone s.work) (a : After (node_in g id) Value gone) (e : is_void (node_in g id).typ ≡ true) where
    pub void_conditional_passes : (i j l : TNodeId) (x : After (node_in g i) Value top) → IsNode g id Conditional (i ∷ j ∷ l ∷ [])
        → Passes p b book h g (step_of p h.func no_answers) (led (run id Value a) d) chain (Run id Value) s
    void_conditional_passes i j l x k = record {
      mode = gone;
      work = all_before (items (i ∷ j ∷ l ∷ [])) s.work;
      next = led (run i Value x) (led (branch id Dropped dropped dropped) d);
      outer = chain;
      work_is = works g id Conditional Value s (i ∷ j ∷ l ∷ []) k items is;
      body_is = bodies g id Conditional Value s (items (node_in g id).kids) is;
      reads = void_conditional_reads p b book h g chain d id a k.typ k.cat k.place i x (branch_kids g id Conditional i j l k);
    }
      where
        items : List TNodeId → List Item
        items z = Run (kid_in z 0) Value ∷ Branch id Dropped ∷ []

        is : written g (Run id Value) s ≡ all_later (items (node_in g id).kids) s
        is = conditional_written g id s Value k.kind_is
            ∙ ap (λ (z : State). later (Run (kid_in (node_in g id).kids 0) Value) (later (Branch id (way_of (node_in g id))) z)) (keeps_state (node_in g id) Value s tt)
            ∙ ap (λ (z : Bool). later (Run (kid_in (node_in g id).kids 0) Value) (later (Branch id (cond z Dropped Value)) s)) e

    pub void_retype_passes : (i : TNodeId) → IsNode g id Retype (i ∷ [])
        → Passes p b book h g (step_of p h.func no_answers) (led (run id Value a) d) chain (Run id Value) s
    void_retype_passes i k = record {
      mode = gone;
      work = all_before (items (i ∷ [])) s.work;
      next = led (run i Dropped dropped) d;
      outer = chain;
      work_is = works g id Retype Value s (i ∷ []) k items is;
      body_is = bodies g id Retype Value s (items (node_in g id).kids) is;
      reads = void_retype_reads p b book h g chain d id a k.typ k.cat k.place i (one_kid g id Retype i k);
    }
      where
        items : List TNodeId → List Item
        items z = Run (kid_in z 0) Dropped ∷ []

        is : written g (Run id Value) s ≡ all_later (items (node_in g id).kids) s
        is = retype_written g id s k.kind_is ∙ ap (λ (z : Bool). later (Run (kid_in (node_in g id).kids 0) (cond z Dropped Value)) s) e
