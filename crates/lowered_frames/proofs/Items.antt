-- Lists of items as the machine puts them down.
use Rattle.std.proofs.Common.{◌≡◌, refl, ap, List, [], ◌∷◌, Option}
use Rattle.cpp_tree.specs.declared.arena.TNodeId.{TNodeId}
use Rattle.low_code.specs.declared.writer.Jump.{Jump}
use Rattle.unwind_lower.specs.declared.items.Way.{Way}
use Rattle.unwind_lower.specs.declared.items.Way.TheVariants.{Dropped}
use Rattle.unwind_lower.specs.declared.items.Item.{Item}
use Rattle.unwind_lower.specs.declared.items.Item.TheVariants.{Run, Bind}
use Rattle.unwind_lower.specs.Blocks.{labelled, label_of, first_label, other_labels}
use Rattle.unwind_lower.specs.Kids.{runs}
use Rattle.unwind_lower.specs.Settings.{Setting, node_in}
use Rattle.lowered_frames.specs.Modes.{all_run}
use Rattle.lowered_frames.specs.Statements.{all_bound, all_labels}

pub runs_so : (way : Way) (ids : List TNodeId) (items : List Item) → runs way ids items ≡ all_run way ids items
unfolding runs
runs_so way [] items = refl
runs_so way (id ∷ ids) items = ap (λ (z : List Item). Run id way ∷ z) (runs_so way ids items)

pub labelled_so : (g : Setting) (otherwise : Option Jump) (ids : List TNodeId) (labels : List (Option Jump)) (items : List Item)
    → labelled g otherwise ids labels items ≡ all_bound (all_labels g otherwise ids labels) ids items
unfolding labelled
labelled_so g otherwise [] labels items = refl
labelled_so g otherwise (id ∷ ids) labels items =
    ap (λ (z : List Item). Bind (label_of (node_in g id).kind (first_label labels) otherwise) ∷ Run id Dropped ∷ z) (labelled_so g otherwise ids (other_labels labels) items)
