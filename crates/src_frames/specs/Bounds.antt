-- The same for a bound program at hand.
use Rattle.std.specs.Prelude.{ℕ, List, Option, Some, None}
use Rattle.cpp_tree.specs.Trees.{Tree, Trees}
use Rattle.src_mean.specs.Linked as linked
use Rattle.src_mean.specs.Frames as frames
use Rattle.src_mean.specs.Source.{give, run_node}
use Rattle.cpp_tree.specs.declared.kinds.TKind.{TKind}
use Rattle.src_frames.specs.declared.frames.Way.{Way}
use Rattle.src_bind.specs.declared.bound_program.Bound.{Bound}
use Rattle.src_bind.specs.Bounds.{given}
use Rattle.src_bind.specs.Tables.{linked_of}
use Rattle.src_frames.specs.declared.trees.TreeAt.{TreeAt}
use Rattle.src_frames.specs.declared.trees.KidsAt.{KidsAt}
use Rattle.src_frames.specs.declared.frames.Frame.{Frame}
use Rattle.src_frames.specs.declared.state.State.{State}
use Rattle.src_frames.specs.Trees.{tree_shown, kids_shown}
use Rattle.src_frames.specs.Shown.{here_shown, way_shown, frame_shown, frames_shown}

abbrev pub linked_in : Bound → linked.Program
linked_in b = linked_of (given b)

abbrev pub tree_of : Bound → TreeAt → Tree
tree_of b t = tree_shown (given b).program t

abbrev pub all_kids : Bound → KidsAt → Trees
all_kids b k = kids_shown (given b).program k

abbrev pub frame_of : Bound → Frame → frames.Frame
frame_of b f = frame_shown (given b) f

abbrev pub here_of : Bound → State → frames.Here
here_of b s = here_shown (given b) s.here

abbrev pub frames_of : Bound → State → List frames.Frame
frames_of b s = frames_shown (given b) s.frames.list.items

abbrev pub state_of : Bound → State → frames.State
state_of b s = record { event = s.event; here = here_of b s; frames = frames_of b s }

-- the state itself, or that to which a value leads which goes on from it
abbrev pub goes_on : linked.Program → Option ℕ → frames.State → frames.State
goes_on p None s = s
goes_on p (Some w) s = give p s.here w s.frames

abbrev pub after : Bound → Option ℕ → State → frames.State
after b o s = goes_on (linked_in b) o (state_of b s)

-- what a node of a kind with these kids does first
abbrev pub runs_as : Bound → State → Way → TKind → KidsAt → frames.State
runs_as b s way kind kids = run_node (linked_in b) (here_of b s) (way_shown way) kind (all_kids b kids)
    (λ w. give (linked_in b) (here_of b s) w (frames_of b s)) (frames_of b s)
