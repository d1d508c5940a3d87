-- Objects that are built part by part.
use Rattle.std.specs.Prelude.{Bool, true, false, ℕ, ◌-◌, cond, nat_lt, length}
use Rattle.cpp_tree.specs.cpp_types.declared.classes.At.{At}
use Rattle.cpp_tree.specs.declared.arena.TNodeId.{TNodeId}
use Rattle.cpp_tree.specs.declared.kinds.TKind.{TKind}
use Rattle.cpp_tree.specs.declared.kinds.TKind.TheVariants.{Piece, Elements}
use Rattle.tx_code.specs.declared.instr.Instr.TheVariants.{Push, Dup, Pop, Swap, Over}
use Rattle.low_code.specs.declared.scopes.Owner.{Owner}
use Rattle.low_code.specs.declared.scopes.Owner.TheVariants.{Parts}
use Rattle.low_code.specs.declared.scopes.Address.TheVariants.{Word}
use Rattle.low_code.specs.declared.scopes.ScopeKind.{ScopeKind}
use Rattle.low_code.specs.declared.scopes.ScopeKind.TheVariants.{Mark, Waits, Each}
use Rattle.low_code.specs.Nodes.{Node}
use Rattle.unwind_lower.specs.declared.items.Way.{Way}
use Rattle.unwind_lower.specs.declared.items.Way.TheVariants.{Value, Dropped, Into, Copying}
use Rattle.unwind_lower.specs.declared.items.Item.TheVariants.{PartMade, CloseParts, ElementMade}
use Rattle.unwind_lower.specs.States.{State, later, put, put_offset, put_less, repeated, entered_at, entered, left, left_scope}
use Rattle.unwind_lower.specs.States.{here, scope_of, depth_of, scope_at, scope_count}
use Rattle.unwind_lower.specs.Kids.{run_kid, run_kids}
use Rattle.unwind_lower.specs.Calls.{put_grabbed, grab, let_go}

-- ---- parts

unfoldable pub pieces : Node → Way → State → State
pieces n way s = run_kids n 0 way (later (CloseParts way n.at) (entered (Mark Parts) n.at s))

-- the address of a part, and that of what is copied, come on top
unfoldable pub put_part : ℕ → At → Way → State → State
put_part offset at Into s = put_offset offset at (put Dup at s)
put_part offset at Copying s = put_offset offset at (put Over at (put_offset offset at (put Over at s)))
put_part offset at Value s = s
put_part offset at Dropped s = s

unfoldable pub piece : TNodeId → Node → ℕ → Way → State → State
piece id n offset way s = put_part offset n.at way (run_kid n 0 way (later (PartMade id way) s))

-- how many addresses lie above that of the whole
abbrev pub sources_of : Way → ℕ
sources_of Copying = 1
sources_of Value = 0
sources_of Dropped = 0
sources_of Into = 0

-- a part waits for an exception
unfoldable pub part_waits : ℕ → TNodeId → At → Way → State → State
part_waits offset id at way s = entered_at (Waits Parts false (Word offset) id 1) (depth_of s - sources_of way) at s

unfoldable pub part_made : TKind → TNodeId → Node → Way → State → State
part_made (Piece offset) id n way s = cond (nat_lt (length n.kids) 2) s (part_waits offset id n.at way s)
part_made kind id n way s = s

-- the address of what was copied is dropped
unfoldable pub drop_source : Way → At → State → State
drop_source Copying at s = put Pop at s
drop_source Value at s = s
drop_source Dropped at s = s
drop_source Into at s = s

-- a scope of parts is left; behind the last one their addresses are taken
unfoldable pub close_mark_of_parts : Owner → Way → At → State → State
close_mark_of_parts Parts way at s = drop_source way at (put Pop at (left s))
close_mark_of_parts owner way at s = s

unfoldable pub close_part : ScopeKind → Way → At → State → State
close_part (Mark owner) way at s = close_mark_of_parts owner way at s
close_part (Waits owner always address id first) way at s = later (CloseParts way at) (left s)
close_part kind way at s = s

unfoldable pub close_parts : Way → At → State → State
close_parts way at s = close_part (scope_at (scope_of s) s).kind way at s

-- ---- elements

abbrev pub is_copy : Way → Bool
is_copy Copying = true
is_copy Value = false
is_copy Dropped = false
is_copy Into = false

-- how many words lie on top of what is built when an element is made
abbrev pub words_above : Bool → ℕ
words_above copies = cond copies 2 0

-- elements need no destruction
abbrev pub is_simple : Node → Bool
is_simple n = nat_lt (length n.kids) 2

-- the scope in which an element is made, the one at hand where elements need no destruction, and its number
unfoldable pub enter_elements : TNodeId → Node → Way → State → State
enter_elements id n way s = cond (is_simple n) s (entered_at (Each id (is_copy way)) (depth_of s - words_above (is_copy way)) n.at s)

unfoldable pub elements_scope : Node → State → ℕ
elements_scope n s = cond (is_simple n) (scope_of s) (scope_count s)

-- the addresses of an element and of its source come on top
unfoldable pub next_pair : ℕ → At → State → State
next_pair stride at s = let_go at (put_grabbed 1 at (put_grabbed 0 at (put_less 1 at (put_grabbed 2 at (put_offset stride at (put_grabbed 1 at
    (put_offset stride at (put_grabbed 0 at (grab at s)))))))))

unfoldable pub start_element : ℕ → Way → At → State → State
start_element stride Copying at s = next_pair stride at s
start_element stride Into at s = s
start_element stride Value at s = s
start_element stride Dropped at s = s

-- the address of the next element comes on top
unfoldable pub put_element : Way → At → State → State
put_element Into at s = put Over at s
put_element Value at s = s
put_element Dropped at s = s
put_element Copying at s = s

-- where the elements begin, and what is built there
unfoldable pub start_elements : ℕ → Way → At → ℕ → State → State
start_elements stride way at count s = start_element stride way at (put (Push count) at s)

-- an element is made where the turn of the loop begins at an index
unfoldable pub make_element : TNodeId → Node → Way → ℕ → State → State
make_element id n way top s = put_element way n.at (run_kid n 0 way (later (ElementMade id way top (elements_scope n s)) (enter_elements id n way s)))

unfoldable pub elements : TNodeId → Node → ℕ → ℕ → Way → State → State
elements id n count stride way s = make_element id n way (here (put (Push count) n.at s)) (start_elements stride way n.at count s)

-- the address on top but one goes on by an element, of which one less is left; in a copy that is done before
unfoldable pub next_element : ℕ → Way → At → State → State
next_element stride Into at s = put_less 1 at (put Swap at (put_offset stride at (put Swap at s)))
next_element stride Value at s = s
next_element stride Dropped at s = s
next_element stride Copying at s = s

-- the scope is left in which an element is made
unfoldable pub leave_element : Node → ℕ → State → State
leave_element n scope s = cond (nat_lt 1 (length n.kids)) (left_scope scope s) s

-- the next element is made, if one is left
unfoldable pub go_round : ℕ → Way → ℕ → At → State → State
go_round stride way top at s = drop_source way at (put Pop at (put Pop at (repeated top at (next_element stride way at s))))

unfoldable pub element_made : TKind → Node → Way → ℕ → ℕ → State → State
element_made (Elements count stride) n way top scope s = go_round stride way top n.at (leave_element n scope s)
element_made kind n way top scope s = s
