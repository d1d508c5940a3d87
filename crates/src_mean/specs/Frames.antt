-- What a thread has left to do.
use Rattle.std.specs.Prelude.{ℕ, Bool, true, false, cond, List, [], ◌∷◌, Option, Some, None}
use Rattle.cpp_tree.specs.tx_ints.declared.kinds.IntKind.{IntKind}
use Rattle.cpp_tree.specs.tx_ints.declared.kinds.BinOp.{BinOp}
use Rattle.cpp_tree.specs.tx_events.declared.End.{End}
use Rattle.cpp_tree.specs.tx_events.declared.Event.{Event}
use Rattle.cpp_tree.specs.tx_events.Thread.{Open}
use Rattle.cpp_tree.specs.cpp_types.Typ.{Typ, Signature}
use Rattle.cpp_tree.specs.declared.kinds.Builtin.{Builtin}
use Rattle.cpp_tree.specs.declared.kinds.TKind.{TKind}
use Rattle.cpp_tree.specs.Trees.{Tree, Trees, none, more}
use Rattle.src_mean.specs.Linked.{WordPlace}
use Rattle.src_mean.specs.Exceptions.{Exception}

-- objects that wait for their destruction: what gives their address, and the destructions
pub record Waiting : Type 0 where
  pub address : Tree
  pub destroys : Trees

-- the frame at hand: its address, the stack pointer behind it, the end of the thread's stack, the unit of its function, the offsets of its places,
-- and the temporaries of the full-expression at hand that wait, the newest first
pub record Here : Type 0 where
  pub frame : ℕ
  pub end : ℕ
  pub limit : ℕ
  pub unit : ℕ
  pub places : List ℕ
  pub temporaries : List Waiting

-- a node is run for its value, or into the object at `target`, where what is copied comes from `source`
pub data Way : Type 0 where
  value : Way
  into : (target source : ℕ) → Way

-- what goes outward
pub data Exit : Type 0 where
  throws : Exception → Exit
  returns : ℕ → Exit
  breaks : Exit
  continues : Exit

-- whose objects wait in a scope
pub data Owner : Type 0 where
  of_block : Owner
  of_call : Owner
  of_pieces : Owner

-- an update: its operator, the kind that is loaded and stored, the kind of the operation, the mark, and whether it gives the old value
pub record Change : Type 0 where
  pub op : BinOp
  pub stored : IntKind
  pub operation : IntKind
  pub volatile : Bool
  pub old : Bool

-- what is called
pub data Callee : Type 0 where
  known : (number : ℕ) → Callee
  virtual : (number : ℕ) → Callee
  pointer : (address : ℕ) (signature : Signature) → Callee
  builtin : Builtin → Callee

-- what is to be done with a value, or in its place
pub data Frame : Type 0 where
  -- nodes and values
  Run : Way → Tree → Frame  -- run the node, whatever the value
  Then : Way → Tree → Frame  -- the value is dropped, and the node is next
  Gives : (word : ℕ) → Frame  -- this value in place of it
  Leaves : Exit → Frame  -- go outward
  Loads : IntKind → (volatile : Bool) → Frame  -- the value is the address
  Loaded : IntKind → Frame  -- it is what was read
  Replied : Frame  -- it is a reply, and goes on as it is
  StoreTo : (address : ℕ) → IntKind → (volatile : Bool) → (answer : ℕ) → Frame
  Converts : IntKind → Frame
  Right : BinOp → IntKind → Tree → Frame  -- the value is the left operand
  Apply : BinOp → IntKind → (left : ℕ) → Frame
  Choose : Way → (chosen other : Tree) → Frame
  AssignTo : IntKind → (volatile : Bool) → Tree → Frame  -- the value is the address
  UpdateAt : Change → Tree → Frame  -- the value is the address
  UpdateOld : Change → (address : ℕ) → Tree → Frame  -- it is what was loaded
  UpdateBy : Change → (address old : ℕ) → Frame  -- it is the right operand
  CopyTo : (source init : Tree) → Frame  -- the value is the target
  CopyBy : (target : ℕ) → (init : Tree) → Frame  -- it is the source
  From : (target : ℕ) → (init : Tree) → Frame  -- it is the source, and nothing is given
  -- calls
  Words : Callee → (before : List ℕ) → (rest : Trees) → Frame  -- the value is the next word
  Object : (before : List ℕ) → (class slot pointer : ℕ) → Trees → Frame  -- the value is the object of a virtual call
  Slot : (before : List ℕ) → (class slot : ℕ) → Trees → Frame  -- it is the class address
  Pointer : (before : List ℕ) → Signature → Trees → Frame  -- it is the pointer
  Passes : List ℕ → List WordPlace → Frame  -- words that go into the new frame
  Called : (caller : Here) → (stops : Bool) → Frame
  -- objects
  Full : (outer : List Waiting) → Frame  -- a full-expression, and the temporaries of the one around it
  Keeps : (address : Tree) (destroys : Trees) → Frame  -- put these among the temporaries that wait
  Scope : Owner → (always : Bool) → List Waiting → Frame  -- destroyed always, or only on an exception
  Waits : Owner → (address : Tree) → (destroys : Trees) → Frame  -- put these among those that wait
  InitAt : (init : Tree) → (destroys : Trees) → Frame  -- the value is the address
  Cleans : List Waiting → Frame
  Due : (destroys : Trees) → Frame  -- the value is the address
  Destroys : (number address stride left : ℕ) → Frame
  Parts : Trees → (target source : ℕ) → Frame
  Each : (init : Tree) → (destroys : Trees) → (stride left target source : ℕ) → Frame
  -- statements
  Items : Trees → Frame
  Test : (test body step : Tree) → Frame  -- the value is the loop's test
  Body : (test body step : Tree) → Frame  -- the loop's body
  Step : (test body step : Tree) → Frame  -- the loop's step
  Picks : Trees → Frame  -- the value is that of a switch
  Compares : (word : ℕ) → (label : TKind) → (behind items : Trees) → Frame  -- the label is compared with the value
  Switches : Frame  -- a switch's body
  Returning : Frame  -- the value is returned
  -- blocks and exceptions
  Opens : Open → (body : Tree) → Frame  -- the block has begun
  Within : Open → Frame
  Closes : Open → Frame  -- the block's last event is being made
  Throws : Typ → (fields : Trees) → Frame  -- the value is what is thrown, or the address of it
  Fills : Typ → (from : ℕ) → (fields : Trees) → (bytes : List ℕ) → Frame
  Filled : Typ → (from offset : ℕ) → IntKind → (fields : Trees) → (bytes : List ℕ) → Frame  -- it is a field that was read
  Tries : (handlers : Trees) → Frame
  Trying : Exception → (handler : Tree) → (others : Trees) → Frame
  Takes : Exception → (base : ℕ) → (fields : Trees) → Frame
  Taking : Exception → (base offset : ℕ) → IntKind → Frame  -- a field is stored
  Handling : Exception → Frame
  -- the ends
  Starts : (main : Bool) → Frame  -- the thread's function has ended
  Halted : End → Frame
  Ended : Frame  -- the thread stays at its end

-- the next event, the frame at hand, and what is left to do with the reply, the innermost first
pub record State : Type 0 where
  pub event : Event
  pub here : Here
  pub frames : List Frame

abbrev pub at : Event → Here → List Frame → State
at event here frames = record { event = event; here = here; frames = frames }

-- the open blocks, the innermost first
abbrev pub blocks_of : List Frame → List Open
blocks_of [] = []
blocks_of (Within block ∷ k) = block ∷ blocks_of k
blocks_of (Closes block ∷ k) = block ∷ blocks_of k
blocks_of (f ∷ k) = blocks_of k

-- the exception of the innermost entered handler
abbrev pub handled : List Frame → Option Exception
handled [] = None
handled (Handling x ∷ k) = Some x
handled (f ∷ k) = handled k

abbrev pub same_owner : Owner → Owner → Bool
same_owner of_block of_block = true
same_owner of_call of_call = true
same_owner of_pieces of_pieces = true
same_owner o p = false

-- these objects are put into the nearest scope of that owner
abbrev pub puts : Owner → Waiting → List Frame → List Frame
puts owner w [] = []
puts owner w (Scope o always ws ∷ k) = cond (same_owner owner o) (Scope o always (w ∷ ws) ∷ k) (Scope o always ws ∷ puts owner w k)
puts owner w (f ∷ k) = f ∷ puts owner w k

-- where there are any
abbrev pub puts_some : Owner → Tree → Trees → List Frame → List Frame
puts_some owner address none k = k
puts_some owner address (more d ds) k = puts owner (record { address = address; destroys = more d ds }) k

abbrev pub waiting : Tree → Trees → List Waiting → List Waiting
waiting address none ws = ws
waiting address (more d ds) ws = record { address = address; destroys = more d ds } ∷ ws
