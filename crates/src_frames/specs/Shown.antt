-- What the states of the code show.
use Rattle.std.specs.Prelude.{ℕ, List, [], map, reverse, drop, Option, Some, None, unwrap_or, slice_get}
use Rattle.cpp_tree.specs.tx_events.Thread as threads
use Rattle.cpp_tree.specs.cpp_types.Typ.{Typ}
use Rattle.cpp_tree.specs.declared.program.Program.{Program}
use Rattle.cpp_tree.specs.Trees.{typ_in}
use Rattle.src_mean.specs.Linked.{Func, WordPlace}
use Rattle.src_mean.specs.Exceptions.{thrown_typ}
use Rattle.src_mean.specs.Exceptions as exceptions
use Rattle.src_mean.specs.Frames as frames
use Rattle.src_mean.specs.Source.{called_signature}
use Rattle.src_bind.specs.Tables.{Given, linked_of}
use Rattle.src_frames.specs.Trees.{tree_shown, kids_shown}
use Rattle.src_frames.specs.declared.trees.TreeAt.{TreeAt}
use Rattle.src_frames.specs.declared.frames.Waiting.{Waiting}
use Rattle.src_frames.specs.declared.frames.Here.{Here}
use Rattle.src_frames.specs.declared.frames.Way.{Way}
use Rattle.src_frames.specs.declared.frames.Way.TheVariants.{Value as ForValue, Into}
use Rattle.src_frames.specs.declared.frames.Exception.{Exception}
use Rattle.src_frames.specs.declared.frames.Exit.{Exit}
use Rattle.src_frames.specs.declared.frames.Exit.TheVariants.{Throws as Throwing, Returns, Breaks, Continues}
use Rattle.src_frames.specs.declared.frames.Owner.{Owner}
use Rattle.src_frames.specs.declared.frames.Owner.TheVariants.{Block as OfBlock, Call as OfCall, Pieces as OfPieces}
use Rattle.src_frames.specs.declared.frames.Change.{Change}
use Rattle.src_frames.specs.declared.frames.Callee.{Callee}
use Rattle.src_frames.specs.declared.frames.Callee.TheVariants.{Known, Virtual, Pointer as ByPointer, Builtin as BuiltIn}
use Rattle.src_frames.specs.declared.frames.Open.{Open}
use Rattle.src_frames.specs.declared.frames.Open.TheVariants.{Atomic, Sync}
use Rattle.src_frames.specs.declared.frames.Frame.{Frame}
use Rattle.src_frames.specs.declared.frames.Frame.TheVariants.{Run, Then, Gives, Leaves, Value, Call, Object, Statement, Block, Exception as AtException, End}
use Rattle.src_frames.specs.declared.frames.ValueFrame.{ValueFrame}
use Rattle.src_frames.specs.declared.frames.ValueFrame.TheVariants.{Loads, Loaded, Replied, StoreTo, Converts, Right, Apply, Choose, AssignTo, UpdateAt}
use Rattle.src_frames.specs.declared.frames.ValueFrame.TheVariants.{UpdateOld, UpdateBy, CopyTo, CopyBy, From}
use Rattle.src_frames.specs.declared.frames.CallFrame.{CallFrame}
use Rattle.src_frames.specs.declared.frames.CallFrame.TheVariants.{Words, Object as ObjectOf, Slot, Pointer, Passes, Called}
use Rattle.src_frames.specs.declared.frames.ObjectFrame.{ObjectFrame}
use Rattle.src_frames.specs.declared.frames.ObjectFrame.TheVariants.{Full, Keeps, Scope, Waits, InitAt, Cleans, Due, Destroys, Parts, Each}
use Rattle.src_frames.specs.declared.frames.StatementFrame.{StatementFrame}
use Rattle.src_frames.specs.declared.frames.StatementFrame.TheVariants.{Items, Test, Body, Step, Picks, Compares, Switches, Returning}
use Rattle.src_frames.specs.declared.frames.BlockFrame.{BlockFrame}
use Rattle.src_frames.specs.declared.frames.BlockFrame.TheVariants.{Opens, Within, Closes}
use Rattle.src_frames.specs.declared.frames.ExceptionFrame.{ExceptionFrame}
use Rattle.src_frames.specs.declared.frames.ExceptionFrame.TheVariants.{Throws, Fills, Filled, Tries, Trying, Takes, Taking, Handling}
use Rattle.src_frames.specs.declared.frames.EndFrame.{EndFrame}
use Rattle.src_frames.specs.declared.frames.EndFrame.TheVariants.{Starts, Halted, Ended}

abbrev pub waiting_shown : Program → Waiting → frames.Waiting
waiting_shown p w = record { address = tree_shown p w.address; destroys = kids_shown p w.destroys }

-- objects that wait; the code has the newest last
abbrev pub all_waiting : Program → List Waiting → List frames.Waiting
all_waiting p ws = map (waiting_shown p) (reverse ws)

-- the unit and the places of a function; of a stack on which nothing lies yet, those of none
abbrev pub unit_of_func : Option Func → ℕ
unit_of_func None = 0
unit_of_func (Some f) = f.unit

abbrev pub places_of_func : Option Func → List ℕ
places_of_func None = []
places_of_func (Some f) = f.places

abbrev pub words_of_func : Option Func → List WordPlace
words_of_func None = []
words_of_func (Some f) = f.words

abbrev pub func_at_hand : Given → Option ℕ → Option Func
func_at_hand g None = None
func_at_hand g (Some n) = (linked_of g).func n

abbrev pub here_shown : Given → Here → frames.Here
here_shown g h = record {
  frame = h.frame;
  end = h.end;
  limit = h.limit;
  unit = unit_of_func (func_at_hand g h.func);
  places = places_of_func
      (func_at_hand g h.func);
  temporaries = all_waiting g.program h.temporaries.items;
}

-- the type of what was thrown
abbrev pub thrown_by : Program → TreeAt → Typ
thrown_by p t = thrown_typ (typ_in (tree_shown p t))

abbrev pub exception_shown : Program → Exception → exceptions.Exception
exception_shown p e = record { typ = thrown_by p e.thrown; bytes = e.bytes }

abbrev pub exit_shown : Program → Exit → frames.Exit
exit_shown p (Throwing e) = frames.throws (exception_shown p e)
exit_shown p (Returns w) = frames.returns w
exit_shown p Breaks = frames.breaks
exit_shown p Continues = frames.continues

abbrev pub way_shown : Way → frames.Way
way_shown ForValue = frames.value
way_shown (Into target source) = frames.into target source

abbrev pub owner_shown : Owner → frames.Owner
owner_shown OfBlock = frames.of_block
owner_shown OfCall = frames.of_call
owner_shown OfPieces = frames.of_pieces

abbrev pub change_shown : Change → frames.Change
change_shown c = record { op = c.op; stored = c.stored; operation = c.operation; volatile = c.volatile; old = c.old }

abbrev pub callee_shown : Program → Callee → frames.Callee
callee_shown p (Known n) = frames.known n
callee_shown p (Virtual n) = frames.virtual n
callee_shown p (ByPointer address t) = frames.pointer address (called_signature (typ_in (tree_shown p t)))
callee_shown p (BuiltIn b) = frames.builtin b

abbrev pub open_shown : Open → threads.Open
open_shown (Atomic kind) = threads.Atomic kind
open_shown Sync = threads.Sync

-- where the words of a call that are still to be stored go
abbrev pub places_left : Given → ℕ → ℕ → List WordPlace
places_left g func from = drop from (words_of_func ((linked_of g).func func))

abbrev pub value_shown : Program → ValueFrame → frames.Frame
value_shown p (Loads kind volatile) = frames.Loads kind volatile
value_shown p (Loaded kind) = frames.Loaded kind
value_shown p Replied = frames.Replied
value_shown p (StoreTo address kind volatile answer) = frames.StoreTo address kind volatile answer
value_shown p (Converts kind) = frames.Converts kind
value_shown p (Right op kind t) = frames.Right op kind (tree_shown p t)
value_shown p (Apply op kind left) = frames.Apply op kind left
value_shown p (Choose way chosen other) = frames.Choose (way_shown way) (tree_shown p chosen) (tree_shown p other)
value_shown p (AssignTo kind volatile t) = frames.AssignTo kind volatile (tree_shown p t)
value_shown p (UpdateAt c t) = frames.UpdateAt (change_shown c) (tree_shown p t)
value_shown p (UpdateOld c address t) = frames.UpdateOld (change_shown c) address (tree_shown p t)
value_shown p (UpdateBy c address old) = frames.UpdateBy (change_shown c) address old
value_shown p (CopyTo source init) = frames.CopyTo (tree_shown p source) (tree_shown p init)
value_shown p (CopyBy target init) = frames.CopyBy target (tree_shown p init)
value_shown p (From target init) = frames.From target (tree_shown p init)

-- of the words that go into a frame so many have gone
abbrev pub call_shown : Given → CallFrame → frames.Frame
call_shown g (Words callee before rest) = frames.Words (callee_shown g.program callee) before.items (kids_shown g.program rest)
call_shown g (ObjectOf before class slot pointer rest) = frames.Object before.items class slot pointer (kids_shown g.program rest)
call_shown g (Slot before class slot rest) = frames.Slot before.items class slot (kids_shown g.program rest)
call_shown g (Pointer before t rest) = frames.Pointer before.items (called_signature (typ_in (tree_shown g.program t))) (kids_shown g.program rest)
call_shown g (Passes words func from) = frames.Passes (drop from words.items) (places_left g func from)
call_shown g (Called caller stops) = frames.Called (here_shown g caller) stops

abbrev pub object_shown : Program → ObjectFrame → frames.Frame
object_shown p (Full outer) = frames.Full (all_waiting p outer.items)
object_shown p (Keeps w) = frames.Keeps (tree_shown p w.address) (kids_shown p w.destroys)
object_shown p (Scope owner always waiting) = frames.Scope (owner_shown owner) always (all_waiting p waiting.items)
object_shown p (Waits owner w) = frames.Waits (owner_shown owner) (tree_shown p w.address) (kids_shown p w.destroys)
object_shown p (InitAt init destroys) = frames.InitAt (tree_shown p init) (kids_shown p destroys)
object_shown p (Cleans waiting) = frames.Cleans (all_waiting p waiting.items)
object_shown p (Due kids) = frames.Due (kids_shown p kids)
object_shown p (Destroys number address stride left) = frames.Destroys number address stride left
object_shown p (Parts kids target source) = frames.Parts (kids_shown p kids) target source
object_shown p (Each init destroys stride left target source) = frames.Each (tree_shown p init) (kids_shown p destroys) stride left target source

abbrev pub statement_shown : Program → StatementFrame → frames.Frame
statement_shown p (Items kids) = frames.Items (kids_shown p kids)
statement_shown p (Test l) = frames.Test (tree_shown p l.test) (tree_shown p l.body) (tree_shown p l.step)
statement_shown p (Body l) = frames.Body (tree_shown p l.test) (tree_shown p l.body) (tree_shown p l.step)
statement_shown p (Step l) = frames.Step (tree_shown p l.test) (tree_shown p l.body) (tree_shown p l.step)
statement_shown p (Picks kids) = frames.Picks (kids_shown p kids)
statement_shown p (Compares word label behind items) = frames.Compares word label (kids_shown p behind) (kids_shown p items)
statement_shown p Switches = frames.Switches
statement_shown p Returning = frames.Returning

abbrev pub block_shown : Program → BlockFrame → frames.Frame
block_shown p (Opens block t) = frames.Opens (open_shown block) (tree_shown p t)
block_shown p (Within block) = frames.Within (open_shown block)
block_shown p (Closes block) = frames.Closes (open_shown block)

abbrev pub throwing_shown : Program → ExceptionFrame → frames.Frame
throwing_shown p (Throws thrown fields) = frames.Throws (thrown_by p thrown) (kids_shown p fields)
throwing_shown p (Fills from fields made) = frames.Fills (thrown_by p made.thrown) from (kids_shown p fields) made.bytes
throwing_shown p (Filled from offset kind fields made) = frames.Filled (thrown_by p made.thrown) from offset kind (kids_shown p fields) made.bytes
throwing_shown p (Tries handlers) = frames.Tries (kids_shown p handlers)
throwing_shown p (Trying e handler others) = frames.Trying (exception_shown p e) (tree_shown p handler) (kids_shown p others)
throwing_shown p (Takes e base fields) = frames.Takes (exception_shown p e) base (kids_shown p fields)
throwing_shown p (Taking e base offset kind) = frames.Taking (exception_shown p e) base offset kind
throwing_shown p (Handling e) = frames.Handling (exception_shown p e)

abbrev pub end_shown : EndFrame → frames.Frame
end_shown (Starts main) = frames.Starts main
end_shown (Halted end) = frames.Halted end
end_shown Ended = frames.Ended

abbrev pub frame_shown : Given → Frame → frames.Frame
frame_shown g (Run way t) = frames.Run (way_shown way) (tree_shown g.program t)
frame_shown g (Then way t) = frames.Then (way_shown way) (tree_shown g.program t)
frame_shown g (Gives w) = frames.Gives w
frame_shown g (Leaves x) = frames.Leaves (exit_shown g.program x)
frame_shown g (Value f) = value_shown g.program f
frame_shown g (Call f) = call_shown g f
frame_shown g (Object f) = object_shown g.program f
frame_shown g (Statement f) = statement_shown g.program f
frame_shown g (Block f) = block_shown g.program f
frame_shown g (AtException f) = throwing_shown g.program f
frame_shown g (End f) = end_shown f

-- the innermost frame stands last
unfoldable pub frames_shown : Given → List Frame → List frames.Frame
frames_shown g fs = map (frame_shown g) (reverse fs)

-- the offset of a place in the frames of a function
abbrev pub offset_of : Given → Option ℕ → ℕ → ℕ
offset_of g func place = unwrap_or (slice_get (places_of_func (func_at_hand g func)) place) 0
