-- What a frame is to those that look down the frames: for the exception that is handled, for open blocks, and for scopes.
use Rattle.std.proofs.Common.{◌≡◌, List, ◌∷◌, refl, ap, false}
use Rattle.std.specs.Prelude.{option_map, cond}
use Rattle.cpp_tree.specs.tx_events.Thread as threads
use Rattle.cpp_tree.specs.declared.program.Program.{Program}
use Rattle.src_mean.specs.Frames as frames
use Rattle.src_bind.specs.Tables.{Given}
use Rattle.src_frames.specs.declared.frames.Owner.{Owner}
use Rattle.src_frames.specs.declared.frames.Open.{Open}
use Rattle.src_frames.specs.declared.frames.Open.TheVariants.{Atomic, Sync}
use Rattle.src_frames.specs.declared.frames.Frame.{Frame}
use Rattle.src_frames.specs.declared.frames.Frame.TheVariants.{Run, Then, Gives, Leaves, Value, Call, Object, Statement, Block, Exception as AtException, End}
use Rattle.src_frames.specs.declared.frames.ValueFrame.{ValueFrame}
use Rattle.src_frames.specs.declared.frames.ValueFrame.TheVariants.{Loads, Loaded, Replied, StoreTo, Converts, Right, Apply, Choose, AssignTo, UpdateAt}
use Rattle.src_frames.specs.declared.frames.ValueFrame.TheVariants.{UpdateOld, UpdateBy, CopyTo, CopyBy, From}
use Rattle.src_frames.specs.declared.frames.CallFrame.{CallFrame}
use Rattle.src_frames.specs.declared.frames.CallFrame.TheVariants.{Words, Object as ObjectOf, Slot, Pointer, Passes, Called}
use Rattle.src_frames.specs.declared.frames.ObjectFrame.{ObjectFrame}
use Rattle.src_frames.specs.declared.frames.ObjectFrame.TheVariants.{Full, Keeps, Scope, Waits, InitAt, Cleans, Due, Destroys, Parts, Each}
use Rattle.src_frames.specs.declared.frames.StatementFrame.{StatementFrame}
use Rattle.src_frames.specs.declared.frames.StatementFrame.TheVariants.{Items, Test, Body, Step, Picks, Compares, Switches, Returning}
use Rattle.src_frames.specs.declared.frames.BlockFrame.{BlockFrame}
use Rattle.src_frames.specs.declared.frames.BlockFrame.TheVariants.{Opens, Within, Closes}
use Rattle.src_frames.specs.declared.frames.ExceptionFrame.{ExceptionFrame}
use Rattle.src_frames.specs.declared.frames.ExceptionFrame.TheVariants.{Throws, Fills, Filled, Tries, Trying, Takes, Taking, Handling}
use Rattle.src_frames.specs.declared.frames.EndFrame.{EndFrame}
use Rattle.src_frames.specs.declared.frames.EndFrame.TheVariants.{Starts, Halted, Ended}
use Rattle.src_frames.specs.Shown.{exception_shown, owner_shown, open_shown, value_shown, call_shown, object_shown, statement_shown, block_shown}
use Rattle.src_frames.specs.Shown.{throwing_shown, end_shown, frame_shown}
use Rattle.src_frames.specs.Sorts.{first_of, handling, handling_in, is_atomic, is_atomic_in, is_atomic_open, is_scope_of, is_scope_in, waits_too}

module _ (c : frames.Frame) where
  -- no handler is entered in it
  abbrev pub HandlesNone : Type 0
  HandlesNone = (k : List frames.Frame) → frames.handled (c ∷ k) ≡ frames.handled k

  -- no block is open in it
  abbrev pub OpensNone : Type 0
  OpensNone = (k : List frames.Frame) → frames.blocks_of (c ∷ k) ≡ frames.blocks_of k

  -- it is no scope
  abbrev pub ScopesNone : Type 0
  ScopesNone = (o : frames.Owner) (w : frames.Waiting) (k : List frames.Frame) → frames.puts o w (c ∷ k) ≡ c ∷ frames.puts o w k

handles_value : (p : Program) (f : ValueFrame) → HandlesNone (value_shown p f)
handles_value p (Loads kind volatile) = λ k. refl
handles_value p (Loaded kind) = λ k. refl
handles_value p Replied = λ k. refl
handles_value p (StoreTo address kind volatile answer) = λ k. refl
handles_value p (Converts kind) = λ k. refl
handles_value p (Right op kind t) = λ k. refl
handles_value p (Apply op kind left) = λ k. refl
handles_value p (Choose way chosen other) = λ k. refl
handles_value p (AssignTo kind volatile t) = λ k. refl
handles_value p (UpdateAt c t) = λ k. refl
handles_value p (UpdateOld c address t) = λ k. refl
handles_value p (UpdateBy c address old) = λ k. refl
handles_value p (CopyTo source init) = λ k. refl
handles_value p (CopyBy target init) = λ k. refl
handles_value p (From target init) = λ k. refl

handles_call : (g : Given) (f : CallFrame) → HandlesNone (call_shown g f)
handles_call g (Words callee before rest) = λ k. refl
handles_call g (ObjectOf before class slot pointer rest) = λ k. refl
handles_call g (Slot before class slot rest) = λ k. refl
handles_call g (Pointer before t rest) = λ k. refl
handles_call g (Passes words func from) = λ k. refl
handles_call g (Called caller stops) = λ k. refl

handles_object : (p : Program) (f : ObjectFrame) → HandlesNone (object_shown p f)
handles_object p (Full outer) = λ k. refl
handles_object p (Keeps w) = λ k. refl
handles_object p (Scope owner always waiting) = λ k. refl
handles_object p (Waits owner w) = λ k. refl
handles_object p (InitAt init destroys) = λ k. refl
handles_object p (Cleans waiting) = λ k. refl
handles_object p (Due kids) = λ k. refl
handles_object p (Destroys number address stride left) = λ k. refl
handles_object p (Parts kids target source) = λ k. refl
handles_object p (Each init destroys stride left target source) = λ k. refl

handles_statement : (p : Program) (f : StatementFrame) → HandlesNone (statement_shown p f)
handles_statement p (Items kids) = λ k. refl
handles_statement p (Test l) = λ k. refl
handles_statement p (Body l) = λ k. refl
handles_statement p (Step l) = λ k. refl
handles_statement p (Picks kids) = λ k. refl
handles_statement p (Compares word label behind items) = λ k. refl
handles_statement p Switches = λ k. refl
handles_statement p Returning = λ k. refl

handles_block : (p : Program) (f : BlockFrame) → HandlesNone (block_shown p f)
handles_block p (Opens block t) = λ k. refl
handles_block p (Within block) = λ k. refl
handles_block p (Closes block) = λ k. refl

handles_end : (f : EndFrame) → HandlesNone (end_shown f)
handles_end (Starts main) = λ k. refl
handles_end (Halted end) = λ k. refl
handles_end Ended = λ k. refl

opens_value : (p : Program) (f : ValueFrame) → OpensNone (value_shown p f)
opens_value p (Loads kind volatile) = λ k. refl
opens_value p (Loaded kind) = λ k. refl
opens_value p Replied = λ k. refl
opens_value p (StoreTo address kind volatile answer) = λ k. refl
opens_value p (Converts kind) = λ k. refl
opens_value p (Right op kind t) = λ k. refl
opens_value p (Apply op kind left) = λ k. refl
opens_value p (Choose way chosen other) = λ k. refl
opens_value p (AssignTo kind volatile t) = λ k. refl
opens_value p (UpdateAt c t) = λ k. refl
opens_value p (UpdateOld c address t) = λ k. refl
opens_value p (UpdateBy c address old) = λ k. refl
opens_value p (CopyTo source init) = λ k. refl
opens_value p (CopyBy target init) = λ k. refl
opens_value p (From target init) = λ k. refl

opens_call : (g : Given) (f : CallFrame) → OpensNone (call_shown g f)
opens_call g (Words callee before rest) = λ k. refl
opens_call g (ObjectOf before class slot pointer rest) = λ k. refl
opens_call g (Slot before class slot rest) = λ k. refl
opens_call g (Pointer before t rest) = λ k. refl
opens_call g (Passes words func from) = λ k. refl
opens_call g (Called caller stops) = λ k. refl

opens_object : (p : Program) (f : ObjectFrame) → OpensNone (object_shown p f)
opens_object p (Full outer) = λ k. refl
opens_object p (Keeps w) = λ k. refl
opens_object p (Scope owner always waiting) = λ k. refl
opens_object p (Waits owner w) = λ k. refl
opens_object p (InitAt init destroys) = λ k. refl
opens_object p (Cleans waiting) = λ k. refl
opens_object p (Due kids) = λ k. refl
opens_object p (Destroys number address stride left) = λ k. refl
opens_object p (Parts kids target source) = λ k. refl
opens_object p (Each init destroys stride left target source) = λ k. refl

opens_statement : (p : Program) (f : StatementFrame) → OpensNone (statement_shown p f)
opens_statement p (Items kids) = λ k. refl
opens_statement p (Test l) = λ k. refl
opens_statement p (Body l) = λ k. refl
opens_statement p (Step l) = λ k. refl
opens_statement p (Picks kids) = λ k. refl
opens_statement p (Compares word label behind items) = λ k. refl
opens_statement p Switches = λ k. refl
opens_statement p Returning = λ k. refl

opens_throwing : (p : Program) (f : ExceptionFrame) → OpensNone (throwing_shown p f)
opens_throwing p (Throws thrown fields) = λ k. refl
opens_throwing p (Fills from fields made) = λ k. refl
opens_throwing p (Filled from offset kind fields made) = λ k. refl
opens_throwing p (Tries handlers) = λ k. refl
opens_throwing p (Trying e handler others) = λ k. refl
opens_throwing p (Takes e base fields) = λ k. refl
opens_throwing p (Taking e base offset kind) = λ k. refl
opens_throwing p (Handling e) = λ k. refl

opens_end : (f : EndFrame) → OpensNone (end_shown f)
opens_end (Starts main) = λ k. refl
opens_end (Halted end) = λ k. refl
opens_end Ended = λ k. refl

scopes_value : (p : Program) (f : ValueFrame) → ScopesNone (value_shown p f)
scopes_value p (Loads kind volatile) = λ o w k. refl
scopes_value p (Loaded kind) = λ o w k. refl
scopes_value p Replied = λ o w k. refl
scopes_value p (StoreTo address kind volatile answer) = λ o w k. refl
scopes_value p (Converts kind) = λ o w k. refl
scopes_value p (Right op kind t) = λ o w k. refl
scopes_value p (Apply op kind left) = λ o w k. refl
scopes_value p (Choose way chosen other) = λ o w k. refl
scopes_value p (AssignTo kind volatile t) = λ o w k. refl
scopes_value p (UpdateAt c t) = λ o w k. refl
scopes_value p (UpdateOld c address t) = λ o w k. refl
scopes_value p (UpdateBy c address old) = λ o w k. refl
scopes_value p (CopyTo source init) = λ o w k. refl
scopes_value p (CopyBy target init) = λ o w k. refl
scopes_value p (From target init) = λ o w k. refl

scopes_call : (g : Given) (f : CallFrame) → ScopesNone (call_shown g f)
scopes_call g (Words callee before rest) = λ o w k. refl
scopes_call g (ObjectOf before class slot pointer rest) = λ o w k. refl
scopes_call g (Slot before class slot rest) = λ o w k. refl
scopes_call g (Pointer before t rest) = λ o w k. refl
scopes_call g (Passes words func from) = λ o w k. refl
scopes_call g (Called caller stops) = λ o w k. refl

scopes_statement : (p : Program) (f : StatementFrame) → ScopesNone (statement_shown p f)
scopes_statement p (Items kids) = λ o w k. refl
scopes_statement p (Test l) = λ o w k. refl
scopes_statement p (Body l) = λ o w k. refl
scopes_statement p (Step l) = λ o w k. refl
scopes_statement p (Picks kids) = λ o w k. refl
scopes_statement p (Compares word label behind items) = λ o w k. refl
scopes_statement p Switches = λ o w k. refl
scopes_statement p Returning = λ o w k. refl

scopes_block : (p : Program) (f : BlockFrame) → ScopesNone (block_shown p f)
scopes_block p (Opens block t) = λ o w k. refl
scopes_block p (Within block) = λ o w k. refl
scopes_block p (Closes block) = λ o w k. refl

scopes_throwing : (p : Program) (f : ExceptionFrame) → ScopesNone (throwing_shown p f)
scopes_throwing p (Throws thrown fields) = λ o w k. refl
scopes_throwing p (Fills from fields made) = λ o w k. refl
scopes_throwing p (Filled from offset kind fields made) = λ o w k. refl
scopes_throwing p (Tries handlers) = λ o w k. refl
scopes_throwing p (Trying e handler others) = λ o w k. refl
scopes_throwing p (Takes e base fields) = λ o w k. refl
scopes_throwing p (Taking e base offset kind) = λ o w k. refl
scopes_throwing p (Handling e) = λ o w k. refl

scopes_end : (f : EndFrame) → ScopesNone (end_shown f)
scopes_end (Starts main) = λ o w k. refl
scopes_end (Halted end) = λ o w k. refl
scopes_end Ended = λ o w k. refl

handles_throwing : (p : Program) (f : ExceptionFrame) (k : List frames.Frame)
    → frames.handled (throwing_shown p f ∷ k) ≡ first_of (option_map (exception_shown p) (handling_in f)) (frames.handled k)
handles_throwing p (Throws thrown fields) k = refl
handles_throwing p (Fills from fields made) k = refl
handles_throwing p (Filled from offset kind fields made) k = refl
handles_throwing p (Tries handlers) k = refl
handles_throwing p (Trying e handler others) k = refl
handles_throwing p (Takes e base fields) k = refl
handles_throwing p (Taking e base offset kind) k = refl
handles_throwing p (Handling e) k = refl

pub handled_step : (g : Given) (f : Frame) (k : List frames.Frame)
    → frames.handled (frame_shown g f ∷ k) ≡ first_of (option_map (exception_shown g.program) (handling f)) (frames.handled k)
handled_step g (Run way t) k = refl
handled_step g (Then way t) k = refl
handled_step g (Gives w) k = refl
handled_step g (Leaves x) k = refl
handled_step g (Value f) k = handles_value g.program f k
handled_step g (Call f) k = handles_call g f k
handled_step g (Object f) k = handles_object g.program f k
handled_step g (Statement f) k = handles_statement g.program f k
handled_step g (Block f) k = handles_block g.program f k
handled_step g (AtException f) k = handles_throwing g.program f k
handled_step g (End f) k = handles_end f k

no_atomic_open : (o : Open) (k : List frames.Frame) → threads.no_atomic (open_shown o ∷ frames.blocks_of k)
    ≡ cond (is_atomic_open o) false (threads.no_atomic (frames.blocks_of k))
no_atomic_open (Atomic kind) k = refl
no_atomic_open Sync k = refl

no_atomic_block : (p : Program) (f : BlockFrame) (k : List frames.Frame)
    → threads.no_atomic (frames.blocks_of (block_shown p f ∷ k)) ≡ cond (is_atomic_in f) false (threads.no_atomic (frames.blocks_of k))
no_atomic_block p (Opens block t) k = refl
no_atomic_block p (Within block) k = no_atomic_open block k
no_atomic_block p (Closes block) k = no_atomic_open block k

pub no_atomic_step : (g : Given) (f : Frame) (k : List frames.Frame)
    → threads.no_atomic (frames.blocks_of (frame_shown g f ∷ k)) ≡ cond (is_atomic f) false (threads.no_atomic (frames.blocks_of k))
no_atomic_step g (Run way t) k = refl
no_atomic_step g (Then way t) k = refl
no_atomic_step g (Gives w) k = refl
no_atomic_step g (Leaves x) k = refl
no_atomic_step g (Value f) k = ap threads.no_atomic (opens_value g.program f k)
no_atomic_step g (Call f) k = ap threads.no_atomic (opens_call g f k)
no_atomic_step g (Object f) k = ap threads.no_atomic (opens_object g.program f k)
no_atomic_step g (Statement f) k = ap threads.no_atomic (opens_statement g.program f k)
no_atomic_step g (Block f) k = no_atomic_block g.program f k
no_atomic_step g (AtException f) k = ap threads.no_atomic (opens_throwing g.program f k)
no_atomic_step g (End f) k = ap threads.no_atomic (opens_end f k)

puts_object : (p : Program) (f : ObjectFrame) (o : Owner) (w : frames.Waiting) (k : List frames.Frame)
    → frames.puts (owner_shown o) w (object_shown p f ∷ k)
    ≡ cond (is_scope_in o f) (waits_too w (object_shown p f) ∷ k) (object_shown p f ∷ frames.puts (owner_shown o) w k)
puts_object p (Full outer) o w k = refl
puts_object p (Keeps obj) o w k = refl
puts_object p (Scope owner always waiting) o w k = refl
puts_object p (Waits owner obj) o w k = refl
puts_object p (InitAt init destroys) o w k = refl
puts_object p (Cleans waiting) o w k = refl
puts_object p (Due kids) o w k = refl
puts_object p (Destroys number address stride left) o w k = refl
puts_object p (Parts kids target source) o w k = refl
puts_object p (Each init destroys stride left target source) o w k = refl

pub puts_step : (g : Given) (f : Frame) (o : Owner) (w : frames.Waiting) (k : List frames.Frame)
    → frames.puts (owner_shown o) w (frame_shown g f ∷ k)
    ≡ cond (is_scope_of o f) (waits_too w (frame_shown g f) ∷ k) (frame_shown g f ∷ frames.puts (owner_shown o) w k)
puts_step g (Run way t) o w k = refl
puts_step g (Then way t) o w k = refl
puts_step g (Gives v) o w k = refl
puts_step g (Leaves x) o w k = refl
puts_step g (Value f) o w k = scopes_value g.program f (owner_shown o) w k
puts_step g (Call f) o w k = scopes_call g f (owner_shown o) w k
puts_step g (Object f) o w k = puts_object g.program f o w k
puts_step g (Statement f) o w k = scopes_statement g.program f (owner_shown o) w k
puts_step g (Block f) o w k = scopes_block g.program f (owner_shown o) w k
puts_step g (AtException f) o w k = scopes_throwing g.program f (owner_shown o) w k
puts_step g (End f) o w k = scopes_end f (owner_shown o) w k
