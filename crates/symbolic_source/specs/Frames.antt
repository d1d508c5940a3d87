-- What a function that runs has left to do, with terms in the place of numbers. The frames of a thread have the same forms.
use Rattle.std.specs.Prelude.{ℕ, ◌+◌, Bool, true, false, List, [], ◌∷◌, Option, Some, None}
use Rattle.cpp_tree.specs.tx_ints.declared.kinds.IntKind.{IntKind}
use Rattle.cpp_tree.specs.tx_ints.declared.kinds.BinOp.{BinOp}
use Rattle.cpp_tree.specs.tx_events.Thread.{Open}
use Rattle.cpp_tree.specs.cpp_types.Typ.{Typ, Signature}
use Rattle.cpp_tree.specs.declared.kinds.Builtin.{Builtin}
use Rattle.cpp_tree.specs.declared.kinds.TKind.{TKind}
use Rattle.cpp_tree.specs.Trees.{Tree, Trees, none, more, literal}
use Rattle.src_mean.specs.Linked.{Func, Program, WordPlace}
use Rattle.src_mean.specs.Frames.{Owner, same_owner, Change}
use Rattle.src_mean.specs.Frames as frames
use Rattle.symbolic_source.specs.Terms.{Term, Exception, Puts, Values, number_found, eval, exception_of, bytes_put}

-- the address of a waiting object: a word, or what a tree gives
pub data Spot : Type 0 where
  at_word : Term → Spot
  at_tree : Tree → Spot

pub record Waiting : Type 0 where
  pub address : Spot
  pub destroys : Trees

pub data Way : Type 0 where
  value : Way
  into : (target source : Term) → Way

pub data Exit : Type 0 where
  throws : Exception → Exit
  returns : Term → Exit
  breaks : Exit
  continues : Exit

pub data Callee : Type 0 where
  known : (number : ℕ) → Callee
  virtual : (class slot : ℕ) → (address : Term) → Callee  -- of the class at this address
  pointer : (address : Term) (signature : Signature) → Callee
  builtin : Builtin → Callee

pub data Frame : Type 0 where
  Run : Way → Tree → Frame
  Address : Term → Frame  -- a tree that is this word
  Then : Way → Tree → Frame
  Gives : Term → Frame
  Leaves : Exit → Frame
  Loads : IntKind → (volatile : Bool) → Frame
  Loaded : IntKind → Frame
  Replied : Frame
  StoreTo : (address : Term) → IntKind → (volatile : Bool) → (answer : Term) → Frame
  Converts : IntKind → Frame
  Right : BinOp → IntKind → Tree → Frame
  Apply : BinOp → IntKind → (left : Term) → Frame
  Choose : Way → (chosen other : Tree) → Frame
  AssignTo : IntKind → (volatile : Bool) → Tree → Frame
  UpdateAt : Change → Tree → Frame
  UpdateOld : Change → (address : Term) → Tree → Frame
  UpdateBy : Change → (address old : Term) → Frame
  CopyTo : (source init : Tree) → Frame
  CopyBy : (target : Term) → (init : Tree) → Frame
  From : (target : Term) → (init : Tree) → Frame
  Words : Callee → (before : List Term) → (rest : Trees) → Frame
  Object : (before : List Term) → (class slot pointer : ℕ) → Trees → Frame
  Slot : (before : List Term) → (class slot : ℕ) → Trees → Frame
  Pointer : (before : List Term) → Signature → Trees → Frame
  Passes : List Term → List WordPlace → Frame
  Full : (outer : List Waiting) → Frame
  Keeps : (address : Spot) (destroys : Trees) → Frame
  Scope : Owner → (always : Bool) → List Waiting → Frame
  Waits : Owner → (address : Spot) → (destroys : Trees) → Frame
  InitAt : (init : Tree) → (destroys : Trees) → Frame
  Cleans : List Waiting → Frame
  Due : (destroys : Trees) → Frame
  Destroys : (number : ℕ) (address : Term) (stride : ℕ) (left : Term) → Frame
  Parts : Trees → (target source : Term) → Frame
  Each : (init : Tree) → (destroys : Trees) → (stride : ℕ) (left target source : Term) → Frame
  Items : Trees → Frame
  Test : (test body step : Tree) → Frame
  Body : (test body step : Tree) → Frame
  Step : (test body step : Tree) → Frame
  Picks : Trees → Frame
  Compares : (word : Term) → (label : TKind) → (behind items : Trees) → Frame
  Switches : Frame
  Returning : Frame
  Opens : Open → (body : Tree) → Frame
  Within : Open → Frame
  Closes : Open → Frame
  Throws : Typ → (fields : Trees) → Frame
  Fills : Typ → (from : Term) → (fields : Trees) → Puts → Frame
  Filled : Typ → (from : Term) → (offset : ℕ) → IntKind → (fields : Trees) → Puts → Frame
  Tries : (handlers : Trees) → Frame
  Trying : Exception → (handler : Tree) → (others : Trees) → Frame
  Takes : Exception → (base : Term) → (fields : Trees) → Frame
  Taking : Exception → (base : Term) → (offset : ℕ) → IntKind → Frame
  Handling : Exception → Frame

-- What they stand for

module _ (p : Program) (f : Func) (x : Values) where
  abbrev pub spot_of : Spot → Tree
  spot_of (at_word w) = literal (eval p f x w)
  spot_of (at_tree t) = t

  abbrev pub waiting_of : Waiting → frames.Waiting
  waiting_of w = record { address = spot_of w.address; destroys = w.destroys }

  abbrev pub waitings_of : List Waiting → List frames.Waiting
  waitings_of [] = []
  waitings_of (w ∷ ws) = waiting_of w ∷ waitings_of ws

  abbrev pub words_of : List Term → List ℕ
  words_of [] = []
  words_of (w ∷ ws) = eval p f x w ∷ words_of ws

  abbrev pub way_of : Way → frames.Way
  way_of value = frames.value
  way_of (into target source) = frames.into (eval p f x target) (eval p f x source)

  abbrev pub exit_of : Exit → frames.Exit
  exit_of (throws e) = frames.throws (exception_of p f x e)
  exit_of (returns w) = frames.returns (eval p f x w)
  exit_of breaks = frames.breaks
  exit_of continues = frames.continues

  abbrev pub callee_of : Callee → frames.Callee
  callee_of (known n) = frames.known n
  callee_of (virtual class slot address) = frames.virtual (number_found (p.slot (eval p f x address) class slot))
  callee_of (pointer address sig) = frames.pointer (eval p f x address) sig
  callee_of (builtin which) = frames.builtin which

  abbrev pub frame_of : Frame → frames.Frame
  frame_of (Run way t) = frames.Run (way_of way) t
  frame_of (Address w) = frames.Run frames.value (literal (eval p f x w))
  frame_of (Then way t) = frames.Then (way_of way) t
  frame_of (Gives w) = frames.Gives (eval p f x w)
  frame_of (Leaves exit) = frames.Leaves (exit_of exit)
  frame_of (Loads kind volatile) = frames.Loads kind volatile
  frame_of (Loaded kind) = frames.Loaded kind
  frame_of Replied = frames.Replied
  frame_of (StoreTo address kind volatile answer) = frames.StoreTo (eval p f x address) kind volatile (eval p f x answer)
  frame_of (Converts kind) = frames.Converts kind
  frame_of (Right op kind t) = frames.Right op kind t
  frame_of (Apply op kind left) = frames.Apply op kind (eval p f x left)
  frame_of (Choose way chosen other) = frames.Choose (way_of way) chosen other
  frame_of (AssignTo kind volatile t) = frames.AssignTo kind volatile t
  frame_of (UpdateAt change t) = frames.UpdateAt change t
  frame_of (UpdateOld change address t) = frames.UpdateOld change (eval p f x address) t
  frame_of (UpdateBy change address old) = frames.UpdateBy change (eval p f x address) (eval p f x old)
  frame_of (CopyTo source init) = frames.CopyTo source init
  frame_of (CopyBy target init) = frames.CopyBy (eval p f x target) init
  frame_of (From target init) = frames.From (eval p f x target) init
  frame_of (Words callee before others) = frames.Words (callee_of callee) (words_of before) others
  frame_of (Object before class slot offset words) = frames.Object (words_of before) class slot offset words
  frame_of (Slot before class slot words) = frames.Slot (words_of before) class slot words
  frame_of (Pointer before sig words) = frames.Pointer (words_of before) sig words
  frame_of (Passes words places) = frames.Passes (words_of words) places
  frame_of (Full outer) = frames.Full (waitings_of outer)
  frame_of (Keeps address destroys) = frames.Keeps (spot_of address) destroys
  frame_of (Scope owner always ws) = frames.Scope owner always (waitings_of ws)
  frame_of (Waits owner address destroys) = frames.Waits owner (spot_of address) destroys
  frame_of (InitAt init destroys) = frames.InitAt init destroys
  frame_of (Cleans ws) = frames.Cleans (waitings_of ws)
  frame_of (Due destroys) = frames.Due destroys
  frame_of (Destroys number address stride left) = frames.Destroys number (eval p f x address) stride (eval p f x left)
  frame_of (Parts parts target source) = frames.Parts parts (eval p f x target) (eval p f x source)
  frame_of (Each init destroys stride left target source) = frames.Each init destroys stride (eval p f x left) (eval p f x target) (eval p f x source)
  frame_of (Items items) = frames.Items items
  frame_of (Test test body step) = frames.Test test body step
  frame_of (Body test body step) = frames.Body test body step
  frame_of (Step test body step) = frames.Step test body step
  frame_of (Picks items) = frames.Picks items
  frame_of (Compares word label behind items) = frames.Compares (eval p f x word) label behind items
  frame_of Switches = frames.Switches
  frame_of Returning = frames.Returning
  frame_of (Opens block body) = frames.Opens block body
  frame_of (Within block) = frames.Within block
  frame_of (Closes block) = frames.Closes block
  frame_of (Throws t fields) = frames.Throws t fields
  frame_of (Fills t from fields puts) = frames.Fills t (eval p f x from) fields (bytes_put p f x puts)
  frame_of (Filled t from offset kind fields puts) = frames.Filled t (eval p f x from) offset kind fields (bytes_put p f x puts)
  frame_of (Tries handlers) = frames.Tries handlers
  frame_of (Trying e handler others) = frames.Trying (exception_of p f x e) handler others
  frame_of (Takes e base fields) = frames.Takes (exception_of p f x e) (eval p f x base) fields
  frame_of (Taking e base offset kind) = frames.Taking (exception_of p f x e) (eval p f x base) offset kind
  frame_of (Handling e) = frames.Handling (exception_of p f x e)

  -- the frames of the function at hand, on those of its callers
  abbrev pub below : List Frame → List frames.Frame → List frames.Frame
  below [] rest = rest
  below (g ∷ k) rest = frame_of g ∷ below k rest

  -- its frame at hand
  abbrev pub here_of : List Waiting → frames.Here
  here_of ws = record { frame = x.base; end = x.base + f.size; limit = x.limit; unit = f.unit; places = f.places; temporaries = waitings_of ws }

-- Frames

-- the frame in which the address of a waiting object is found
abbrev pub spot_frame : Spot → Frame
spot_frame (at_word w) = Address w
spot_frame (at_tree t) = Run value t

abbrev pub put_into : Bool → Waiting → Owner → Bool → List Waiting → List Frame → Option (List Frame) → Option (List Frame)
put_into true w owner always ws k others = Some (Scope owner always (w ∷ ws) ∷ k)
put_into false w owner always ws k None = None
put_into false w owner always ws k (Some others) = Some (Scope owner always ws ∷ others)

abbrev pub behind : Frame → Option (List Frame) → Option (List Frame)
behind g None = None
behind g (Some k) = Some (g ∷ k)

-- these objects are put into the nearest scope of that owner, which has to be one of this function
abbrev pub puts : Owner → Waiting → List Frame → Option (List Frame)
puts owner w [] = None
puts owner w (Scope o always ws ∷ k) = put_into (same_owner owner o) w o always ws k (puts owner w k)
puts owner w (g ∷ k) = behind g (puts owner w k)

abbrev pub puts_some : Owner → Spot → Trees → List Frame → Option (List Frame)
puts_some owner address none k = Some k
puts_some owner address (more d ds) k = puts owner (record { address = address; destroys = more d ds }) k

abbrev pub waiting : Spot → Trees → List Waiting → List Waiting
waiting address none ws = ws
waiting address (more d ds) ws = record { address = address; destroys = more d ds } ∷ ws

-- the exception of the innermost entered handler of this function
abbrev pub handled : List Frame → Option Exception
handled [] = None
handled (Handling e ∷ k) = Some e
handled (g ∷ k) = handled k

-- the open blocks of this function
abbrev pub blocks_in : List Frame → List Open
blocks_in [] = []
blocks_in (Within block ∷ k) = block ∷ blocks_in k
blocks_in (Closes block ∷ k) = block ∷ blocks_in k
blocks_in (g ∷ k) = blocks_in k
