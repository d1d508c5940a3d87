-- A test of what a thread has left to do: inside an atomic block nothing that another thread or the world could see, and no call of an unsafe function.
use Rattle.std.specs.Prelude.{◌≡◌, ℕ, Bool, true, false, not, ◌&&◌, ◌||◌, List, [], ◌∷◌, Option, Some, None, is_some}
use Rattle.std.specs.List.{list_all}
use Rattle.cpp_tree.specs.tx_events.Thread.{Open, Atomic as AtomicBlock, Sync, no_atomic}
use Rattle.cpp_tree.specs.declared.kinds.Builtin.{Builtin}
use Rattle.cpp_tree.specs.declared.kinds.Builtin.TheVariants.{Abort}
use Rattle.cpp_tree.specs.declared.kinds.TKind.{TKind}
use Rattle.cpp_tree.specs.declared.kinds.TKind.TheVariants.{Load, Assign, Update, Materialize, Call, VirtualCall, PointerCall, Builtin as CallBuiltin, Store}
use Rattle.cpp_tree.specs.declared.kinds.TKind.TheVariants.{CopyScalar, Construct, CopyConstruct, Pieces, Piece, Block, Init, Defer, Switch, Try, Atomic}
use Rattle.cpp_tree.specs.declared.kinds.TKind.TheVariants.{Destroy}
use Rattle.cpp_tree.specs.Trees.{Tree, node, Trees, none, more, kind_of, first, rest}
use Rattle.cpp_tree.specs.Roles.{is_handler}
use Rattle.src_mean.specs.Linked.{WordPlace, Func, Program}
use Rattle.src_mean.specs.Frames.{Waiting, Owner, of_block, of_call, of_pieces, Callee, known, virtual, pointer, builtin, Frame, Run, Then, Loads, StoreTo}
use Rattle.src_mean.specs.Frames.{Right, Choose, AssignTo, UpdateAt, UpdateOld, UpdateBy, CopyTo, CopyBy, From, Words, Object, Slot, Pointer, Passes, Called}
use Rattle.src_mean.specs.Frames.{Full, Keeps, Scope, Waits, InitAt, Cleans, Due, Destroys, Parts, Each, Items, Test, Body, Step, Picks, Compares, Opens, Tries}
use Rattle.src_mean.specs.Frames.{Trying, Halted, State, blocks_of, same_owner}
use Rattle.src_mean.specs.Laws.{is_hidden}

-- Trees. `outside` says that no atomic block is open, and `safe` which functions of the unit are safe

-- an access with this mark is not seen there
abbrev pub hides : (outside volatile : Bool) → Bool
hides outside volatile = not volatile || outside

abbrev pub is_abort : Builtin → Bool
is_abort Abort = true
is_abort which = false

-- a node of this kind makes no volatile access and no output, input, start or join of a thread, and calls only safe functions by name
abbrev pub is_tame_kind : (safe : ℕ → Bool) → TKind → Bool
is_tame_kind safe (Load kind volatile) = not volatile
is_tame_kind safe (Assign kind volatile) = not volatile
is_tame_kind safe (Update op stored operation volatile old) = not volatile
is_tame_kind safe (Store kind volatile) = not volatile
is_tame_kind safe (CopyScalar kind volatile) = not volatile
is_tame_kind safe (Call f) = safe f
is_tame_kind safe (Construct f) = safe f
is_tame_kind safe (CopyConstruct f) = safe f
is_tame_kind safe (Destroy f offset count stride) = safe f
is_tame_kind safe (CallBuiltin which) = is_abort which
is_tame_kind safe kind = true

-- whose scope a node puts destructions into, where it does not open it itself
abbrev pub scope_for : TKind → Option Owner
scope_for (Materialize place true) = Some of_call
scope_for Init = Some of_block
scope_for Defer = Some of_block
scope_for (Piece offset) = Some of_pieces
scope_for kind = None

abbrev pub is_free : Tree → Bool
is_free t = not (is_some (scope_for (kind_of t)))

abbrev pub all_free : Trees → Bool
all_free none = true
all_free (more t ts) = is_free t && all_free ts

-- none, or this one
abbrev pub is_at_most : Owner → Option Owner → Bool
is_at_most owner None = true
is_at_most owner (Some o) = same_owner owner o

abbrev pub all_within : Owner → Trees → Bool
all_within owner none = true
all_within owner (more t ts) = is_at_most owner (scope_for (kind_of t)) && all_within owner ts

abbrev pub all_handlers : Trees → Bool
all_handlers none = true
all_handlers (more t ts) = is_handler (kind_of t) && all_handlers ts

-- each kid that wants a scope stands where its parent opens that one
abbrev pub are_placed : TKind → Trees → Bool
are_placed (Call f) kids = all_within of_call kids
are_placed (Construct f) kids = all_within of_call kids
are_placed (VirtualCall f class slot offset) kids = is_free (first kids) && all_within of_call (rest kids)
are_placed PointerCall kids = is_free (first kids) && all_within of_call (rest kids)
are_placed Pieces kids = all_within of_pieces kids
are_placed (Block subobjects) kids = all_within of_block kids
are_placed Switch kids = is_free (first kids) && all_within of_block (rest kids)
are_placed Try kids = is_free (first kids) && all_handlers (rest kids)
are_placed kind kids = all_free kids

-- whether what stands below such a node is outside of all atomic blocks
abbrev pub below : TKind → Bool → Bool
below (Atomic kind) outside = false
below kind outside = outside

-- what counts of a tree is tame: all of it inside a block, else what stands in its atomic blocks
abbrev mutual
  pub is_tame : (safe : ℕ → Bool) → (outside : Bool) → Tree → Bool
  is_tame safe outside (node kind t cat at kids) = (is_tame_kind safe kind || outside) && (are_placed kind kids && are_tame safe (below kind outside) kids)

  pub are_tame : (safe : ℕ → Bool) → (outside : Bool) → Trees → Bool
  are_tame safe outside none = true
  are_tame safe outside (more t ts) = is_tame safe outside t && are_tame safe outside ts

abbrev pub is_alone : (ℕ → Bool) → Bool → Tree → Bool
is_alone safe outside t = is_tame safe outside t && is_free t

abbrev pub are_within : (ℕ → Bool) → Owner → Bool → Trees → Bool
are_within safe owner outside ts = are_tame safe outside ts && all_within owner ts

abbrev pub are_caught : (ℕ → Bool) → Bool → Trees → Bool
are_caught safe outside ts = are_tame safe outside ts && all_handlers ts

-- Frames

-- what is round a frame: whether no atomic block is open, and whose scopes the function at hand has
pub record Round : Type 0 where
  pub outside : Bool
  pub calls : Bool
  pub blocks : Bool
  pub pieces : Bool

abbrev pub has : Owner → Round → Bool
has of_call r = r.calls
has of_block r = r.blocks
has of_pieces r = r.pieces

abbrev pub has_scope : Owner → List Frame → Bool
has_scope owner [] = false
has_scope owner (Scope o always ws ∷ k) = same_owner owner o || has_scope owner k
has_scope owner (Called caller stops ∷ k) = false
has_scope owner (f ∷ k) = has_scope owner k

abbrev pub is_outside : List Frame → Bool
is_outside k = no_atomic (blocks_of k)

abbrev pub round_of : List Frame → Round
round_of k = record { outside = is_outside k; calls = has_scope of_call k; blocks = has_scope of_block k; pieces = has_scope of_pieces k }

abbrev pub is_met : Round → Option Owner → Bool
is_met r None = true
is_met r (Some owner) = has owner r

abbrev pub runs : (ℕ → Bool) → Round → Tree → Bool
runs safe r t = is_tame safe r.outside t && is_met r (scope_for (kind_of t))

abbrev pub run_all : (ℕ → Bool) → Round → Trees → Bool
run_all safe r none = true
run_all safe r (more t ts) = runs safe r t && run_all safe r ts

abbrev pub may_wait : (ℕ → Bool) → Bool → (address : Tree) → (destroys : Trees) → Bool
may_wait safe outside address destroys = is_alone safe outside address && are_tame safe outside destroys

abbrev pub all_wait : (ℕ → Bool) → Bool → List Waiting → Bool
all_wait safe outside [] = true
all_wait safe outside (w ∷ ws) = may_wait safe outside w.address w.destroys && all_wait safe outside ws

-- a function of a linked program that has a safe body, or is none
abbrev pub has_safe_body : Option Func → Bool
has_safe_body None = true
has_safe_body (Some f) = f.safe

abbrev pub may_call : Program → (outside : Bool) → Callee → Bool
may_call p outside (known number) = has_safe_body (p.func number) || outside
may_call p outside (virtual number) = true
may_call p outside (pointer address sig) = true
may_call p outside (builtin which) = is_abort which || outside

abbrev pub hides_all : Bool → List WordPlace → Bool
hides_all outside places = list_all (λ (place : WordPlace). hides outside place.volatile) places

abbrev pub inside_of : Open → Bool → Bool
inside_of (AtomicBlock kind) outside = false
inside_of Sync outside = outside

-- what is left to do in a frame
abbrev pub is_good : Program → (safe : ℕ → Bool) → Round → Frame → Bool
is_good p safe r (Run way t) = runs safe r t
is_good p safe r (Then way t) = runs safe r t
is_good p safe r (Loads kind volatile) = hides r.outside volatile
is_good p safe r (StoreTo address kind volatile answer) = hides r.outside volatile
is_good p safe r (Right op kind t) = is_alone safe r.outside t
is_good p safe r (Choose way chosen other) = is_alone safe r.outside chosen && is_alone safe r.outside other
is_good p safe r (AssignTo kind volatile t) = hides r.outside volatile && is_alone safe r.outside t
is_good p safe r (UpdateAt c t) = hides r.outside c.volatile && is_alone safe r.outside t
is_good p safe r (UpdateOld c address t) = hides r.outside c.volatile && is_alone safe r.outside t
is_good p safe r (UpdateBy c address old) = hides r.outside c.volatile
is_good p safe r (CopyTo source init) = is_alone safe r.outside source && is_alone safe r.outside init
is_good p safe r (CopyBy target init) = is_alone safe r.outside init
is_good p safe r (From target init) = is_alone safe r.outside init
is_good p safe r (Words callee before others) = may_call p r.outside callee && run_all safe r others
is_good p safe r (Object before class slot offset others) = are_within safe of_call r.outside others
is_good p safe r (Slot before class slot others) = are_within safe of_call r.outside others
is_good p safe r (Pointer before sig others) = are_within safe of_call r.outside others
is_good p safe r (Passes words places) = hides_all r.outside places
is_good p safe r (Keeps address destroys) = may_wait safe r.outside address destroys
is_good p safe r (Scope owner always ws) = all_wait safe r.outside ws
is_good p safe r (Waits owner address destroys) = has owner r && may_wait safe r.outside address destroys
is_good p safe r (InitAt init destroys) = r.blocks && (is_alone safe r.outside init && are_tame safe r.outside destroys)
is_good p safe r (Cleans ws) = all_wait safe r.outside ws
is_good p safe r (Due destroys) = are_tame safe r.outside destroys
is_good p safe r (Destroys number address stride left) = has_safe_body (p.func number) || r.outside
is_good p safe r (Parts ts target source) = run_all safe r ts
is_good p safe r (Each init destroys stride left target source) = r.pieces && (is_alone safe r.outside init && are_tame safe r.outside destroys)
is_good p safe r (Items ts) = run_all safe r ts
is_good p safe r (Test test body step) = is_alone safe r.outside test && (is_alone safe r.outside body && is_alone safe r.outside step)
is_good p safe r (Body test body step) = is_alone safe r.outside test && (is_alone safe r.outside body && is_alone safe r.outside step)
is_good p safe r (Step test body step) = is_alone safe r.outside test && (is_alone safe r.outside body && is_alone safe r.outside step)
is_good p safe r (Picks items) = are_within safe of_block r.outside items
is_good p safe r (Compares word label behind items) = are_within safe of_block r.outside behind && are_within safe of_block r.outside items
is_good p safe r (Opens block body) = is_alone safe (inside_of block r.outside) body
is_good p safe r (Tries handlers) = are_caught safe r.outside handlers
is_good p safe r (Trying e handler others) = (is_tame safe r.outside handler && is_handler (kind_of handler)) && are_caught safe r.outside others
is_good p safe r f = true

-- all frames, those of each function by its unit; the temporaries wait for the nearest full-expression. A thread that halted does no more
abbrev pub are_good : Program → (safe : ℕ → ℕ → Bool) → (unit : ℕ) → (temporaries : List Waiting) → List Frame → Bool
are_good p safe unit ws [] = true
are_good p safe unit ws (Full outer ∷ k) = all_wait (safe unit) (is_outside k) ws && are_good p safe unit outer k
are_good p safe unit ws (Called caller stops ∷ k) = are_good p safe caller.unit caller.temporaries k
are_good p safe unit ws (Halted end ∷ k) = false
are_good p safe unit ws (f ∷ k) = is_good p (safe unit) (round_of k) f && are_good p safe unit ws k

abbrev pub are_left : Program → (safe : ℕ → ℕ → Bool) → (unit : ℕ) → (temporaries : List Waiting) → List Frame → Bool
are_left p safe unit ws (Halted end ∷ k) = true
are_left p safe unit ws k = are_good p safe unit ws k

-- the state's event is not seen, and neither is what is left to do
abbrev pub is_marked : Program → (safe : ℕ → ℕ → Bool) → State → Bool
is_marked p safe s = is_hidden s.event (blocks_of s.frames) && are_left p safe s.here.unit s.here.temporaries s.frames

-- Programs

-- a function whose atomic blocks are tame, and all of it where it has a safe body
pub record IsTameFunc (safe : ℕ → ℕ → Bool) (f : Func) : Type 0 where
  pub body : is_tame (safe f.unit) (not f.safe) f.body ≡ true
  pub free : is_free f.body ≡ true
  pub words : hides_all (not f.safe) f.words ≡ true

-- a linked program all of whose functions are tame, where what is safe in a unit has a safe body
pub record IsTame (p : Program) (safe : ℕ → ℕ → Bool) : Type 0 where
  pub calls : (unit n : ℕ) → safe unit n ≡ true → has_safe_body (p.func (p.number unit n)) ≡ true
  pub funcs : (number : ℕ) (f : Func) → p.func number ≡ Some f → IsTameFunc safe f
