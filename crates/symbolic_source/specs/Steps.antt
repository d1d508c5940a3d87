-- What a function does next, as the source thread does it, with terms in the place of numbers.
use Rattle.std.specs.Prelude.{ℕ, zero, suc, ◌^◌, Bool, true, false, not, cond, nat_lt, ◌||◌, List, [], ◌∷◌, ◌++◌, Option, Some, None, slice_get, unwrap_or}
use Rattle.cpp_tree.specs.tx_ints.declared.kinds.IntKind.{IntKind}
use Rattle.cpp_tree.specs.tx_ints.declared.kinds.IntKind.TheVariants.{ULong}
use Rattle.cpp_tree.specs.tx_ints.declared.kinds.BinOp.TheVariants.{Eq}
use Rattle.cpp_tree.specs.tx_events.declared.End.TheVariants.{Abort as Aborts}
use Rattle.cpp_tree.specs.tx_events.Thread.{Atomic as AtomicBlock, Sync}
use Rattle.cpp_tree.specs.cpp_types.Typ.{Typ}
use Rattle.cpp_tree.specs.cpp_layout.Layout.{kind_size}
use Rattle.cpp_tree.specs.declared.kinds.Builtin.{Builtin}
use Rattle.cpp_tree.specs.declared.kinds.Builtin.TheVariants.{PutChar, GetChar, Spawn as SpawnThread, Join as JoinThread, Abort as AbortProgram}
use Rattle.cpp_tree.specs.declared.kinds.TKind.{TKind}
use Rattle.cpp_tree.specs.declared.kinds.TKind.TheVariants.{Literal, Local, Global, Function, ClassTable, Load, Convert, Retype, Binary, Conditional, Comma}
use Rattle.cpp_tree.specs.declared.kinds.TKind.TheVariants.{Assign, Update, CopyAssign, Materialize, FullExpression, Call, VirtualCall, PointerCall}
use Rattle.cpp_tree.specs.declared.kinds.TKind.TheVariants.{Builtin as CallBuiltin, Throw, Rethrow, Store, CopyScalar, Construct, CopyConstruct, CopyFrom}
use Rattle.cpp_tree.specs.declared.kinds.TKind.TheVariants.{Pieces, Piece, Elements, Block, Init, Defer, Loop, Switch, Case, Default, Break, Continue, Return}
use Rattle.cpp_tree.specs.declared.kinds.TKind.TheVariants.{Try, Handler, Atomic, Synchronized, Destroy, Field}
use Rattle.cpp_tree.specs.Trees.{Tree, node, Trees, none, more, kind_of, typ_in, first, rest, second, third}
use Rattle.src_mean.specs.Linked.{Func, Program}
use Rattle.src_mean.specs.Exceptions.{is_object_typ, catches, thrown_typ}
use Rattle.src_mean.specs.Frames.{of_block, of_call, of_pieces, Change}
use Rattle.src_mean.specs.Source.{called_signature, from_label, is_case, is_default, case_word}
use Rattle.symbolic_source.specs.Terms.{Term, Exception, unknown, made, Puts, untouched, put, number, local, global, function, table, sum, product, low_byte}
use Rattle.symbolic_source.specs.Terms.{converted_to, result, field, plus_number, one_less}
use Rattle.symbolic_source.specs.Frames.{at_word, at_tree, Waiting, Way, value, into, Exit, throws, returns, breaks, continues, Callee, known, virtual, pointer}
use Rattle.symbolic_source.specs.Frames.{builtin, Frame, Run, Address, Then, Gives, Leaves, Loads, Loaded, Replied, StoreTo, Converts, Right, Apply, Choose}
use Rattle.symbolic_source.specs.Frames.{AssignTo, UpdateAt, UpdateOld, UpdateBy, CopyTo, CopyBy, From, Words, Object, Slot, Pointer, Passes, Full, Keeps}
use Rattle.symbolic_source.specs.Frames.{Scope, Waits, InitAt, Cleans, Due, Destroys, Parts, Each, Items, Test, Body, Step, Picks, Compares, Switches}
use Rattle.symbolic_source.specs.Frames.{Returning, Opens, Within, Closes, Throws, Fills, Filled, Tries, Trying, Takes, Taking, Handling, spot_frame, puts_some}
use Rattle.symbolic_source.specs.Frames.{waiting, behind, handled}
use Rattle.symbolic_source.specs.Outcomes.{silent, reads, writes, puts_out, takes_in, joins, begins_atomic, begins_sync, ends_block, leaves_block, Outcome}
use Rattle.symbolic_source.specs.Outcomes.{stuck, goes, hands, goes_out, results, finds, calls, spawns, rethrows, halts, either}

-- whether a handler catches an unknown exception, where that is known
abbrev pub Answers : Type 0
Answers = (exception : ℕ) → (handler : Tree) → Option Bool

-- where the number is a word
abbrev pub if_word : ℕ → Outcome → Outcome
if_word n o = cond (nat_lt n (2 ^ 64)) o stuck

abbrev pub goes_if : List Waiting → Option (List Frame) → Outcome
goes_if ws None = stuck
goes_if ws (Some k) = goes silent ws k

-- Leaving

abbrev pub is_throw : Exit → Bool
is_throw (throws e) = true
is_throw (returns w) = false
is_throw breaks = false
is_throw continues = false

abbrev pub try_first : List Waiting → Exception → Trees → Outcome → List Frame → Outcome
try_first ws e none passed k = passed
try_first ws e (more handler others) passed k = goes silent ws (Trying e handler others ∷ k)

abbrev pub left : List Waiting → Exit → List Frame → Outcome
left ws exit [] = goes_out exit ws
left ws exit (Scope owner always scoped ∷ k) = cond (always || is_throw exit) (goes silent ws (Cleans scoped ∷ Leaves exit ∷ k)) (left ws exit k)
left ws exit (Full outer ∷ k) = goes silent outer (Cleans ws ∷ Leaves exit ∷ k)
left ws exit (Within block ∷ k) = goes (leaves_block block exit) ws (Closes block ∷ Leaves exit ∷ k)
left ws (throws e) (Tries handlers ∷ k) = try_first ws e handlers (left ws (throws e) k) k
left ws breaks (Body test body step ∷ k) = goes silent ws (Gives (number 0) ∷ k)
left ws continues (Body test body step ∷ k) = goes silent ws (Run value step ∷ Step test body step ∷ k)
left ws breaks (Switches ∷ k) = goes silent ws (Gives (number 0) ∷ k)
left ws exit (g ∷ k) = left ws exit k

-- Calls

abbrev pub result_words : Way → List Term
result_words value = []
result_words (into target source) = target ∷ []

abbrev pub first_word : List Term → Term
first_word [] = number 0
first_word (w ∷ ws) = w

abbrev pub second_word : List Term → Term
second_word [] = number 0
second_word (w ∷ ws) = first_word ws

abbrev pub built_in : List Waiting → Builtin → List Term → List Frame → Outcome
built_in ws PutChar words k = goes (puts_out (low_byte (first_word words))) ws (Gives (low_byte (first_word words)) ∷ k)
built_in ws GetChar words k = goes takes_in ws (Replied ∷ k)
built_in ws SpawnThread words k = spawns (first_word words) (second_word words) ws k
built_in ws JoinThread words k = goes (joins (first_word words)) ws (Gives (number 0) ∷ k)
built_in ws AbortProgram words k = halts Aborts

abbrev pub invoked : List Waiting → Callee → List Term → List Frame → Outcome
invoked ws (builtin which) words k = built_in ws which words k
invoked ws callee words k = calls callee words ws k

abbrev pub next_word : List Waiting → Callee → List Term → Trees → List Frame → Outcome
next_word ws callee before none k = invoked ws callee before k
next_word ws callee before (more t ts) k = goes silent ws (Run value t ∷ Words callee before ts ∷ k)

abbrev pub called : List Waiting → Callee → List Term → Trees → List Frame → Outcome
called ws callee before words k = next_word ws callee before words (Scope of_call true [] ∷ k)

-- Objects

abbrev pub target_of : Way → Term
target_of value = number 0
target_of (into target source) = target

abbrev pub source_of : Way → Term
source_of value = number 0
source_of (into target source) = source

abbrev pub kept : Bool → List Waiting → List Waiting
kept true ws = ws
kept false ws = []

-- the element of an array with this number
abbrev pub element_at : Term → Term → ℕ → Term
element_at address (number zero) stride = address
element_at address n stride = sum address (product n (number stride))

-- one of so many that are left is destroyed
abbrev pub destroys_next : List Waiting → ℕ → Term → ℕ → Term → List Frame → Outcome
destroys_next ws n address stride left k = calls (known n) (element_at address left stride ∷ []) ws (Destroys n address stride left ∷ k)

abbrev pub each_next : List Waiting → Tree → Trees → ℕ → Term → Term → Term → List Frame → Outcome
each_next ws init destroys stride left target source k = goes silent ws (Run (into target source) init
    ∷ Waits of_pieces (at_word target) destroys ∷ Each init destroys stride left (plus_number target stride) (plus_number source stride) ∷ k)

-- Switches

abbrev pub run_items : List Waiting → Trees → List Frame → Outcome
run_items ws items k = goes silent ws (Items items ∷ Scope of_block true [] ∷ Switches ∷ k)

abbrev pub compared : List Waiting → Term → Trees → Trees → List Frame → Outcome
compared ws w none items k = run_items ws (from_label is_default items) k
compared ws w (more t ts) items k = goes silent ws (Compares w (kind_of t) ts items ∷ k)

-- whether the value of a switch is that of a label
abbrev pub same_word : Term → ℕ → Term
same_word w label = result Eq ULong w (number label)

-- Functions

module _ (p : Program) (f : Func) (answers : Answers) where
  abbrev pub place_of : ℕ → Term
  place_of place = local (unwrap_or (slice_get f.places place) 0)

  -- Handlers

  abbrev pub caught : Exception → Tree → Option Bool
  caught (unknown n) handler = answers n handler
  caught (made t puts) handler = Some (catches p.classes (typ_in handler) t)

  abbrev pub taken : Exception → TKind → Trees → List Frame → List Frame
  taken e (Handler (Some place)) fields k = Takes e (place_of place) fields ∷ k
  taken e kind fields k = k

  abbrev pub handling : List Waiting → Exception → Tree → List Frame → Outcome
  handling ws e (node kind t cat place kids) k = goes silent ws (taken e kind (rest kids) (Then value (first kids) ∷ Handling e ∷ k))

  abbrev pub tried : List Waiting → Option Bool → Exception → Tree → Trees → List Frame → Outcome
  tried ws None e handler others k = stuck
  tried ws (Some true) e handler others k = handling ws e handler k
  tried ws (Some false) e handler others k = left ws (throws e) (Tries others ∷ k)

  abbrev pub take_field : List Waiting → Exception → Term → TKind → Trees → List Frame → Outcome
  take_field ws e base (Field offset kind) others k = goes silent ws (Taking e base offset kind ∷ Takes e base others ∷ k)
  take_field ws e base kind others k = goes silent ws (Takes e base others ∷ k)

  abbrev pub take_bytes : List Waiting → Exception → Term → ℕ → IntKind → List Frame → Outcome
  take_bytes ws e base offset kind k = goes (writes (plus_number base offset) kind (field e offset (kind_size kind)) false) ws (Gives (number 0) ∷ k)

  abbrev pub fill_field : List Waiting → Typ → Term → TKind → Trees → Puts → List Frame → Outcome
  fill_field ws t from (Field offset kind) others puts k = cond (is_object_typ t)
      (goes (reads (plus_number from offset) (kind_size kind) false) ws (Loaded kind ∷ Filled t from offset kind others puts ∷ k))
      (goes silent ws (Fills t from others (put offset (kind_size kind) from puts) ∷ k))
  fill_field ws t from kind others puts k = goes silent ws (Fills t from others puts ∷ k)

  abbrev pub rethrown : List Waiting → Option Exception → List Frame → Outcome
  rethrown ws None k = rethrows ws k
  rethrown ws (Some e) k = left ws (throws e) k

  -- Destructions

  abbrev pub destroyed : List Waiting → Term → TKind → Trees → List Frame → Outcome
  destroyed ws address (Destroy g offset count stride) others k =
      if_word count (goes silent ws (Destroys (p.number f.unit g) (plus_number address offset) stride (number count)
      ∷ Gives address ∷ Due others ∷ k))
  destroyed ws address kind others k = goes silent ws (Gives address ∷ Due others ∷ k)

  -- Nodes

  abbrev pub return_value : List Waiting → Trees → List Frame → Outcome
  return_value ws none k = left ws (returns (number 0)) k
  return_value ws (more t ts) k = goes silent ws (Run value t ∷ Returning ∷ k)

  abbrev pub first_part : List Waiting → Bool → Trees → List Frame → Outcome
  first_part ws true kids k = goes silent ws (Run value (first kids) ∷ Test (first kids) (second kids) (third kids) ∷ k)
  first_part ws false kids k = goes silent ws (Run value (second kids) ∷ Body (first kids) (second kids) (third kids) ∷ k)

  abbrev pub ran : List Waiting → Way → TKind → Trees → (Term → Outcome) → List Frame → Outcome
  ran ws way (Literal w) kids done k = if_word w (done (number w))
  ran ws way (Local place) kids done k = done (place_of place)
  ran ws way (Global n) kids done k = done (global n)
  ran ws way (Function g) kids done k = done (function g)
  ran ws way (ClassTable c) kids done k = done (table c)
  ran ws way (Load kind volatile) kids done k = goes silent ws (Run value (first kids) ∷ Loads kind volatile ∷ k)
  ran ws way (Convert kind) kids done k = goes silent ws (Run value (first kids) ∷ Converts kind ∷ k)
  ran ws way Retype kids done k = goes silent ws (Run value (first kids) ∷ k)
  ran ws way (Binary op kind) kids done k = goes silent ws (Run value (first kids) ∷ Right op kind (second kids) ∷ k)
  ran ws way Conditional kids done k = goes silent ws (Run value (first kids) ∷ Choose way (second kids) (third kids) ∷ k)
  ran ws way Comma kids done k = goes silent ws (Run value (first kids) ∷ Then way (second kids) ∷ k)
  ran ws way (Assign kind volatile) kids done k = goes silent ws (Run value (first kids) ∷ AssignTo kind volatile (second kids) ∷ k)
  ran ws way (Update op stored operation volatile old) kids done k = goes silent ws (Run value (first kids)
      ∷ UpdateAt (record { op = op; stored = stored; operation = operation; volatile = volatile; old = old }) (second kids) ∷ k)
  ran ws way CopyAssign kids done k = goes silent ws (Run value (first kids) ∷ CopyTo (second kids) (third kids) ∷ k)
  ran ws way (Materialize place true) kids done k = goes silent ws (Run (into (place_of place) (number 0)) (first kids)
      ∷ Waits of_call (at_word (place_of place)) (rest kids) ∷ Gives (place_of place) ∷ k)
  ran ws way (Materialize place false) kids done k = goes silent ws (Run (into (place_of place) (number 0)) (first kids)
      ∷ Keeps (at_word (place_of place)) (rest kids) ∷ Gives (place_of place) ∷ k)
  ran ws way FullExpression kids done k = goes silent [] (Run way (first kids) ∷ Full ws ∷ k)
  ran ws way (Call g) kids done k = called ws (known (p.number f.unit g)) (result_words way) kids k
  ran ws way (VirtualCall g class slot offset) kids done k = goes silent ws (Run value (first kids)
      ∷ Object (result_words way) class slot offset (rest kids) ∷ k)
  ran ws way PointerCall kids done k = goes silent ws (Run value (first kids)
      ∷ Pointer (result_words way) (called_signature (typ_in (first kids))) (rest kids) ∷ k)
  ran ws way (CallBuiltin which) kids done k = next_word ws (builtin which) [] kids k
  ran ws way Throw kids done k = goes silent ws (Run value (first kids) ∷ Throws (thrown_typ (typ_in (first kids))) (rest kids) ∷ k)
  ran ws way Rethrow kids done k = rethrown ws (handled k) k
  ran ws way (Store kind volatile) kids done k = goes silent ws (Run value (first kids) ∷ StoreTo (target_of way) kind volatile (number 0) ∷ k)
  ran ws way (CopyScalar kind volatile) kids done k =
      goes (reads (source_of way) (kind_size kind) volatile) ws (Loaded kind ∷ StoreTo (target_of way) kind volatile (number 0) ∷ k)
  ran ws way (Construct g) kids done k = called ws (known (p.number f.unit g)) (target_of way ∷ []) kids k
  ran ws way (CopyConstruct g) kids done k = calls (known (p.number f.unit g)) (target_of way ∷ source_of way ∷ []) ws k
  ran ws way CopyFrom kids done k = goes silent ws (Run value (first kids) ∷ From (target_of way) (second kids) ∷ k)
  ran ws way Pieces kids done k = goes silent ws (Parts kids (target_of way) (source_of way) ∷ Scope of_pieces false [] ∷ k)
  ran ws way (Piece offset) kids done k = goes silent ws (Run (into (plus_number (target_of way) offset) (plus_number (source_of way) offset)) (first kids)
      ∷ Waits of_pieces (at_word (plus_number (target_of way) offset)) (rest kids) ∷ k)
  ran ws way (Elements count stride) kids done k = if_word count
      (goes silent ws (Each (first kids) (rest kids) stride (number count) (target_of way) (source_of way)
      ∷ Scope of_pieces false [] ∷ k))
  ran ws way (Block subobjects) kids done k = goes silent ws (Items kids ∷ Scope of_block (not subobjects) [] ∷ k)
  ran ws way Init kids done k = goes silent ws (Run value (first kids) ∷ InitAt (second kids) (rest (rest kids)) ∷ k)
  ran ws way Defer kids done k = goes silent ws (Waits of_block (at_tree (first kids)) (rest kids) ∷ k)
  ran ws way (Loop test_first) kids done k = first_part ws test_first kids k
  ran ws way Switch kids done k = goes silent ws (Run value (first kids) ∷ Picks (rest kids) ∷ k)
  ran ws way (Case w) kids done k = done (number 0)
  ran ws way Default kids done k = done (number 0)
  ran ws way Break kids done k = left ws breaks k
  ran ws way Continue kids done k = left ws continues k
  ran ws way Return kids done k = return_value ws kids k
  ran ws way Try kids done k = goes silent ws (Run value (first kids) ∷ Tries (rest kids) ∷ k)
  ran ws way (Handler place) kids done k = done (number 0)
  ran ws way (Atomic kind) kids done k = goes (begins_atomic kind) ws (Opens (AtomicBlock kind) (first kids) ∷ k)
  ran ws way Synchronized kids done k = goes begins_sync ws (Opens Sync (first kids) ∷ k)
  ran ws way (Destroy g offset count stride) kids done k = done (number 0)
  ran ws way (Field offset kind) kids done k = done (number 0)

  -- Values

  abbrev pub updated : Change → Term → Term → Term
  updated c address old = cond c.old old address

  abbrev pub given : List Waiting → Term → List Frame → Outcome
  given ws v [] = hands v ws
  given ws v (Run way (node kind t cat place kids) ∷ k) = ran ws way kind kids (λ w. given ws w k) k
  given ws v (Address w ∷ k) = given ws w k
  given ws v (Then way t ∷ k) = goes silent ws (Run way t ∷ k)
  given ws v (Gives w ∷ k) = given ws w k
  given ws v (Leaves exit ∷ k) = left ws exit k
  given ws v (Loads kind volatile ∷ k) = goes (reads v (kind_size kind) volatile) ws (Loaded kind ∷ k)
  given ws v (Loaded kind ∷ k) = given ws (converted_to kind v) k
  given ws v (Replied ∷ k) = given ws v k
  given ws v (StoreTo address kind volatile answer ∷ k) = goes (writes address kind v volatile) ws (Gives answer ∷ k)
  given ws v (Converts kind ∷ k) = given ws (converted_to kind v) k
  given ws v (Right op kind t ∷ k) = goes silent ws (Run value t ∷ Apply op kind v ∷ k)
  given ws v (Apply op kind a ∷ k) = results op kind a v (given ws (result op kind a v) k)
  given ws v (Choose way chosen other ∷ k) = either v (goes silent ws (Run way other ∷ k)) (goes silent ws (Run way chosen ∷ k))
  given ws v (AssignTo kind volatile t ∷ k) = goes silent ws (Run value t ∷ StoreTo v kind volatile v ∷ k)
  given ws v (UpdateAt c t ∷ k) = goes (reads v (kind_size c.stored) c.volatile) ws (Loaded c.stored ∷ UpdateOld c v t ∷ k)
  given ws v (UpdateOld c address t ∷ k) = goes silent ws (Run value t ∷ UpdateBy c address v ∷ k)
  given ws v (UpdateBy c address old ∷ k) = results c.op c.operation old v
      (goes (writes address c.stored (converted_to c.stored (result c.op c.operation old v)) c.volatile) ws (Gives (updated c address old) ∷ k))
  given ws v (CopyTo source init ∷ k) = goes silent ws (Run value source ∷ CopyBy v init ∷ k)
  given ws v (CopyBy target init ∷ k) = goes silent ws (Run (into target v) init ∷ Gives target ∷ k)
  given ws v (From target init ∷ k) = goes silent ws (Run (into target v) init ∷ k)
  given ws v (Words callee before others ∷ k) = next_word ws callee (before ++ v ∷ []) others k
  given ws v (Object before class slot offset words ∷ k) = goes (reads (plus_number v offset) 8 false) ws (Slot (before ++ v ∷ []) class slot words ∷ k)
  given ws v (Slot before class slot words ∷ k) = finds class slot v (called ws (virtual class slot v) before words k)
  given ws v (Pointer before sig words ∷ k) = called ws (pointer v sig) before words k
  given ws v (Passes [] places ∷ k) = given ws (number 0) k
  given ws v (Passes (w ∷ words) [] ∷ k) = given ws (number 0) k
  given ws v (Passes (w ∷ words) (place ∷ places) ∷ k) = goes (writes (local place.offset) place.kind w place.volatile) ws (Passes words places ∷ k)
  given ws v (Full outer ∷ k) = goes silent outer (Cleans ws ∷ Gives v ∷ k)
  given ws v (Keeps address destroys ∷ k) = goes silent (waiting address destroys ws) (Gives v ∷ k)
  given ws v (Scope owner always scoped ∷ k) = goes silent ws (Cleans (kept always scoped) ∷ Gives v ∷ k)
  given ws v (Waits owner address destroys ∷ k) = goes_if ws (behind (Gives v) (puts_some owner address destroys k))
  given ws v (InitAt init destroys ∷ k) = goes silent ws (Run (into v (number 0)) init ∷ Waits of_block (at_word v) destroys ∷ k)
  given ws v (Cleans [] ∷ k) = given ws v k
  given ws v (Cleans (w ∷ others) ∷ k) = goes silent ws (spot_frame w.address ∷ Due w.destroys ∷ Cleans others ∷ k)
  given ws v (Due none ∷ k) = given ws v k
  given ws v (Due (more t ts) ∷ k) = destroyed ws v (kind_of t) ts k
  given ws v (Destroys n address stride count ∷ k) = either count (given ws v k) (destroys_next ws n address stride (one_less count) k)
  given ws v (Parts none target source ∷ k) = given ws v k
  given ws v (Parts (more t ts) target source ∷ k) = goes silent ws (Run (into target source) t ∷ Parts ts target source ∷ k)
  given ws v (Each init destroys stride count target source ∷ k) =
      either count (given ws v k) (each_next ws init destroys stride (one_less count) target source k)
  given ws v (Items none ∷ k) = given ws (number 0) k
  given ws v (Items (more t ts) ∷ k) = goes silent ws (Run value t ∷ Items ts ∷ k)
  given ws v (Test test body step ∷ k) = either v (goes silent ws (Gives (number 0) ∷ k)) (goes silent ws (Run value body ∷ Body test body step ∷ k))
  given ws v (Body test body step ∷ k) = goes silent ws (Run value step ∷ Step test body step ∷ k)
  given ws v (Step test body step ∷ k) = goes silent ws (Run value test ∷ Test test body step ∷ k)
  given ws v (Picks items ∷ k) = compared ws v (from_label is_case items) items k
  given ws v (Compares w label ts items ∷ k) = if_word (case_word label)
      (either (same_word w (case_word label)) (compared ws w (from_label is_case ts) items k) (run_items ws ts k))
  given ws v (Switches ∷ k) = given ws (number 0) k
  given ws v (Returning ∷ k) = left ws (returns v) k
  given ws v (Opens block body ∷ k) = goes silent ws (Run value body ∷ Within block ∷ k)
  given ws v (Within block ∷ k) = goes (ends_block block) ws (Closes block ∷ k)
  given ws v (Closes block ∷ k) = given ws (number 0) k
  given ws v (Throws t fields ∷ k) = goes silent ws (Fills t v fields untouched ∷ k)
  given ws v (Fills t from none puts ∷ k) = left ws (throws (made t puts)) k
  given ws v (Fills t from (more part others) puts ∷ k) = fill_field ws t from (kind_of part) others puts k
  given ws v (Filled t from offset kind others puts ∷ k) = goes silent ws (Fills t from others (put offset (kind_size kind) v puts) ∷ k)
  given ws v (Tries handlers ∷ k) = given ws (number 0) k
  given ws v (Trying e handler others ∷ k) = tried ws (caught e handler) e handler others k
  given ws v (Takes e base none ∷ k) = given ws (number 0) k
  given ws v (Takes e base (more part others) ∷ k) = take_field ws e base (kind_of part) others k
  given ws v (Taking e base offset kind ∷ k) = take_bytes ws e base offset kind k
  given ws v (Handling e ∷ k) = given ws v k

  -- so many silent steps
  abbrev pub step_of : Outcome → Outcome
  step_of (goes silent ws k) = given ws (number 0) k
  step_of o = stuck

  abbrev pub advanced : ℕ → Outcome → Outcome
  advanced zero o = o
  advanced (suc n) o = advanced n (step_of o)
