-- What is thrown, and handlers.
use Rattle.std.proofs.Common.{Bool, List, None, Option, Some, [], false, refl, true, ℕ, ◌+◌, ◌∷◌, ◌≡◌, suc, ap}
use Rattle.cpp_tree.specs.cpp_types.Conversion.{referred}
use Rattle.cpp_tree.specs.cpp_types.Typ.{Form, Typ, class}
use Rattle.cpp_tree.specs.cpp_types.declared.classes.At.{At}
use Rattle.cpp_tree.specs.declared.arena.TNodeId.{TNodeId}
use Rattle.cpp_tree.specs.declared.kinds.TKind.TheVariants.{Field, Handler}
use Rattle.cpp_tree.specs.declared.kinds.TKind.{TKind}
use Rattle.cpp_tree.specs.tx_ints.declared.kinds.IntKind.{IntKind}
use Rattle.tx_code.specs.declared.instr.Instr.TheVariants.{Dup, EndHandler, FrameAddr, GetException, NewException, Pop, PutException, Throw}
use Rattle.low_code.specs.Caught.{caught_names}
use Rattle.low_code.specs.Nodes.{Node, kid_in}
use Rattle.low_code.specs.Numbers.{bytes_number, load, store}
use Rattle.low_code.specs.Types.{is_class_type, is_void}
use Rattle.low_code.specs.declared.scopes.ScopeKind.TheVariants.{Try}
use Rattle.low_code.specs.declared.writer.Sort.TheVariants.{Past as PastIt}
use Rattle.unwind_lower.specs.Exceptions as exceptions
use Rattle.unwind_lower.specs.Exceptions.{form_of, handles}
use Rattle.unwind_lower.specs.Kids.{kids_from}
use Rattle.unwind_lower.specs.Settings.{Setting, bare_text, class_name, classes_in, node_in, place_in}
use Rattle.unwind_lower.specs.States as states
use Rattle.unwind_lower.specs.States.{State, handler_from, is_live, number_of, scope_at, scope_count}
use Rattle.unwind_lower.specs.declared.items.Item.TheVariants.{Handle, HandlerDone, Past, Thrown, TryDone}
use Rattle.unwind_lower.specs.declared.items.Way.TheVariants.{Dropped, Value}
use Rattle.lowered_apart.specs.Still.{Nodes, lets_wait}
use Rattle.lowered_apart.specs.Waiting.{MayRun, AllRun, Waiting}
use Rattle.lowered_apart.proofs.Lists.{drops}
use Rattle.lowered_apart.proofs.Basic.{at_depth, at_scope, caught_all, caught_one, either, entered, entered_handler, hold, jumped_to, left_scope, made_live, more, named, put, put_offset}
use Rattle.lowered_apart.proofs.Kids.{below, run_kid}

module _ {z : Nodes} where
  pub start_throw : (id : TNodeId) (n : Node) {free : Bool} {s : State} → AllRun z free n.kids → Waiting z free s → Waiting z free (exceptions.start_throw id n s)
  unfolding exceptions.start_throw
  start_throw id n k m = run_kid n 0 Value k (more (Thrown id) tt refl m)

  pub read_field : (offset : ℕ) (kind : IntKind) (at : At) (b : Bool) {free : Bool} {s : State} → Waiting z free s
      → Waiting z free (exceptions.read_field offset kind at b s)
  unfolding exceptions.read_field
  read_field offset kind at true m = put (load kind false) at (put_offset offset at (put Dup at m))
  read_field offset kind at false m = m

  pub put_field : (kind : TKind) (at : At) (is_object : Bool) {free : Bool} {s : State} → Waiting z free s → Waiting z free (exceptions.put_field kind at is_object s)
  unfolding exceptions.put_field
  put_field (Field offset kind) at is_object m = put (PutException offset (bytes_number kind)) at (read_field offset kind at is_object m)
  put_field kind at is_object m = m

  pub put_fields : (g : Setting) (is_object : Bool) (ids : List TNodeId) {free : Bool} {s : State} → Waiting z free s
      → Waiting z free (exceptions.put_fields g is_object ids s)
  unfolding exceptions.put_fields
  put_fields g is_object [] m = m
  put_fields g is_object (id ∷ ids) m = put_fields g is_object ids (put_field (node_in g id).kind (node_in g id).at is_object m)

  pub drop_object : (at : At) (b : Bool) {free : Bool} {s : State} → Waiting z free s → Waiting z free (exceptions.drop_object at b s)
  unfolding exceptions.drop_object
  drop_object at true m = put Pop at m
  drop_object at false m = m

  pub throw_value : (g : Setting) (t : Typ) (fields : List TNodeId) (at : At) {free : Bool} {s : State} → Waiting z free s
      → Waiting z free (exceptions.throw_value g t fields at s)
  unfolding exceptions.throw_value
  throw_value g t fields at {s} m = put Throw at (drop_object at (is_class_type t) (put_fields g (is_class_type t) fields (put (NewException (number_of
      (bare_text g t) s)) at (named (bare_text g t) m))))

  pub thrown : (g : Setting) (n : Node) {free : Bool} {s : State} → Waiting z free s → Waiting z free (exceptions.thrown g n s)
  unfolding exceptions.thrown
  thrown g n m = throw_value g (node_in g (kid_in n.kids 0)).typ (kids_from n 1) n.at m

  pub later_handlers : (ids : List TNodeId) (scope : ℕ) (live : Bool) {s : State} → AllRun z false ids → Waiting z false s
      → Waiting z false (exceptions.later_handlers ids scope live s)
  unfolding exceptions.later_handlers exceptions.handles states.later
  later_handlers [] scope live k m = m
  later_handlers (id ∷ ids) scope live k m = hold (Handle id scope live) (k 0) (later_handlers ids scope live (λ index. k (suc index)) m)

  pub start_try : (id : TNodeId) (n : Node) {s : State} → AllRun z false n.kids → Waiting z false s → Waiting z false (exceptions.start_try id n s)
  unfolding exceptions.start_try
  start_try id n {s} k m = run_kid n 0 Dropped k (more (TryDone id (scope_count s)) tt refl
      (later_handlers (kids_from n 1) (scope_count s) (is_live s) (drops z 1 n.kids k) (hold (Past (scope_count s)) tt (entered Try n.at tt m))))

  pub try_done : (scope : ℕ) (at : At) {free : Bool} {s : State} → Waiting z free s → Waiting z free (exceptions.try_done scope at s)
  unfolding exceptions.try_done
  try_done scope at m = jumped_to scope PastIt at (left_scope scope m)

  behind_try : (scope : ℕ) (live : Bool) {free : Bool} {s : State} → Waiting z free s → Waiting z free (exceptions.behind_try scope live s)
  unfolding exceptions.behind_try
  behind_try scope live {s = s} m = made_live live (at_depth (scope_at scope s).depth (at_scope (scope_at scope s).parent m))

  pub catch_each : (scope : ℕ) (x1 : List (List ℕ)) {free : Bool} {s : State} → Waiting z free s → Waiting z free (exceptions.catch_each scope x1 s)
  unfolding exceptions.catch_each
  catch_each scope [] m = m
  catch_each scope (name ∷ names) {s} m = catch_each scope names (caught_one scope (number_of name s) (named name m))

  pub catch_class : (g : Setting) (scope : ℕ) (number : ℕ) {free : Bool} {s : State} → Waiting z free s → Waiting z free (exceptions.catch_class g scope number s)
  unfolding exceptions.catch_class
  catch_class g scope number m = catch_each scope (caught_names (classes_in g) (class_name g number)) m

  pub catch_scalar : (g : Setting) (scope : ℕ) (t : Typ) {free : Bool} {s : State} → Waiting z free s → Waiting z free (exceptions.catch_scalar g scope t s)
  unfolding exceptions.catch_scalar
  catch_scalar g scope t {s} m = caught_one scope (number_of (bare_text g t) s) (named (bare_text g t) m)

  pub catch_form : (g : Setting) (scope : ℕ) (form : Form) (t : Typ) {free : Bool} {s : State} → Waiting z free s
      → Waiting z free (exceptions.catch_form g scope form t s)
  unfolding exceptions.catch_form
  catch_form g scope (class number) t m = catch_class g scope number m
  catch_form g scope form t m = catch_scalar g scope t m

  pub catch_type : (g : Setting) (scope : ℕ) (t : Typ) {free : Bool} {s : State} → Waiting z free s → Waiting z free (exceptions.catch_type g scope t s)
  unfolding exceptions.catch_type
  catch_type g scope t m = either (is_void t) (caught_all scope m) (catch_form g scope (form_of (referred t)) (referred t) m)

  pub catch_live : (g : Setting) (t : Typ) (scope : ℕ) (b : Bool) {free : Bool} {s : State} → Waiting z free s → Waiting z free (exceptions.catch_live g t scope b s)
  unfolding exceptions.catch_live
  catch_live g t scope true m = catch_type g scope t m
  catch_live g t scope false m = m

  pub take_field : (kind : TKind) (base : ℕ) (at : At) {free : Bool} {s : State} → Waiting z free s → Waiting z free (exceptions.take_field kind base at s)
  unfolding exceptions.take_field
  take_field (Field offset kind) base at m = put (store kind false) at (put (GetException offset (bytes_number kind)) at (put (FrameAddr (base + offset)) at m))
  take_field kind base at m = m

  pub take_fields : (g : Setting) (ids : List TNodeId) (base : ℕ) (at : At) {free : Bool} {s : State} → Waiting z free s
      → Waiting z free (exceptions.take_fields g ids base at s)
  unfolding exceptions.take_fields
  take_fields g [] base at m = m
  take_fields g (id ∷ ids) base at m = take_fields g ids base at (take_field (node_in g id).kind base at m)

  pub take_exception : (g : Setting) (n : Node) (place : Option ℕ) {free : Bool} {s : State} → Waiting z free s → Waiting z free (exceptions.take_exception g n place s)
  unfolding exceptions.take_exception
  take_exception g n (Some place) m = take_fields g (kids_from n 1) (place_in g place) n.at m
  take_exception g n None m = m

  enter_body : (g : Setting) (n : Node) (place : Option ℕ) (scope : ℕ) {free : Bool} {s : State} → AllRun z free n.kids → Waiting z free s
      → Waiting z free (exceptions.enter_body g n place scope s)
  unfolding exceptions.enter_body
  enter_body g n place scope {s = s} k m =
      run_kid n 0 Dropped k (more (HandlerDone (handler_from n.at s) scope n.at) tt refl (take_exception g n place (entered_handler n.at m)))

  pub handle : (id : TNodeId) (kind : TKind) (scope : ℕ) (live : Bool) {s : State} → (node_in z.setting id).kind ≡ kind → MayRun z false id
      → Waiting z false s → Waiting z false (exceptions.handle z.setting kind (node_in z.setting id) scope live s)
  unfolding exceptions.handle
  handle id (Handler place) scope live e k m = enter_body z.setting (node_in z.setting id) place scope (below z id (ap lets_wait e) k)
      (catch_live z.setting (node_in z.setting id).typ scope live (behind_try scope live m))
  handle id kind scope live e k m = m

  pub handler_done : (handler scope : ℕ) (at : At) {free : Bool} {s : State} → Waiting z free s → Waiting z free (exceptions.handler_done handler scope at s)
  unfolding exceptions.handler_done
  handler_done handler scope at m = jumped_to scope PastIt at (left_scope handler (put EndHandler at m))
