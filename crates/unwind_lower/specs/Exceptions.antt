-- What is thrown, and handlers.
use Rattle.std.specs.Prelude.{Bool, true, false, ℕ, ◌+◌, cond, List, [], ◌∷◌, Option, Some, None}
use Rattle.cpp_tree.specs.cpp_types.Typ.{Typ, typ, Form, class}
use Rattle.cpp_tree.specs.cpp_types.Conversion.{referred}
use Rattle.cpp_tree.specs.cpp_types.declared.classes.At.{At}
use Rattle.cpp_tree.specs.tx_ints.declared.kinds.IntKind.{IntKind}
use Rattle.cpp_tree.specs.declared.arena.TNodeId.{TNodeId}
use Rattle.cpp_tree.specs.declared.kinds.TKind.{TKind}
use Rattle.cpp_tree.specs.declared.kinds.TKind.TheVariants.{Field, Handler}
use Rattle.tx_code.specs.declared.instr.Instr.TheVariants.{Dup, Pop, FrameAddr, NewException, PutException, Throw, GetException, EndHandler}
use Rattle.low_code.specs.declared.scopes.ScopeKind.TheVariants.{Try}
use Rattle.low_code.specs.declared.writer.Sort.TheVariants.{Past as PastIt}
use Rattle.low_code.specs.Nodes.{Node, kid_in}
use Rattle.low_code.specs.Numbers.{bytes_number, load, store}
use Rattle.low_code.specs.Types.{is_void, is_class_type}
use Rattle.low_code.specs.Caught.{caught_names}
use Rattle.unwind_lower.specs.declared.items.Way.TheVariants.{Value, Dropped}
use Rattle.unwind_lower.specs.declared.items.Item.{Item}
use Rattle.unwind_lower.specs.declared.items.Item.TheVariants.{Thrown, Past, TryDone, Handle, HandlerDone}
use Rattle.unwind_lower.specs.States.{State, later, put, put_offset, jumped_to, entered, entered_handler, handler_from, left_scope, caught_all, caught_one}
use Rattle.unwind_lower.specs.States.{at_scope, at_depth, made_live, named, number_of, is_live, scope_at, scope_count}
use Rattle.unwind_lower.specs.Settings.{Setting, node_in, place_in, classes_in, class_name, bare_text}
use Rattle.unwind_lower.specs.Kids.{run_kid, kids_from}

-- ---- what is thrown

unfoldable pub start_throw : TNodeId → Node → State → State
start_throw id n s = run_kid n 0 Value (later (Thrown id) s)

-- a scalar of an object whose address lies on top
unfoldable pub read_field : ℕ → IntKind → At → Bool → State → State
read_field offset kind at true s = put (load kind false) at (put_offset offset at (put Dup at s))
read_field offset kind at false s = s

-- a scalar goes into the exception that is made
unfoldable pub put_field : TKind → At → Bool → State → State
put_field (Field offset kind) at is_object s = put (PutException offset (bytes_number kind)) at (read_field offset kind at is_object s)
put_field kind at is_object s = s

unfoldable pub put_fields : Setting → Bool → List TNodeId → State → State
put_fields g is_object [] s = s
put_fields g is_object (id ∷ ids) s = put_fields g is_object ids (put_field (node_in g id).kind (node_in g id).at is_object s)

-- the address of an object that was thrown is dropped
unfoldable pub drop_object : At → Bool → State → State
drop_object at true s = put Pop at s
drop_object at false s = s

-- a value of a type is thrown, with these scalars
unfoldable pub throw_value : Setting → Typ → List TNodeId → At → State → State
throw_value g t fields at s = put Throw at (drop_object at (is_class_type t) (put_fields g (is_class_type t) fields
    (put (NewException (number_of (bare_text g t) s)) at (named (bare_text g t) s))))

unfoldable pub thrown : Setting → Node → State → State
thrown g n s = throw_value g (node_in g (kid_in n.kids 0)).typ (kids_from n 1) n.at s

-- ---- `try`

-- the handlers of a `try`, the first one first, and then other items
unfoldable pub handles : List TNodeId → ℕ → Bool → List Item → List Item
handles [] scope live items = items
handles (id ∷ ids) scope live items = Handle id scope live ∷ handles ids scope live items

unfoldable pub later_handlers : List TNodeId → ℕ → Bool → State → State
later_handlers ids scope live s = record s { work = handles ids scope live s.work }

unfoldable pub start_try : TNodeId → Node → State → State
start_try id n s = run_kid n 0 Dropped (later (TryDone id (scope_count s)) (later_handlers (kids_from n 1) (scope_count s) (is_live s)
    (later (Past (scope_count s)) (entered Try n.at s))))

unfoldable pub try_done : ℕ → At → State → State
try_done scope at s = jumped_to scope PastIt at (left_scope scope s)

-- ---- handlers

-- what comes next stands where the `try` does
unfoldable pub behind_try : ℕ → Bool → State → State
behind_try scope live s = made_live live (at_depth (scope_at scope s).depth (at_scope (scope_at scope s).parent s))

-- exceptions of the types of these names come to the next index
unfoldable pub catch_each : ℕ → List (List ℕ) → State → State
catch_each scope [] s = s
catch_each scope (name ∷ names) s = catch_each scope names (caught_one scope (number_of name s) (named name s))

unfoldable pub catch_class : Setting → ℕ → ℕ → State → State
catch_class g scope number s = catch_each scope (caught_names (classes_in g) (class_name g number)) s

unfoldable pub catch_scalar : Setting → ℕ → Typ → State → State
catch_scalar g scope t s = caught_one scope (number_of (bare_text g t) s) (named (bare_text g t) s)

-- of a class those of all classes derived from it too
unfoldable pub catch_form : Setting → ℕ → Form → Typ → State → State
catch_form g scope (class number) t s = catch_class g scope number s
catch_form g scope form t s = catch_scalar g scope t s

abbrev pub form_of : Typ → Form
form_of (typ form c v) = form

unfoldable pub catch_type : Setting → ℕ → Typ → State → State
catch_type g scope t s = cond (is_void t) (caught_all scope s) (catch_form g scope (form_of (referred t)) (referred t) s)

-- a handler that cannot be reached catches nothing
unfoldable pub catch_live : Setting → Typ → ℕ → Bool → State → State
catch_live g t scope true s = catch_type g scope t s
catch_live g t scope false s = s

-- a scalar of the exception is stored in the handler's object
unfoldable pub take_field : TKind → ℕ → At → State → State
take_field (Field offset kind) base at s =
    put (store kind false) at (put (GetException offset (bytes_number kind)) at (put (FrameAddr (base + offset)) at s))
take_field kind base at s = s

unfoldable pub take_fields : Setting → List TNodeId → ℕ → At → State → State
take_fields g [] base at s = s
take_fields g (id ∷ ids) base at s = take_fields g ids base at (take_field (node_in g id).kind base at s)

unfoldable pub take_exception : Setting → Node → Option ℕ → State → State
take_exception g n (Some place) s = take_fields g (kids_from n 1) (place_in g place) n.at s
take_exception g n None s = s

-- a handler is entered at the next index, and its body is run
unfoldable pub enter_body : Setting → Node → Option ℕ → ℕ → State → State
enter_body g n place scope s =
    run_kid n 0 Dropped (later (HandlerDone (handler_from n.at s) scope n.at) (take_exception g n place (entered_handler n.at s)))

unfoldable pub handle : Setting → TKind → Node → ℕ → Bool → State → State
handle g (Handler place) n scope live s = enter_body g n place scope (catch_live g n.typ scope live (behind_try scope live s))
handle g kind n scope live s = s

unfoldable pub handler_done : ℕ → ℕ → At → State → State
handler_done handler scope at s = jumped_to scope PastIt at (left_scope handler (put EndHandler at s))
