-- Which nodes of a typed tree are unsafe by themselves, and which functions it calls (the TS, [dcl.fct.def.tx]; [expr]).
use Rattle.std.specs.Prelude.{ℕ, Bool, true, false, not, ◌&&◌, ◌||◌, List, [], ◌∷◌, ◌++◌, slice_get, Option, Some, None, option_map, cond}
use Rattle.std.specs.List.{flat_map}
use Rattle.cpp_types.specs.Typ.{Typ, typ, typ_of, ptr, func, tx_ex, Signature, signature}
use Rattle.cpp_types.specs.declared.classes.At.{At}
use Rattle.cpp_types.specs.declared.ranks.Cat.{Cat}
use Rattle.cpp_tree.specs.declared.faults.UnsafeReason.{UnsafeReason}
use Rattle.cpp_tree.specs.declared.faults.UnsafeReason.TheVariants.{VolatileRead, VolatileWrite, VolatileTemp, VolatileLocal, VolatileParam, CallsUnsafe}
use Rattle.cpp_tree.specs.declared.faults.UnsafeReason.TheVariants.{CallsUnsafePointer}
use Rattle.cpp_tree.specs.declared.kinds.Builtin.{Builtin}
use Rattle.cpp_tree.specs.declared.kinds.Builtin.TheVariants.{Abort}
use Rattle.cpp_tree.specs.declared.kinds.TKind.{TKind}
use Rattle.cpp_tree.specs.declared.kinds.TKind.TheVariants.{Local, Load, Assign, Update, CopyAssign, Materialize, Call, VirtualCall, PointerCall}
use Rattle.cpp_tree.specs.declared.kinds.TKind.TheVariants.{Builtin as CallBuiltin, Store, Construct, CopyConstruct, CopyFrom, Pieces, Piece, Elements, Init}
use Rattle.cpp_tree.specs.declared.kinds.TKind.TheVariants.{Handler, Atomic, Destroy}
use Rattle.cpp_tree.specs.Trees.{Tree, node, Trees, none, more, kind_of, typ_in, rest}
use Rattle.cpp_tree.specs.Arena.{tree_at}
use Rattle.cpp_tree.specs.declared.arena.TNode.{TNode}
use Rattle.cpp_tree.specs.declared.arena.TNodeId.{TNodeId}
use Rattle.cpp_tree.specs.Typing.{passes, is_void, is_prvalue}
use Rattle.cpp_tree.specs.Rows.{is_constructor}
use Rattle.cpp_tree.specs.Units.{Func, Param}
use Rattle.tx_unsafe.specs.declared.finding.Finding.{Finding}
use Rattle.tx_unsafe.specs.declared.finding.CallSite.{CallSite}
use Rattle.tx_unsafe.specs.Volatile.{is_volatile_object, is_class_object, is_volatile_class}

-- Parts of a node

abbrev pub at_of : Tree → At
at_of (node kind t cat at kids) = at

abbrev pub first_of : Trees → Option Tree
first_of none = None
first_of (more t ts) = Some t

-- the place of a kid, or of the node itself where it has none
abbrev pub place_of : At → Option Tree → At
place_of at None = at
place_of at (Some t) = at_of t

-- The table of unsafe parts, one test a row. The test `volatile` tells which classes have a volatile part.

-- a modification through a volatile glvalue; `op=` reads and writes. The zeros of a function's result have no type
abbrev pub writes_volatile : TKind → Typ → Bool
writes_volatile (Assign k volatile) t = volatile
writes_volatile (Update op s k volatile old) t = volatile
writes_volatile (Store k volatile) t = volatile && is_void t
writes_volatile kind t = false

-- a read through a volatile glvalue; that of `op=` stands at its address
abbrev pub reads_volatile : TKind → Bool
reads_volatile (Load k volatile) = volatile
reads_volatile (Update op s k volatile old) = volatile
reads_volatile kind = false

abbrev pub read_at : TKind → At → Option Tree → At
read_at (Update op s k volatile old) at first = place_of at first
read_at kind at first = at

-- a class object is built, copied or assigned: by an initialiser, as the result of a call, by the implicit copy assignment
abbrev pub builds_object : TKind → Cat → Bool
builds_object CopyAssign cat = true
builds_object (Call f) cat = is_prvalue cat
builds_object (VirtualCall f c s p) cat = is_prvalue cat
builds_object PointerCall cat = is_prvalue cat
builds_object (Construct f) cat = true
builds_object (CopyConstruct f) cat = true
builds_object CopyFrom cat = true
builds_object Pieces cat = true
builds_object (Piece offset) cat = true
builds_object (Elements n s) cat = true
builds_object kind cat = false

-- the object of a declaration, whose initialiser is the second kid
abbrev pub initialises_volatile : (ℕ → Bool) → TKind → Option Tree → Bool
initialises_volatile volatile Init address = passes (λ (a : Tree). is_volatile_class volatile (typ_in a)) address
initialises_volatile volatile kind address = false

-- a temporary, but no object that is passed as an argument: of a class, it is seen where it is built, but not the value of a `std::tx_exception`
abbrev pub is_exception : Typ → Bool
is_exception (typ (tx_ex t) c v) = true
is_exception t = false

abbrev pub is_made : TKind → Typ → Bool
is_made (Materialize place argument) t = not argument || is_exception t
is_made kind t = false

-- a variable, a part of an object under construction that is no class object, or what a handler has a name for
abbrev pub is_local : TKind → Bool
is_local (Local place) = true
is_local kind = false

abbrev pub is_declared : Tree → Bool
is_declared address = is_local (kind_of address) || not (is_class_object (typ_in address))

abbrev pub declares_volatile : (ℕ → Bool) → TKind → Typ → Option Tree → Bool
declares_volatile volatile Init t address = passes (λ (a : Tree). is_declared a && is_volatile_object volatile (typ_in a)) address
declares_volatile volatile (Handler (Some place)) t first = is_volatile_object volatile t
declares_volatile volatile kind t first = false

-- a call of a predeclared function but `std::abort`
abbrev pub is_abort : Builtin → Bool
is_abort Abort = true
is_abort which = false

abbrev pub calls_predeclared : TKind → Bool
calls_predeclared (CallBuiltin which) = not (is_abort which)
calls_predeclared kind = false

-- a call through a pointer whose function type is not `transaction_safe`
abbrev pub is_safe_signature : Signature → Bool
is_safe_signature (signature ps r safe) = safe

abbrev pub is_safe_pointer : Typ → Bool
is_safe_pointer (typ (ptr (typ (func s) c v)) d w) = is_safe_signature s
is_safe_pointer t = false

abbrev pub calls_unsafe_pointer : TKind → Option Tree → Bool
calls_unsafe_pointer PointerCall pointer = not (passes (λ (p : Tree). is_safe_pointer (typ_in p)) pointer)
calls_unsafe_pointer kind pointer = false

-- What a node is unsafe for by itself: its calls of functions apart

abbrev pub where_so : Bool → At → UnsafeReason → List Finding
where_so test at reason = cond test (record { at = at; reason = reason } ∷ []) []

-- what it declares, writes and reads
abbrev pub accesses : (ℕ → Bool) → TKind → Typ → At → (first : Option Tree) → List Finding
accesses volatile kind t at first = where_so (declares_volatile volatile kind t first) at VolatileLocal
    ++ where_so (writes_volatile kind t) at VolatileWrite
    ++ where_so (reads_volatile kind) (read_at kind at first) VolatileRead

-- what objects it builds
abbrev pub objects : (ℕ → Bool) → TKind → Typ → Cat → At → (first second : Option Tree) → List Finding
objects volatile kind t cat at first second = where_so (builds_object kind cat && is_volatile_class volatile t) at VolatileWrite
    ++ where_so (initialises_volatile volatile kind first) (place_of at second) VolatileWrite
    ++ where_so (is_made kind t && is_volatile_object volatile t) at VolatileTemp

-- what it calls that is no function of the unit
abbrev pub foreign_calls : TKind → At → (first : Option Tree) → List Finding
foreign_calls kind at first = where_so (calls_predeclared kind) at CallsUnsafe ++ where_so (calls_unsafe_pointer kind first) at CallsUnsafePointer

abbrev pub own : (ℕ → Bool) → TKind → Typ → Cat → At → (first second : Option Tree) → List Finding
own volatile kind t cat at first second = accesses volatile kind t at first ++ objects volatile kind t cat at first second ++ foreign_calls kind at first

-- the function that a node calls by name, or implicitly
abbrev pub called : TKind → Option ℕ
called (Call f) = Some f
called (VirtualCall f c s p) = Some f
called (Construct f) = Some f
called (CopyConstruct f) = Some f
called (Destroy f o n s) = Some f
called kind = None

abbrev pub sites : Option ℕ → At → List CallSite
sites None at = []
sites (Some f) at = record { at = at; func = f } ∷ []

-- Trees: all of one, or only what stands in its atomic blocks

abbrev pub is_atomic : TKind → Bool
is_atomic (Atomic kind) = true
is_atomic kind = false

-- where it counts
abbrev pub counted : {A : Type 0} → Bool → List A → List A
counted inside xs = cond inside xs []

abbrev mutual
  pub own_in : (ℕ → Bool) → (inside : Bool) → Tree → List Finding
  own_in volatile inside (node kind t cat at kids) = counted inside (own volatile kind t cat at (first_of kids) (first_of (rest kids)))
      ++ own_in_all volatile (inside || is_atomic kind) kids

  pub own_in_all : (ℕ → Bool) → (inside : Bool) → Trees → List Finding
  own_in_all volatile inside none = []
  own_in_all volatile inside (more t ts) = own_in volatile inside t ++ own_in_all volatile inside ts

abbrev mutual
  pub calls_in : (inside : Bool) → Tree → List CallSite
  calls_in inside (node kind t cat at kids) = counted inside (sites (called kind) at) ++ calls_in_all (inside || is_atomic kind) kids

  pub calls_in_all : (inside : Bool) → Trees → List CallSite
  calls_in_all inside none = []
  calls_in_all inside (more t ts) = calls_in inside t ++ calls_in_all inside ts

-- Definitions of functions: all of one, or only its atomic blocks

-- a parameter that is volatile or has a volatile part
abbrev pub param_findings : (ℕ → Bool) → Param → List Finding
param_findings volatile p = where_so (is_volatile_object volatile p.typ) p.at VolatileParam

-- a constructor of a class with a volatile part
abbrev pub builds_volatile : (ℕ → Bool) → Func → Bool
builds_volatile volatile f = is_constructor f.kind && passes volatile f.class

abbrev pub head_findings : (ℕ → Bool) → Func → List Finding
head_findings volatile f = where_so (builds_volatile volatile f) f.declared.at VolatileWrite ++ flat_map (param_findings volatile) f.params

abbrev pub body_findings : (ℕ → Bool) → (whole : Bool) → Option Tree → List Finding
body_findings volatile whole None = []
body_findings volatile whole (Some body) = own_in volatile whole body

abbrev pub body_calls : (whole : Bool) → Option Tree → List CallSite
body_calls whole None = []
body_calls whole (Some body) = calls_in whole body

abbrev pub own_findings : (ℕ → Bool) → (whole : Bool) → Func → List Finding
own_findings volatile whole f = counted whole (head_findings volatile f) ++ body_findings volatile whole f.body

abbrev pub calls_of : (whole : Bool) → Func → List CallSite
calls_of whole f = body_calls whole f.body

-- A node of an arena

abbrev pub kid_in : List Tree → List TNodeId → ℕ → Option Tree
kid_in trees ids i = option_map (tree_at trees) (slice_get ids i)

abbrev pub accesses_of : (ℕ → Bool) → List Tree → TNode → List Finding
accesses_of volatile trees n = accesses volatile n.kind (typ_of n.ty) n.at (kid_in trees n.kids.items 0)

abbrev pub objects_of : (ℕ → Bool) → List Tree → TNode → List Finding
objects_of volatile trees n = objects volatile n.kind (typ_of n.ty) n.cat n.at (kid_in trees n.kids.items 0) (kid_in trees n.kids.items 1)

abbrev pub foreign_calls_of : List Tree → TNode → List Finding
foreign_calls_of trees n = foreign_calls n.kind n.at (kid_in trees n.kids.items 0)

-- what such a node is unsafe for by itself
abbrev pub own_of : (ℕ → Bool) → List Tree → TNode → List Finding
own_of volatile trees n = own volatile n.kind (typ_of n.ty) n.cat n.at (kid_in trees n.kids.items 0) (kid_in trees n.kids.items 1)
