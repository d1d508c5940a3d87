-- Which nodes are run which way.
use Rattle.std.specs.Prelude.{ℕ, ◌≡◌, ◌<◌, ◌^◌, Bool, true, false, List, [], ◌∷◌, length, Option, None}
use Rattle.cpp_tree.specs.tx_ints.declared.kinds.IntKind.{IntKind}
use Rattle.cpp_tree.specs.tx_ints.declared.kinds.BinOp.{BinOp}
use Rattle.cpp_tree.specs.tx_events.declared.BlockKind.{BlockKind}
use Rattle.cpp_tree.specs.declared.arena.TNodeId.{TNodeId}
use Rattle.cpp_tree.specs.declared.roles.Position.{Position}
use Rattle.cpp_tree.specs.declared.kinds.Builtin.{Builtin}
use Rattle.cpp_tree.specs.declared.kinds.TKind.TheVariants.{Literal, Local, Global, Function, ClassTable, Load, Convert, Retype, Binary, Conditional, Comma, Assign, Update}
use Rattle.cpp_tree.specs.declared.kinds.TKind.TheVariants.{CopyAssign, Materialize, FullExpression, Call, VirtualCall, PointerCall, Throw, Rethrow}
use Rattle.cpp_tree.specs.declared.kinds.TKind.TheVariants.{Builtin as CallBuiltin, Store, CopyScalar, Construct, CopyConstruct, CopyFrom, Pieces, Piece, Elements}
use Rattle.cpp_tree.specs.declared.kinds.TKind.TheVariants.{Block, Init, Defer, Loop, Switch, Case, Default, Break, Continue, Return, Try, Handler, Atomic, Synchronized}
use Rattle.cpp_tree.specs.WellFormed.{inside}
use Rattle.low_code.specs.Types.{is_void, called_type, result_of, word_count}
use Rattle.unwind_lower.specs.declared.items.Way.{Way}
use Rattle.unwind_lower.specs.declared.items.Way.TheVariants.{Value, Dropped, Into, Copying}
use Rattle.unwind_lower.specs.Settings.{Setting, node_in, callee_in, gives_of, words_back}
use Rattle.unwind_lower.specs.Expressions.{way_of, branch_way}
use Rattle.unwind_lower.specs.Conditions.{branches_make}
use Rattle.unwind_lower.specs.Objects.{is_local}
use Rattle.unwind_lower.specs.Steps.{for_value}
use Rattle.lowered_trees.specs.Shapes.{Stands, HasWord, HaveWords, Gives, Builds, HandsBack, words_taken, gives_none, Destroys, Fields, Throws, Parts, HasOneDefault}

mutual
  -- at a position, a node may be run this way: it is of a kind, its kids are run so, and what is written of it has these facts
  pub data Runs (g : Setting) : Position → TNodeId → Way → Type 0 where
    -- expressions
    literal : {p : Position} {id : TNodeId} {way : Way} (word : ℕ) → Stands g id (Literal word) [] → Gives way → is_void (node_in g id).typ ≡ false
        → word < 2 ^ 64 → Runs g p id way
    local : {p : Position} {id : TNodeId} {way : Way} (place : ℕ) → Stands g id (Local place) [] → Gives way → is_void (node_in g id).typ ≡ false
        → Runs g p id way
    global : {p : Position} {id : TNodeId} {way : Way} (place : ℕ) → Stands g id (Global place) [] → Gives way → is_void (node_in g id).typ ≡ false
        → Runs g p id way
    function : {p : Position} {id : TNodeId} {way : Way} (func : ℕ) → Stands g id (Function func) [] → Gives way → is_void (node_in g id).typ ≡ false
        → Runs g p id way
    class_table : {p : Position} {id : TNodeId} {way : Way} (class : ℕ) → Stands g id (ClassTable class) [] → Gives way
        → is_void (node_in g id).typ ≡ false → Runs g p id way
    -- (the address of a result of class type has no type, and is never dropped)
    load : {p : Position} {id : TNodeId} {way : Way} (kind : IntKind) (volatile : Bool) (a : TNodeId) → Stands g id (Load kind volatile) (a ∷ [])
        → Gives way → (way ≡ Dropped → is_void (node_in g id).typ ≡ false) → Runs g p a Value → HasWord g a → Runs g p id way
    convert : {p : Position} {id : TNodeId} {way : Way} (to : IntKind) (a : TNodeId) → Stands g id (Convert to) (a ∷ []) → Gives way
        → is_void (node_in g id).typ ≡ false → Runs g p a Value → HasWord g a → Runs g p id way
    retype : {p : Position} {id : TNodeId} {way : Way} (a : TNodeId) → Stands g id Retype (a ∷ []) → Gives way
        → (is_void (node_in g id).typ ≡ false → HasWord g a) → Runs g p a (way_of (node_in g id)) → Runs g p id way
    binary : {p : Position} {id : TNodeId} {way : Way} (op : BinOp) (kind : IntKind) (a b : TNodeId) → Stands g id (Binary op kind) (a ∷ b ∷ [])
        → Gives way → is_void (node_in g id).typ ≡ false → Runs g p a Value → HasWord g a → Runs g p b Value → HasWord g b → Runs g p id way
    -- where its branches make temporaries, a full-expression lies around it
    conditional : {p : Position} {id : TNodeId} {way : Way} (a b c : TNodeId) → Stands g id Conditional (a ∷ b ∷ c ∷ [])
        → Runs g p a Value → HasWord g a → Runs g p b (branch_way (node_in g id) (for_value way)) → Runs g p c (branch_way (node_in g id) (for_value way))
        → (branches_make g (node_in g id) ≡ true → p.full ≡ true) → Runs g p id way
    comma : {p : Position} {id : TNodeId} {way : Way} (a b : TNodeId) → Stands g id Comma (a ∷ b ∷ []) → Runs g p a Dropped → Runs g p b (for_value way)
        → (Gives way → is_void (node_in g b).typ ≡ is_void (node_in g id).typ) → Runs g p id way
    assign : {p : Position} {id : TNodeId} {way : Way} (kind : IntKind) (volatile : Bool) (a b : TNodeId) → Stands g id (Assign kind volatile) (a ∷ b ∷ [])
        → Gives way → is_void (node_in g id).typ ≡ false → Runs g p a Value → HasWord g a → Runs g p b Value → HasWord g b → Runs g p id way
    update : {p : Position} {id : TNodeId} {way : Way} (op : BinOp) (stored operation : IntKind) (volatile old : Bool) (a b : TNodeId)
        → Stands g id (Update op stored operation volatile old) (a ∷ b ∷ [])
        → Gives way → is_void (node_in g id).typ ≡ false → Runs g p a Value → HasWord g a → Runs g p b Value → HasWord g b → Runs g p id way
    copy_assign : {p : Position} {id : TNodeId} {way : Way} (a b c : TNodeId) → Stands g id CopyAssign (a ∷ b ∷ c ∷ []) → Gives way
        → is_void (node_in g id).typ ≡ false → Runs g p a Value → HasWord g a → Runs g p b Value → HasWord g b → Runs g p c Copying → Runs g p id way
    -- what waits in the full-expression has one around it
    temporary : {p : Position} {id : TNodeId} {way : Way} (place : ℕ) (a : TNodeId) (ids : List TNodeId) → Stands g id (Materialize place false) (a ∷ ids)
        → Gives way → is_void (node_in g id).typ ≡ false → Runs g p a Into → Destroys g ids → (0 < length ids → p.full ≡ true) → Runs g p id way
    argument : {p : Position} {id : TNodeId} (place : ℕ) (a : TNodeId) (ids : List TNodeId) → Stands g id (Materialize place true) (a ∷ ids)
        → is_void (node_in g id).typ ≡ false → Runs g p a Into → Destroys g ids → Runs g p id Value
    full : {p : Position} {id : TNodeId} {way : Way} (a : TNodeId) → Stands g id FullExpression (a ∷ []) → Runs g (inside FullExpression p) a (for_value way)
        → (Gives way → is_void (node_in g a).typ ≡ is_void (node_in g id).typ) → Runs g p id way
    -- calls
    call : {p : Position} {id : TNodeId} {way : Way} (func : ℕ) (ids : List TNodeId) → Stands g id (Call func) ids → AllRun g p ids Value → HaveWords g ids
        → HandsBack (gives_of (callee_in g func)) (node_in g id) way → Runs g p id way
    virtual_call : {p : Position} {id : TNodeId} {way : Way} (func class slot pointer : ℕ) (a : TNodeId) (ids : List TNodeId)
        → Stands g id (VirtualCall func class slot pointer) (a ∷ ids) → Runs g p a Value → HasWord g a → AllRun g p ids Value → HaveWords g ids
        → HandsBack (gives_of (callee_in g func)) (node_in g id) way → Runs g p id way
    pointer_call : {p : Position} {id : TNodeId} {way : Way} (a : TNodeId) (ids : List TNodeId) → Stands g id PointerCall (a ∷ ids)
        → Runs g p a Value → HasWord g a → AllRun g p ids Value → HaveWords g ids
        → HandsBack (word_count (result_of (called_type (node_in g a).typ))) (node_in g id) way → Runs g p id way
    built_in : {p : Position} {id : TNodeId} {way : Way} (which : Builtin) (ids : List TNodeId) → Stands g id (CallBuiltin which) ids → Gives way
        → AllRun g p ids Value → HaveWords g ids → length ids ≡ words_taken which → is_void (node_in g id).typ ≡ gives_none which → Runs g p id way
    -- what is thrown never comes to what is behind it
    throws : {p : Position} {id : TNodeId} {way : Way} (a : TNodeId) (ids : List TNodeId) → Stands g id Throw (a ∷ ids) → Runs g p a Value → HasWord g a
        → Fields g ids → Throws g (node_in g a).typ ids → Runs g p id way
    rethrows : {p : Position} {id : TNodeId} {way : Way} → Stands g id Rethrow [] → Runs g p id way
    -- initialisers
    store : {p : Position} {id : TNodeId} (kind : IntKind) (volatile : Bool) (a : TNodeId) → Stands g id (Store kind volatile) (a ∷ [])
        → Runs g p a Value → HasWord g a → Runs g p id Into
    copy_scalar : {p : Position} {id : TNodeId} (kind : IntKind) (volatile : Bool) → Stands g id (CopyScalar kind volatile) [] → Runs g p id Copying
    construct : {p : Position} {id : TNodeId} (func : ℕ) (ids : List TNodeId) → Stands g id (Construct func) ids → AllRun g p ids Value
        → HaveWords g ids → gives_of (callee_in g func) ≡ 0 → Runs g p id Into
    copy_construct : {p : Position} {id : TNodeId} (func : ℕ) → Stands g id (CopyConstruct func) [] → gives_of (callee_in g func) ≡ 0 → Runs g p id Copying
    copy_from : {p : Position} {id : TNodeId} (a b : TNodeId) → Stands g id CopyFrom (a ∷ b ∷ []) → Runs g p a Value → HasWord g a → Runs g p b Copying
        → Runs g p id Into
    pieces : {p : Position} {id : TNodeId} {way : Way} (ids : List TNodeId) → Stands g id Pieces ids → Builds way → AllRun g p ids way → Parts g ids
        → Runs g p id way
    piece : {p : Position} {id : TNodeId} {way : Way} (offset : ℕ) (a : TNodeId) (ids : List TNodeId) → Stands g id (Piece offset) (a ∷ ids) → Builds way
        → Runs g p a way → Destroys g ids → Runs g p id way
    elements : {p : Position} {id : TNodeId} {way : Way} (count stride : ℕ) (a : TNodeId) (ids : List TNodeId) → Stands g id (Elements count stride) (a ∷ ids)
        → Builds way → 0 < count → count < 2 ^ 64 → Runs g p a way → Destroys g ids → Runs g p id way
    -- statements
    block : {p : Position} {id : TNodeId} (subobjects : Bool) (ids : List TNodeId) → Stands g id (Block subobjects) ids
        → is_void (node_in g id).typ ≡ true → AllRun g p ids Dropped → Runs g p id Dropped
    init_plain : {p : Position} {id : TNodeId} (a b : TNodeId) → Stands g id Init (a ∷ b ∷ []) → is_void (node_in g id).typ ≡ true
        → Runs g p a Value → HasWord g a → Runs g p b Into → Runs g p id Dropped
    init_variable : {p : Position} {id : TNodeId} (place : ℕ) (a b : TNodeId) (ids : List TNodeId) → Stands g id Init (a ∷ b ∷ ids)
        → is_void (node_in g id).typ ≡ true → Stands g a (Local place) [] → Runs g p a Value → HasWord g a → Runs g p b Into → Destroys g ids
        → 0 < length ids → Runs g p id Dropped
    init_member : {p : Position} {id : TNodeId} (a b : TNodeId) (ids : List TNodeId) → Stands g id Init (a ∷ b ∷ ids) → is_void (node_in g id).typ ≡ true
        → is_local (node_in g a).kind ≡ false → Runs g p a Value → HasWord g a → Runs g p b Into → Destroys g ids → 0 < length ids → Runs g p id Dropped
    defer : {p : Position} {id : TNodeId} (a : TNodeId) (ids : List TNodeId) → Stands g id Defer (a ∷ ids) → is_void (node_in g id).typ ≡ true
        → Runs g p a Value → HasWord g a → Destroys g ids → 0 < length ids → Runs g p id Dropped
    loop : {p : Position} {id : TNodeId} (test_first : Bool) (a b c : TNodeId) → Stands g id (Loop test_first) (a ∷ b ∷ c ∷ [])
        → is_void (node_in g id).typ ≡ true → Runs g (inside (Loop test_first) p) a Value → HasWord g a → Runs g (inside (Loop test_first) p) b Dropped
        → Runs g (inside (Loop test_first) p) c Dropped → Runs g p id Dropped
    switch : {p : Position} {id : TNodeId} (a : TNodeId) (ids : List TNodeId) → Stands g id Switch (a ∷ ids) → is_void (node_in g id).typ ≡ true
        → Runs g (inside Switch p) a Value → HasWord g a → AllRun g (inside Switch p) ids Dropped → HasOneDefault g ids → Runs g p id Dropped
    case : {p : Position} {id : TNodeId} (word : ℕ) → Stands g id (Case word) [] → is_void (node_in g id).typ ≡ true → word < 2 ^ 64 → Runs g p id Dropped
    default : {p : Position} {id : TNodeId} → Stands g id Default [] → is_void (node_in g id).typ ≡ true → Runs g p id Dropped
    break : {p : Position} {id : TNodeId} → Stands g id Break [] → is_void (node_in g id).typ ≡ true → p.breaks ≡ true → Runs g p id Dropped
    continue : {p : Position} {id : TNodeId} → Stands g id Continue [] → is_void (node_in g id).typ ≡ true → p.continues ≡ true → Runs g p id Dropped
    return_none : {p : Position} {id : TNodeId} → Stands g id Return [] → is_void (node_in g id).typ ≡ true → words_back g ≡ 0 → Runs g p id Dropped
    return_word : {p : Position} {id : TNodeId} (a : TNodeId) → Stands g id Return (a ∷ []) → is_void (node_in g id).typ ≡ true
        → words_back g ≡ 1 → Runs g p a Value → HasWord g a → Runs g p id Dropped
    try : {p : Position} {id : TNodeId} (a : TNodeId) (ids : List TNodeId) → Stands g id Try (a ∷ ids) → is_void (node_in g id).typ ≡ true
        → Runs g p a Dropped → Handlers g p ids → 0 < length ids → Runs g p id Dropped
    atomic : {p : Position} {id : TNodeId} (kind : BlockKind) (a : TNodeId) → Stands g id (Atomic kind) (a ∷ []) → is_void (node_in g id).typ ≡ true
        → Runs g p a Dropped → Runs g p id Dropped
    synchronized : {p : Position} {id : TNodeId} (a : TNodeId) → Stands g id Synchronized (a ∷ []) → is_void (node_in g id).typ ≡ true
        → Runs g p a Dropped → Runs g p id Dropped

  -- nodes are run one behind the other
  pub data AllRun (g : Setting) : Position → List TNodeId → Way → Type 0 where
    none_run : {p : Position} {way : Way} → AllRun g p [] way
    then : {p : Position} {id : TNodeId} {ids : List TNodeId} {way : Way} → Runs g p id way → AllRun g p ids way → AllRun g p (id ∷ ids) way

  -- handlers, each with its body and the scalars that go to its object
  pub data Handlers (g : Setting) : Position → List TNodeId → Type 0 where
    no_handlers : {p : Position} → Handlers g p []
    handler : {p : Position} {id : TNodeId} {ids : List TNodeId} (place : Option ℕ) (body : TNodeId) (fields : List TNodeId)
        → Stands g id (Handler place) (body ∷ fields) → Runs g p body Dropped → Fields g fields → (place ≡ None → fields ≡ []) → Handlers g p ids
        → Handlers g p (id ∷ ids)
