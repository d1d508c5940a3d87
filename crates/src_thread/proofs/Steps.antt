-- Steps that look at kids, at what stands at a root, and at objects that wait.
use Rattle.std.proofs.Common.{◌≡◌, ℕ, List, ◌∷◌, refl, ap, true, false}
use Rattle.std.specs.Prelude.{Some, None}
use Rattle.cpp_tree.specs.tx_events.declared.Event.TheVariants.{Silent}
use Rattle.cpp_tree.specs.cpp_types.Typ.{Typ}
use Rattle.cpp_tree.specs.declared.kinds.TKind.{TKind}
use Rattle.cpp_tree.specs.declared.kinds.TKind.TheVariants.{Literal, Local, Global, Function, ClassTable, Load, Convert, Retype, Binary, Conditional, Comma}
use Rattle.cpp_tree.specs.declared.kinds.TKind.TheVariants.{Assign, Update, CopyAssign, Materialize, FullExpression, Call, VirtualCall, PointerCall, Builtin}
use Rattle.cpp_tree.specs.declared.kinds.TKind.TheVariants.{Throw, Rethrow, Store, CopyScalar, Construct, CopyConstruct, CopyFrom, Pieces, Piece, Elements}
use Rattle.cpp_tree.specs.declared.kinds.TKind.TheVariants.{Block, Init, Defer, Loop, Switch, Case, Default, Break, Continue, Return, Try, Handler, Atomic}
use Rattle.cpp_tree.specs.declared.kinds.TKind.TheVariants.{Synchronized, Destroy, Field}
use Rattle.cpp_tree.specs.Trees.{Tree, node, Trees, none, more, first, rest, kind_of, kids_of}
use Rattle.src_mean.specs.Linked.{Program}
use Rattle.src_mean.specs.Exceptions.{Exception}
use Rattle.src_mean.specs.Frames.{Here, Way, value, into, Owner, Frame, at, throws, returns, Run, Gives, Due, Parts, Items, Fills, Takes, Trying, Tries}
use Rattle.src_mean.specs.Frames.{Handling, Then, Compares, Returning, Waiting, waiting, puts, puts_some}
use Rattle.src_mean.specs.Source.{give, run_node, leave, destroy, fill_field, take_field, taken, handle, place_address, compare, run_items, from_label}
use Rattle.src_mean.specs.Source.{is_default, return_value}
use Rattle.src_frames.specs.Trees.{are_none}
use Rattle.src_thread.specs.declared.roots.FieldAt.{FieldAt}
use Rattle.src_thread.specs.declared.roots.Destruction.{Destruction}
use Rattle.src_thread.specs.Kinds.{destroy_in, field_in, place_in}

module _ (p : Program) (h : Here) where
  pub run_tree : (way : Way) (t : Tree) (v : ℕ) (k : List Frame) → give p h v (Run way t ∷ k) ≡ run_node p h way (kind_of t) (kids_of t) (λ w. give p h w k) k
  run_tree way (node kind t cat place kids) v k = refl

  pub due_more : (v : ℕ) (ts : Trees) (k : List Frame) → are_none ts ≡ false → give p h v (Due ts ∷ k) ≡ destroy p h v (kind_of (first ts)) (rest ts) k
  due_more v none k e = absurd cc
  due_more v (more t us) k e = refl

  pub due_none : (v : ℕ) (ts : Trees) (k : List Frame) → are_none ts ≡ true → give p h v (Due ts ∷ k) ≡ give p h v k
  due_none v none k e = refl
  due_none v (more t us) k e = absurd cc

  pub parts_more : (v : ℕ) (ts : Trees) (target : ℕ) (source : ℕ) (k : List Frame) → are_none ts ≡ false
      → give p h v (Parts ts target source ∷ k) ≡ at Silent h (Run (into target source) (first ts) ∷ Parts (rest ts) target source ∷ k)
  parts_more v none target source k e = absurd cc
  parts_more v (more t us) target source k e = refl

  pub parts_none : (v : ℕ) (ts : Trees) (target : ℕ) (source : ℕ) (k : List Frame) → are_none ts ≡ true → give p h v (Parts ts target source ∷ k) ≡ give p h v k
  parts_none v none target source k e = refl
  parts_none v (more t us) target source k e = absurd cc

  pub items_more : (v : ℕ) (ts : Trees) (k : List Frame) → are_none ts ≡ false
      → give p h v (Items ts ∷ k) ≡ at Silent h (Run value (first ts) ∷ Items (rest ts) ∷ k)
  items_more v none k e = absurd cc
  items_more v (more t us) k e = refl

  pub items_none : (v : ℕ) (ts : Trees) (k : List Frame) → are_none ts ≡ true → give p h v (Items ts ∷ k) ≡ give p h 0 k
  items_none v none k e = refl
  items_none v (more t us) k e = absurd cc

  pub fills_more : (v : ℕ) (ty : Typ) (from : ℕ) (ts : Trees) (bytes : List ℕ) (k : List Frame) → are_none ts ≡ false
      → give p h v (Fills ty from ts bytes ∷ k) ≡ fill_field h ty from (kind_of (first ts)) (rest ts) bytes k
  fills_more v ty from none bytes k e = absurd cc
  fills_more v ty from (more t us) bytes k e = refl

  pub fills_none : (v : ℕ) (ty : Typ) (from : ℕ) (ts : Trees) (bytes : List ℕ) (k : List Frame) → are_none ts ≡ true
      → give p h v (Fills ty from ts bytes ∷ k) ≡ leave h (throws (record { typ = ty; bytes = bytes })) k
  fills_none v ty from none bytes k e = refl
  fills_none v ty from (more t us) bytes k e = absurd cc

  pub takes_more : (v : ℕ) (x : Exception) (base : ℕ) (ts : Trees) (k : List Frame) → are_none ts ≡ false
      → give p h v (Takes x base ts ∷ k) ≡ take_field h x base (kind_of (first ts)) (rest ts) k
  takes_more v x base none k e = absurd cc
  takes_more v x base (more t us) k e = refl

  pub takes_none : (v : ℕ) (x : Exception) (base : ℕ) (ts : Trees) (k : List Frame) → are_none ts ≡ true → give p h v (Takes x base ts ∷ k) ≡ give p h 0 k
  takes_none v x base none k e = refl
  takes_none v x base (more t us) k e = absurd cc

  pub compare_more : (w : ℕ) (ts : Trees) (items : Trees) (k : List Frame) → are_none ts ≡ false
      → compare h w ts items k ≡ at Silent h (Compares w (kind_of (first ts)) (rest ts) items ∷ k)
  compare_more w none items k e = absurd cc
  compare_more w (more t us) items k e = refl

  pub compare_none : (w : ℕ) (ts : Trees) (items : Trees) (k : List Frame) → are_none ts ≡ true
      → compare h w ts items k ≡ run_items h (from_label is_default items) k
  compare_none w none items k e = refl
  compare_none w (more t us) items k e = absurd cc

  pub tries_more : (x : Exception) (ts : Trees) (k : List Frame) → are_none ts ≡ false
      → leave h (throws x) (Tries ts ∷ k) ≡ at Silent h (Trying x (first ts) (rest ts) ∷ k)
  tries_more x none k e = absurd cc
  tries_more x (more t us) k e = refl

  pub tries_none : (x : Exception) (ts : Trees) (k : List Frame) → are_none ts ≡ true → leave h (throws x) (Tries ts ∷ k) ≡ leave h (throws x) k
  tries_none x none k e = refl
  tries_none x (more t us) k e = absurd cc

  pub return_more : (ts : Trees) (k : List Frame) → are_none ts ≡ false → return_value h ts k ≡ at Silent h (Run value (first ts) ∷ Returning ∷ k)
  return_more none k e = absurd cc
  return_more (more t us) k e = refl

  pub return_none : (ts : Trees) (k : List Frame) → are_none ts ≡ true → return_value h ts k ≡ leave h (returns 0) k
  return_none none k e = refl
  return_none (more t us) k e = absurd cc

  pub waiting_more : (address : Tree) (ts : Trees) (ws : List Waiting) → are_none ts ≡ false
      → waiting address ts ws ≡ record { address = address; destroys = ts } ∷ ws
  waiting_more address none ws e = absurd cc
  waiting_more address (more t us) ws e = refl

  pub waiting_none : (address : Tree) (ts : Trees) (ws : List Waiting) → are_none ts ≡ true → waiting address ts ws ≡ ws
  waiting_none address none ws e = refl
  waiting_none address (more t us) ws e = absurd cc

  pub puts_more : (o : Owner) (address : Tree) (ts : Trees) (k : List Frame) → are_none ts ≡ false
      → puts_some o address ts k ≡ puts o (record { address = address; destroys = ts }) k
  puts_more o address none k e = absurd cc
  puts_more o address (more t us) k e = refl

  pub puts_none : (o : Owner) (address : Tree) (ts : Trees) (k : List Frame) → are_none ts ≡ true → puts_some o address ts k ≡ k
  puts_none o address none k e = refl
  puts_none o address (more t us) k e = absurd cc

  pub destroy_some : (address : ℕ) (kind : TKind) (others : Trees) (k : List Frame) (q : Destruction) → destroy_in kind ≡ Some q
      → destroy p h address kind others k ≡ destroy p h address (Destroy q.func q.offset q.count q.stride) others k
  destroy_some address (Literal w) others k q e = absurd cc
  destroy_some address (Local place) others k q e = absurd cc
  destroy_some address (Global n) others k q e = absurd cc
  destroy_some address (Function f) others k q e = absurd cc
  destroy_some address (ClassTable c) others k q e = absurd cc
  destroy_some address (Load kind volatile) others k q e = absurd cc
  destroy_some address (Convert kind) others k q e = absurd cc
  destroy_some address Retype others k q e = absurd cc
  destroy_some address (Binary op kind) others k q e = absurd cc
  destroy_some address Conditional others k q e = absurd cc
  destroy_some address Comma others k q e = absurd cc
  destroy_some address (Assign kind volatile) others k q e = absurd cc
  destroy_some address (Update op stored operation volatile old) others k q e = absurd cc
  destroy_some address CopyAssign others k q e = absurd cc
  destroy_some address (Materialize place argument) others k q e = absurd cc
  destroy_some address FullExpression others k q e = absurd cc
  destroy_some address (Call f) others k q e = absurd cc
  destroy_some address (VirtualCall f class slot offset) others k q e = absurd cc
  destroy_some address PointerCall others k q e = absurd cc
  destroy_some address (Builtin which) others k q e = absurd cc
  destroy_some address Throw others k q e = absurd cc
  destroy_some address Rethrow others k q e = absurd cc
  destroy_some address (Store kind volatile) others k q e = absurd cc
  destroy_some address (CopyScalar kind volatile) others k q e = absurd cc
  destroy_some address (Construct f) others k q e = absurd cc
  destroy_some address (CopyConstruct f) others k q e = absurd cc
  destroy_some address CopyFrom others k q e = absurd cc
  destroy_some address Pieces others k q e = absurd cc
  destroy_some address (Piece offset) others k q e = absurd cc
  destroy_some address (Elements count stride) others k q e = absurd cc
  destroy_some address (Block subobjects) others k q e = absurd cc
  destroy_some address Init others k q e = absurd cc
  destroy_some address Defer others k q e = absurd cc
  destroy_some address (Loop test_first) others k q e = absurd cc
  destroy_some address Switch others k q e = absurd cc
  destroy_some address (Case w) others k q e = absurd cc
  destroy_some address Default others k q e = absurd cc
  destroy_some address Break others k q e = absurd cc
  destroy_some address Continue others k q e = absurd cc
  destroy_some address Return others k q e = absurd cc
  destroy_some address Try others k q e = absurd cc
  destroy_some address (Handler place) others k q e = absurd cc
  destroy_some address (Atomic kind) others k q e = absurd cc
  destroy_some address Synchronized others k q e = absurd cc
  destroy_some address (Destroy f offset count stride) others k q e = let is : record { func = f; offset = offset; count = count; stride = stride } ≡ q = cc in
      ap (λ (z : Destruction). destroy p h address (Destroy z.func z.offset z.count z.stride) others k) is
  destroy_some address (Field offset kind) others k q e = absurd cc

  pub destroy_other : (address : ℕ) (kind : TKind) (others : Trees) (k : List Frame) → destroy_in kind ≡ None
      → destroy p h address kind others k ≡ at Silent h (Gives address ∷ Due others ∷ k)
  destroy_other address (Literal w) others k e = refl
  destroy_other address (Local place) others k e = refl
  destroy_other address (Global n) others k e = refl
  destroy_other address (Function f) others k e = refl
  destroy_other address (ClassTable c) others k e = refl
  destroy_other address (Load kind volatile) others k e = refl
  destroy_other address (Convert kind) others k e = refl
  destroy_other address Retype others k e = refl
  destroy_other address (Binary op kind) others k e = refl
  destroy_other address Conditional others k e = refl
  destroy_other address Comma others k e = refl
  destroy_other address (Assign kind volatile) others k e = refl
  destroy_other address (Update op stored operation volatile old) others k e = refl
  destroy_other address CopyAssign others k e = refl
  destroy_other address (Materialize place argument) others k e = refl
  destroy_other address FullExpression others k e = refl
  destroy_other address (Call f) others k e = refl
  destroy_other address (VirtualCall f class slot offset) others k e = refl
  destroy_other address PointerCall others k e = refl
  destroy_other address (Builtin which) others k e = refl
  destroy_other address Throw others k e = refl
  destroy_other address Rethrow others k e = refl
  destroy_other address (Store kind volatile) others k e = refl
  destroy_other address (CopyScalar kind volatile) others k e = refl
  destroy_other address (Construct f) others k e = refl
  destroy_other address (CopyConstruct f) others k e = refl
  destroy_other address CopyFrom others k e = refl
  destroy_other address Pieces others k e = refl
  destroy_other address (Piece offset) others k e = refl
  destroy_other address (Elements count stride) others k e = refl
  destroy_other address (Block subobjects) others k e = refl
  destroy_other address Init others k e = refl
  destroy_other address Defer others k e = refl
  destroy_other address (Loop test_first) others k e = refl
  destroy_other address Switch others k e = refl
  destroy_other address (Case w) others k e = refl
  destroy_other address Default others k e = refl
  destroy_other address Break others k e = refl
  destroy_other address Continue others k e = refl
  destroy_other address Return others k e = refl
  destroy_other address Try others k e = refl
  destroy_other address (Handler place) others k e = refl
  destroy_other address (Atomic kind) others k e = refl
  destroy_other address Synchronized others k e = refl
  destroy_other address (Destroy f offset count stride) others k e = absurd cc
  destroy_other address (Field offset kind) others k e = refl

  pub take_some : (x : Exception) (base : ℕ) (kind : TKind) (others : Trees) (k : List Frame) (q : FieldAt) → field_in kind ≡ Some q
      → take_field h x base kind others k ≡ take_field h x base (Field q.offset q.kind) others k
  take_some x base (Literal w) others k q e = absurd cc
  take_some x base (Local place) others k q e = absurd cc
  take_some x base (Global n) others k q e = absurd cc
  take_some x base (Function f) others k q e = absurd cc
  take_some x base (ClassTable c) others k q e = absurd cc
  take_some x base (Load kind volatile) others k q e = absurd cc
  take_some x base (Convert kind) others k q e = absurd cc
  take_some x base Retype others k q e = absurd cc
  take_some x base (Binary op kind) others k q e = absurd cc
  take_some x base Conditional others k q e = absurd cc
  take_some x base Comma others k q e = absurd cc
  take_some x base (Assign kind volatile) others k q e = absurd cc
  take_some x base (Update op stored operation volatile old) others k q e = absurd cc
  take_some x base CopyAssign others k q e = absurd cc
  take_some x base (Materialize place argument) others k q e = absurd cc
  take_some x base FullExpression others k q e = absurd cc
  take_some x base (Call f) others k q e = absurd cc
  take_some x base (VirtualCall f class slot offset) others k q e = absurd cc
  take_some x base PointerCall others k q e = absurd cc
  take_some x base (Builtin which) others k q e = absurd cc
  take_some x base Throw others k q e = absurd cc
  take_some x base Rethrow others k q e = absurd cc
  take_some x base (Store kind volatile) others k q e = absurd cc
  take_some x base (CopyScalar kind volatile) others k q e = absurd cc
  take_some x base (Construct f) others k q e = absurd cc
  take_some x base (CopyConstruct f) others k q e = absurd cc
  take_some x base CopyFrom others k q e = absurd cc
  take_some x base Pieces others k q e = absurd cc
  take_some x base (Piece offset) others k q e = absurd cc
  take_some x base (Elements count stride) others k q e = absurd cc
  take_some x base (Block subobjects) others k q e = absurd cc
  take_some x base Init others k q e = absurd cc
  take_some x base Defer others k q e = absurd cc
  take_some x base (Loop test_first) others k q e = absurd cc
  take_some x base Switch others k q e = absurd cc
  take_some x base (Case w) others k q e = absurd cc
  take_some x base Default others k q e = absurd cc
  take_some x base Break others k q e = absurd cc
  take_some x base Continue others k q e = absurd cc
  take_some x base Return others k q e = absurd cc
  take_some x base Try others k q e = absurd cc
  take_some x base (Handler place) others k q e = absurd cc
  take_some x base (Atomic kind) others k q e = absurd cc
  take_some x base Synchronized others k q e = absurd cc
  take_some x base (Destroy f offset count stride) others k q e = absurd cc
  take_some x base (Field offset kind) others k q e = let is : record { offset = offset; kind = kind } ≡ q = cc in
      ap (λ (z : FieldAt). take_field h x base (Field z.offset z.kind) others k) is

  pub take_other : (x : Exception) (base : ℕ) (kind : TKind) (others : Trees) (k : List Frame) → field_in kind ≡ None
      → take_field h x base kind others k ≡ at Silent h (Takes x base others ∷ k)
  take_other x base (Literal w) others k e = refl
  take_other x base (Local place) others k e = refl
  take_other x base (Global n) others k e = refl
  take_other x base (Function f) others k e = refl
  take_other x base (ClassTable c) others k e = refl
  take_other x base (Load kind volatile) others k e = refl
  take_other x base (Convert kind) others k e = refl
  take_other x base Retype others k e = refl
  take_other x base (Binary op kind) others k e = refl
  take_other x base Conditional others k e = refl
  take_other x base Comma others k e = refl
  take_other x base (Assign kind volatile) others k e = refl
  take_other x base (Update op stored operation volatile old) others k e = refl
  take_other x base CopyAssign others k e = refl
  take_other x base (Materialize place argument) others k e = refl
  take_other x base FullExpression others k e = refl
  take_other x base (Call f) others k e = refl
  take_other x base (VirtualCall f class slot offset) others k e = refl
  take_other x base PointerCall others k e = refl
  take_other x base (Builtin which) others k e = refl
  take_other x base Throw others k e = refl
  take_other x base Rethrow others k e = refl
  take_other x base (Store kind volatile) others k e = refl
  take_other x base (CopyScalar kind volatile) others k e = refl
  take_other x base (Construct f) others k e = refl
  take_other x base (CopyConstruct f) others k e = refl
  take_other x base CopyFrom others k e = refl
  take_other x base Pieces others k e = refl
  take_other x base (Piece offset) others k e = refl
  take_other x base (Elements count stride) others k e = refl
  take_other x base (Block subobjects) others k e = refl
  take_other x base Init others k e = refl
  take_other x base Defer others k e = refl
  take_other x base (Loop test_first) others k e = refl
  take_other x base Switch others k e = refl
  take_other x base (Case w) others k e = refl
  take_other x base Default others k e = refl
  take_other x base Break others k e = refl
  take_other x base Continue others k e = refl
  take_other x base Return others k e = refl
  take_other x base Try others k e = refl
  take_other x base (Handler place) others k e = refl
  take_other x base (Atomic kind) others k e = refl
  take_other x base Synchronized others k e = refl
  take_other x base (Destroy f offset count stride) others k e = refl
  take_other x base (Field offset kind) others k e = absurd cc

  pub fill_some : (ty : Typ) (from : ℕ) (kind : TKind) (others : Trees) (bytes : List ℕ) (k : List Frame) (q : FieldAt) → field_in kind ≡ Some q
      → fill_field h ty from kind others bytes k ≡ fill_field h ty from (Field q.offset q.kind) others bytes k
  fill_some ty from (Literal w) others bytes k q e = absurd cc
  fill_some ty from (Local place) others bytes k q e = absurd cc
  fill_some ty from (Global n) others bytes k q e = absurd cc
  fill_some ty from (Function f) others bytes k q e = absurd cc
  fill_some ty from (ClassTable c) others bytes k q e = absurd cc
  fill_some ty from (Load kind volatile) others bytes k q e = absurd cc
  fill_some ty from (Convert kind) others bytes k q e = absurd cc
  fill_some ty from Retype others bytes k q e = absurd cc
  fill_some ty from (Binary op kind) others bytes k q e = absurd cc
  fill_some ty from Conditional others bytes k q e = absurd cc
  fill_some ty from Comma others bytes k q e = absurd cc
  fill_some ty from (Assign kind volatile) others bytes k q e = absurd cc
  fill_some ty from (Update op stored operation volatile old) others bytes k q e = absurd cc
  fill_some ty from CopyAssign others bytes k q e = absurd cc
  fill_some ty from (Materialize place argument) others bytes k q e = absurd cc
  fill_some ty from FullExpression others bytes k q e = absurd cc
  fill_some ty from (Call f) others bytes k q e = absurd cc
  fill_some ty from (VirtualCall f class slot offset) others bytes k q e = absurd cc
  fill_some ty from PointerCall others bytes k q e = absurd cc
  fill_some ty from (Builtin which) others bytes k q e = absurd cc
  fill_some ty from Throw others bytes k q e = absurd cc
  fill_some ty from Rethrow others bytes k q e = absurd cc
  fill_some ty from (Store kind volatile) others bytes k q e = absurd cc
  fill_some ty from (CopyScalar kind volatile) others bytes k q e = absurd cc
  fill_some ty from (Construct f) others bytes k q e = absurd cc
  fill_some ty from (CopyConstruct f) others bytes k q e = absurd cc
  fill_some ty from CopyFrom others bytes k q e = absurd cc
  fill_some ty from Pieces others bytes k q e = absurd cc
  fill_some ty from (Piece offset) others bytes k q e = absurd cc
  fill_some ty from (Elements count stride) others bytes k q e = absurd cc
  fill_some ty from (Block subobjects) others bytes k q e = absurd cc
  fill_some ty from Init others bytes k q e = absurd cc
  fill_some ty from Defer others bytes k q e = absurd cc
  fill_some ty from (Loop test_first) others bytes k q e = absurd cc
  fill_some ty from Switch others bytes k q e = absurd cc
  fill_some ty from (Case w) others bytes k q e = absurd cc
  fill_some ty from Default others bytes k q e = absurd cc
  fill_some ty from Break others bytes k q e = absurd cc
  fill_some ty from Continue others bytes k q e = absurd cc
  fill_some ty from Return others bytes k q e = absurd cc
  fill_some ty from Try others bytes k q e = absurd cc
  fill_some ty from (Handler place) others bytes k q e = absurd cc
  fill_some ty from (Atomic kind) others bytes k q e = absurd cc
  fill_some ty from Synchronized others bytes k q e = absurd cc
  fill_some ty from (Destroy f offset count stride) others bytes k q e = absurd cc
  fill_some ty from (Field offset kind) others bytes k q e = let is : record { offset = offset; kind = kind } ≡ q = cc in
      ap (λ (z : FieldAt). fill_field h ty from (Field z.offset z.kind) others bytes k) is

  pub fill_other : (ty : Typ) (from : ℕ) (kind : TKind) (others : Trees) (bytes : List ℕ) (k : List Frame) → field_in kind ≡ None
      → fill_field h ty from kind others bytes k ≡ at Silent h (Fills ty from others bytes ∷ k)
  fill_other ty from (Literal w) others bytes k e = refl
  fill_other ty from (Local place) others bytes k e = refl
  fill_other ty from (Global n) others bytes k e = refl
  fill_other ty from (Function f) others bytes k e = refl
  fill_other ty from (ClassTable c) others bytes k e = refl
  fill_other ty from (Load kind volatile) others bytes k e = refl
  fill_other ty from (Convert kind) others bytes k e = refl
  fill_other ty from Retype others bytes k e = refl
  fill_other ty from (Binary op kind) others bytes k e = refl
  fill_other ty from Conditional others bytes k e = refl
  fill_other ty from Comma others bytes k e = refl
  fill_other ty from (Assign kind volatile) others bytes k e = refl
  fill_other ty from (Update op stored operation volatile old) others bytes k e = refl
  fill_other ty from CopyAssign others bytes k e = refl
  fill_other ty from (Materialize place argument) others bytes k e = refl
  fill_other ty from FullExpression others bytes k e = refl
  fill_other ty from (Call f) others bytes k e = refl
  fill_other ty from (VirtualCall f class slot offset) others bytes k e = refl
  fill_other ty from PointerCall others bytes k e = refl
  fill_other ty from (Builtin which) others bytes k e = refl
  fill_other ty from Throw others bytes k e = refl
  fill_other ty from Rethrow others bytes k e = refl
  fill_other ty from (Store kind volatile) others bytes k e = refl
  fill_other ty from (CopyScalar kind volatile) others bytes k e = refl
  fill_other ty from (Construct f) others bytes k e = refl
  fill_other ty from (CopyConstruct f) others bytes k e = refl
  fill_other ty from CopyFrom others bytes k e = refl
  fill_other ty from Pieces others bytes k e = refl
  fill_other ty from (Piece offset) others bytes k e = refl
  fill_other ty from (Elements count stride) others bytes k e = refl
  fill_other ty from (Block subobjects) others bytes k e = refl
  fill_other ty from Init others bytes k e = refl
  fill_other ty from Defer others bytes k e = refl
  fill_other ty from (Loop test_first) others bytes k e = refl
  fill_other ty from Switch others bytes k e = refl
  fill_other ty from (Case w) others bytes k e = refl
  fill_other ty from Default others bytes k e = refl
  fill_other ty from Break others bytes k e = refl
  fill_other ty from Continue others bytes k e = refl
  fill_other ty from Return others bytes k e = refl
  fill_other ty from Try others bytes k e = refl
  fill_other ty from (Handler place) others bytes k e = refl
  fill_other ty from (Atomic kind) others bytes k e = refl
  fill_other ty from Synchronized others bytes k e = refl
  fill_other ty from (Destroy f offset count stride) others bytes k e = refl
  fill_other ty from (Field offset kind) others bytes k e = absurd cc

  pub taken_some : (x : Exception) (kind : TKind) (fields : Trees) (k : List Frame) (q : ℕ) → place_in kind ≡ Some q
      → taken h x kind fields k ≡ Takes x (place_address h q) fields ∷ k
  taken_some x (Literal w) fields k q e = absurd cc
  taken_some x (Local place) fields k q e = absurd cc
  taken_some x (Global n) fields k q e = absurd cc
  taken_some x (Function f) fields k q e = absurd cc
  taken_some x (ClassTable c) fields k q e = absurd cc
  taken_some x (Load kind volatile) fields k q e = absurd cc
  taken_some x (Convert kind) fields k q e = absurd cc
  taken_some x Retype fields k q e = absurd cc
  taken_some x (Binary op kind) fields k q e = absurd cc
  taken_some x Conditional fields k q e = absurd cc
  taken_some x Comma fields k q e = absurd cc
  taken_some x (Assign kind volatile) fields k q e = absurd cc
  taken_some x (Update op stored operation volatile old) fields k q e = absurd cc
  taken_some x CopyAssign fields k q e = absurd cc
  taken_some x (Materialize place argument) fields k q e = absurd cc
  taken_some x FullExpression fields k q e = absurd cc
  taken_some x (Call f) fields k q e = absurd cc
  taken_some x (VirtualCall f class slot offset) fields k q e = absurd cc
  taken_some x PointerCall fields k q e = absurd cc
  taken_some x (Builtin which) fields k q e = absurd cc
  taken_some x Throw fields k q e = absurd cc
  taken_some x Rethrow fields k q e = absurd cc
  taken_some x (Store kind volatile) fields k q e = absurd cc
  taken_some x (CopyScalar kind volatile) fields k q e = absurd cc
  taken_some x (Construct f) fields k q e = absurd cc
  taken_some x (CopyConstruct f) fields k q e = absurd cc
  taken_some x CopyFrom fields k q e = absurd cc
  taken_some x Pieces fields k q e = absurd cc
  taken_some x (Piece offset) fields k q e = absurd cc
  taken_some x (Elements count stride) fields k q e = absurd cc
  taken_some x (Block subobjects) fields k q e = absurd cc
  taken_some x Init fields k q e = absurd cc
  taken_some x Defer fields k q e = absurd cc
  taken_some x (Loop test_first) fields k q e = absurd cc
  taken_some x Switch fields k q e = absurd cc
  taken_some x (Case w) fields k q e = absurd cc
  taken_some x Default fields k q e = absurd cc
  taken_some x Break fields k q e = absurd cc
  taken_some x Continue fields k q e = absurd cc
  taken_some x Return fields k q e = absurd cc
  taken_some x Try fields k q e = absurd cc
  taken_some x (Handler None) fields k q e = absurd cc
  taken_some x (Handler (Some place)) fields k q e = let is : place ≡ q = cc in ap (λ z. Takes x (place_address h z) fields ∷ k) is
  taken_some x (Atomic kind) fields k q e = absurd cc
  taken_some x Synchronized fields k q e = absurd cc
  taken_some x (Destroy f offset count stride) fields k q e = absurd cc
  taken_some x (Field offset kind) fields k q e = absurd cc

  pub taken_other : (x : Exception) (kind : TKind) (fields : Trees) (k : List Frame) → place_in kind ≡ None → taken h x kind fields k ≡ k
  taken_other x (Literal w) fields k e = refl
  taken_other x (Local place) fields k e = refl
  taken_other x (Global n) fields k e = refl
  taken_other x (Function f) fields k e = refl
  taken_other x (ClassTable c) fields k e = refl
  taken_other x (Load kind volatile) fields k e = refl
  taken_other x (Convert kind) fields k e = refl
  taken_other x Retype fields k e = refl
  taken_other x (Binary op kind) fields k e = refl
  taken_other x Conditional fields k e = refl
  taken_other x Comma fields k e = refl
  taken_other x (Assign kind volatile) fields k e = refl
  taken_other x (Update op stored operation volatile old) fields k e = refl
  taken_other x CopyAssign fields k e = refl
  taken_other x (Materialize place argument) fields k e = refl
  taken_other x FullExpression fields k e = refl
  taken_other x (Call f) fields k e = refl
  taken_other x (VirtualCall f class slot offset) fields k e = refl
  taken_other x PointerCall fields k e = refl
  taken_other x (Builtin which) fields k e = refl
  taken_other x Throw fields k e = refl
  taken_other x Rethrow fields k e = refl
  taken_other x (Store kind volatile) fields k e = refl
  taken_other x (CopyScalar kind volatile) fields k e = refl
  taken_other x (Construct f) fields k e = refl
  taken_other x (CopyConstruct f) fields k e = refl
  taken_other x CopyFrom fields k e = refl
  taken_other x Pieces fields k e = refl
  taken_other x (Piece offset) fields k e = refl
  taken_other x (Elements count stride) fields k e = refl
  taken_other x (Block subobjects) fields k e = refl
  taken_other x Init fields k e = refl
  taken_other x Defer fields k e = refl
  taken_other x (Loop test_first) fields k e = refl
  taken_other x Switch fields k e = refl
  taken_other x (Case w) fields k e = refl
  taken_other x Default fields k e = refl
  taken_other x Break fields k e = refl
  taken_other x Continue fields k e = refl
  taken_other x Return fields k e = refl
  taken_other x Try fields k e = refl
  taken_other x (Handler None) fields k e = refl
  taken_other x (Handler (Some place)) fields k e = absurd cc
  taken_other x (Atomic kind) fields k e = refl
  taken_other x Synchronized fields k e = refl
  taken_other x (Destroy f offset count stride) fields k e = refl
  taken_other x (Field offset kind) fields k e = refl

  pub handle_tree : (x : Exception) (t : Tree) (k : List Frame)
      → handle h x t k ≡ at Silent h (taken h x (kind_of t) (rest (kids_of t)) (Then value (first (kids_of t)) ∷ Handling x ∷ k))
  handle_tree x (node kind t cat place kids) k = refl
