-- Steps that look at kids, at what stands at a root, and at objects that wait.
use Rattle.std.proofs.Common.{◌≡◌, ℕ, List, ◌∷◌, refl, ap, true, false}
use Rattle.std.specs.Prelude.{Some, None}
use Rattle.cpp_tree.specs.cpp_types.Typ.{Typ}
use Rattle.cpp_tree.specs.declared.kinds.TKind.{TKind}
use Rattle.cpp_tree.specs.declared.kinds.TKind.TheVariants.{Literal, Local, Global, Function, ClassTable, Load, Convert, Retype, Binary, Conditional, Comma, Assign, Update, CopyAssign, Materialize, FullExpression, Call, VirtualCall, PointerCall, Builtin, Throw, Rethrow, Store, CopyScalar, Construct, CopyConstruct, CopyFrom, Pieces, Piece, Elements, Block, Init, Defer, Loop, Switch, Case, Default, Break, Continue, Return, Try, Handler, Atomic, Synchronized, Destroy, Field}
use Rattle.cpp_tree.specs.Trees.{Tree, node, Trees, none, more, first, rest, kind_of, kids_of}
use Rattle.src_mean.specs.Linked.{Func, Program}
use Rattle.src_mean.specs.Source.{from_label, is_default}
use Rattle.src_frames.specs.Trees.{are_none}
use Rattle.symbolic_source.specs.Terms.{Term, number, Exception, made, Puts}
use Rattle.symbolic_source.specs.Frames.{Waiting, Way, value, into, throws, Frame, Run, Then, Gives, Due, Parts, Items, Fills, Takes, Handling, Compares}
use Rattle.symbolic_source.specs.Outcomes.{silent, goes}
use Rattle.symbolic_source.specs.Steps.{Answers, left, given, ran, compared, run_items, destroyed, fill_field, take_field, taken, handling, place_of}
use Rattle.symbolic_leaving.specs.declared.roots.FieldAt.{FieldAt}
use Rattle.symbolic_leaving.specs.declared.roots.Destruction.{Destruction}
use Rattle.symbolic_leaving.specs.Kinds.{destroy_in, field_in, place_in}

pub compared_more : (ws : List Waiting) (w : Term) (ts : Trees) (items : Trees) (k : List Frame) → are_none ts ≡ false → compared ws w ts items k ≡ goes silent ws (Compares w (kind_of (first ts)) (rest ts) items ∷ k)
compared_more ws w none items k h = absurd cc
compared_more ws w (more t us) items k h = refl

pub compared_none : (ws : List Waiting) (w : Term) (ts : Trees) (items : Trees) (k : List Frame) → are_none ts ≡ true → compared ws w ts items k ≡ run_items ws (from_label is_default items) k
compared_none ws w none items k h = refl
compared_none ws w (more t us) items k h = absurd cc

module _ (p : Program) (f : Func) (answers : Answers) where
  pub run_tree : (ws : List Waiting) (way : Way) (t : Tree) (v : Term) (k : List Frame) → given p f answers ws v (Run way t ∷ k) ≡ ran p f answers ws way (kind_of t) (kids_of t) (λ w. given p f answers ws w k) k
  run_tree ws way (node kind t cat place kids) v k = refl

  pub due_more : (ws : List Waiting) (v : Term) (ts : Trees) (k : List Frame) → are_none ts ≡ false → given p f answers ws v (Due ts ∷ k) ≡ destroyed p f answers ws v (kind_of (first ts)) (rest ts) k
  due_more ws v none k h = absurd cc
  due_more ws v (more t us) k h = refl

  pub due_none : (ws : List Waiting) (v : Term) (ts : Trees) (k : List Frame) → are_none ts ≡ true → given p f answers ws v (Due ts ∷ k) ≡ given p f answers ws v k
  due_none ws v none k h = refl
  due_none ws v (more t us) k h = absurd cc

  pub parts_more : (ws : List Waiting) (v : Term) (ts : Trees) (target : Term) (from : Term) (k : List Frame) → are_none ts ≡ false → given p f answers ws v (Parts ts target from ∷ k) ≡ goes silent ws (Run (into target from) (first ts) ∷ Parts (rest ts) target from ∷ k)
  parts_more ws v none target from k h = absurd cc
  parts_more ws v (more t us) target from k h = refl

  pub parts_none : (ws : List Waiting) (v : Term) (ts : Trees) (target : Term) (from : Term) (k : List Frame) → are_none ts ≡ true → given p f answers ws v (Parts ts target from ∷ k) ≡ given p f answers ws v k
  parts_none ws v none target from k h = refl
  parts_none ws v (more t us) target from k h = absurd cc

  pub items_more : (ws : List Waiting) (v : Term) (ts : Trees) (k : List Frame) → are_none ts ≡ false → given p f answers ws v (Items ts ∷ k) ≡ goes silent ws (Run value (first ts) ∷ Items (rest ts) ∷ k)
  items_more ws v none k h = absurd cc
  items_more ws v (more t us) k h = refl

  pub items_none : (ws : List Waiting) (v : Term) (ts : Trees) (k : List Frame) → are_none ts ≡ true → given p f answers ws v (Items ts ∷ k) ≡ given p f answers ws (number 0) k
  items_none ws v none k h = refl
  items_none ws v (more t us) k h = absurd cc

  pub fills_more : (ws : List Waiting) (v : Term) (ty : Typ) (from : Term) (ts : Trees) (q : Puts) (k : List Frame) → are_none ts ≡ false → given p f answers ws v (Fills ty from ts q ∷ k) ≡ fill_field p f answers ws ty from (kind_of (first ts)) (rest ts) q k
  fills_more ws v ty from none q k h = absurd cc
  fills_more ws v ty from (more t us) q k h = refl

  pub fills_none : (ws : List Waiting) (v : Term) (ty : Typ) (from : Term) (ts : Trees) (q : Puts) (k : List Frame) → are_none ts ≡ true → given p f answers ws v (Fills ty from ts q ∷ k) ≡ left ws (throws (made ty q)) k
  fills_none ws v ty from none q k h = refl
  fills_none ws v ty from (more t us) q k h = absurd cc

  pub takes_more : (ws : List Waiting) (v : Term) (e : Exception) (base : Term) (ts : Trees) (k : List Frame) → are_none ts ≡ false → given p f answers ws v (Takes e base ts ∷ k) ≡ take_field p f answers ws e base (kind_of (first ts)) (rest ts) k
  takes_more ws v e base none k h = absurd cc
  takes_more ws v e base (more t us) k h = refl

  pub takes_none : (ws : List Waiting) (v : Term) (e : Exception) (base : Term) (ts : Trees) (k : List Frame) → are_none ts ≡ true → given p f answers ws v (Takes e base ts ∷ k) ≡ given p f answers ws (number 0) k
  takes_none ws v e base none k h = refl
  takes_none ws v e base (more t us) k h = absurd cc

  pub handling_tree : (ws : List Waiting) (e : Exception) (t : Tree) (k : List Frame) → handling p f answers ws e t k ≡ goes silent ws (taken p f answers e (kind_of t) (rest (kids_of t)) (Then value (first (kids_of t)) ∷ Handling e ∷ k))
  handling_tree ws e (node kind t cat place kids) k = refl

  pub destroy_some : (ws : List Waiting) (address : Term) (kind : TKind) (others : Trees) (k : List Frame) (q : Destruction) → destroy_in kind ≡ Some q → destroyed p f answers ws address kind others k ≡ destroyed p f answers ws address (Destroy q.func q.offset q.count q.stride) others k
  destroy_some ws address (Literal w) others k q h = absurd cc
  destroy_some ws address (Local place) others k q h = absurd cc
  destroy_some ws address (Global n) others k q h = absurd cc
  destroy_some ws address (Function g) others k q h = absurd cc
  destroy_some ws address (ClassTable c) others k q h = absurd cc
  destroy_some ws address (Load kind volatile) others k q h = absurd cc
  destroy_some ws address (Convert kind) others k q h = absurd cc
  destroy_some ws address Retype others k q h = absurd cc
  destroy_some ws address (Binary op kind) others k q h = absurd cc
  destroy_some ws address Conditional others k q h = absurd cc
  destroy_some ws address Comma others k q h = absurd cc
  destroy_some ws address (Assign kind volatile) others k q h = absurd cc
  destroy_some ws address (Update op stored operation volatile old) others k q h = absurd cc
  destroy_some ws address CopyAssign others k q h = absurd cc
  destroy_some ws address (Materialize place argument) others k q h = absurd cc
  destroy_some ws address FullExpression others k q h = absurd cc
  destroy_some ws address (Call g) others k q h = absurd cc
  destroy_some ws address (VirtualCall g class slot offset) others k q h = absurd cc
  destroy_some ws address PointerCall others k q h = absurd cc
  destroy_some ws address (Builtin which) others k q h = absurd cc
  destroy_some ws address Throw others k q h = absurd cc
  destroy_some ws address Rethrow others k q h = absurd cc
  destroy_some ws address (Store kind volatile) others k q h = absurd cc
  destroy_some ws address (CopyScalar kind volatile) others k q h = absurd cc
  destroy_some ws address (Construct g) others k q h = absurd cc
  destroy_some ws address (CopyConstruct g) others k q h = absurd cc
  destroy_some ws address CopyFrom others k q h = absurd cc
  destroy_some ws address Pieces others k q h = absurd cc
  destroy_some ws address (Piece offset) others k q h = absurd cc
  destroy_some ws address (Elements count stride) others k q h = absurd cc
  destroy_some ws address (Block subobjects) others k q h = absurd cc
  destroy_some ws address Init others k q h = absurd cc
  destroy_some ws address Defer others k q h = absurd cc
  destroy_some ws address (Loop test_first) others k q h = absurd cc
  destroy_some ws address Switch others k q h = absurd cc
  destroy_some ws address (Case w) others k q h = absurd cc
  destroy_some ws address Default others k q h = absurd cc
  destroy_some ws address Break others k q h = absurd cc
  destroy_some ws address Continue others k q h = absurd cc
  destroy_some ws address Return others k q h = absurd cc
  destroy_some ws address Try others k q h = absurd cc
  destroy_some ws address (Handler place) others k q h = absurd cc
  destroy_some ws address (Atomic kind) others k q h = absurd cc
  destroy_some ws address Synchronized others k q h = absurd cc
  destroy_some ws address (Destroy g offset count stride) others k q h = let is : record { func = g; offset = offset; count = count; stride = stride } ≡ q = cc in ap (λ (z : Destruction). destroyed p f answers ws address (Destroy z.func z.offset z.count z.stride) others k) is
  destroy_some ws address (Field offset kind) others k q h = absurd cc

  pub destroy_other : (ws : List Waiting) (address : Term) (kind : TKind) (others : Trees) (k : List Frame) → destroy_in kind ≡ None → destroyed p f answers ws address kind others k ≡ goes silent ws (Gives address ∷ Due others ∷ k)
  destroy_other ws address (Literal w) others k h = refl
  destroy_other ws address (Local place) others k h = refl
  destroy_other ws address (Global n) others k h = refl
  destroy_other ws address (Function g) others k h = refl
  destroy_other ws address (ClassTable c) others k h = refl
  destroy_other ws address (Load kind volatile) others k h = refl
  destroy_other ws address (Convert kind) others k h = refl
  destroy_other ws address Retype others k h = refl
  destroy_other ws address (Binary op kind) others k h = refl
  destroy_other ws address Conditional others k h = refl
  destroy_other ws address Comma others k h = refl
  destroy_other ws address (Assign kind volatile) others k h = refl
  destroy_other ws address (Update op stored operation volatile old) others k h = refl
  destroy_other ws address CopyAssign others k h = refl
  destroy_other ws address (Materialize place argument) others k h = refl
  destroy_other ws address FullExpression others k h = refl
  destroy_other ws address (Call g) others k h = refl
  destroy_other ws address (VirtualCall g class slot offset) others k h = refl
  destroy_other ws address PointerCall others k h = refl
  destroy_other ws address (Builtin which) others k h = refl
  destroy_other ws address Throw others k h = refl
  destroy_other ws address Rethrow others k h = refl
  destroy_other ws address (Store kind volatile) others k h = refl
  destroy_other ws address (CopyScalar kind volatile) others k h = refl
  destroy_other ws address (Construct g) others k h = refl
  destroy_other ws address (CopyConstruct g) others k h = refl
  destroy_other ws address CopyFrom others k h = refl
  destroy_other ws address Pieces others k h = refl
  destroy_other ws address (Piece offset) others k h = refl
  destroy_other ws address (Elements count stride) others k h = refl
  destroy_other ws address (Block subobjects) others k h = refl
  destroy_other ws address Init others k h = refl
  destroy_other ws address Defer others k h = refl
  destroy_other ws address (Loop test_first) others k h = refl
  destroy_other ws address Switch others k h = refl
  destroy_other ws address (Case w) others k h = refl
  destroy_other ws address Default others k h = refl
  destroy_other ws address Break others k h = refl
  destroy_other ws address Continue others k h = refl
  destroy_other ws address Return others k h = refl
  destroy_other ws address Try others k h = refl
  destroy_other ws address (Handler place) others k h = refl
  destroy_other ws address (Atomic kind) others k h = refl
  destroy_other ws address Synchronized others k h = refl
  destroy_other ws address (Destroy g offset count stride) others k h = absurd cc
  destroy_other ws address (Field offset kind) others k h = refl

  pub take_some : (ws : List Waiting) (e : Exception) (base : Term) (kind : TKind) (others : Trees) (k : List Frame) (q : FieldAt) → field_in kind ≡ Some q → take_field p f answers ws e base kind others k ≡ take_field p f answers ws e base (Field q.offset q.kind) others k
  take_some ws e base (Literal w) others k q h = absurd cc
  take_some ws e base (Local place) others k q h = absurd cc
  take_some ws e base (Global n) others k q h = absurd cc
  take_some ws e base (Function g) others k q h = absurd cc
  take_some ws e base (ClassTable c) others k q h = absurd cc
  take_some ws e base (Load kind volatile) others k q h = absurd cc
  take_some ws e base (Convert kind) others k q h = absurd cc
  take_some ws e base Retype others k q h = absurd cc
  take_some ws e base (Binary op kind) others k q h = absurd cc
  take_some ws e base Conditional others k q h = absurd cc
  take_some ws e base Comma others k q h = absurd cc
  take_some ws e base (Assign kind volatile) others k q h = absurd cc
  take_some ws e base (Update op stored operation volatile old) others k q h = absurd cc
  take_some ws e base CopyAssign others k q h = absurd cc
  take_some ws e base (Materialize place argument) others k q h = absurd cc
  take_some ws e base FullExpression others k q h = absurd cc
  take_some ws e base (Call g) others k q h = absurd cc
  take_some ws e base (VirtualCall g class slot offset) others k q h = absurd cc
  take_some ws e base PointerCall others k q h = absurd cc
  take_some ws e base (Builtin which) others k q h = absurd cc
  take_some ws e base Throw others k q h = absurd cc
  take_some ws e base Rethrow others k q h = absurd cc
  take_some ws e base (Store kind volatile) others k q h = absurd cc
  take_some ws e base (CopyScalar kind volatile) others k q h = absurd cc
  take_some ws e base (Construct g) others k q h = absurd cc
  take_some ws e base (CopyConstruct g) others k q h = absurd cc
  take_some ws e base CopyFrom others k q h = absurd cc
  take_some ws e base Pieces others k q h = absurd cc
  take_some ws e base (Piece offset) others k q h = absurd cc
  take_some ws e base (Elements count stride) others k q h = absurd cc
  take_some ws e base (Block subobjects) others k q h = absurd cc
  take_some ws e base Init others k q h = absurd cc
  take_some ws e base Defer others k q h = absurd cc
  take_some ws e base (Loop test_first) others k q h = absurd cc
  take_some ws e base Switch others k q h = absurd cc
  take_some ws e base (Case w) others k q h = absurd cc
  take_some ws e base Default others k q h = absurd cc
  take_some ws e base Break others k q h = absurd cc
  take_some ws e base Continue others k q h = absurd cc
  take_some ws e base Return others k q h = absurd cc
  take_some ws e base Try others k q h = absurd cc
  take_some ws e base (Handler place) others k q h = absurd cc
  take_some ws e base (Atomic kind) others k q h = absurd cc
  take_some ws e base Synchronized others k q h = absurd cc
  take_some ws e base (Destroy g offset count stride) others k q h = absurd cc
  take_some ws e base (Field offset kind) others k q h = let is : record { offset = offset; kind = kind } ≡ q = cc in ap (λ (z : FieldAt). take_field p f answers ws e base (Field z.offset z.kind) others k) is

  pub take_other : (ws : List Waiting) (e : Exception) (base : Term) (kind : TKind) (others : Trees) (k : List Frame) → field_in kind ≡ None → take_field p f answers ws e base kind others k ≡ goes silent ws (Takes e base others ∷ k)
  take_other ws e base (Literal w) others k h = refl
  take_other ws e base (Local place) others k h = refl
  take_other ws e base (Global n) others k h = refl
  take_other ws e base (Function g) others k h = refl
  take_other ws e base (ClassTable c) others k h = refl
  take_other ws e base (Load kind volatile) others k h = refl
  take_other ws e base (Convert kind) others k h = refl
  take_other ws e base Retype others k h = refl
  take_other ws e base (Binary op kind) others k h = refl
  take_other ws e base Conditional others k h = refl
  take_other ws e base Comma others k h = refl
  take_other ws e base (Assign kind volatile) others k h = refl
  take_other ws e base (Update op stored operation volatile old) others k h = refl
  take_other ws e base CopyAssign others k h = refl
  take_other ws e base (Materialize place argument) others k h = refl
  take_other ws e base FullExpression others k h = refl
  take_other ws e base (Call g) others k h = refl
  take_other ws e base (VirtualCall g class slot offset) others k h = refl
  take_other ws e base PointerCall others k h = refl
  take_other ws e base (Builtin which) others k h = refl
  take_other ws e base Throw others k h = refl
  take_other ws e base Rethrow others k h = refl
  take_other ws e base (Store kind volatile) others k h = refl
  take_other ws e base (CopyScalar kind volatile) others k h = refl
  take_other ws e base (Construct g) others k h = refl
  take_other ws e base (CopyConstruct g) others k h = refl
  take_other ws e base CopyFrom others k h = refl
  take_other ws e base Pieces others k h = refl
  take_other ws e base (Piece offset) others k h = refl
  take_other ws e base (Elements count stride) others k h = refl
  take_other ws e base (Block subobjects) others k h = refl
  take_other ws e base Init others k h = refl
  take_other ws e base Defer others k h = refl
  take_other ws e base (Loop test_first) others k h = refl
  take_other ws e base Switch others k h = refl
  take_other ws e base (Case w) others k h = refl
  take_other ws e base Default others k h = refl
  take_other ws e base Break others k h = refl
  take_other ws e base Continue others k h = refl
  take_other ws e base Return others k h = refl
  take_other ws e base Try others k h = refl
  take_other ws e base (Handler place) others k h = refl
  take_other ws e base (Atomic kind) others k h = refl
  take_other ws e base Synchronized others k h = refl
  take_other ws e base (Destroy g offset count stride) others k h = refl
  take_other ws e base (Field offset kind) others k h = absurd cc

  pub fill_some : (ws : List Waiting) (ty : Typ) (from : Term) (kind : TKind) (others : Trees) (r : Puts) (k : List Frame) (q : FieldAt) → field_in kind ≡ Some q → fill_field p f answers ws ty from kind others r k ≡ fill_field p f answers ws ty from (Field q.offset q.kind) others r k
  fill_some ws ty from (Literal w) others r k q h = absurd cc
  fill_some ws ty from (Local place) others r k q h = absurd cc
  fill_some ws ty from (Global n) others r k q h = absurd cc
  fill_some ws ty from (Function g) others r k q h = absurd cc
  fill_some ws ty from (ClassTable c) others r k q h = absurd cc
  fill_some ws ty from (Load kind volatile) others r k q h = absurd cc
  fill_some ws ty from (Convert kind) others r k q h = absurd cc
  fill_some ws ty from Retype others r k q h = absurd cc
  fill_some ws ty from (Binary op kind) others r k q h = absurd cc
  fill_some ws ty from Conditional others r k q h = absurd cc
  fill_some ws ty from Comma others r k q h = absurd cc
  fill_some ws ty from (Assign kind volatile) others r k q h = absurd cc
  fill_some ws ty from (Update op stored operation volatile old) others r k q h = absurd cc
  fill_some ws ty from CopyAssign others r k q h = absurd cc
  fill_some ws ty from (Materialize place argument) others r k q h = absurd cc
  fill_some ws ty from FullExpression others r k q h = absurd cc
  fill_some ws ty from (Call g) others r k q h = absurd cc
  fill_some ws ty from (VirtualCall g class slot offset) others r k q h = absurd cc
  fill_some ws ty from PointerCall others r k q h = absurd cc
  fill_some ws ty from (Builtin which) others r k q h = absurd cc
  fill_some ws ty from Throw others r k q h = absurd cc
  fill_some ws ty from Rethrow others r k q h = absurd cc
  fill_some ws ty from (Store kind volatile) others r k q h = absurd cc
  fill_some ws ty from (CopyScalar kind volatile) others r k q h = absurd cc
  fill_some ws ty from (Construct g) others r k q h = absurd cc
  fill_some ws ty from (CopyConstruct g) others r k q h = absurd cc
  fill_some ws ty from CopyFrom others r k q h = absurd cc
  fill_some ws ty from Pieces others r k q h = absurd cc
  fill_some ws ty from (Piece offset) others r k q h = absurd cc
  fill_some ws ty from (Elements count stride) others r k q h = absurd cc
  fill_some ws ty from (Block subobjects) others r k q h = absurd cc
  fill_some ws ty from Init others r k q h = absurd cc
  fill_some ws ty from Defer others r k q h = absurd cc
  fill_some ws ty from (Loop test_first) others r k q h = absurd cc
  fill_some ws ty from Switch others r k q h = absurd cc
  fill_some ws ty from (Case w) others r k q h = absurd cc
  fill_some ws ty from Default others r k q h = absurd cc
  fill_some ws ty from Break others r k q h = absurd cc
  fill_some ws ty from Continue others r k q h = absurd cc
  fill_some ws ty from Return others r k q h = absurd cc
  fill_some ws ty from Try others r k q h = absurd cc
  fill_some ws ty from (Handler place) others r k q h = absurd cc
  fill_some ws ty from (Atomic kind) others r k q h = absurd cc
  fill_some ws ty from Synchronized others r k q h = absurd cc
  fill_some ws ty from (Destroy g offset count stride) others r k q h = absurd cc
  fill_some ws ty from (Field offset kind) others r k q h = let is : record { offset = offset; kind = kind } ≡ q = cc in ap (λ (z : FieldAt). fill_field p f answers ws ty from (Field z.offset z.kind) others r k) is

  pub fill_other : (ws : List Waiting) (ty : Typ) (from : Term) (kind : TKind) (others : Trees) (r : Puts) (k : List Frame) → field_in kind ≡ None → fill_field p f answers ws ty from kind others r k ≡ goes silent ws (Fills ty from others r ∷ k)
  fill_other ws ty from (Literal w) others r k h = refl
  fill_other ws ty from (Local place) others r k h = refl
  fill_other ws ty from (Global n) others r k h = refl
  fill_other ws ty from (Function g) others r k h = refl
  fill_other ws ty from (ClassTable c) others r k h = refl
  fill_other ws ty from (Load kind volatile) others r k h = refl
  fill_other ws ty from (Convert kind) others r k h = refl
  fill_other ws ty from Retype others r k h = refl
  fill_other ws ty from (Binary op kind) others r k h = refl
  fill_other ws ty from Conditional others r k h = refl
  fill_other ws ty from Comma others r k h = refl
  fill_other ws ty from (Assign kind volatile) others r k h = refl
  fill_other ws ty from (Update op stored operation volatile old) others r k h = refl
  fill_other ws ty from CopyAssign others r k h = refl
  fill_other ws ty from (Materialize place argument) others r k h = refl
  fill_other ws ty from FullExpression others r k h = refl
  fill_other ws ty from (Call g) others r k h = refl
  fill_other ws ty from (VirtualCall g class slot offset) others r k h = refl
  fill_other ws ty from PointerCall others r k h = refl
  fill_other ws ty from (Builtin which) others r k h = refl
  fill_other ws ty from Throw others r k h = refl
  fill_other ws ty from Rethrow others r k h = refl
  fill_other ws ty from (Store kind volatile) others r k h = refl
  fill_other ws ty from (CopyScalar kind volatile) others r k h = refl
  fill_other ws ty from (Construct g) others r k h = refl
  fill_other ws ty from (CopyConstruct g) others r k h = refl
  fill_other ws ty from CopyFrom others r k h = refl
  fill_other ws ty from Pieces others r k h = refl
  fill_other ws ty from (Piece offset) others r k h = refl
  fill_other ws ty from (Elements count stride) others r k h = refl
  fill_other ws ty from (Block subobjects) others r k h = refl
  fill_other ws ty from Init others r k h = refl
  fill_other ws ty from Defer others r k h = refl
  fill_other ws ty from (Loop test_first) others r k h = refl
  fill_other ws ty from Switch others r k h = refl
  fill_other ws ty from (Case w) others r k h = refl
  fill_other ws ty from Default others r k h = refl
  fill_other ws ty from Break others r k h = refl
  fill_other ws ty from Continue others r k h = refl
  fill_other ws ty from Return others r k h = refl
  fill_other ws ty from Try others r k h = refl
  fill_other ws ty from (Handler place) others r k h = refl
  fill_other ws ty from (Atomic kind) others r k h = refl
  fill_other ws ty from Synchronized others r k h = refl
  fill_other ws ty from (Destroy g offset count stride) others r k h = refl
  fill_other ws ty from (Field offset kind) others r k h = absurd cc

  pub taken_some : (e : Exception) (kind : TKind) (fields : Trees) (k : List Frame) (n : ℕ) → place_in kind ≡ Some n → taken p f answers e kind fields k ≡ Takes e (place_of p f answers n) fields ∷ k
  taken_some e (Literal w) fields k n h = absurd cc
  taken_some e (Local place) fields k n h = absurd cc
  taken_some e (Global g) fields k n h = absurd cc
  taken_some e (Function g) fields k n h = absurd cc
  taken_some e (ClassTable c) fields k n h = absurd cc
  taken_some e (Load kind volatile) fields k n h = absurd cc
  taken_some e (Convert kind) fields k n h = absurd cc
  taken_some e Retype fields k n h = absurd cc
  taken_some e (Binary op kind) fields k n h = absurd cc
  taken_some e Conditional fields k n h = absurd cc
  taken_some e Comma fields k n h = absurd cc
  taken_some e (Assign kind volatile) fields k n h = absurd cc
  taken_some e (Update op stored operation volatile old) fields k n h = absurd cc
  taken_some e CopyAssign fields k n h = absurd cc
  taken_some e (Materialize place argument) fields k n h = absurd cc
  taken_some e FullExpression fields k n h = absurd cc
  taken_some e (Call g) fields k n h = absurd cc
  taken_some e (VirtualCall g class slot offset) fields k n h = absurd cc
  taken_some e PointerCall fields k n h = absurd cc
  taken_some e (Builtin which) fields k n h = absurd cc
  taken_some e Throw fields k n h = absurd cc
  taken_some e Rethrow fields k n h = absurd cc
  taken_some e (Store kind volatile) fields k n h = absurd cc
  taken_some e (CopyScalar kind volatile) fields k n h = absurd cc
  taken_some e (Construct g) fields k n h = absurd cc
  taken_some e (CopyConstruct g) fields k n h = absurd cc
  taken_some e CopyFrom fields k n h = absurd cc
  taken_some e Pieces fields k n h = absurd cc
  taken_some e (Piece offset) fields k n h = absurd cc
  taken_some e (Elements count stride) fields k n h = absurd cc
  taken_some e (Block subobjects) fields k n h = absurd cc
  taken_some e Init fields k n h = absurd cc
  taken_some e Defer fields k n h = absurd cc
  taken_some e (Loop test_first) fields k n h = absurd cc
  taken_some e Switch fields k n h = absurd cc
  taken_some e (Case w) fields k n h = absurd cc
  taken_some e Default fields k n h = absurd cc
  taken_some e Break fields k n h = absurd cc
  taken_some e Continue fields k n h = absurd cc
  taken_some e Return fields k n h = absurd cc
  taken_some e Try fields k n h = absurd cc
  taken_some e (Handler (Some place)) fields k n h = let is : place ≡ n = cc in ap (λ z. Takes e (place_of p f answers z) fields ∷ k) is
  taken_some e (Handler None) fields k n h = absurd cc
  taken_some e (Atomic kind) fields k n h = absurd cc
  taken_some e Synchronized fields k n h = absurd cc
  taken_some e (Destroy g offset count stride) fields k n h = absurd cc
  taken_some e (Field offset kind) fields k n h = absurd cc

  pub taken_other : (e : Exception) (kind : TKind) (fields : Trees) (k : List Frame) → place_in kind ≡ None → taken p f answers e kind fields k ≡ k
  taken_other e (Literal w) fields k h = refl
  taken_other e (Local place) fields k h = refl
  taken_other e (Global n) fields k h = refl
  taken_other e (Function g) fields k h = refl
  taken_other e (ClassTable c) fields k h = refl
  taken_other e (Load kind volatile) fields k h = refl
  taken_other e (Convert kind) fields k h = refl
  taken_other e Retype fields k h = refl
  taken_other e (Binary op kind) fields k h = refl
  taken_other e Conditional fields k h = refl
  taken_other e Comma fields k h = refl
  taken_other e (Assign kind volatile) fields k h = refl
  taken_other e (Update op stored operation volatile old) fields k h = refl
  taken_other e CopyAssign fields k h = refl
  taken_other e (Materialize place argument) fields k h = refl
  taken_other e FullExpression fields k h = refl
  taken_other e (Call g) fields k h = refl
  taken_other e (VirtualCall g class slot offset) fields k h = refl
  taken_other e PointerCall fields k h = refl
  taken_other e (Builtin which) fields k h = refl
  taken_other e Throw fields k h = refl
  taken_other e Rethrow fields k h = refl
  taken_other e (Store kind volatile) fields k h = refl
  taken_other e (CopyScalar kind volatile) fields k h = refl
  taken_other e (Construct g) fields k h = refl
  taken_other e (CopyConstruct g) fields k h = refl
  taken_other e CopyFrom fields k h = refl
  taken_other e Pieces fields k h = refl
  taken_other e (Piece offset) fields k h = refl
  taken_other e (Elements count stride) fields k h = refl
  taken_other e (Block subobjects) fields k h = refl
  taken_other e Init fields k h = refl
  taken_other e Defer fields k h = refl
  taken_other e (Loop test_first) fields k h = refl
  taken_other e Switch fields k h = refl
  taken_other e (Case w) fields k h = refl
  taken_other e Default fields k h = refl
  taken_other e Break fields k h = refl
  taken_other e Continue fields k h = refl
  taken_other e Return fields k h = refl
  taken_other e Try fields k h = refl
  taken_other e (Handler (Some place)) fields k h = absurd cc
  taken_other e (Handler None) fields k h = refl
  taken_other e (Atomic kind) fields k h = refl
  taken_other e Synchronized fields k h = refl
  taken_other e (Destroy g offset count stride) fields k h = refl
  taken_other e (Field offset kind) fields k h = refl
