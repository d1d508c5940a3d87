-- What a node of a body looks like where it is run: how its value is given, and what the nodes in its lists are.
use Rattle.std.specs.Prelude.{ℕ, ◌≡◌, ◌<◌, ◌^◌, Bool, true, false, not, ◌||◌, cond, List, [], ◌∷◌}
use Rattle.cpp_tree.specs.tx_ints.declared.kinds.IntKind.{IntKind}
use Rattle.cpp_tree.specs.cpp_types.Typ.{Typ}
use Rattle.cpp_tree.specs.declared.arena.TNodeId.{TNodeId}
use Rattle.cpp_tree.specs.declared.kinds.Builtin.{Builtin}
use Rattle.cpp_tree.specs.declared.kinds.Builtin.TheVariants.{PutChar, GetChar, Spawn, Join, Abort}
use Rattle.cpp_tree.specs.declared.kinds.TKind.{TKind}
use Rattle.cpp_tree.specs.declared.kinds.TKind.TheVariants.{Load, Piece, Destroy, Field}
use Rattle.low_code.specs.Nodes.{Node}
use Rattle.low_code.specs.Types.{is_void, is_class_type}
use Rattle.unwind_lower.specs.declared.items.Way.{Way}
use Rattle.unwind_lower.specs.declared.items.Way.TheVariants.{Value, Dropped, Into, Copying}
use Rattle.unwind_lower.specs.Blocks.{is_default}
use Rattle.unwind_lower.specs.Settings.{Setting, node_in, callee_in, gives_of}

-- ---- nodes

-- a node of this kind, with these kids
pub record Stands (g : Setting) (id : TNodeId) (kind : TKind) (kids : List TNodeId) : Type 0 where
  pub kind_is : (node_in g id).kind ≡ kind
  pub kids_are : (node_in g id).kids ≡ kids

abbrev pub is_load : TKind → Bool
is_load (Load kind volatile) = true
is_load kind = false

-- run for its value, the node leaves a word: its type tells, but that the address of a result of class type has none
abbrev pub leaves_word : Node → Bool
leaves_word n = is_load n.kind || not (is_void n.typ)

abbrev pub HasWord : Setting → TNodeId → Type 0
HasWord g id = leaves_word (node_in g id) ≡ true

abbrev pub HaveWords : Setting → List TNodeId → Type 0
HaveWords g [] = Unit {0}
HaveWords g (id ∷ ids) = HasWord g id × HaveWords g ids

-- ---- ways

-- an expression is run for its word, or this is dropped
pub data Gives : Way → Type 0 where
  valued : Gives Value
  dropped : Gives Dropped

-- an object is built
pub data Builds : Way → Type 0 where
  built : Builds Into
  copied : Builds Copying

-- so many words are handed back: one where the call has a value, and none where the result is built in place
pub data HandsBack (words : ℕ) (n : Node) : Way → Type 0 where
  handed : {way : Way} → Gives way → words ≡ cond (is_void n.typ) 0 1 → HandsBack words n way
  in_place : words ≡ 0 → HandsBack words n Into

-- how many words a function that needs no declaration takes, and whether it gives none
abbrev pub words_taken : Builtin → ℕ
words_taken PutChar = 1
words_taken GetChar = 0
words_taken Spawn = 2
words_taken Join = 1
words_taken Abort = 0

abbrev pub gives_none : Builtin → Bool
gives_none PutChar = false
gives_none GetChar = false
gives_none Spawn = false
gives_none Join = true
gives_none Abort = true

-- ---- lists of nodes that are not run

-- destructions of so many objects each, by a function that hands nothing back
pub data Destroys (g : Setting) : List TNodeId → Type 0 where
  no_destroys : Destroys g []
  destroy : {id : TNodeId} {ids : List TNodeId} (func offset count stride : ℕ) → Stands g id (Destroy func offset count stride) []
      → gives_of (callee_in g func) ≡ 0 → 0 < count → count < 2 ^ 64 → Destroys g ids → Destroys g (id ∷ ids)

-- scalars of an exception
pub data Fields (g : Setting) : List TNodeId → Type 0 where
  no_fields : Fields g []
  field : {id : TNodeId} {ids : List TNodeId} (offset : ℕ) (kind : IntKind) → Stands g id (Field offset kind) [] → Fields g ids → Fields g (id ∷ ids)

-- what is thrown: an object, or one scalar
pub data Throws (g : Setting) (t : Typ) (ids : List TNodeId) : Type 0 where
  object : is_class_type t ≡ true → Throws g t ids
  scalar : (field : TNodeId) → is_class_type t ≡ false → ids ≡ field ∷ [] → Throws g t ids

-- a node of a list that is a part of an object
pub data Parts (g : Setting) : List TNodeId → Type 0 where
  no_parts : Parts g []
  part : {id : TNodeId} {ids : List TNodeId} (offset : ℕ) → (node_in g id).kind ≡ Piece offset → Parts g ids → Parts g (id ∷ ids)

-- at most one item of a `switch` is a `default`
abbrev pub has_default : Setting → List TNodeId → Bool
has_default g [] = false
has_default g (id ∷ ids) = is_default (node_in g id).kind || has_default g ids

abbrev pub HasOneDefault : Setting → List TNodeId → Type 0
HasOneDefault g [] = Unit {0}
HasOneDefault g (id ∷ ids) = (is_default (node_in g id).kind ≡ true → has_default g ids ≡ false) × HasOneDefault g ids
