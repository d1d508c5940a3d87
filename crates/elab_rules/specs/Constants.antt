-- Constant expressions (C++14 5.19, cut to integers and addresses of functions and globals).
use Rattle.std.specs.Prelude.{ℕ, ◌==◌, Bool, true, false, ◌&&◌, List, [], ◌∷◌, Option, Some, None, Result, Ok, Err, if◌then◌else◌, slice_get}
use Rattle.std.specs.Prelude.{option_map, ℤ}
use Rattle.elab_ctx.specs.tx_ints.declared.kinds.IntKind.{IntKind}
use Rattle.elab_ctx.specs.tx_ints.declared.kinds.IntKind.TheVariants.{ULong}
use Rattle.elab_ctx.specs.tx_ints.declared.kinds.BinOp.{BinOp}
use Rattle.elab_ctx.specs.tx_ints.declared.kinds.ArithTrap.{ArithTrap}
use Rattle.elab_ctx.specs.tx_ints.Integers.{apply_of, is_shift}
use Rattle.elab_ctx.specs.tx_ints.Words.{word_of, value_of_word}
use Rattle.elab_ctx.specs.cpp_types.Typ.{Typ, typ, int, enum}
use Rattle.elab_ctx.specs.cpp_types.declared.ranks.Cat.TheVariants.{Prvalue}
use Rattle.elab_ctx.specs.cpp_tree.declared.kinds.TKind.TheVariants.{Literal, Load, Convert, Retype, Binary, Conditional, Global as GlobalNode, Function}
use Rattle.elab_ctx.specs.cpp_tree.Trees.{Tree, node, none, more}
use Rattle.elab_ctx.specs.cpp_tree.Units.{Global, Cell}

-- a word in a kind
abbrev pub word_in : IntKind → ℕ → ℕ
word_in k w = word_of (value_of_word k w)

abbrev pub result_word : Result ℤ ArithTrap → Option ℕ
result_word (Ok z) = Some (word_of z)
result_word (Err trap) = None

abbrev pub right_kind : BinOp → IntKind → IntKind
right_kind op k = if is_shift op then ULong else k

-- what an operator gives on two words, where it does not trap
abbrev pub applied : BinOp → IntKind → ℕ → ℕ → Option ℕ
applied op k a b = result_word (apply_of op k (value_of_word k a) (value_of_word (right_kind op k) b))

abbrev pub both : {A B : Type 0} → (A → A → Option B) → Option A → Option A → Option B
both f (Some a) (Some b) = f a b
both f _ _ = None

abbrev pub number_in : IntKind → List Cell → ℕ
number_in k [] = 0
number_in k (x ∷ xs) = word_in k x.value

-- an integer or enum that is `const` and not `volatile`
abbrev pub is_constant_type : Typ → Bool
is_constant_type (typ (int k) true false) = true
is_constant_type (typ (enum n s) true false) = true
is_constant_type t = false

-- the value of a `const` integer at file scope
abbrev pub value_of_global : IntKind → Option Global → Option ℕ
value_of_global k (Some g) = if is_constant_type g.typ && g.defined then Some (number_in k g.init) else None
value_of_global k None = None

abbrev pub branch : Option ℕ → Option ℕ → Option ℕ → Option ℕ
branch (Some w) (Some a) (Some b) = if w == 0 then Some b else Some a
branch _ _ _ = None

-- the word of an integer constant expression
abbrev pub constant : List Global → Tree → Option ℕ
constant gs (node (Literal w) t cat at kids) = Some w
constant gs (node (Load k false) t cat at (more (node (GlobalNode g) u c p none) none)) = value_of_global k (slice_get gs g)
constant gs (node (Convert k) t cat at (more a none)) = option_map (word_in k) (constant gs a)
constant gs (node Retype t Prvalue at (more a none)) = constant gs a
constant gs (node (Binary op k) t Prvalue at (more a (more b none))) = both (applied op k) (constant gs a) (constant gs b)
constant gs (node Conditional t Prvalue at (more a (more b (more d none)))) = branch (constant gs a) (constant gs b) (constant gs d)
constant gs t = None

-- whose address a constant is
pub data Address : Type 0 where
  of_global : ℕ → Address
  of_function : ℕ → Address

-- an address constant: `&` of a global or a function, an array or a function, qualified further, as one of a base or without its safety
abbrev pub address : Tree → Option Address
address (node Retype t cat at (more a none)) = address a
address (node (GlobalNode g) t cat at kids) = Some (of_global g)
address (node (Function f) t cat at kids) = Some (of_function f)
address t = None
