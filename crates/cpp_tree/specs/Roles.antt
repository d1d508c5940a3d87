-- Where nodes stand: what each kid of a node is for, and which kinds serve.
use Rattle.std.specs.Prelude.{ℕ, Bool, true, false, not, ◌||◌, List, [], ◌∷◌, slice_get, Option, Some, None, cond}
use Rattle.std.specs.Option.{option_or}
use Rattle.cpp_layout.specs.cpp_types.Typ.{Typ}
use Rattle.cpp_layout.specs.cpp_types.declared.ranks.Cat.{Cat}
use Rattle.cpp_tree.specs.declared.kinds.TKind.{TKind}
use Rattle.cpp_tree.specs.declared.kinds.TKind.TheVariants.{Literal, Local, Global, Function, ClassTable, Load, Convert, Retype, Binary, Conditional, Comma}
use Rattle.cpp_tree.specs.declared.kinds.TKind.TheVariants.{Assign, Update, CopyAssign, Materialize, FullExpression, Call, VirtualCall, PointerCall}
use Rattle.cpp_tree.specs.declared.kinds.TKind.TheVariants.{Builtin as CallBuiltin, Throw, Rethrow, Store, CopyScalar, Construct, CopyConstruct, CopyFrom}
use Rattle.cpp_tree.specs.declared.kinds.TKind.TheVariants.{Pieces, Piece, Elements, Block, Init, Defer, Loop, Switch, Case, Default, Break, Continue, Return}
use Rattle.cpp_tree.specs.declared.kinds.TKind.TheVariants.{Try, Handler, Atomic, Synchronized, Destroy, Field}
use Rattle.cpp_tree.specs.declared.roles.Role.{Role}
use Rattle.cpp_tree.specs.declared.roles.Role.TheVariants.{Value, Word, Initialiser, CopyInit, Zero, Statement, BlockItem, SwitchItem, Step, Part, CopiedPart}
use Rattle.cpp_tree.specs.declared.roles.Role.TheVariants.{Catch, Destruction, Scalar}
use Rattle.cpp_tree.specs.Typing.{goes_both_ways, is_argument, is_class_prvalue}

-- Kinds

abbrev pub is_throw : TKind → Bool
is_throw Throw = true
is_throw Rethrow = true
is_throw kind = false

abbrev pub is_full : TKind → Bool
is_full FullExpression = true
is_full kind = false

abbrev pub is_expression : TKind → Bool
is_expression (Literal w) = true
is_expression (Local n) = true
is_expression (Global n) = true
is_expression (Function n) = true
is_expression (ClassTable n) = true
is_expression (Load k v) = true
is_expression (Convert k) = true
is_expression Retype = true
is_expression (Binary op k) = true
is_expression (Assign k v) = true
is_expression (Update op s k v old) = true
is_expression CopyAssign = true
is_expression (Materialize n argument) = not argument
is_expression (CallBuiltin b) = true
is_expression kind = goes_both_ways kind

abbrev pub is_initialiser : TKind → Bool
is_initialiser (Store k v) = true
is_initialiser (Construct f) = true
is_initialiser CopyFrom = true
is_initialiser Pieces = true
is_initialiser (Elements n s) = true
is_initialiser kind = goes_both_ways kind

abbrev pub is_copy : TKind → Bool
is_copy (CopyScalar k v) = true
is_copy (CopyConstruct f) = true
is_copy Pieces = true
is_copy (Elements n s) = true
is_copy kind = false

abbrev pub is_block : TKind → Bool
is_block (Block subobjects) = true
is_block kind = false

abbrev pub is_statement : TKind → Bool
is_statement (Block subobjects) = true
is_statement (Loop t) = true
is_statement Switch = true
is_statement Break = true
is_statement Continue = true
is_statement Return = true
is_statement Try = true
is_statement (Atomic k) = true
is_statement Synchronized = true
is_statement kind = is_expression kind

abbrev pub is_block_item : TKind → Bool
is_block_item Init = true
is_block_item Defer = true
is_block_item kind = is_statement kind

abbrev pub is_label : TKind → Bool
is_label (Case w) = true
is_label Default = true
is_label kind = false

abbrev pub is_piece : TKind → Bool
is_piece (Piece n) = true
is_piece kind = false

abbrev pub is_handler : TKind → Bool
is_handler (Handler p) = true
is_handler kind = false

abbrev pub is_destroy : TKind → Bool
is_destroy (Destroy f o c s) = true
is_destroy kind = false

abbrev pub is_field : TKind → Bool
is_field (Field o k) = true
is_field kind = false

-- Roles

-- (zeros in an object of no type are told by their whole trees, not by their kinds)
abbrev pub serves : Role → TKind → Bool
serves Value kind = is_expression kind
serves Word kind = is_argument kind || is_expression kind
serves Initialiser kind = is_initialiser kind
serves CopyInit kind = is_copy kind
serves Zero kind = false
serves Statement kind = is_statement kind
serves BlockItem kind = is_block_item kind
serves SwitchItem kind = is_label kind || is_block_item kind
serves Step kind = is_block kind || is_expression kind
serves Part kind = is_piece kind
serves CopiedPart kind = is_piece kind
serves Catch kind = is_handler kind
serves Destruction kind = is_destroy kind
serves Scalar kind = is_field kind

-- A class prvalue builds an object, and other expressions do not; a throw stands for both, and a full-expression can hold any initialiser
abbrev pub may_build : TKind → Typ → Cat → Bool
may_build kind t cat = not (goes_both_ways kind) || is_throw kind || is_full kind || is_class_prvalue t cat

abbrev pub may_give : TKind → Typ → Cat → Bool
may_give kind t cat = is_throw kind || not (is_class_prvalue t cat)

abbrev pub way_fits : Role → TKind → Typ → Cat → Bool
way_fits Initialiser kind t cat = may_build kind t cat
way_fits Value kind t cat = may_give kind t cat
way_fits Word kind t cat = may_give kind t cat
way_fits Statement kind t cat = may_give kind t cat
way_fits BlockItem kind t cat = may_give kind t cat
way_fits SwitchItem kind t cat = may_give kind t cat
way_fits Step kind t cat = may_give kind t cat
way_fits role kind t cat = true

-- the roles of the first kids, and of any number behind them
pub record Kids : Type 0 where
  pub fixed : List Role
  pub others : Option Role

abbrev pub only : List Role → Kids
only roles = record { fixed = roles; others = None }

abbrev pub and_any : List Role → Role → Kids
and_any roles role = record { fixed = roles; others = Some role }

-- an operand that is run in the way of the whole
abbrev pub result_role : Role → Role
result_role Initialiser = Initialiser
result_role role = Value

-- a branch of `if` and `?:`: where the whole is a statement without a type, any statement
abbrev pub branch_role : Role → Bool → Role
branch_role Initialiser void_type = Initialiser
branch_role Value void_type = Value
branch_role Step void_type = Value
branch_role role true = Statement
branch_role role false = Value

abbrev pub part_role : Role → Role
part_role CopyInit = CopiedPart
part_role role = Part

-- what builds a part, or an element
abbrev pub object_role : Role → Role
object_role CopiedPart = CopyInit
object_role CopyInit = CopyInit
object_role role = Initialiser

-- the kids of a node that serves in this role; `void_type` says that its type is `void`, and `no_object` that the address in its first kid is one of no type
abbrev pub kids_for : Role → TKind → (void_type no_object : Bool) → Kids
kids_for role (Literal w) void_type no_object = only []
kids_for role (Local n) void_type no_object = only []
kids_for role (Global n) void_type no_object = only []
kids_for role (Function n) void_type no_object = only []
kids_for role (ClassTable n) void_type no_object = only []
kids_for role (Load k v) void_type no_object = only (Value ∷ [])
kids_for role (Convert k) void_type no_object = only (Value ∷ [])
kids_for role Retype void_type no_object = only (Value ∷ [])
kids_for role (Binary op k) void_type no_object = only (Value ∷ Value ∷ [])
kids_for role Conditional void_type no_object = only (Value ∷ branch_role role void_type ∷ branch_role role void_type ∷ [])
kids_for role Comma void_type no_object = only (Value ∷ result_role role ∷ [])
kids_for role (Assign k v) void_type no_object = only (Value ∷ Value ∷ [])
kids_for role (Update op s k v old) void_type no_object = only (Value ∷ Value ∷ [])
kids_for role CopyAssign void_type no_object = only (Value ∷ Value ∷ CopyInit ∷ [])
kids_for role (Materialize n a) void_type no_object = and_any (Initialiser ∷ []) Destruction
kids_for role FullExpression void_type no_object = only (result_role role ∷ [])
kids_for role (Call f) void_type no_object = and_any [] Word
kids_for role (VirtualCall f c s p) void_type no_object = and_any (Value ∷ []) Word
kids_for role PointerCall void_type no_object = and_any (Value ∷ []) Word
kids_for role (CallBuiltin b) void_type no_object = and_any [] Value
kids_for role Throw void_type no_object = and_any (Value ∷ []) Scalar
kids_for role Rethrow void_type no_object = only []
kids_for role (Store k v) void_type no_object = only (Value ∷ [])
kids_for role (CopyScalar k v) void_type no_object = only []
kids_for role (Construct f) void_type no_object = and_any [] Word
kids_for role (CopyConstruct f) void_type no_object = only []
kids_for role CopyFrom void_type no_object = only (Value ∷ CopyInit ∷ [])
kids_for role Pieces void_type no_object = and_any [] (part_role role)
kids_for role (Piece n) void_type no_object = and_any (object_role role ∷ []) Destruction
kids_for role (Elements n s) void_type no_object = and_any (object_role role ∷ []) Destruction
kids_for role (Block subobjects) void_type no_object = and_any [] BlockItem
kids_for role Init void_type no_object = and_any (Value ∷ cond no_object Zero Initialiser ∷ []) Destruction
kids_for role Defer void_type no_object = and_any (Value ∷ []) Destruction
kids_for role (Loop t) void_type no_object = only (Value ∷ Statement ∷ Step ∷ [])
kids_for role Switch void_type no_object = and_any (Value ∷ []) SwitchItem
kids_for role (Case w) void_type no_object = only []
kids_for role Default void_type no_object = only []
kids_for role Break void_type no_object = only []
kids_for role Continue void_type no_object = only []
kids_for role Return void_type no_object = and_any [] Value
kids_for role Try void_type no_object = and_any (Statement ∷ Catch ∷ []) Catch
kids_for role (Handler p) void_type no_object = and_any (Statement ∷ []) Scalar
kids_for role (Atomic k) void_type no_object = only (Statement ∷ [])
kids_for role Synchronized void_type no_object = only (Statement ∷ [])
kids_for role (Destroy f o c s) void_type no_object = only []
kids_for role (Field o k) void_type no_object = only []

-- the role of a kid, by its place
abbrev pub role_at : Kids → ℕ → Option Role
role_at kids i = option_or (slice_get kids.fixed i) kids.others
