-- What follows of nodes that fit: which of them have words.
use Rattle.std.specs.Prelude.{Bool, true, false, not, ◌&&◌, ◌||◌, List, take}
use Rattle.cpp_tree.specs.cpp_types.Typ.{Typ}
use Rattle.cpp_tree.specs.cpp_types.declared.ranks.Cat.{Cat}
use Rattle.cpp_tree.specs.cpp_types.declared.ranks.Cat.TheVariants.{Lvalue, Prvalue}
use Rattle.cpp_tree.specs.declared.kinds.TKind.{TKind}
use Rattle.cpp_tree.specs.declared.kinds.TKind.TheVariants.{Literal, Local, Global, Function, ClassTable, Load, Convert, Retype, Binary, Conditional, Assign, Update}
use Rattle.cpp_tree.specs.declared.kinds.TKind.TheVariants.{CopyAssign, Materialize, Call, VirtualCall, PointerCall, Throw, Builtin as CallBuiltin, Store, Construct, CopyFrom}
use Rattle.cpp_tree.specs.declared.kinds.TKind.TheVariants.{Init, Defer, Loop, Switch, Return}
use Rattle.cpp_tree.specs.Typing.{Head}
use Rattle.low_code.specs.Types.{is_void}
use Rattle.lowered_trees.specs.Shapes.{is_load}
use Rattle.lowered_trees.specs.Suiting.{have_words}

-- kinds of nodes that give a word whatever their type
abbrev pub is_valued : TKind → Bool
is_valued (Literal word) = true
is_valued (Local place) = true
is_valued (Global place) = true
is_valued (Function func) = true
is_valued (ClassTable class) = true
is_valued (Load kind volatile) = true
is_valued (Convert to) = true
is_valued (Binary op kind) = true
is_valued (Assign kind volatile) = true
is_valued (Update op stored operation volatile old) = true
is_valued CopyAssign = true
is_valued (Materialize place argument) = true
is_valued kind = false

-- the type of a node tells whether it gives a word: no lvalue is of type `void`, and of loads only the address of a result of class type has no type,
-- which is that of an initialisation
abbrev pub gives_word : (address : Bool) → TKind → Cat → Bool
gives_word address kind Lvalue = true
gives_word address kind Prvalue = not (address && is_load kind) && is_valued kind

abbrev pub tells : (address : Bool) → TKind → Typ → Cat → Bool
tells address kind t cat = not (gives_word address kind cat) || not (is_void t)

-- kids that are run for their words have them
abbrev pub words_suit : TKind → Typ → List Head → Bool
words_suit (Load kind volatile) t hs = have_words hs
words_suit (Convert to) t hs = have_words hs
words_suit Retype t hs = is_void t || have_words hs
words_suit (Binary op kind) t hs = have_words hs
words_suit Conditional t hs = have_words (take 1 hs)
words_suit (Assign kind volatile) t hs = have_words hs
words_suit (Update op stored operation volatile old) t hs = have_words hs
words_suit CopyAssign t hs = have_words (take 2 hs)
words_suit (Call func) t hs = have_words hs
words_suit (VirtualCall func class slot pointer) t hs = have_words hs
words_suit PointerCall t hs = have_words hs
words_suit (CallBuiltin which) t hs = have_words hs
words_suit Throw t hs = have_words (take 1 hs)
words_suit (Store kind volatile) t hs = have_words hs
words_suit (Construct func) t hs = have_words hs
words_suit CopyFrom t hs = have_words (take 1 hs)
words_suit Init t hs = have_words (take 1 hs)
words_suit Defer t hs = have_words (take 1 hs)
words_suit (Loop test_first) t hs = have_words (take 1 hs)
words_suit Switch t hs = have_words (take 1 hs)
words_suit Return t hs = have_words hs
words_suit kind t hs = true
