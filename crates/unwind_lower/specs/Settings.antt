-- What a function's body is written from.
use Rattle.std.specs.Prelude.{Bool, false, ℕ, List, [], Option, Some, None, unwrap_or, slice_get}
use Rattle.cpp_tree.specs.cpp_types.Typ.{Typ, Signature, signature_of}
use Rattle.cpp_tree.specs.cpp_types.Class.{Class, classes_of}
use Rattle.cpp_tree.specs.declared.arena.TNodeId.{TNodeId}
use Rattle.cpp_tree.specs.declared.program.FuncKind.{FuncKind}
use Rattle.cpp_tree.specs.declared.program.FuncKind.TheVariants.{Plain}
use Rattle.cpp_tree.specs.declared.program.TFunc.{TFunc}
use Rattle.cpp_tree.specs.declared.program.TGlobal.{TGlobal}
use Rattle.cpp_tree.specs.declared.program.UnitTree.{UnitTree}
use Rattle.cpp_tree.specs.declared.program.Program.{Program}
use Rattle.low_code.specs.Nodes.{Node}
use Rattle.low_code.specs.Nodes as low
use Rattle.low_code.specs.Types.{no_signature}
use Rattle.low_code.specs.Types as low_types
use Rattle.unwind_lower.specs.declared.lowering.Lowering.{Lowering}

-- a program, its unit and function, the offsets of the items of the function's frame, and which nodes make temporaries
-- that wait in the full-expression around them
pub record Setting : Type 0 where
  pub program : Program
  pub unit : UnitTree
  pub func : TFunc
  pub places : List ℕ
  pub temporaries : List Bool

unfoldable pub setting_of : Lowering → Setting
setting_of l = record {
  program = l.program.now;
  unit = l.unit.now;
  func = l.func.now;
  places = l.places.items;
  temporaries = l.temporaries.now;
}

-- ---- nodes

unfoldable pub node_in : Setting → TNodeId → Node
node_in g id = low.node_in g.unit.nodes.items id

-- the node makes temporaries that wait in the full-expression around it
unfoldable pub makes_temporaries : Setting → TNodeId → Bool
makes_temporaries g id = unwrap_or (slice_get g.temporaries id.0) false

-- the offset of an item of the frame
unfoldable pub place_in : Setting → ℕ → ℕ
place_in g place = unwrap_or (slice_get g.places place) 0

-- ---- functions, globals and classes

-- what a call asks of a function
pub record Callee : Type 0 where
  pub symbol : List ℕ
  pub class : Option ℕ
  pub kind : FuncKind
  pub signature : Signature

abbrev pub callee_of : TFunc → Callee
callee_of f = record { symbol = f.symbol.items; class = f.class; kind = f.kind; signature = signature_of f.rec.ty }

-- a function without a name, for an index with none
abbrev pub no_callee : Callee
no_callee = record { symbol = []; class = None; kind = Plain; signature = no_signature }

abbrev pub callee_or : Option TFunc → Callee
callee_or (Some f) = callee_of f
callee_or None = no_callee

unfoldable pub callee_in : Setting → ℕ → Callee
callee_in g func = callee_or (slice_get g.unit.funcs.items func)

abbrev pub classes_in : Setting → List Class
classes_in g = classes_of g.program.classes.items

-- how many words a function hands back, and how an object spells its type
unfoldable pub gives_of : Callee → ℕ
gives_of c = low_types.gives c.kind c.signature

unfoldable pub text_of : Setting → Callee → List ℕ
text_of g c = low_types.member_text (classes_in g) c.class c.kind c.signature

abbrev pub symbol_or : Option TGlobal → List ℕ
symbol_or (Some found) = found.symbol.items
symbol_or None = []

unfoldable pub global_symbol : Setting → ℕ → List ℕ
global_symbol g global = symbol_or (slice_get g.unit.globals.items global)

abbrev pub class_name_or : Option Class → List ℕ
class_name_or (Some c) = c.name
class_name_or None = []

unfoldable pub class_name : Setting → ℕ → List ℕ
class_name g class = class_name_or (slice_get (classes_in g) class)

-- the spelling of a type, its own `const` and `volatile` left out, and of a function's type
unfoldable pub bare_text : Setting → Typ → List ℕ
bare_text g t = low_types.bare_text (classes_in g) t

unfoldable pub function_text : Setting → Signature → List ℕ
function_text g sig = low_types.function_text (classes_in g) sig

-- how many words the function hands back that is written
unfoldable pub words_back : Setting → ℕ
words_back g = gives_of (callee_of g.func)
