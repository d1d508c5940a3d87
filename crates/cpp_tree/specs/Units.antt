-- What a program shows: its functions with their bodies as trees, its globals, its classes and their slots.
use Rattle.std.specs.Prelude.{ℕ, Bool, List, map, Option, option_map}
use Rattle.cpp_layout.specs.cpp_types.Typ.{Typ, typ_of, Signature, signature_of}
use Rattle.cpp_layout.specs.cpp_types.Class.{Class, classes_of, Function, function_of}
use Rattle.cpp_layout.specs.cpp_types.declared.classes.At.{At}
use Rattle.cpp_tree.specs.declared.program.Linkage.{Linkage}
use Rattle.cpp_tree.specs.declared.program.FuncKind.{FuncKind}
use Rattle.cpp_tree.specs.declared.program.TParam.{TParam}
use Rattle.cpp_tree.specs.declared.program.TFunc.{TFunc}
use Rattle.cpp_tree.specs.declared.program.CellKind.{CellKind}
use Rattle.cpp_tree.specs.declared.program.InitCell.{InitCell}
use Rattle.cpp_tree.specs.declared.program.TGlobal.{TGlobal}
use Rattle.cpp_tree.specs.declared.program.ClassDef.{ClassDef}
use Rattle.cpp_tree.specs.declared.program.SlotRec.{SlotRec}
use Rattle.cpp_tree.specs.declared.program.UnitTree.{UnitTree}
use Rattle.cpp_tree.specs.declared.program.Program.{Program}
use Rattle.cpp_tree.specs.Trees.{Tree}
use Rattle.cpp_tree.specs.Arena.{tree_at, trees_of}

pub record Param : Type 0 where
  pub typ : Typ
  pub at : At

pub record Func : Type 0 where
  pub symbol : List ℕ
  pub declared : Function
  pub linkage : Linkage
  pub text : List ℕ
  pub kind : FuncKind
  pub class : Option ℕ
  pub implicit : Bool
  pub words : ℕ
  pub params : List Param
  pub frame : List Typ
  pub body : Option Tree
  pub closed_at : ℕ

pub record Cell : Type 0 where
  pub offset : ℕ
  pub size : ℕ
  pub what : CellKind
  pub value : ℕ
  pub symbol : List ℕ

pub record Global : Type 0 where
  pub symbol : List ℕ
  pub typ : Typ
  pub linkage : Linkage
  pub init : List Cell
  pub defined : Bool

pub record Definition : Type 0 where
  pub class : ℕ
  pub text : List ℕ

pub record SlotFunc : Type 0 where
  pub name : List ℕ
  pub signature : Signature
  pub class : ℕ
  pub func : ℕ
  pub safe : Bool
  pub dynamic : Bool

pub record Unit : Type 0 where
  pub funcs : List Func
  pub globals : List Global
  pub classes : List Definition

pub record TypedProgram : Type 0 where
  pub units : List Unit
  pub classes : List Class
  pub slots : List (List SlotFunc)

abbrev pub param_of : TParam → Param
param_of p = record { typ = typ_of p.ty; at = p.at }

-- a function, whose body is one of these trees
abbrev pub func_of : List Tree → TFunc → Func
func_of trees f = record {
  symbol = f.symbol.items;
  declared = function_of f.rec;
  linkage = f.linkage;
  text = f.text.items;
  kind = f.kind;
  class = f.class;
  implicit = f.implicit;
  words = f.words;
  params = map param_of f.params.items;
  frame = map typ_of f.frame.items;
  body = option_map (tree_at trees) f.body;
  closed_at = f.closed_at;
}

abbrev pub cell_of : InitCell → Cell
cell_of c = record { offset = c.offset; size = c.size; what = c.what; value = c.value; symbol = c.symbol.items }

abbrev pub global_of : TGlobal → Global
global_of g = record { symbol = g.symbol.items; typ = typ_of g.ty; linkage = g.linkage; init = map cell_of g.init.items; defined = g.defined }

abbrev pub definition_of : ClassDef → Definition
definition_of d = record { class = d.class; text = d.text.items }

abbrev pub slot_of : SlotRec → SlotFunc
slot_of s = record { name = s.name.items; signature = signature_of s.ty; class = s.class; func = s.func; safe = s.safe; dynamic = s.dynamic }

abbrev pub unit_of : UnitTree → Unit
unit_of u = record {
  funcs = map (func_of (trees_of u.nodes.items)) u.funcs.items;
  globals = map global_of u.globals.items;
  classes =
      map definition_of u.classes.items;
}

-- what a program shows
abbrev pub program_of : Program → TypedProgram
program_of p = record { units = map unit_of p.units.items; classes = classes_of p.classes.items; slots = map (λ slots. map slot_of slots.items) p.slots.items }
