-- An object as plain lists and numbers: what its bytes, its text and its image speak of.
use Rattle.std.specs.Prelude.{ℕ, List, map, Option}
use Rattle.std.specs.Option.{option_map}
use Rattle.std.specs.Global.{Vec}
use Rattle.tx_code.specs.declared.instr.Instr.{Instr}
use Rattle.tx_code.specs.declared.body.Row.{Row}
use Rattle.tx_code.specs.declared.body.LineRow.{LineRow}
use Rattle.tx_code.specs.declared.body.Body.{Body}
use Rattle.tx_code.specs.declared.object.ObjMember.{ObjMember}
use Rattle.tx_code.specs.declared.object.ObjCell.{ObjCell}
use Rattle.tx_code.specs.declared.object.ObjClass.{ObjClass}
use Rattle.tx_code.specs.declared.object.ObjGlobal.{ObjGlobal}
use Rattle.tx_code.specs.declared.object.ObjFunc.{ObjFunc}
use Rattle.tx_code.specs.declared.object.Object.{Object}

pub record BodyView : Type 0 where
  pub code : List Instr
  pub rows : List Row
  pub lines : List LineRow

pub record ClassView : Type 0 where
  pub name : ℕ
  pub size : ℕ
  pub align : ℕ
  pub base : ℕ
  pub pointer : ℕ
  pub text : ℕ
  pub members : List ObjMember
  pub slots : List ℕ

pub record GlobalView : Type 0 where
  pub symbol : ℕ
  pub ty : ℕ
  pub linkage : ℕ
  pub defined : ℕ
  pub size : ℕ
  pub cells : List ObjCell

pub record FuncView : Type 0 where
  pub symbol : ℕ
  pub ty : ℕ
  pub linkage : ℕ
  pub flags : ℕ
  pub text : ℕ
  pub frame : ℕ
  pub plain : Option BodyView
  pub safe : Option BodyView

pub record ObjectView : Type 0 where
  pub version : ℕ
  pub names : List (List ℕ)
  pub source : Option (List ℕ)
  pub classes : List ClassView
  pub globals : List GlobalView
  pub funcs : List FuncView

-- ---- what a value of the Rust types shows

abbrev pub bytes_of : Vec ℕ → List ℕ
bytes_of v = v.items

abbrev pub body_view : Body → BodyView
body_view b = record { code = b.code.items; rows = b.rows.items; lines = b.lines.items }

abbrev pub class_view : ObjClass → ClassView
class_view c = record {
  name = c.name;
  size = c.size;
  align = c.align;
  base = c.base;
  pointer = c.pointer;
  text = c.text;
  members = c.members.items;
  slots =
      c.slots.items;
}

abbrev pub global_view : ObjGlobal → GlobalView
global_view g = record { symbol = g.symbol; ty = g.ty; linkage = g.linkage; defined = g.defined; size = g.size; cells = g.cells.items }

abbrev pub func_view : ObjFunc → FuncView
func_view f = record {
  symbol = f.symbol;
  ty = f.ty;
  linkage = f.linkage;
  flags = f.flags;
  text = f.text;
  frame = f.frame;
  plain = option_map body_view f.plain;
  safe = option_map body_view f.safe;
}

abbrev pub object_view : Object → ObjectView
object_view o = record {
  version = o.version;
  names = map bytes_of o.names.items;
  source = option_map bytes_of o.source;
  classes =
      map class_view o.classes.items;
  globals = map global_view o.globals.items;
  funcs = map func_view o.funcs.items;
}
