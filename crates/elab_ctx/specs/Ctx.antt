-- What is declared where a form stands, and what is made there, as plain data.
use Rattle.std.specs.Prelude.{ℕ, Bool, List, [], ◌∷◌, ◌++◌, map, drop, length, Option, option_map}
use Rattle.cpp_tree.specs.cpp_types.Typ.{Typ, typ_of}
use Rattle.cpp_tree.specs.cpp_types.Class.{Class, Function, classes_of, function_of}
use Rattle.cpp_tree.specs.cpp_types.declared.classes.At.{At}
use Rattle.cpp_names.specs.Names.{Names, with_name}
use Rattle.cpp_names.specs.declared.entity.Entity.{Entity}
use Rattle.elab_ctx.specs.Types.{Named, named_of}
use Rattle.cpp_tree.specs.declared.kinds.Builtin.{Builtin}
use Rattle.cpp_tree.specs.declared.program.FuncKind.{FuncKind}
use Rattle.cpp_tree.specs.declared.program.Linkage.{Linkage}
use Rattle.cpp_tree.specs.Trees.{Tree}
use Rattle.cpp_tree.specs.Arena.{tree_at, trees_of}
use Rattle.cpp_tree.specs.Units.{Param, param_of, Global, global_of, SlotFunc, slot_of}
use Rattle.elab_ctx.specs.declared.env.FuncDecl.{FuncDecl}
use Rattle.elab_ctx.specs.declared.env.EnumRec.{EnumRec}
use Rattle.elab_ctx.specs.declared.env.DefaultInit.{DefaultInit}
use Rattle.elab_ctx.specs.declared.env.Special.{Special as SpecialRec}
use Rattle.elab_ctx.specs.declared.env.Special.TheVariants as special_rec
use Rattle.elab_ctx.specs.declared.env.Traits.{Traits as TraitsRec}
use Rattle.elab_ctx.specs.declared.env.Variable.{Variable as VariableRec}
use Rattle.elab_ctx.specs.declared.env.This.{This as ThisRec}
use Rattle.elab_ctx.specs.declared.env.Returns.{Returns as ReturnsRec}
use Rattle.elab_ctx.specs.declared.env.Returns.TheVariants as returns_rec
use Rattle.elab_ctx.specs.declared.env.Label.{Label}
use Rattle.elab_ctx.specs.declared.env.Labels.{Labels as LabelsRec}
use Rattle.elab_ctx.specs.declared.env.Capture.{Capture as CaptureRec}
use Rattle.elab_ctx.specs.declared.env.Lambda.{Lambda as LambdaRec}
use Rattle.elab_ctx.specs.declared.env.Closure.{Closure as ClosureRec}
use Rattle.elab_ctx.specs.declared.env.Env.{Env}
use Rattle.elab_ctx.specs.declared.env.Work.{Work as WorkRec}

-- a function of the unit; a member function has a class
pub record Func : Type 0 where
  pub declared : Function
  pub kind : FuncKind
  pub class : Option ℕ
  pub linkage : Linkage
  pub implicit : Bool
  pub is_defined : Bool
  pub builtin : Option Builtin
  pub params : List Param
  pub text : List ℕ
  pub closed_at : ℕ

pub record Enumerator : Type 0 where
  pub typ : Typ
  pub word : ℕ

-- what a member is initialised by where nothing is written for it; its frame has `this` in place 0 and these items behind it
pub record Default : Type 0 where
  pub class : ℕ
  pub member : ℕ
  pub init : Tree
  pub frame : List Typ

-- a variable of the function at hand; its type is not known in its own initialiser, where that gives it
pub record Variable : Type 0 where
  pub typ : Option Typ
  pub place : ℕ

-- `*this`, and where the pointer stands in the frame
pub record This : Type 0 where
  pub typ : Typ
  pub place : ℕ

-- a special member of a class (C++14 clause 12): it is not there, it does what is done to each part, or it is a function of the unit
pub data Special : Type 0 where
  absent : Special
  trivial : Special
  function : ℕ → Special

-- what holds of a complete class as a whole
pub record Traits : Type 0 where
  pub default : Special
  pub copy : Special
  -- an implicit copy takes objects that are `const` too
  pub copies_const : Bool
  pub destructor : Special
  -- there is an implicit copy assignment
  pub is_assignable : Bool
  pub is_abstract : Bool
  -- it has a part that is volatile
  pub is_volatile : Bool
  -- it is copied byte by byte (C++14 3.9)
  pub is_trivially_copyable : Bool

pub data Returns : Type 0 where
  known : Typ → Returns
  deduced : Option Typ → Returns

-- the labels of the `switch` at hand so far
pub record Labels : Type 0 where
  pub typ : Typ
  pub words : List ℕ
  pub has_default : Bool
  pub is_past : Bool

-- the variable that is captured, or none for `this`, and the type of its member
pub record Capture : Type 0 where
  pub variable : Option ℕ
  pub by_ref : Bool
  pub typ : Typ
  pub at : At

pub record Lambda : Type 0 where
  pub class : ℕ
  pub outer : ℕ
  pub captures : List Capture

pub record Closure : Type 0 where
  pub at : At
  pub class : ℕ
  pub captures : List Capture

pub record Ctx : Type 0 where
  pub source : ℕ
  -- the enclosing scopes, the innermost first
  pub scopes : List Names
  -- the names of types, in the order of their declaration
  pub types : List Named
  pub classes : List Class
  -- of each class what holds of it once it is complete, and its final overriders
  pub traits : List Traits
  pub slots : List (List SlotFunc)
  pub defaults : List Default
  pub funcs : List Func
  pub enumerators : List Enumerator
  -- the function at hand
  pub variables : List Variable
  pub this : Option This
  pub class : Option ℕ
  pub returns : Returns
  pub breaks : Bool
  pub continues : Bool
  pub label : Label
  pub labels : Labels
  pub lambda : Option Lambda
  pub closures : List Closure

-- what is made beside the typed trees: the items of the frame at hand and the globals of the unit, strings among them
pub record Work : Type 0 where
  pub frame : List Typ
  pub globals : List Global

-- What the records of the code show

abbrev pub func_of : FuncDecl → Func
func_of f = record {
  declared = function_of f.rec;
  kind = f.kind;
  class = f.class;
  linkage = f.linkage;
  implicit = f.implicit;
  is_defined = f.is_defined;
  builtin = f.builtin;
  params = map param_of f.params.items;
  text = f.text.items;
  closed_at = f.closed_at;
}

abbrev pub enumerator_of : EnumRec → Enumerator
enumerator_of e = record { typ = typ_of e.ty; word = e.word }

abbrev pub default_of : List Tree → DefaultInit → Default
default_of trees d = record { class = d.class; member = d.member; init = tree_at trees d.init; frame = map typ_of d.frame.items }

abbrev pub special_of : SpecialRec → Special
special_of special_rec.Absent = absent
special_of special_rec.Trivial = trivial
special_of (special_rec.Function k) = function k

abbrev pub traits_of : TraitsRec → Traits
traits_of t = record {
  default = special_of t.default;
  copy = special_of t.copy;
  copies_const = t.copies_const;
  destructor = special_of t.destructor;
  is_assignable = t.is_assignable;
  is_abstract = t.is_abstract;
  is_volatile = t.is_volatile;
  is_trivially_copyable = t.is_trivially_copyable;
}

abbrev pub variable_of : VariableRec → Variable
variable_of v = record { typ = option_map typ_of v.ty; place = v.place }

abbrev pub this_of : ThisRec → This
this_of t = record { typ = typ_of t.ty; place = t.place }

abbrev pub returns_of : ReturnsRec → Returns
returns_of (returns_rec.Known t) = known (typ_of t)
returns_of (returns_rec.Deduced t) = deduced (option_map typ_of t)

abbrev pub labels_of : LabelsRec → Labels
labels_of l = record { typ = typ_of l.ty; words = l.words.items; has_default = l.has_default; is_past = l.is_past }

abbrev pub capture_of : CaptureRec → Capture
capture_of c = record { variable = c.variable; by_ref = c.by_ref; typ = typ_of c.ty; at = c.at }

abbrev pub lambda_of : LambdaRec → Lambda
lambda_of l = record { class = l.class; outer = l.outer; captures = map capture_of l.captures.items }

abbrev pub closure_of : ClosureRec → Closure
closure_of c = record { at = c.at; class = c.class; captures = map capture_of c.captures.items }

abbrev pub ctx_of : Env → Ctx
ctx_of e = record {
  source = e.source;
  scopes = e.scopes;
  types = map named_of e.types;
  classes = classes_of e.classes.items;
  traits =
      map traits_of e.traits.items;
  slots = map (λ slots. map slot_of slots.items) e.slots.items;
  defaults =
      map (default_of (trees_of e.default_nodes.items)) e.defaults.items;
  funcs = map func_of e.funcs;
  enumerators = map enumerator_of e.enumerators.items;
  variables = map variable_of e.variables.items;
  this = option_map this_of e.this;
  class = e.class;
  returns = returns_of e.returns;
  breaks = e.breaks;
  continues = e.continues;
  label = e.label;
  labels = labels_of e.labels;
  lambda = option_map lambda_of e.lambda;
  closures = map closure_of e.closures.items;
}

abbrev pub work_of : WorkRec → Work
work_of w = record { frame = map typ_of w.frame.items; globals = map global_of w.globals.items }

-- Scopes

abbrev pub opened : Ctx → Ctx
opened c = record c { scopes = [] ∷ c.scopes }

-- behind a block: its names are gone, its variables keep their numbers
abbrev pub closed : Ctx → Ctx
closed c = record c { scopes = drop 1 c.scopes }

abbrev pub with_variable : Ctx → List ℕ → Entity → Variable → Ctx
with_variable c x e v = record c { scopes = with_name c.scopes x e; variables = c.variables ++ v ∷ [] }

-- one more item of the frame, whose place is the number of items before it
abbrev pub with_item : Work → Typ → Work
with_item w t = record w { frame = w.frame ++ t ∷ [] }

abbrev pub next_place : Work → ℕ
next_place w = length w.frame
