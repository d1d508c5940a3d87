-- The typed program of some units (C++14 2.1, 3.5): each unit has its own names; classes keep their numbers through all of them.
use Rattle.std.specs.Prelude.{ℕ, suc, ◌+◌, ◌==◌, Bool, true, false, List, [], ◌∷◌, ◌++◌, length, Option, Some, None, is_some, Result, Ok, find, map}
use Rattle.elab_ctx.specs.cpp_types.Typ.{Typ, typ, class}
use Rattle.elab_ctx.specs.cpp_types.Class.{Class}
use Rattle.elab_ctx.specs.cpp_lex.Tokens.{Lexeme}
use Rattle.elab_ctx.specs.cpp_ast.declared.kinds.NodeKind.TheVariants as k
use Rattle.elab_ctx.specs.cpp_ast.Trees as syntax
use Rattle.elab_ctx.specs.cpp_tree.declared.faults.ElabFault.{ElabFault}
use Rattle.elab_ctx.specs.cpp_tree.Trees.{Tree}
use Rattle.elab_ctx.specs.cpp_tree.Units.{Func as TypedFunc, Definition, Unit, TypedProgram}
use Rattle.elab_ctx.specs.cpp_tree.Typing.{is_class_typ}
use Rattle.elab_ctx.specs.Ctx.{Ctx, Func, Traits}
use Rattle.elab_ctx.specs.Steps.{and_then, spelling}
use Rattle.elab_rules.specs.Objects.{no_traits}
use Rattle.elab_rules.specs.Initialising.{signature_result}
use Rattle.elab_rules.specs.Types.{type_named}
use Rattle.elab_rules.specs.Statements.{State, Body}
use Rattle.elab_rules.specs.Classes.{class_text}
use Rattle.elab_rules.specs.Globals.{symbol_of}
use Rattle.elab_rules.specs.Units.{start, unit_from}

-- A function of the unit with its body, where it has one

abbrev pub is_body_of : ℕ → Body → Bool
is_body_of k b = b.func == k

abbrev pub body_of : ℕ → List Body → Option Body
body_of k bs = find (is_body_of k) bs

abbrev pub one_if : Bool → ℕ
one_if true = 1
one_if false = 0

-- the words of a call: the address of a result of class type, the object, the parameters
abbrev pub words_of : Func → ℕ
words_of f = one_if (is_class_typ (signature_result f.declared.signature)) + (one_if (is_some f.class) + length f.params)

abbrev pub frame_in : Option Body → List Typ
frame_in (Some b) = b.frame
frame_in None = []

abbrev pub tree_in : Option Body → Option Tree
tree_in (Some b) = Some b.tree
tree_in None = None

abbrev pub typed_func : List Class → Func → Option Body → TypedFunc
typed_func classes f b = record {
  symbol = symbol_of classes f;
  declared = f.declared;
  linkage = f.linkage;
  text = f.text;
  kind = f.kind;
  class = f.class;
  implicit = f.implicit;
  words = words_of f;
  params = f.params;
  frame = frame_in b;
  body = tree_in b;
  closed_at = f.closed_at;
}

abbrev pub typed_funcs : State → ℕ → List Func → List TypedFunc
typed_funcs st i [] = []
typed_funcs st i (f ∷ fs) = typed_func st.ctx.classes f (body_of i st.bodies) ∷ typed_funcs st (suc i) fs

-- The classes that a unit defines, with the text from the first word to the `;` behind the brace

abbrev pub definition_if : List Lexeme → Option Typ → syntax.Trees → List Definition
definition_if s (Some (typ (class n) c v)) kids = record { class = n; text = class_text s kids } ∷ []
definition_if s t kids = []

abbrev pub definition_in : List Lexeme → Ctx → syntax.Tree → List Definition
definition_in s c (syntax.node k.ClassSpecifier p (Some t) kids) = definition_if s (type_named (spelling s t) c.types) kids
definition_in s c t = []

abbrev pub definitions_in : List Lexeme → Ctx → syntax.Trees → List Definition
definitions_in s c syntax.none = []
definitions_in s c (syntax.more t ts) = definition_in s c t ++ definitions_in s c ts

abbrev pub unit_shown : List Lexeme → syntax.Trees → State → Unit
unit_shown s decls st = record { funcs = typed_funcs st 0 st.ctx.funcs; globals = st.work.globals; classes = definitions_in s st.ctx decls }

-- Units in order

-- the tokens and the declarations of a source
pub record Source : Type 0 where
  pub tokens : List Lexeme
  pub decls : syntax.Trees

-- a unit behind others: their classes stay; their names are gone, and their special members, which are functions of those units
abbrev pub start_behind : ℕ → TypedProgram → List Traits → State
start_behind source p traits = record (start source) {
  ctx =
      record (start source).ctx { classes = p.classes; slots = p.slots; traits = map (λ (t : Traits). no_traits) traits };
}

abbrev pub with_unit : TypedProgram → Source → State → TypedProgram
with_unit p x st = record { units = p.units ++ unit_shown x.tokens x.decls st ∷ []; classes = st.ctx.classes; slots = st.ctx.slots }

abbrev pub program_from : ℕ → TypedProgram → List Traits → List Source → Result TypedProgram ElabFault
program_from i p traits [] = Ok p
program_from i p traits (x ∷ xs) = and_then (unit_from x.tokens (start_behind i p traits) x.decls)
    (λ (st : State). program_from (suc i) (with_unit p x st) st.ctx.traits xs)

-- the typed program of all units, or the first fault
abbrev pub program_of : List Source → Result TypedProgram ElabFault
program_of xs = program_from 0 (record { units = []; classes = []; slots = [] }) [] xs
