-- What the laws of expressions ask of the context of a unit, whatever function is at hand.
use Rattle.std.specs.Prelude.{◌≡◌, ◌<◌, ℕ, Bool, true, false, not, ◌&&◌, ◌||◌, List, [], length, count_by, Option, Some, None, Ok, is_some, slice_get}
use Rattle.elab_rules.specs.tx_ints.declared.kinds.IntKind.TheVariants.{Int}
use Rattle.elab_rules.specs.cpp_types.Typ.{Typ, typ, int, enum, class}
use Rattle.elab_rules.specs.cpp_types.Class.{Class, Member, Function, completion_of, signature_below, HoldsEarlier}
use Rattle.elab_rules.specs.cpp_types.declared.classes.At.{At}
use Rattle.elab_rules.specs.cpp_lex.Tokens.{Lexeme}
use Rattle.elab_rules.specs.cpp_ast.Trees as syntax
use Rattle.elab_rules.specs.cpp_tree.declared.kinds.Builtin.{Builtin}
use Rattle.elab_rules.specs.cpp_tree.declared.program.FuncKind.{FuncKind}
use Rattle.elab_rules.specs.cpp_tree.declared.program.FuncKind.TheVariants.{Plain, ClosureCall}
use Rattle.elab_rules.specs.cpp_tree.Notation.{plain}
use Rattle.elab_rules.specs.cpp_tree.Parts.{size_in}
use Rattle.elab_rules.specs.cpp_tree.Rows.{signature_words, builtin_words, builtin_result}
use Rattle.elab_rules.specs.cpp_tree.Typing.{form_in, is_word_of, is_reference}
use Rattle.elab_rules.specs.cpp_tree.Units.{TypedProgram}
use Rattle.elab_rules.specs.elab_ctx.Ctx.{Ctx, Func, Enumerator, function}
use Rattle.elab_rules.specs.elab_ctx.Types.{Named}
use Rattle.elab_rules.specs.Objects.{traits_at, no_traits}
use Rattle.elab_rules.specs.Initialising.{signature_result}
use Rattle.elab_rules.specs.Types.{Declared}
use Rattle.elab_rules.specs.Classes.{Home, Members, Begun, Method, is_completed, begun, members_of, completed, closed_class}
use Rattle.elab_rules.specs.Functions.{Storage}
use Rattle.elab_rules.specs.Implicit.{implied}
use Rattle.elab_rules.specs.Lambdas.{lambdas_of}
use Rattle.elab_rules.specs.Members.{base_named, members_among, declared_only, default_made, late_method, outside_body}
use Rattle.elab_rules.specs.Programs.{Source, start_behind, with_unit}
use Rattle.elab_rules.specs.Statements.{State, Done, Full, full_operand, statements_of}
use Rattle.elab_rules.specs.Globals.{enum_declared}
use Rattle.elab_rules.specs.Units.{start, file_declaration, alias_of, defined_with, declarations_of, unit_from}
use Rattle.elab_fits.specs.Standing.{On}
use Rattle.elab_fits.specs.Objects.{IsDestructorOf, HasSpecials}
use Rattle.elab_fits_objects.specs.Contexts.{IsCopyOf, IsDefaultOf}
use Rattle.elab_contexts.specs.Slots.{HasSlotsIn}
use Rattle.elab_contexts.specs.Steps.{view, has_name, is_written}
use Rattle.elab_contexts.specs.Texts.{is_no_name, have_class_names}

-- Enumerators

abbrev pub is_enumerator_type : Typ → Bool
is_enumerator_type (typ (int Int) false false) = true
is_enumerator_type (typ (enum n s) false false) = true
is_enumerator_type t = false

-- a word of `int`; it has that type inside the braces, and that of its enum behind them
abbrev pub is_enumerator : Enumerator → Bool
is_enumerator e = is_word_of Int e.word && is_enumerator_type e.typ

abbrev pub HasEnumerators : List Enumerator → Type 0
HasEnumerators es = (i : ℕ) (e : Enumerator) → slice_get es i ≡ Some e → is_enumerator e ≡ true

-- Functions

-- a function that the language knows takes and gives what its node does, and belongs to no class
pub record IsKnown (f : Func) (b : Builtin) : Type 0 where
  pub words : signature_words None f.declared.signature ≡ builtin_words b
  pub result : signature_result f.declared.signature ≡ plain (builtin_result b)
  pub free : f.class ≡ None

-- of a function that belongs to a class: that is one of the list, and where it is a lambda's, the function is its call
pub record IsOfClass (classes : List Class) (n : ℕ) (f : Func) : Type 0 where
  pub class : Class
  pub at : slice_get classes n ≡ Some class
  pub call : is_no_name class.name ≡ true → f.kind ≡ ClosureCall

-- a function in the record of a class: one of this unit, or one whose types name classes of the list
pub data IsRecorded (classes : List Class) (funcs : List Func) (n : ℕ) (g : Function) : Type 0 where
  of_unit : (k : ℕ) (f : Func) → slice_get funcs k ≡ Some f → f.class ≡ Some n → f.declared ≡ g → IsRecorded classes funcs n g
  of_another : signature_below (length classes) g.signature ≡ true → IsRecorded classes funcs n g

-- Members

-- only what a lambda captured is a reference: neither its class nor its members have names
abbrev pub is_object_member : Class → Member → Bool
is_object_member k m = is_no_name k.name && is_no_name m.name || not (is_reference m.typ)

-- Names of types: a class for which one stands has a name itself

abbrev pub HasTypeNames : List Class → List Named → Type 0
HasTypeNames classes ns = (i : ℕ) (x : Named) → slice_get ns i ≡ Some x → is_written classes x.typ ≡ true

-- Contexts

pub record UnitHolds (c : Ctx) : Type 0 where
  pub many : length c.traits ≡ length c.classes
  -- the special members of classes are functions of the unit; none is known of the classes of another unit
  pub destructors : (n k : ℕ) → (traits_at c n).destructor ≡ function k → IsDestructorOf c n k
  pub copies : (n k : ℕ) → (traits_at c n).copy ≡ function k → IsCopyOf c n k
  pub defaults : (n k : ℕ) → (traits_at c n).default ≡ function k → IsDefaultOf c n k
  -- of a class that is not complete nothing is said: it is neither assigned nor copied
  pub bare : (n : ℕ) → completion_of c.classes n ≡ None → traits_at c n ≡ no_traits
  pub builtins : (k : ℕ) (f : Func) (b : Builtin) → slice_get c.funcs k ≡ Some f → f.builtin ≡ Some b → IsKnown f b
  -- functions at file scope are plain ones
  pub free : (k : ℕ) (f : Func) → slice_get c.funcs k ≡ Some f → f.class ≡ None → f.kind ≡ Plain
  pub owned : (k : ℕ) (f : Func) (n : ℕ) → slice_get c.funcs k ≡ Some f → f.class ≡ Some n → IsOfClass c.classes n f
  -- the record of a class has functions that were declared
  pub recorded : (n i : ℕ) (k : Class) (g : Function) → slice_get c.classes n ≡ Some k → slice_get k.functions i ≡ Some g
      → IsRecorded c.classes c.funcs n g
  -- virtual functions of complete classes have their slots, where they are alone
  pub slotted : HasSlotsIn (view c)
  -- a data member is an object, but for what a lambda captured
  pub objects : (n i : ℕ) (k : Class) (m : Member) → slice_get c.classes n ≡ Some k → slice_get k.members i ≡ Some m → is_object_member k m ≡ true
  -- what a complete class holds by value was complete before it
  pub numbered : (n k : ℕ) → completion_of c.classes n ≡ Some k → k < count_by is_completed c.classes
  pub earlier : (n : ℕ) (k : Class) (i : ℕ) → slice_get c.classes n ≡ Some k → k.complete ≡ Some i → HoldsEarlier c.classes i k
  -- a class that has a base is complete, and the base has a name
  pub based : (n b : ℕ) (k : Class) → slice_get c.classes n ≡ Some k → k.base ≡ Some b → is_some k.complete ≡ true
  pub bases : (n b : ℕ) (k : Class) → slice_get c.classes n ≡ Some k → k.base ≡ Some b → has_name c.classes b ≡ true
  -- the members of a class that has a name have types that a text can write
  pub members : (n i : ℕ) (k : Class) (m : Member) → slice_get c.classes n ≡ Some k → is_no_name k.name ≡ false → slice_get k.members i ≡ Some m
      → is_written c.classes m.typ ≡ true
  -- the class of a lambda, which has no name, is complete
  pub nameless : (n : ℕ) (k : Class) → slice_get c.classes n ≡ Some k → is_no_name k.name ≡ true → is_some k.complete ≡ true
  -- objects of a complete class have a size
  pub sized : (n : ℕ) (k : Class) → slice_get c.classes n ≡ Some k → is_some k.complete ≡ true → is_some (size_in c.classes (plain (class n))) ≡ true
  pub enumerators : HasEnumerators c.enumerators
  -- what a name of a type stands for can be written
  pub types : HasTypeNames c.classes c.types

-- Laws

-- the first unit begins so
abbrev pub StartsHold : Type 0
StartsHold = (source : ℕ) → UnitHolds (start source).ctx

-- the types of functions name classes of the list
abbrev pub HasListedFunctions : Ctx → Type 0
HasListedFunctions c = (k : ℕ) (f : Func) → slice_get c.funcs k ≡ Some f → signature_below (length c.classes) f.declared.signature ≡ true

-- and each behind others
abbrev pub LaterStartsHold : Type 0
LaterStartsHold = (source : ℕ) (p : TypedProgram) (x : Source) (st : State) → UnitHolds st.ctx → HasListedFunctions st.ctx
    → UnitHolds (start_behind source (with_unit p x st) st.ctx.traits).ctx

abbrev pub StateHolds : State → Type 0
StateHolds st = UnitHolds st.ctx

-- and so it is behind declarations, and behind the whole unit
abbrev pub DeclarationsHold : Type 0
DeclarationsHold = (s : List Lexeme) (x : Storage) (st : State) (ts : syntax.Trees) → UnitHolds st.ctx → have_class_names s ts ≡ true
    → On StateHolds (declarations_of s x st ts)

abbrev pub UnitsHold : Type 0
UnitsHold = (s : List Lexeme) (st : State) (decls : syntax.Trees) → UnitHolds st.ctx → have_class_names s decls ≡ true
    → On StateHolds (unit_from s st decls)

-- behind the lambdas of a full-expression, a full-expression behind them, and statements of a body
abbrev pub LambdasHold : Type 0
LambdasHold = (s : List Lexeme) (st : State) (e : syntax.Tree) → UnitHolds st.ctx → On StateHolds (lambdas_of s st e)

abbrev pub OperandsHold : Type 0
OperandsHold = (s : List Lexeme) (st : State) (e : syntax.Tree) → UnitHolds st.ctx → On (λ (f : Full). UnitHolds f.state.ctx) (full_operand lambdas_of s st e)

abbrev pub StatementsHold : Type 0
StatementsHold = (s : List Lexeme) (st : State) (ts : syntax.Trees) → UnitHolds st.ctx
    → On (λ (d : Done). UnitHolds d.state.ctx) (statements_of lambdas_of s st ts)

-- Each kind of declaration: variables and functions that are only declared, names of types, enums, classes that are only declared

abbrev pub VariablesHold : Type 0
VariablesHold = (s : List Lexeme) (st : State) (x : Storage) (at : At) (ts : syntax.Trees) → UnitHolds st.ctx → On StateHolds (file_declaration s st x at ts)

abbrev pub AliasesHold : Type 0
AliasesHold = (s : List Lexeme) (st : State) (at : At) (name : List ℕ) (ts : syntax.Trees) → UnitHolds st.ctx → On StateHolds (alias_of s st at name ts)

abbrev pub EnumsHold : Type 0
EnumsHold = (s : List Lexeme) (st : State) (at : At) (name : List ℕ) (ts : syntax.Trees) → UnitHolds st.ctx → On StateHolds (enum_declared s st at name ts)

abbrev pub NamesHold : Type 0
NamesHold = (st : State) (at : At) (name : List ℕ) → UnitHolds st.ctx → is_no_name name ≡ false → On StateHolds (declared_only st at name)

-- a function at file scope with its body, and a member outside its class
abbrev pub FunctionsHold : Type 0
FunctionsHold = (s : List Lexeme) (st : State) (x : Storage) (at : At) (first : ℕ) (r : Declared) (body : syntax.Tree) → UnitHolds st.ctx
    → On StateHolds (defined_with s st x at first r body (form_in r.typ))

abbrev pub OutsideHold : Type 0
OutsideHold = (s : List Lexeme) (st : State) (n : ℕ) (kind : FuncKind) (first : ℕ) (m : Method) (body : syntax.Tree) → UnitHolds st.ctx
    → On StateHolds (outside_body lambdas_of s st n kind first m body)

-- a class up to its brace, and what stands in it: initialisers of members, and bodies
abbrev pub ClassesHold : Type 0
ClassesHold = (s : List Lexeme) (st : State) (at : At) (kids : syntax.Trees) (home : Home) (b : Begun) (r : Members) (d : Ctx) → UnitHolds st.ctx
    → is_no_name home.name ≡ false → begun st.ctx at home.name true ≡ Ok b → base_named s b.ctx kids ≡ Ok home.base → home.number ≡ b.number
    → members_of s home (record { state = record st { ctx = b.ctx }; members = []; initialised = [] }) (members_among kids) ≡ Ok r
    → closed_class at home.number (completed r.state.ctx home at r.members r.initialised) ≡ Ok d → UnitHolds d

abbrev pub MemberDefaultsHold : Type 0
MemberDefaultsHold = (s : List Lexeme) (st : State) (n i : ℕ) (t : Typ) (e : syntax.Tree) → UnitHolds st.ctx
    → On StateHolds (default_made lambdas_of s st n i t e)

abbrev pub MethodsHold : Type 0
MethodsHold = (s : List Lexeme) (st : State) (n : ℕ) (kind : FuncKind) (m : Method) (body : Option syntax.Tree) → UnitHolds st.ctx
    → On StateHolds (late_method lambdas_of s st n kind m body)

-- the body of an implicit member
abbrev pub ImpliedHold : Type 0
ImpliedHold = (st : State) (k : ℕ) → UnitHolds st.ctx → On StateHolds (implied st k)

-- the destructors of classes are functions of the unit
abbrev pub SpecialsHold : Type 0
SpecialsHold = (c : Ctx) → UnitHolds c → HasSpecials c
