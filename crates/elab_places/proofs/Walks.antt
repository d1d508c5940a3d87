-- What a walk over the declarations of a unit carries, and what is asked of it where functions, bodies and initialisers of members come.
use Rattle.std.proofs.Common.{◌≡◌, refl, ℕ, Bool, true, false, List, [], ◌∷◌, ◌++◌, Option, None, Result}
use Rattle.elab_rules.specs.cpp_types.Class.{Member, Function}
use Rattle.elab_rules.specs.cpp_types.Typ.{Form, func}
use Rattle.elab_rules.specs.cpp_types.declared.classes.At.{At}
use Rattle.elab_rules.specs.cpp_lex.Tokens.{Lexeme}
use Rattle.elab_rules.specs.cpp_ast.Trees as syntax
use Rattle.elab_rules.specs.cpp_tree.Notation.{plain}
use Rattle.elab_rules.specs.cpp_tree.Typing.{form_in}
use Rattle.elab_rules.specs.cpp_types.Typ.{void}
use Rattle.elab_rules.specs.cpp_tree.declared.program.FuncKind.{FuncKind}
use Rattle.elab_rules.specs.cpp_tree.declared.program.FuncKind.TheVariants.{Plain, Constructor, Destructor, ClosureCall}
use Rattle.elab_rules.specs.cpp_tree.declared.faults.ElabFault.{ElabFault}
use Rattle.elab_rules.specs.cpp_tree.declared.faults.IllRule.{IllRule}
use Rattle.elab_rules.specs.cpp_tree.declared.faults.IllRule.TheVariants.{BadDeclaration}
use Rattle.elab_rules.specs.cpp_tree.Rows.{is_special}
use Rattle.std.specs.Str.{bytes_eq}
use Rattle.std.specs.Prelude.{◌&&◌, not, Some}
use Rattle.elab_rules.specs.elab_ctx.Ctx.{Ctx, Func}
use Rattle.elab_rules.specs.elab_ctx.Steps.{and_then, check}
use Rattle.elab_rules.specs.Types.{Declared}
use Rattle.elab_rules.specs.Expressions.{type_of_specifiers, declared_by}
use Rattle.elab_rules.specs.Statements.{State, Body, name_of}
use Rattle.elab_rules.specs.Functions.{Storage, Header, new_function, no_storage}
use Rattle.elab_rules.specs.Classes
use Rattle.elab_rules.specs.Classes.{Home, Marks, Definition, Method, Started}
use Rattle.elab_rules.specs.Members
use Rattle.elab_rules.specs.Units
use Rattle.elab_rules.specs.Lambdas.{lambdas_of}
use Rattle.elab_places.specs.Round.{Round, round_of}
use Rattle.elab_places.proofs.Steps.{On, bind, skip}

pub checked : {B : Type 0} (Q : B → Type 0) (at : At) (rule : IllRule) (b : Bool) (f : Bool → Result B ElabFault) → (b ≡ true → On Q (f true))
    → On Q (and_then (check at rule b) f)
checked Q at rule true f h = h refl
checked Q at rule false f h = tt

-- Headers of members

-- of this kind, in the class; those of constructors and destructors are checked
pub record IsHeader (n : ℕ) (of : FuncKind) (h : Header) : Type 0 where
  pub kind : h.kind ≡ of
  pub class : h.class ≡ Some n
  pub special : is_special of ≡ true → Classes.is_special of n h.signature ≡ true

pub record HasKind (n : ℕ) (of : FuncKind) (h : Header) : Type 0 where
  pub kind : h.kind ≡ of
  pub class : h.class ≡ Some n

pub header_in : (n : ℕ) (x : Storage) (of : FuncKind) (at : At) (name : List ℕ) (r : Declared) (f : Form) → On (HasKind n of) (Classes.header_in n x of at name r f)
header_in n x of at name r (func sig) = record { kind = refl; class = refl }
header_in n x of at name r f = tt

abbrev pub Method_is : ℕ → FuncKind → Method → Type 0
Method_is n of m = IsHeader n of m.header

plain_method : (s : List Lexeme) (st : State) (n : ℕ) (at : At) (x : Storage) (ts : syntax.Trees) → On (Method_is n Plain) (Classes.plain_method s st n at x ts)
plain_method s st n at x (syntax.more base (syntax.more d rest)) = skip (Method_is n Plain) (type_of_specifiers s st.ctx st.work base) _
    (λ t. skip (Method_is n Plain) (declared_by s st.ctx st.work at t d) _
    (λ r. bind (HasKind n Plain) (Method_is n Plain) (Classes.header_in n x Plain at (name_of s r.name) r (form_in r.typ)) _
    (header_in n x Plain at (name_of s r.name) r (form_in r.typ)) (λ h i. record { kind = i.kind; class = i.class; special = λ e. absurd cc })))
plain_method s st n at x syntax.none = tt
plain_method s st n at x (syntax.more base syntax.none) = tt

pub special_header : (n : ℕ) (class_name : List ℕ) (at : At) (x : Storage) (of : FuncKind) (r : Declared) (name : List ℕ)
    → On (IsHeader n of) (Classes.special_header n class_name at x of r name)
special_header n class_name at x of r name = skip (IsHeader n of) (check at BadDeclaration (bytes_eq name class_name && not r.qualifiers.is_const)) _
    (λ y. bind (HasKind n of) (IsHeader n of) (Classes.header_in n x of at (Classes.special_name of class_name) r (form_in r.typ)) _
    (header_in n x of at (Classes.special_name of class_name) r (form_in r.typ))
    (λ h i. checked (IsHeader n of) at BadDeclaration (Classes.is_special of n h.signature) _
    (λ e. record { kind = i.kind; class = i.class; special = λ t. e })))

special_method : (s : List Lexeme) (st : State) (n : ℕ) (class_name : List ℕ) (at : At) (x : Storage) (of : FuncKind) (ts : syntax.Trees)
    → On (Method_is n of) (Classes.special_method s st n class_name at x of ts)
special_method s st n class_name at x of (syntax.more d rest) = skip (Method_is n of) (declared_by s st.ctx st.work at (plain void) d) _
    (λ r. bind (IsHeader n of) (Method_is n of) (Classes.special_header n class_name at x of r (name_of s r.name)) _
    (special_header n class_name at x of r (name_of s r.name)) (λ h i. i))
special_method s st n class_name at x of syntax.none = tt

pub method_of : (s : List Lexeme) (st : State) (n : ℕ) (class_name : List ℕ) (at : At) (of : FuncKind) (kids : syntax.Trees)
    → On (Method_is n of) (Classes.method_of s st n class_name at of kids)
method_of s st n class_name at Plain kids =
    plain_method s st n at (Classes.started_from s no_storage kids).storage (Classes.started_from s no_storage kids).rest
method_of s st n class_name at Constructor kids =
    special_method s st n class_name at (Classes.started_from s no_storage kids).storage Constructor (Classes.started_from s no_storage kids).rest
method_of s st n class_name at Destructor kids =
    special_method s st n class_name at (Classes.started_from s no_storage kids).storage Destructor (Classes.started_from s no_storage kids).rest
method_of s st n class_name at ClosureCall kids =
    special_method s st n class_name at (Classes.started_from s no_storage kids).storage ClosureCall (Classes.started_from s no_storage kids).rest

-- What is carried

abbrev pub with_func : Round → Func → Round
with_func r f = record r { funcs = r.funcs ++ f ∷ [] }

-- of a context, with bodies that are made so far
abbrev pub round_with : List Body → Ctx → Round
round_with bodies c = record { defaults = c.defaults; funcs = c.funcs; bodies = bodies }

abbrev pub Held : (Round → Type 0) → State → Type 0
Held K st = K (round_of st)

pub record Walks (K : Round → Type 0) : Type 0 where
  -- a function at file scope is declared or defined
  pub declared : (r : Round) (h : Header) → h.kind ≡ Plain → h.class ≡ None → K r → K (with_func r (new_function h))
  pub defined : (s : List Lexeme) (st : State) (x : Storage) (at : At) (first : ℕ) (d : Declared) (body : syntax.Tree) (f : Form) → Held K st
      → On (Held K) (Units.defined_with s st x at first d body f)
  -- a function of a class is declared
  pub member : (r : Round) (n : ℕ) (of : FuncKind) (h : Header) (m : Marks) (o : Option Function) (d : Option Definition) → IsHeader n of h → K r
      → K (with_func r (Classes.as_written d (Classes.member_func h m o)))
  -- a class gets its implicit members
  pub completed : (bodies : List Body) (c : Ctx) (home : Home) (at : At) (ms : List Member) (initialised : List ℕ) → K (round_with bodies c)
      → K (round_with bodies (Classes.completed c home at ms initialised))
  -- behind its brace
  pub defaults : (s : List Lexeme) (n : ℕ) (st : State) (ts : syntax.Trees) → Held K st → On (Held K) (Members.all_defaults lambdas_of s n st ts)
  pub late : (s : List Lexeme) (n : ℕ) (name : List ℕ) (st : State) (t : syntax.Tree) → Held K st → On (Held K) (Members.late_of lambdas_of s n name st t)
  -- a member is defined outside its class
  pub outside : (s : List Lexeme) (x : Storage) (st : State) (at : At) (of : FuncKind) (first : ℕ) (kids : syntax.Trees) → Held K st
      → On (Held K) (Members.member_defined lambdas_of s x st at of first kids)
