-- What declarations of a unit are made of, and what is asked of each step: from a good state it leads to a good one.
use Rattle.std.specs.Prelude.{◌≡◌, ℕ, true, false, Option, Some, List, [], Ok, slice_get}
use Rattle.elab_rules.specs.cpp_types.Typ.{Typ}
use Rattle.elab_rules.specs.cpp_types.declared.classes.At.{At}
use Rattle.elab_rules.specs.cpp_lex.Tokens.{Lexeme}
use Rattle.elab_rules.specs.cpp_ast.declared.arena.At.{At as SyntaxAt}
use Rattle.elab_rules.specs.cpp_ast.declared.kinds.NodeKind.{NodeKind}
use Rattle.elab_rules.specs.cpp_ast.declared.kinds.NodeKind.TheVariants.{ClassSpecifier}
use Rattle.elab_rules.specs.cpp_ast.Trees as syntax
use Rattle.elab_rules.specs.cpp_tree.Typing.{form_in}
use Rattle.elab_rules.specs.cpp_tree.declared.program.FuncKind.{FuncKind}
use Rattle.elab_rules.specs.cpp_tree.declared.program.FuncKind.TheVariants.{ClosureCall}
use Rattle.elab_rules.specs.elab_ctx.Ctx.{Ctx}
use Rattle.elab_rules.specs.elab_ctx.Steps.{spelling}
use Rattle.elab_rules.specs.Types.{Declared, is_nothing}
use Rattle.elab_rules.specs.Expressions.{type_of_specifiers, declared_by}
use Rattle.elab_rules.specs.Names.{members_in}
use Rattle.elab_rules.specs.Statements.{State}
use Rattle.elab_rules.specs.Functions.{Storage}
use Rattle.elab_rules.specs.Classes.{Home, Members, Begun, Method, begun, members_of, completed, closed_class, method_of}
use Rattle.elab_rules.specs.Members.{base_named, members_among, default_made, member_index, member_type, late_method, outside_method, outside_body}
use Rattle.elab_rules.specs.Members.{declared_only}
use Rattle.elab_rules.specs.Implicit.{implied}
use Rattle.elab_rules.specs.Lambdas.{lambdas_of}
use Rattle.elab_rules.specs.Units.{file_declaration, alias_of, defined_with}
use Rattle.elab_rules.specs.Globals.{enum_declared}
use Rattle.elab_fits.specs.Standing.{On}

-- no function that a text declares is the call of a lambda
abbrev pub NoCall : FuncKind → Type 0
NoCall kind = kind ≡ ClosureCall → ⊥

pub record Words : Type 1 where
  -- of a state between declarations
  pub Good : State → Type 0
  -- a class that has its brace, while what stands in it is elaborated
  pub Home : State → ℕ → Type 0
  -- texts as the parser makes them
  pub Text : syntax.Tree → Type 0
  pub Texts : syntax.Trees → Type 0
  -- names of classes
  pub Title : List ℕ → Type 0

-- a good state, in which classes that had their brace have it still
pub record Follows (w : Words) (a b : State) : Type 0 where
  pub good : w.Good b
  pub homes : (n : ℕ) → w.Home a n → w.Home b n

-- a class up to its brace
pub record IsClosed (s : List Lexeme) (st : State) (at : At) (name : List ℕ) (kids : syntax.Trees) (home : Home) (r : Members) (c : Ctx) : Type 0 where
  pub start : Begun
  pub begins : begun st.ctx at name true ≡ Ok start
  pub based : base_named s start.ctx kids ≡ Ok home.base
  pub number : home.number ≡ start.number
  pub named : home.name ≡ name
  pub read : members_of s home (record { state = record st { ctx = start.ctx }; members = []; initialised = [] }) (members_among kids) ≡ Ok r
  pub closed : closed_class at home.number (completed r.state.ctx home at r.members r.initialised) ≡ Ok c

pub record Steps (w : Words) (s : List Lexeme) : Type 0 where
  -- the parts of a text are texts
  pub kids : (kind : NodeKind) (p : SyntaxAt) (token : Option ℕ) (ts : syntax.Trees) → w.Text (syntax.node kind p token ts) → w.Texts ts
  pub first : (t : syntax.Tree) (ts : syntax.Trees) → w.Texts (syntax.more t ts) → w.Text t
  pub rest : (t : syntax.Tree) (ts : syntax.Trees) → w.Texts (syntax.more t ts) → w.Texts ts
  -- each token is spelled with something
  pub spelled : (kind : NodeKind) (p : SyntaxAt) (t : ℕ) (ts : syntax.Trees) → w.Text (syntax.node kind p (Some t) ts) → is_nothing (spelling s t) ≡ false
  -- a class has the name of one
  pub titled : (p : SyntaxAt) (t : ℕ) (ts : syntax.Trees) → w.Text (syntax.node ClassSpecifier p (Some t) ts) → w.Title (spelling s t)
  -- variables, functions that are only declared, names of types, enums, classes that are only declared
  pub variables : (st : State) (x : Storage) (at : At) (ts : syntax.Trees) → w.Good st → w.Texts ts → On w.Good (file_declaration s st x at ts)
  pub aliases : (st : State) (at : At) (name : List ℕ) (ts : syntax.Trees) → w.Good st → w.Texts ts → On w.Good (alias_of s st at name ts)
  pub enums : (st : State) (at : At) (name : List ℕ) (ts : syntax.Trees) → w.Good st → w.Texts ts → On w.Good (enum_declared s st at name ts)
  pub names : (st : State) (at : At) (name : List ℕ) → w.Good st → is_nothing name ≡ false → On w.Good (declared_only st at name)
  -- a function at file scope, with its body
  pub functions : (st : State) (x : Storage) (at : At) (first : ℕ) (base d body : syntax.Tree) (t : Typ) (r : Declared) → w.Good st → w.Text base → w.Text d
      → w.Text body → type_of_specifiers s st.ctx st.work base ≡ Ok t → declared_by s st.ctx st.work at t d ≡ Ok r
      → On w.Good (defined_with s st x at first r body (form_in r.typ))
  -- a member with its body, outside of its class
  pub outside : (st : State) (x : Storage) (at : At) (kind : FuncKind) (first n : ℕ) (ts : syntax.Trees) (m : Method) (body : syntax.Tree) → w.Good st
      → NoCall kind → w.Texts ts → w.Text body → outside_method s st at x kind ts ≡ Ok m → m.header.class ≡ Some n
      → On w.Good (outside_body lambdas_of s st n kind first m body)
  -- a class up to its brace
  pub classes : (st : State) (at : At) (name : List ℕ) (kids : syntax.Trees) (home : Home) (r : Members) (c : Ctx) → w.Good st → is_nothing name ≡ false
      → w.Title name → w.Texts kids → IsClosed s st at name kids home r c → w.Good (record r.state { ctx = c }) × w.Home (record r.state { ctx = c }) home.number
  -- behind it the initialisers of its members, and the bodies of its functions
  pub defaults : (st : State) (n i : ℕ) (name : List ℕ) (e : syntax.Tree) → w.Good st → w.Home st n → w.Text e
      → member_index 0 name (members_in (slice_get st.ctx.classes n)) ≡ Some i
      → On (Follows w st) (default_made lambdas_of s st n i (member_type (slice_get (members_in (slice_get st.ctx.classes n)) i)) e)
  pub methods : (st : State) (n : ℕ) (name : List ℕ) (at : At) (kind : FuncKind) (ts : syntax.Trees) (m : Method) (body : syntax.Tree) → w.Good st
      → NoCall kind → w.Home st n → w.Texts ts → w.Text body → method_of s st n name at kind ts ≡ Ok m → On (Follows w st) (late_method lambdas_of s st n kind m (Some body))
  -- the body of an implicit member
  pub implicits : (st : State) (k : ℕ) → w.Good st → On w.Good (implied st k)
