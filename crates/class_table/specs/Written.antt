-- Parts of the rules for the text of a class, as the steps of which they are made.
use Rattle.std.specs.Prelude.{◌≡◌, ℕ, true, false, Bool, not, List, [], drop, Option, Some, None, Result, Ok, Err}
use Rattle.elab_expr.specs.cpp_lex.Tokens.{Lexeme}
use Rattle.elab_expr.specs.cpp_types.Typ.{Typ, Form, func, void}
use Rattle.elab_expr.specs.cpp_types.declared.classes.At.{At}
use Rattle.elab_expr.specs.cpp_ast.Trees as syntax
use Rattle.elab_expr.specs.cpp_ast.declared.kinds.NodeKind.TheVariants as k
use Rattle.elab_expr.specs.cpp_ast.declared.arena.NodeId.{NodeId}
use Rattle.elab_expr.specs.cpp_ast.declared.arena.At.{At as SyntaxAt}
use Rattle.elab_expr.specs.cpp_tree.declared.program.FuncKind.{FuncKind}
use Rattle.elab_expr.specs.cpp_tree.declared.program.FuncKind.TheVariants.{Plain}
use Rattle.elab_expr.specs.cpp_tree.declared.faults.ElabFault.{ElabFault}
use Rattle.elab_expr.specs.cpp_tree.declared.faults.ElabFault.TheVariants.{Ill}
use Rattle.elab_expr.specs.cpp_tree.declared.faults.IllRule.TheVariants.{BadDeclaration, OutOfProfile}
use Rattle.elab_expr.specs.cpp_tree.Typing.{form_in}
use Rattle.elab_expr.specs.cpp_tree.Notation.{plain}
use Rattle.elab_expr.specs.elab_ctx.Ctx.{Ctx, Work}
use Rattle.elab_expr.specs.elab_ctx.Says.{Faults}
use Rattle.elab_expr.specs.elab_ctx.Steps.{and_then, check, token_place, spelling}
use Rattle.elab_expr.specs.elab_types.Syntax.{trees_at}
use Rattle.elab_expr.specs.elab_rules.Types.{Declared}
use Rattle.elab_expr.specs.elab_rules.Expressions.{type_of_specifiers, declared_by}
use Rattle.elab_expr.specs.elab_rules.Statements.{State, Body, name_of}
use Rattle.elab_expr.specs.elab_rules.Functions.{Storage, Header, text_sized}
use Rattle.elab_expr.specs.elab_rules.Classes.{Home, Members, Begun, based_on, Method, Definition, header_in, special_header, has_equal, has_initialiser}
use Rattle.elab_expr.specs.elab_rules.Classes.{no_function_words, no_marks, marks_from, declared_member, data_member, member_function, declared_method}
use Rattle.elab_expr.specs.elab_rules.Classes.{definition_between, last_token, body_in, begun, members_of, completed, closed_class, class_text}
use Rattle.elab_expr.specs.elab_rules.Members.{base_named, has_final, members_among}
use Rattle.class_members.specs.Shown.{header_of, home_of}
use Rattle.class_members.specs.declared.records.Home.{Home as HomeRec}
use Rattle.class_table.specs.declared.methods.Method.{Method as MethodRec}

-- the header of a function from its type and its declarator
abbrev pub plain_header : List Lexeme → Ctx → Work → ℕ → At → Storage → syntax.Tree → syntax.Tree → Result Header ElabFault
plain_header s c w n at x base d = and_then (type_of_specifiers s c w base)
    (λ (t : Typ). and_then (declared_by s c w at t d) (λ (r : Declared). header_in n x Plain at (name_of s r.name) r (form_in r.typ)))

-- the header of a constructor or a destructor from its declarator
abbrev pub special_declared : List Lexeme → Ctx → Work → ℕ → List ℕ → At → Storage → FuncKind → syntax.Tree → Result Header ElabFault
special_declared s c w n class_name at x kind d = and_then (declared_by s c w at (plain void) d)
    (λ (r : Declared). special_header n class_name at x kind r (name_of s r.name))

abbrev pub method_with : Header → syntax.Trees → Method
method_with h rest = record { header = h; rest = rest }

-- a function, with the kids behind its declarator
abbrev pub method_shown : List syntax.Tree → List NodeId → MethodRec → Method
method_shown trees ids m = method_with (header_of m.header) (trees_at trees (drop m.count ids))

abbrev pub is_plain_kind : FuncKind → Bool
is_plain_kind Plain = true
is_plain_kind kind = false

-- a member with a body
abbrev pub defined_method : List Lexeme → Home → Members → FuncKind → At → Option ℕ → syntax.Trees → Result Members ElabFault
defined_method s home r kind at (Some t) kids = declared_method s home r kind at (Some (definition_between s t (last_token (body_in kids)))) kids
defined_method s home r kind at None kids = Err (Ill at OutOfProfile)

-- What a declarator declares

abbrev pub is_function_form : Form → Bool
is_function_form (func sig) = true
is_function_form f = false

-- a member function
abbrev pub function_declared : List Lexeme → Home → Members → At → Storage → syntax.Trees → Declared → Form → Result Members ElabFault
function_declared s home r at x rest d f = and_then (check at BadDeclaration (not (has_equal rest)))
    (λ y. and_then (header_in home.number x Plain at (name_of s d.name) d f) (λ (h : Header). member_function home r h (marks_from s no_marks rest) None))

-- a data member
abbrev pub data_declared : List Lexeme → Home → Members → At → Storage → syntax.Trees → Declared → Result Members ElabFault
data_declared s home r at x rest d = and_then (check at BadDeclaration (no_function_words x (marks_from s no_marks rest)))
    (λ y. data_member home.number r at (name_of s d.name) d.typ (has_initialiser rest))

-- the one or the other
abbrev pub member_declared : List Lexeme → Home → Members → At → Storage → syntax.Trees → Declared → Result Members ElabFault
member_declared s home r at x rest d = declared_member home r at x (marks_from s no_marks rest) rest (name_of s d.name) d (form_in d.typ)

-- A class up to its closing brace

pub record ClassRead : Type 0 where
  pub state : State
  pub home : Home

abbrev pub class_stood : State → Home → ClassRead
class_stood st home = record { state = st; home = home }

abbrev pub read_closed : At → Home → Members → Result ClassRead ElabFault
read_closed at home r = and_then (closed_class at home.number (completed r.state.ctx home at r.members r.initialised))
    (λ (c : Ctx). Ok (class_stood (record r.state { ctx = c }) home))

abbrev pub read_members : List Lexeme → State → At → Home → syntax.Trees → Result ClassRead ElabFault
read_members s st at home members = and_then (members_of s home (record { state = st; members = []; initialised = [] }) members)
    (λ (r : Members). read_closed at home r)

abbrev pub class_read : List Lexeme → State → At → List ℕ → syntax.Trees → Result ClassRead ElabFault
class_read s st at name kids = and_then (text_sized at (class_text s kids))
    (λ z. and_then (begun st.ctx at name true) (λ (b : Begun). and_then (base_named s b.ctx kids) (λ (base : Option ℕ).
    read_members s (record st { ctx = b.ctx }) at (record { number = b.number; name = name; base = base; is_final = has_final kids }) (members_among kids))))

-- the base of a specifier
abbrev pub named_base : List Lexeme → Ctx → SyntaxAt → ℕ → Result (Option ℕ) ElabFault
named_base s c p t = and_then (based_on c (token_place s p.source t) (spelling s t)) (λ b. Ok (Some b))

-- the class stands, complete, or its fault is answered
abbrev pub StandsRead : {A : Type 0} → State → Home → Result A ElabFault → Result ClassRead ElabFault → Type 0
StandsRead st h (Ok a) x = x ≡ Ok (class_stood st h)
StandsRead st h (Err e) x = Faults e x

-- the same, where the class is what is answered
abbrev pub Reads : State → Result HomeRec ElabFault → Result ClassRead ElabFault → Type 0
Reads st (Ok h) x = x ≡ Ok (class_stood st (home_of h))
Reads st (Err e) x = Faults e x

-- what is known and made, beside bodies
abbrev pub at_hand : Ctx → Work → List Body → State
at_hand c w bodies = record { ctx = c; work = w; bodies = bodies }
