-- What stands in the members of a class, and the class as a whole.
use Rattle.std.specs.Prelude.{◌≡◌, ℕ, List, Option, Some, None, Result, Ok, Err, slice_get}
use Rattle.elab_entry.specs.cpp_types.declared.classes.At.{At}
use Rattle.elab_entry.specs.cpp_lex.Tokens.{Lexeme}
use Rattle.elab_entry.specs.cpp_ast.Trees as syntax
use Rattle.elab_entry.specs.cpp_ast.declared.kinds.NodeKind.{NodeKind}
use Rattle.elab_entry.specs.cpp_ast.declared.kinds.NodeKind.TheVariants as k
use Rattle.elab_entry.specs.cpp_tree.Arena.{Grows}
use Rattle.elab_entry.specs.cpp_tree.declared.program.FuncKind.{FuncKind}
use Rattle.elab_entry.specs.cpp_tree.declared.program.FuncKind.TheVariants.{Plain, Constructor, Destructor}
use Rattle.elab_entry.specs.cpp_tree.declared.faults.ElabFault.{ElabFault}
use Rattle.elab_entry.specs.elab_ctx.Ctx.{Ctx}
use Rattle.elab_entry.specs.elab_ctx.Steps.{and_then, each_of, at_of}
use Rattle.elab_entry.specs.elab_ctx.Says.{Faults}
use Rattle.elab_entry.specs.elab_rules.Statements.{State, Lambdas}
use Rattle.elab_entry.specs.elab_rules.Initialising.{func_at}
use Rattle.elab_entry.specs.elab_rules.Functions.{Header, with_definition}
use Rattle.elab_entry.specs.elab_rules.Classes.{Definition, Method, method_of, body_in, last_token, token_end}
use Rattle.elab_entry.specs.elab_rules.Members.{place_of_header, late_agrees, members_among}
use Rattle.elab_entry.specs.elab_scopes.declared.state.State.{State as StateRec}
use Rattle.elab_entry.specs.elab_scopes.States.{state_of, made}
use Rattle.class_table.specs.Written.{ClassRead, class_read}
use Rattle.elab_members.specs.Bodies.{method_body}
use Rattle.elab_members.specs.Initialisers.{all_defaults}

-- Behind the brace, in the order of the text

-- what stays of a function whose header is read again: its text, and where it ends
abbrev pub late_found : Ctx → ℕ → Header → ℕ → Result Definition ElabFault
late_found c i h closed = and_then (late_agrees h closed (func_at c.funcs i))
    (λ y. Ok (record { text = (func_at c.funcs i).text; closed_at = (func_at c.funcs i).closed_at }))

-- its parameters are those of the header
abbrev pub late_kept : Ctx → ℕ → Header → ℕ → Result Ctx ElabFault
late_kept c i h closed = and_then (late_found c i h closed) (λ (d : Definition). Ok (with_definition c i h d.text d.closed_at))

-- a function with its body, which ends at this offset
abbrev pub late_with : Lambdas → List Lexeme → State → ℕ → FuncKind → Method → ℕ → syntax.Tree → Result State ElabFault
late_with lams s st n kind m closed body = and_then (place_of_header st.ctx m.header)
    (λ place. and_then (late_kept st.ctx place m.header closed)
    (λ (c : Ctx). method_body lams s (record st { ctx = c }) n place kind m.header m.rest body))

abbrev pub late_method : Lambdas → List Lexeme → State → ℕ → FuncKind → Method → Option syntax.Tree → Result State ElabFault
late_method lams s st n kind m (Some body) = late_with lams s st n kind m (token_end (slice_get s (last_token (Some body)))) body
late_method lams s st n kind m None = Ok st

abbrev pub late_function : Lambdas → List Lexeme → State → ℕ → List ℕ → At → FuncKind → syntax.Trees → Result State ElabFault
late_function lams s st n name at kind kids = and_then (method_of s st n name at kind kids) (λ (m : Method). late_method lams s st n kind m (body_in kids))

-- which function a node defines, if it defines one
abbrev pub late_kind : NodeKind → Option FuncKind
late_kind k.FunctionDefinition = Some Plain
late_kind k.ConstructorDefinition = Some Constructor
late_kind k.DestructorDefinition = Some Destructor
late_kind kind = None

-- a member's body, if it has one
abbrev pub late_of : Lambdas → List Lexeme → ℕ → List ℕ → State → syntax.Tree → Result State ElabFault
late_of lams s n name st (syntax.node k.FunctionDefinition p token kids) = late_function lams s st n name (at_of p) Plain kids
late_of lams s n name st (syntax.node k.ConstructorDefinition p token kids) = late_function lams s st n name (at_of p) Constructor kids
late_of lams s n name st (syntax.node k.DestructorDefinition p token kids) = late_function lams s st n name (at_of p) Destructor kids
late_of lams s n name st t = Ok st

abbrev pub all_late : Lambdas → List Lexeme → ℕ → List ℕ → State → syntax.Trees → Result State ElabFault
all_late lams s n name = each_of (late_of lams s n name)

-- The class

-- all initialisers of its members, then their bodies
abbrev pub behind_brace : Lambdas → List Lexeme → syntax.Trees → ClassRead → Result State ElabFault
behind_brace lams s members x = and_then (all_defaults lams s x.home.number x.state members)
    (λ (st : State). all_late lams s x.home.number x.home.name st members)

abbrev pub class_defined : Lambdas → List Lexeme → State → At → List ℕ → syntax.Trees → Result State ElabFault
class_defined lams s st at name kids = and_then (class_read s st at name kids) (behind_brace lams s (members_among kids))

-- the state is what is to be answered, and the trees that were made stay
pub record Stood (old new : StateRec) (x : Result State ElabFault) : Type 0 where
  pub trees : Grows (made old) (made new)
  pub is : x ≡ Ok (state_of new)

abbrev pub Stands : StateRec → StateRec → Result (Unit {0}) ElabFault → Result State ElabFault → Type 0
Stands old new (Ok u) x = Stood old new x
Stands old new (Err e) x = Faults e x
