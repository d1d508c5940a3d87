-- Declarators of a declaration, step by step.
use Rattle.std.specs.Prelude.{◌≡◌, not, ◌&&◌, ◌||◌, List, Option, None, Result, Ok, Err}
use Rattle.elab_scopes.specs.cpp_types.Typ.{Typ}
use Rattle.elab_scopes.specs.cpp_types.declared.classes.At.{At}
use Rattle.elab_scopes.specs.cpp_types.declared.types.Ty.{Ty}
use Rattle.elab_scopes.specs.cpp_lex.Tokens.{Lexeme}
use Rattle.elab_scopes.specs.cpp_ast.Trees as syntax
use Rattle.elab_scopes.specs.cpp_tree.declared.faults.ElabFault.{ElabFault}
use Rattle.elab_scopes.specs.cpp_tree.declared.faults.IllRule.TheVariants.{BadDeclaration}
use Rattle.elab_scopes.specs.cpp_tree.declared.arena.TNodeId.{TNodeId}
use Rattle.elab_scopes.specs.cpp_tree.Trees.{none}
use Rattle.elab_scopes.specs.elab_ctx.Ctx.{Ctx}
use Rattle.elab_scopes.specs.elab_ctx.Steps.{and_then, check}
use Rattle.elab_scopes.specs.elab_ctx.Says.{Faults}
use Rattle.elab_scopes.specs.elab_rules.Types.{Declared}
use Rattle.elab_scopes.specs.elab_rules.Expressions.{type_of_specifiers, declared_by}
use Rattle.elab_scopes.specs.elab_rules.Statements.{Lambdas, State, Done, Deduction, Declaring, done, variable, name_of, is_own_name, declared_more}
use Rattle.elab_scopes.specs.elab_rules.Statements.{is_direct_label, may_be_skipped, block_declarators}
use Rattle.elab_scopes.specs.declared.state.State.{State as StateRec}
use Rattle.elab_locals.specs.Deducing.{DeclaringAt}

abbrev pub past_ctx : Typ → syntax.Trees → Ctx → Ctx
past_ctx t init c = record c { labels = record c.labels { is_past = c.labels.is_past || (is_direct_label c.label && not (may_be_skipped c t init)) } }

abbrev pub declared_from : Lambdas → List Lexeme → At → Declaring → Declared → syntax.Trees → Result Declaring ElabFault
declared_from lams s at d r init = and_then (check at BadDeclaration (is_own_name r))
    (λ z. and_then (variable lams s d.state (name_of s r.name) r.typ at d.auto init) (λ (y : Deduction). Ok (declared_more d r.typ init y)))

-- a declarator of a type, with the initialiser behind it
abbrev pub init_declarator : Lambdas → List Lexeme → At → Typ → Declaring → syntax.Tree → syntax.Trees → Result Declaring ElabFault
init_declarator lams s at t d x init = and_then (declared_by s d.state.ctx d.state.work at t x) (λ (r : Declared). declared_from lams s at d r init)

-- behind a type
abbrev pub specified_by : Lambdas → List Lexeme → State → syntax.Tree → syntax.Trees → Result Done ElabFault
specified_by lams s st x ds = and_then (type_of_specifiers s st.ctx st.work x)
    (λ (t : Typ). and_then (block_declarators lams s t (record { trees = none; state = st; auto = None }) ds) (λ (d : Declaring). done d.trees d.state))

-- all declarators, whatever stood for `auto`
pub record AllDeclared (old new : StateRec) (ids : List TNodeId) (x : Result Declaring ElabFault) : Type 0 where
  pub auto : Option Ty
  pub declared : DeclaringAt old new ids auto x

abbrev pub DeclaresAll : StateRec → StateRec → List TNodeId → Result (Unit {0}) ElabFault → Result Declaring ElabFault → Type 0
DeclaresAll old new ids (Ok u) x = AllDeclared old new ids x
DeclaresAll old new ids (Err e) x = Faults e x
