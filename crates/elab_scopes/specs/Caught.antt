-- Variables with their places, and what handlers catch.
use Rattle.std.specs.Prelude.{◌≡◌, ℕ, true, List, length, Option, Result, Ok, Err}
use Rattle.elab_expr.specs.cpp_types.Typ.{Typ, typ_of}
use Rattle.elab_expr.specs.cpp_types.declared.classes.At.{At}
use Rattle.elab_expr.specs.cpp_tree.declared.faults.ElabFault.{ElabFault}
use Rattle.elab_expr.specs.cpp_tree.declared.faults.IllRule.TheVariants.{Redeclared}
use Rattle.elab_expr.specs.cpp_tree.Arena.{trees_at}
use Rattle.elab_expr.specs.elab_ctx.Ctx.{next_place}
use Rattle.elab_expr.specs.elab_ctx.Steps.{and_then, check}
use Rattle.elab_expr.specs.elab_ctx.Says.{Faults, are_within}
use Rattle.elab_expr.specs.elab_rules.Statements.{State, Caught, placed_variable, is_fresh, caught_type, named_handler}
use Rattle.elab_expr.specs.elab_rules.Types.{Declared}
use Rattle.elab_expr.specs.elab_rules.Expressions.{type_of_specifiers, declared_by}
use Rattle.elab_expr.specs.cpp_lex.Tokens.{Lexeme}
use Rattle.elab_expr.specs.cpp_ast.Trees as syntax
use Rattle.elab_scopes.specs.declared.state.State.{State as StateRec}
use Rattle.elab_scopes.specs.declared.state.Caught.{Caught as CaughtRec}
use Rattle.elab_scopes.specs.States.{state_of, made, Grown}

-- a variable stands in this place of the frame
pub record PlacedAt (old new : StateRec) (name : List ℕ) (t : Typ) (place : ℕ) : Type 0 where
  pub grown : Grown old new
  pub fresh : is_fresh (state_of old).ctx name ≡ true
  pub nodes : made new ≡ made old
  pub place_is : place ≡ next_place (state_of old).work
  pub is : state_of new ≡ placed_variable (state_of old) name t

abbrev pub Places : StateRec → StateRec → At → List ℕ → Typ → Result ℕ ElabFault → Type 0
Places old new at name t (Ok place) = PlacedAt old new name t place
Places old new at name t (Err e) = Faults e (check at Redeclared (is_fresh (state_of old).ctx name))

-- what a handler catches
pub record CaughtAt (old new : StateRec) (r : CaughtRec) (x : Result Caught ElabFault) : Type 0 where
  pub grown : Grown old new
  pub within : are_within (length (made new)) r.fields.items ≡ true
  pub is : x ≡ Ok (record { state = state_of new; typ = typ_of r.ty; place = r.place; fields = trees_at (made new) r.fields.items })

abbrev pub Catches : StateRec → StateRec → Result CaughtRec ElabFault → Result Caught ElabFault → Type 0
Catches old new (Ok r) x = CaughtAt old new r x
Catches old new (Err e) x = Faults e x

-- The same, step by step

abbrev pub typed_handler : List Lexeme → State → At → At → Typ → Option ℕ → Result Caught ElabFault
typed_handler s st at p t name = and_then (caught_type st.ctx p t) (λ (u : Typ). named_handler s st at p t u name)

abbrev pub parameter_caught : List Lexeme → State → At → At → syntax.Tree → syntax.Tree → Result Caught ElabFault
parameter_caught s st at p base d = and_then (type_of_specifiers s st.ctx st.work base)
    (λ (t : Typ). and_then (declared_by s st.ctx st.work p t d) (λ (r : Declared). typed_handler s st at p r.typ r.name))
