-- What answers say of what is to be answered, and of the state behind it.
use Rattle.std.specs.Prelude.{◌≡◌, ◌<◌, ℕ, true, List, length, Option, Result, Ok, Err}
use Rattle.elab_expr.specs.cpp_types.Typ.{Typ, typ_of}
use Rattle.elab_expr.specs.cpp_types.declared.classes.At.{At}
use Rattle.elab_expr.specs.cpp_tree.declared.faults.ElabFault.{ElabFault}
use Rattle.elab_expr.specs.cpp_tree.declared.faults.IllRule.TheVariants.{Redeclared}
use Rattle.elab_expr.specs.cpp_tree.declared.arena.TNodeId.{TNodeId}
use Rattle.elab_expr.specs.cpp_tree.Trees.{Trees, one}
use Rattle.elab_expr.specs.cpp_tree.Arena.{tree_at, trees_at}
use Rattle.elab_expr.specs.elab_ctx.declared.operand.Operand.{Operand as OperandRec}
use Rattle.elab_expr.specs.elab_ctx.Ctx.{Ctx, with_variable}
use Rattle.elab_expr.specs.elab_ctx.Steps.{and_then, check}
use Rattle.elab_expr.specs.elab_ctx.Says.{Faults, are_within}
use Rattle.elab_expr.specs.elab_rules.Objects.{followed_by}
use Rattle.elab_expr.specs.elab_rules.Statements.{State, Done, Full, Switched, done, is_fresh, next_variable}
use Rattle.elab_scopes.specs.declared.state.State.{State as StateRec}
use Rattle.elab_scopes.specs.declared.state.SwitchedOn.{SwitchedOn}
use Rattle.elab_scopes.specs.States.{state_of, made, full_in, Grown}

-- the state is what is to be answered
pub record Changed (old new : StateRec) (x : Result State ElabFault) : Type 0 where
  pub grown : Grown old new
  pub is : x ≡ Ok (state_of new)

abbrev pub Changes : StateRec → StateRec → Result (Unit {0}) ElabFault → Result State ElabFault → Type 0
Changes old new (Ok u) x = Changed old new x
Changes old new (Err e) x = Faults e x

-- a full-expression was made
pub record FullAt (old new : StateRec) (o : OperandRec) (x : Result Full ElabFault) : Type 0 where
  pub grown : Grown old new
  pub within : o.id.0 < length (made new)
  pub is : x ≡ Ok (full_in new o)

abbrev pub Fulls : StateRec → StateRec → Result OperandRec ElabFault → Result Full ElabFault → Type 0
Fulls old new (Ok o) x = FullAt old new o x
Fulls old new (Err e) x = Faults e x

-- one tree was made, and the state stands behind it
pub record OneDone (old new : StateRec) (r : TNodeId) (x : Result Done ElabFault) : Type 0 where
  pub grown : Grown old new
  pub within : r.0 < length (made new)
  pub is : x ≡ done (one (tree_at (made new) r)) (state_of new)

abbrev pub Does : StateRec → StateRec → Result TNodeId ElabFault → Result Done ElabFault → Type 0
Does old new (Ok r) x = OneDone old new r x
Does old new (Err e) x = Faults e x

-- Statements behind others

abbrev pub behind : Trees → Result Done ElabFault → Result Done ElabFault
behind ts x = and_then x (λ (d : Done). done (followed_by ts d.trees) d.state)

-- trees were made behind those that stand in a list
pub record AllDone (old new : StateRec) (before after : List TNodeId) (x : Result Done ElabFault) : Type 0 where
  pub grown : Grown old new
  pub within : are_within (length (made new)) after ≡ true
  pub is : behind (trees_at (made old) before) x ≡ done (trees_at (made new) after) (state_of new)

abbrev pub DoesAll : StateRec → StateRec → List TNodeId → List TNodeId → Result (Unit {0}) ElabFault → Result Done ElabFault → Type 0
DoesAll old new before after (Ok u) x = AllDone old new before after x
DoesAll old new before after (Err e) x = Faults e x

-- A variable was declared

pub record Declared (c d : Ctx) (name : List ℕ) (t : Option Typ) (place : ℕ) : Type 0 where
  pub fresh : is_fresh c name ≡ true
  pub ctx : d ≡ with_variable c name (next_variable c) (record { typ = t; place = place })

abbrev pub Declares : Ctx → Ctx → At → List ℕ → Option Typ → ℕ → Result (Unit {0}) ElabFault → Type 0
Declares c d at name t place (Ok u) = Declared c d name t place
Declares c d at name t place (Err e) = Faults e (check at Redeclared (is_fresh c name))

-- The value of a `switch` was made

pub record SwitchedAt (old new : StateRec) (r : SwitchedOn) (x : Result Switched ElabFault) : Type 0 where
  pub grown : Grown old new
  pub within : r.value.0 < length (made new)
  pub is : x ≡ Ok (record { value = tree_at (made new) r.value; typ = typ_of r.ty; state = state_of new })

abbrev pub Switches : StateRec → StateRec → Result SwitchedOn ElabFault → Result Switched ElabFault → Type 0
Switches old new (Ok r) x = SwitchedAt old new r x
Switches old new (Err e) x = Faults e x
