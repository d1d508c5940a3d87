-- How the scopes of a body lie in each other.
use Rattle.std.specs.Prelude.{Bool, true, false, ◌≡◌, ◌≢◌, ℕ, ◌<◌, length}
use Rattle.low_code.specs.declared.scopes.ScopeKind.{ScopeKind}
use Rattle.low_code.specs.declared.scopes.ScopeKind.TheVariants.{Function, Mark, Loop, Switch}
use Rattle.low_code.specs.declared.scopes.Scope.{Scope}
use Rattle.low_code.specs.Scopes.{rows_within}
use Rattle.low_code.specs.Writer.{Body, scope_in}
use Rattle.low_code.specs.Rows.{block_edge}

-- no block has the number 1, which is that of a handler of one type
abbrev pub HasEdges : Body → Type 0
HasEdges b = (scope : ℕ) → block_edge (scope_in b scope).kind ≢ 1

-- number 0 is the function, and the scope around another has a lower number
pub record AreNested (b : Body) : Type 0 where
  pub function : (scope_in b 0).kind ≡ Function
  pub inward : (scope : ℕ) → 0 < scope → scope < length b.scopes → (scope_in b scope).parent < scope

-- exceptions pass such a scope, and it has no rows
abbrev pub is_passed : ScopeKind → Bool
is_passed (Mark owner) = true
is_passed Loop = true
is_passed Switch = true
is_passed kind = false

-- A scope with this number lies in the one around it, and has the rows and the edge that it got when it was made. A scope that is not
-- passed may have another edge: a handler has that of the ways out behind it.
pub record LiesIn (number : ℕ) (own around : Scope) : Type 0 where
  pub parent : own.parent < number
  pub kind : own.kind ≢ Function
  pub rows : own.rows ≡ rows_within own.kind number around.rows
  pub edge : is_passed own.kind ≡ true → own.edge ≡ around.edge

-- number 0 is the function, and each other scope lies in one
pub record AreWithin (b : Body) : Type 0 where
  pub function : (scope_in b 0).kind ≡ Function
  pub rows : (scope_in b 0).rows ≡ 0
  pub inward : (scope : ℕ) → 0 < scope → scope < length b.scopes → LiesIn scope (scope_in b scope) (scope_in b (scope_in b scope).parent)
