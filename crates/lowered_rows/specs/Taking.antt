-- What takes an exception that is in flight in a body.
use Rattle.std.specs.Prelude.{Bool, not, ◌&&◌, ◌||◌, ℕ, zero, suc, nat_eq, cond, List, [], ◌∷◌, length, get_or, Option, Some, None}
use Rattle.tx_code.specs.declared.body.Row.{Row}
use Rattle.low_code.specs.declared.scopes.ScopeKind.{ScopeKind}
use Rattle.low_code.specs.declared.scopes.ScopeKind.TheVariants.{Function, Mark, Loop, Switch, Try}
use Rattle.low_code.specs.declared.writer.Catch.{Catch}
use Rattle.low_code.specs.Writer.{Body, scope_in}
use Rattle.low_code.specs.Rows.{edge_of}

-- where an exception that is taken goes on, as what (0 a cleanup, 1 and 2 a handler, 3 to 6 an edge), and how many operands are left
pub record Taken : Type 0 where
  pub target : ℕ
  pub what : ℕ
  pub depth : ℕ

-- what a row says of an exception that it takes
abbrev pub way : Row → Taken
way row = record { target = row.target; what = row.what; depth = row.depth }

-- the first of two that is there
abbrev pub or_around : Option Taken → Option Taken → Option Taken
or_around None around = around
or_around (Some found) around = Some found

-- the way out of a scope
abbrev pub way_out : Body → ℕ → Taken
way_out b scope = record { target = get_or b.pads scope 0; what = edge_of b scope; depth = (scope_in b scope).depth }

-- that of an open block, if there is one
abbrev pub edge_out : Body → ℕ → Option Taken
edge_out b edge = cond (nat_eq edge 0) None (Some (way_out b edge))

-- a catch of `what` 1 takes the exceptions of one type, any other all
abbrev pub is_for : Catch → ℕ → Bool
is_for caught ty = not (nat_eq caught.what 1) || nat_eq caught.ty ty

-- the first catch of the `try` with this number, of this depth, that takes exceptions of a type
abbrev pub caught_by : ℕ → ℕ → ℕ → List Catch → Option Taken
caught_by scope depth ty [] = None
caught_by scope depth ty (caught ∷ others) =
    cond (nat_eq caught.scope scope && is_for caught ty) (Some (record { target = caught.target; what = caught.what; depth = depth }))
    (caught_by scope depth ty others)

-- What takes an exception of a type at a scope of a kind, where `around` takes what it passes, and `outside` what has come to the
-- function: a `try` takes it by a catch, and what waits for its way out, takes all.
abbrev pub taken_by : Body → ℕ → ℕ → ScopeKind → Option Taken → Option Taken → Option Taken
taken_by b ty scope Function outside around = outside
taken_by b ty scope Try outside around = or_around (caught_by scope (scope_in b scope).depth ty b.catches) around
taken_by b ty scope (Mark owner) outside around = around
taken_by b ty scope Loop outside around = around
taken_by b ty scope Switch outside around = around
taken_by b ty scope kind outside around = Some (way_out b scope)

-- from a scope outward, through at most so many scopes
abbrev pub taken_within : ℕ → Body → ℕ → Option Taken → ℕ → Option Taken
taken_within zero b ty outside scope = outside
taken_within (suc most) b ty outside scope =
    taken_by b ty scope (scope_in b scope).kind outside (taken_within most b ty outside (scope_in b scope).parent)

abbrev pub taken_from : Body → ℕ → Option Taken → ℕ → Option Taken
taken_from b ty outside scope = taken_within (length b.scopes) b ty outside scope

-- What takes an exception of a type that begins at a scope, or nothing where it leaves the function. What comes to the function
-- goes to the way out of the innermost block that is open where it began: there is a row for it behind the others of that scope, so
-- that each index in a block tells the block. Where a scope before takes all, as that block's own does, the row is never reached.
abbrev pub taken : Body → ℕ → ℕ → Option Taken
taken b scope ty = taken_from b ty (edge_out b (scope_in b scope).edge) scope
