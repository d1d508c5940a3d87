-- Unwind rows.
use Rattle.std.specs.Prelude.{Bool, false, ◌&&◌, ◌||◌, ℕ, zero, suc, ◌+◌, nat_lt, nat_eq, cond, List, [], ◌∷◌, ◌++◌, length, get_or, Option, Some, None}
use Rattle.tx_code.specs.declared.body.Row.{Row}
use Rattle.low_code.specs.declared.scopes.ScopeKind.{ScopeKind}
use Rattle.low_code.specs.declared.scopes.ScopeKind.TheVariants.{Function, Mark, Loop, Switch, Try, Block, Behind}
use Rattle.low_code.specs.declared.writer.LowInstr.{LowInstr}
use Rattle.low_code.specs.declared.writer.Catch.{Catch}
use Rattle.low_code.specs.Writer.{Body, scope_in}

-- the number of a block's edge; 0 of what is none
abbrev pub block_edge : ScopeKind → ℕ
block_edge (Block what) = what
block_edge kind = 0

abbrev pub edge_by : Body → ScopeKind → ℕ
edge_by b (Behind block next outer) = block_edge (scope_in b block).kind
edge_by b kind = block_edge kind

abbrev pub edge_of : Body → ℕ → ℕ
edge_of b scope = edge_by b (scope_in b scope).kind

-- the row of a scope's way out
abbrev pub pad_row : Body → ℕ → ℕ → ℕ → Row
pad_row b from to scope = record { from = from; to = to; target = get_or b.pads scope 0; what = edge_of b scope; ty = 0; depth = (scope_in b scope).depth }

abbrev pub catch_row : ℕ → ℕ → ℕ → Catch → Row
catch_row from to depth caught = record { from = from; to = to; target = caught.target; what = caught.what; ty = caught.ty; depth = depth }

-- the rows of a `try` with this number and depth, up to one that takes each exception
abbrev pub catch_rows : ℕ → ℕ → ℕ → ℕ → List Catch → List Row
catch_rows from to scope depth [] = []
catch_rows from to scope depth (caught ∷ others) =
    cond (nat_eq caught.scope scope) (catch_row from to depth caught ∷ cond (nat_eq caught.what 2) [] (catch_rows from to scope depth others))
    (catch_rows from to scope depth others)

-- one of them takes each exception
abbrev pub catches_all : ℕ → List Catch → Bool
catches_all scope [] = false
catches_all scope (caught ∷ others) = (nat_eq caught.scope scope && nat_eq caught.what 2) || catches_all scope others

-- the rows of a scope, before those of the scopes around it
abbrev pub rows_by : Body → ℕ → ℕ → ℕ → ScopeKind → List Row → List Row
rows_by b from to scope Function around = []
rows_by b from to scope Try around = catch_rows from to scope (scope_in b scope).depth b.catches ++ cond (catches_all scope b.catches) [] around
rows_by b from to scope (Mark owner) around = around
rows_by b from to scope Loop around = around
rows_by b from to scope Switch around = around
rows_by b from to scope kind around = pad_row b from to scope ∷ []

-- what goes on outward where no scope was found that takes each exception
abbrev pub goes_on : Option ℕ → List Row → List Row
goes_on None around = around
goes_on (Some last) around = []

-- the rows of a scope and of at most so many around it, up to one that takes each exception
abbrev pub chain_rows : ℕ → Body → ℕ → ℕ → ℕ → List Row
chain_rows zero b from to scope = []
chain_rows (suc most) b from to scope = rows_by b from to scope (scope_in b scope).kind (chain_rows most b from to (scope_in b scope).parent)

-- the scope that takes each exception; 0 where none does
abbrev pub last_by : Body → ℕ → ScopeKind → ℕ → ℕ
last_by b scope Function around = 0
last_by b scope Try around = cond (catches_all scope b.catches) scope around
last_by b scope (Mark owner) around = around
last_by b scope Loop around = around
last_by b scope Switch around = around
last_by b scope kind around = scope

abbrev pub chain_last : ℕ → Body → ℕ → ℕ
chain_last zero b scope = 0
chain_last (suc most) b scope = last_by b scope (scope_in b scope).kind (chain_last most b (scope_in b scope).parent)

-- the row of the way out of the innermost open block, where the chain does not end there
abbrev pub edge_rows : Body → ℕ → ℕ → ℕ → ℕ → List Row
edge_rows b from to edge last = cond (nat_eq edge 0 || nat_eq edge last) [] (pad_row b from to edge ∷ [])

-- the rows of the indexes from `from` to below `to`, all of this scope
abbrev pub run_rows : Body → ℕ → ℕ → ℕ → List Row
run_rows b from to scope =
    chain_rows (length b.scopes) b from to scope ++ edge_rows b from to (scope_in b scope).edge (chain_last (length b.scopes) b scope)

-- no rows where there is no index
abbrev pub some_rows : Body → ℕ → ℕ → ℕ → List Row
some_rows b from to scope = cond (nat_lt from to) (run_rows b from to scope) []

-- the rows from a run on that began at `from`, where `index` is the place of the next instruction
abbrev pub rows_from : Body → ℕ → ℕ → ℕ → List LowInstr → List Row
rows_from b from scope index [] = some_rows b from index scope
rows_from b from scope index (low ∷ lows) =
    cond (nat_eq low.scope scope) (rows_from b from scope (index + 1) lows)
    (some_rows b from index scope ++ rows_from b index low.scope (index + 1) lows)

-- the unwind rows of a body whose ways out are written
abbrev pub rows_in : Body → List Row
rows_in b = rows_from b 0 0 0 b.code
