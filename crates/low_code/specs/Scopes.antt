-- What lies around an instruction.
use Rattle.std.specs.Prelude.{Bool, true, false, ◌||◌, ℕ, nat_lt}
use Rattle.cpp_tree.specs.cpp_types.declared.classes.At.{At}
use Rattle.low_code.specs.declared.scopes.Owner.{Owner}
use Rattle.low_code.specs.declared.scopes.Owner.TheVariants.{Block as BlockOwner, Call as CallOwner, Parts as PartsOwner, Full as FullOwner}
use Rattle.low_code.specs.declared.scopes.ScopeKind.{ScopeKind}
use Rattle.low_code.specs.declared.scopes.ScopeKind.TheVariants.{Function, Mark, Waits, Each, Loop, Switch, Block, Behind}
use Rattle.low_code.specs.declared.scopes.Scope.{Scope}

abbrev pub same_owner : Owner → Owner → Bool
same_owner BlockOwner BlockOwner = true
same_owner CallOwner CallOwner = true
same_owner PartsOwner PartsOwner = true
same_owner FullOwner FullOwner = true
same_owner owner other = false

-- the scope of a function's body
abbrev pub outermost : At → Scope
outermost at = record { kind = Function; parent = 0; depth = 0; rows = 0; edge = 0; atomic = false; live = true; at = at }

-- the innermost scope with unwind rows, from the scope with a number on, where `around` is that of its parent
abbrev pub rows_within : ScopeKind → ℕ → ℕ → ℕ
rows_within Function number around = around
rows_within (Mark owner) number around = around
rows_within Loop number around = around
rows_within Switch number around = around
rows_within kind number around = number

-- the way out of the innermost open block, likewise
abbrev pub edge_within : ScopeKind → ℕ → ℕ → ℕ
edge_within (Block what) number around = number
edge_within kind number around = around

-- it opens an atomic block
abbrev pub opens_atomic : ScopeKind → Bool
opens_atomic (Block what) = nat_lt what 6
opens_atomic kind = false

-- temporaries of a full-expression are added right in such a scope
abbrev pub is_full : ScopeKind → Bool
is_full (Mark owner) = same_owner owner FullOwner
is_full (Waits owner always address node first) = same_owner owner FullOwner
is_full kind = false

-- such a scope stays inside those of a full-expression
abbrev pub is_inner : ScopeKind → Bool
is_inner (Mark owner) = same_owner owner CallOwner || same_owner owner PartsOwner
is_inner (Waits owner always address node first) = true
is_inner (Each node copies) = true
is_inner kind = false

-- the block of a way out: its own, or that which it is behind
abbrev pub block_of : ScopeKind → ℕ → ℕ
block_of (Behind block next outer) number = block
block_of kind number = number

-- the scope with `outer` as the way out of the block around
abbrev pub led_to : ℕ → ScopeKind → ScopeKind
led_to outer (Behind block next other) = Behind block next outer
led_to outer kind = kind
