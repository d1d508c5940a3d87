-- What is there stays there.
use Rattle.std.specs.Prelude.{◌≡◌, Bool, true, false, ℕ, List, ◌++◌, map, get_or}
use Rattle.tx_code.specs.declared.instr.Instr.{Instr}
use Rattle.tx_code.specs.declared.instr.Instr.TheVariants.{Jump as JumpTo}
use Rattle.low_code.specs.declared.scopes.Scope.{Scope}
use Rattle.low_code.specs.declared.scopes.ScopeKind.{ScopeKind}
use Rattle.low_code.specs.declared.scopes.ScopeKind.TheVariants.{Behind}
use Rattle.low_code.specs.declared.writer.LowInstr.{LowInstr}
use Rattle.low_code.specs.Writer.{led, no_low}
use Rattle.unwind_lower.specs.States.{State}

-- a list begins with another one
pub record Begins {A : Type 0} (xs ys : List A) : Type 0 where
  pub rest : List A
  pub is : ys ≡ xs ++ rest

-- a scope without the way out of the block around, which may become known later
abbrev pub bare : Scope → Scope
bare scope = led 0 scope

-- two scopes are one, but for the way out of the block around
abbrev pub IsSame : Scope → Scope → Type 0
IsSame a b = bare a ≡ bare b

-- a way out of a block, seen from a handler
abbrev pub is_behind : ScopeKind → Bool
is_behind (Behind block next outer) = true
is_behind kind = false

-- the instruction with an index
abbrev pub instr_in : ℕ → List LowInstr → Instr
instr_in index code = (get_or code index no_low).instr

abbrev pub instr_at : ℕ → State → Instr
instr_at index s = instr_in index s.body.code

-- an instruction without what it is: its place in the source and its scope
abbrev pub unaimed : LowInstr → LowInstr
unaimed low = record low { instr = JumpTo 0 }

-- of all lists there is only more
pub record Kept (from to : State) : Type 0 where
  pub names : Begins from.names to.names
  pub scopes : Begins (map bare from.body.scopes) (map bare to.body.scopes)
  pub catches : Begins from.body.catches to.body.catches
  pub pads : Begins from.body.pads to.body.pads
  pub pending : Begins from.body.pending to.body.pending
  pub lows : Begins (map unaimed from.body.code) (map unaimed to.body.code)
