-- What the policies answer at a clash.
use Rattle.std.specs.Prelude.{◌≡◌, ◌<◌, ◌^◌, Bool, true, false, not, nat_lt, if◌then◌else◌}
use Rattle.choosers.specs.declared.Clash.{Clash}
use Rattle.choosers.specs.declared.Choice.{Choice}
use Rattle.choosers.specs.declared.Choice.TheVariants.{Wait, Yield}

-- the policies that have a name: `older`, `yield` and `polite`
pub data PolicyName : Type 0 where
  Older : PolicyName
  Yielding : PolicyName
  Polite : PolicyName

-- what each answers at a clash
abbrev pub answer : PolicyName → Clash → Choice
answer Older c = if nat_lt c.mine c.least then Wait else Yield
answer Yielding c = Yield
answer Polite c = if nat_lt c.waits 8 then Wait else Yield

abbrev pub is_wait : Choice → Bool
is_wait Wait = true
is_wait Yield = false

-- whether this is the answer of `older`
abbrev pub is_older : Clash → Choice → Bool
is_older c Wait = nat_lt c.mine c.least
is_older c Yield = not (nat_lt c.mine c.least)

-- the numbers of a clash fit their types
pub record IsClash (c : Clash) : Type 0 where
  pub mine : c.mine < 2 ^ 64
  pub least : c.least < 2 ^ 64
  pub greatest : c.greatest < 2 ^ 64
  pub count : c.count < 2 ^ 8
  pub waits : c.waits < 2 ^ 32

-- what may be called at every clash, and then answers what the rule allows
pub record KeepsRule (can_call : Type 0) (answers : Clash → Choice → Type 0) (allows : Clash → Choice → Bool) : Type 0 where
  pub callable : can_call
  pub allowed : (c : Clash) (choice : Choice) → IsClash c → answers c choice → allows c choice ≡ true
