-- What holds of each state of a run.
use Rattle.std.specs.Prelude.{◌≡◌, true, ℕ, ◌+◌, ◌-◌, ◌<◌, ◌≤◌, nat_le, List, [], ◌∷◌, length, get_or, slice_get, Some}
use Rattle.cpp_tree.specs.Trees.{nowhere}
use Rattle.low_code.specs.declared.scopes.Scope.{Scope}
use Rattle.low_code.specs.declared.writer.Sort.{Sort}
use Rattle.low_code.specs.declared.writer.Pending.{Pending}
use Rattle.low_code.specs.Scopes.{outermost}
use Rattle.low_code.specs.Names.{number_of}
use Rattle.low_code.specs.Writer.{outer_by}
use Rattle.unwind_lower.specs.declared.items.Item.{Item}
use Rattle.unwind_lower.specs.declared.items.Item.TheVariants.{Other, OtherAgain, TryDone, Handle, HandlerDone, Leave}
use Rattle.unwind_lower.specs.States.{State}
use Rattle.lowered_states.specs.Claims.{Claim, one_if, held, is_place, opens, is_lost, is_open}
use Rattle.lowered_states.specs.Kept.{instr_in}

-- ---- scopes

abbrev pub scope_from : List Scope → ℕ → Scope
scope_from scopes number = get_or scopes number (outermost nowhere)

-- each scope but the first has a parent with a lower number
abbrev pub AreNested : List Scope → Type 0
AreNested scopes = (number : ℕ) → (scope_from scopes number).parent ≤ number - 1

-- the ways out of the blocks around are scopes
abbrev pub AreLed : ℕ → List Scope → Type 0
AreLed count [] = Unit {0}
AreLed count (scope ∷ scopes) = (outer_by scope.kind 0 < count) × AreLed count scopes

-- the scopes of jumps that wait for a place are there
abbrev pub AreKnown : ℕ → List Pending → Type 0
AreKnown count [] = Unit {0}
AreKnown count (p ∷ ps) = (p.scope < count) × (p.jump.scope < count) × AreKnown count ps

-- the scopes that an item is to come to are there
abbrev pub Knows : ℕ → Item → Type 0
Knows count (Other o) = o.scope < count
Knows count (OtherAgain o) = o.scope < count
Knows count (TryDone id scope) = scope < count
Knows count (Handle id scope live) = scope < count
Knows count (HandlerDone handler scope at) = scope < count
Knows count (Leave leaving origin at) = origin < count
Knows count item = Unit {0}

abbrev pub AllKnow : ℕ → List Item → Type 0
AllKnow count [] = Unit {0}
AllKnow count (item ∷ items) = Knows count item × AllKnow count items

-- ---- names

-- no name stands twice: the number of each is its place
abbrev pub AreNumbered : List (List ℕ) → Type 0
AreNumbered names = (number : ℕ) (name : List ℕ) → slice_get names number ≡ Some name → number_of name names ≡ number

-- ---- the whole, with claims that are at hand

-- something with this number is still to come
abbrev pub room : ℕ → ℕ → ℕ
room count number = one_if (nat_le count number)

pub record SoundWith (cs : List Claim) (s : State) : Type 0 where
  pub numbered : AreNumbered s.names
  pub nested : AreNested s.body.scopes
  pub led : AreLed (length s.body.scopes) s.body.scopes
  pub within : s.body.scope < length s.body.scopes
  pub known : AreKnown (length s.body.scopes) s.body.pending
  pub knows : AllKnow (length s.body.scopes) s.work
  -- jumps come out in scopes that are there
  pub found : held (is_lost (length s.body.scopes)) cs s.work ≡ 0
  -- each place is still to come at most once, and places of scopes that are not there are none
  pub once : (scope : ℕ) (sort : Sort) → held (is_place scope sort) cs s.work + room (length s.body.scopes) scope ≤ 1
  -- each jump is open at most once, and where no instruction is none is open
  pub apart : (index : ℕ) → held (opens index s.body.pending) cs s.work + room (length s.body.code) index ≤ 1
  -- what is open is a jump that leads nowhere yet
  pub jumps : (index : ℕ) → 1 ≤ held (opens index s.body.pending) cs s.work → is_open (instr_in index s.body.code) ≡ true

abbrev pub Sound : State → Type 0
Sound s = SoundWith [] s
