-- What a reader of objects answers.
use Rattle.std.specs.Prelude.{true, ◌≡◌, ◌<◌, ◌^◌, ℕ, List, length, Result, Ok, Err}
use Rattle.tx_code.specs.declared.object.Object.{Object}
use Rattle.tx_code.specs.Objects.{ClassView, ObjectView, object_view}
use Rattle.tx_code.specs.WellFormed.{ascends_by}
use Rattle.object_file.specs.declared.fault.ObjectFault.{ObjectFault}
use Rattle.object_file.specs.declared.fault.ObjectFault.TheVariants.{BadObject, Memory}
use Rattle.object_bytes.specs.Spelling.{Spells, object_bytes}
use Rattle.object_bytes.specs.Objects.{decoded}

-- the answer is what reading gives, unless memory ran out
abbrev pub IsAnswer : Result Object ObjectFault → Result ObjectView ℕ → Type 0
IsAnswer (Ok object) read = read ≡ Ok (object_view object)
IsAnswer (Err (BadObject at)) read = read ≡ Err at
IsAnswer (Err Memory) read = Unit {0}

-- the answer is the object, unless memory ran out
abbrev pub IsObjectOrMemory : Result Object ObjectFault → ObjectView → Type 0
IsObjectOrMemory (Ok object) o = object_view object ≡ o
IsObjectOrMemory (Err (BadObject at)) o = ⊥
IsObjectOrMemory (Err Memory) o = Unit {0}

-- a fault stands where the first wrong field begins, and the bytes spell no object
abbrev pub IsFirstWrong : Result Object ObjectFault → List ℕ → Type 0
IsFirstWrong (Ok object) bytes = Unit {0}
IsFirstWrong (Err (BadObject at)) bytes = (decoded bytes ≡ Err at) × ((o : ObjectView) → Spells o bytes → ⊥)
IsFirstWrong (Err Memory) bytes = Unit {0}

-- its classes are in order, and so many bytes as spell it lie in memory
pub record IsSmall (o : ObjectView) : Type 0 where
  pub ascend : ascends_by (λ (c : ClassView). c.name) o.classes ≡ true
  pub few : length (object_bytes o) < 2 ^ 63
